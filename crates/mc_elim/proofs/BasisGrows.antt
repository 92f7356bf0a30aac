-- One insertion into a basis.
use Rattle.std.specs.Prelude.{◌≡◌, ◌≢◌, ◌⊎◌, ◌↔◌, ℕ, suc, ◌+◌, ◌<◌, ◌≤◌, Bool, true}
use Rattle.std.specs.Prelude.{false, cond}
use Rattle.std.specs.Prelude.{◌&&◌, ◌||◌, nat_eq, List, [], ◌∷◌, ◌++◌, length, take, drop}
use Rattle.std.specs.Prelude.{slice_index, slice_set, refl}
use Rattle.std.proofs.Common.{arith, sym, ap, ap₂, subst, ◌∙◌, inl, inr, get_or-set_same}
use Rattle.std.proofs.Common.{get_or-set_other, length-set, length-take}
use Rattle.std.proofs.lemmas.List.{take_more, take-set, get_or_append_left, get_or_push}
use Rattle.std.proofs.Math.Seq.{take-append_seam}
use mir.Val.{bool_byte}
use Rattle.mc_model.specs.Bits.{◌⊻◌, Bits}
use Rattle.mc_model.specs.Flow.{single}
use Rattle.mc_model.proofs.OddSums.{odd-same}
use Rattle.mc_bits.specs.Rows.{bit_of}
use Rattle.mc_bits.proofs.RowsByBits.{past_end}
use Rattle.mc_elim.specs.Systems.{Columns, HasSum, IsDependent}
use Rattle.mc_elim.specs.Reduced.{Reduced, IsNumberedBy, rest, rest_members, Joins}
use Rattle.mc_elim.specs.Tables.{row_at, entry, LeavesNothing, BecomesVector}
use Rattle.mc_elim.specs.Basis.{HoldsBasis, IsSumOfInserted}
use Rattle.mc_elim.proofs.AlikeBases.{sum_alike, reduced_alike, rest_alike}
use Rattle.mc_elim.proofs.BasisAnswers.{firsts_apart, seen}
use Rattle.mc_elim.proofs.ReducedGrows.{nothing_left, passed_over, new_independent, joined}
use Rattle.mc_elim.proofs.BitSums.{xor_none, single_other, single_itself, last_or_before}
use Rattle.mc_elim.proofs.BitSums.{same_or_not, not_true}

-- what one insertion did to the rows: `mark` is the column with the bit of its number behind it
pub record Step (n room m k : ℕ) (vectors vectors' : List (List Bool))
    (firsts firsts' numbers numbers' : List ℕ) (column : List Bool) (joins : Bool) (counted : ℕ) :
    Type 0 where
  pub mark : List Bool
  pub mark_bits : (r : ℕ) → bit_of mark r ≡ bit_of column r ⊻ nat_eq r (n + m)
  pub mark_length : length mark ≡ n + room
  pub nothing : joins ≡ false →
      LeavesNothing n k firsts (slice_set vectors k mark) vectors' × (firsts' ≡ firsts)
      × (numbers' ≡ numbers)
  pub vector : joins ≡ true →
      BecomesVector n k firsts firsts' (slice_set vectors k mark) vectors' × (k < n)
      × (numbers' ≡ slice_set numbers (slice_index firsts' k) k)
  pub same : counted ≡ 0 → vectors' ≡ slice_set vectors k mark
  pub count : length vectors' ≡ length (slice_set vectors k mark)
  pub width : (i : ℕ) → length (row_at vectors' i) ≡ length (row_at (slice_set vectors k mark) i)

-- the bits behind the first `n`
abbrev behind : ℕ → List Bool → Bits
behind n row = λ j. bit_of row (n + j)

pub columns_more : (columns : List (List Bool)) (m : ℕ) (column : List Bool) → m < length columns →
    take (m + 1) (slice_set columns m column) ≡ take m columns ++ (column ∷ [])
columns_more columns m column l =
    let within : m < length (slice_set columns m column) =
    subst (λ (n : ℕ). m < n) (sym (length-set columns m column)) l in
    take_more (slice_set columns m column) m [] within
    ∙ ap₂ (λ (xs : List (List Bool)) (x : List Bool). xs ++ (x ∷ [])) (take-set columns m column)
    (get_or-set_same columns m column [] l)

module _ (n room m k : ℕ) (vectors columns : List (List Bool)) (firsts numbers : List ℕ)
    (has_added : Bool) (h : HoldsBasis n room m k vectors columns firsts numbers has_added)
    (column : List Bool) (width : length column ≡ n) (free : m < room) where
  abbrev before : Columns
  before = entry (take m columns)

  abbrev after : Columns
  after = entry (take m columns ++ (column ∷ []))

  taken : length (take m columns) ≡ m
  taken = let e = h.columns_count in omega (arith, length-take m columns)

  earlier : (j : ℕ) → j < m → before j ≡ after j
  earlier j l =
      let within : j < length (take m columns) = subst (λ (z : ℕ). j < z) (sym taken) l in
      ap bit_of (sym (get_or_append_left (take m columns) (column ∷ []) [] j within))

  newest : after m ≡ bit_of column
  newest = ap bit_of (get_or_push (take m columns) column [] m taken)

  module _ (vectors' : List (List Bool)) (firsts' numbers' : List ℕ) (joins : Bool) (counted : ℕ)
      (s : Step n room m k vectors vectors' firsts firsts' numbers numbers' column joins
      counted) where
    abbrev p : ℕ → ℕ
    p = slice_index firsts

    abbrev marked : List (List Bool)
    marked = slice_set vectors k s.mark

    within : k < length vectors
    within = let e = h.vectors_count in let f = h.within in omega arith

    mark_at : row_at marked k ≡ s.mark
    mark_at = get_or-set_same vectors k s.mark [] within

    others_at : (i : ℕ) → i < k → row_at vectors i ≡ row_at marked i
    others_at i l =
        let ne : i ≢ k = omega arith in sym (get_or-set_other vectors k i s.mark [] ne)

    -- the basis before, over the rows with the mark and the columns with the new one
    marked_basis : Reduced n m k after p (entry marked) (λ i j. entry marked i (n + j))
    marked_basis =
        reduced_alike n m k before after p p (entry vectors) (entry marked)
        (λ i j. entry vectors i (n + j)) (λ i j. entry marked i (n + j)) earlier (λ i _. refl)
        (λ i l. ap bit_of (others_at i l))
        (λ i l. ap (behind n) (others_at i l))
        h.reduced

    mark_bit : (r : ℕ) → entry marked k r ≡ bit_of column r ⊻ nat_eq r (n + m)
    mark_bit r = ap (λ (row : List Bool). bit_of row r) mark_at ∙ s.mark_bits r

    column_bit : (r : ℕ) → r < n → entry marked k r ≡ after m r
    column_bit r l =
        mark_bit r
        ∙ ap (λ (b : Bool). bit_of column r ⊻ b) (single_other (n + m) r (omega arith))
        ∙ xor_none (bit_of column r)
        ∙ ap (λ (f : Bits). f r) (sym newest)

    -- the bits behind the column are the number of the column
    number_bit : (j : ℕ) → entry marked k (n + j) ≡ single m j
    number_bit j =
        mark_bit (n + j)
        ∙ ap (λ (b : Bool). b ⊻ nat_eq (n + j) (n + m)) (past_end column (n + j) (omega arith))
        ∙ elim (same_or_not j m) [
          | inl e ↦
              subst (λ (i : ℕ). nat_eq (n + i) (n + m) ≡ single m i) (sym e)
              (single_itself (n + m) ∙ sym (single_itself m))
          | inr ne ↦
              single_other (n + m) (n + j) (λ e. ne (omega arith)) ∙ sym (single_other m j ne)
        ]

    abbrev x : Bits
    x = rest k p (entry marked) (after m)

    abbrev y : Bits
    y = rest_members m k p (λ i j. entry marked i (n + j)) (after m)

    left_of_column : (r : ℕ) → r < n → rest k p (entry marked) (entry marked k) r ≡ x r
    left_of_column r l =
        rest_alike k p (entry marked) (entry marked k) (after m) r (column_bit r l)
        (λ i g. column_bit (p i) (h.reduced.inside i g))

    members_of_column : (j : ℕ) → rest k p (entry marked) (entry marked k) (n + j) ≡ y j
    members_of_column j =
        ap₂ (λ (a b : Bool). a ⊻ b) (number_bit j)
        (odd-same k (λ a. entry marked k (p a) && entry marked a (n + j))
        (λ a. after m (p a) && entry marked a (n + j))
        (λ a l. ap (λ (b : Bool). b && entry marked a (n + j))
        (column_bit (p a) (h.reduced.inside a l))))

    -- ---- nothing was left

    module _ (e : joins ≡ false) where
      none : (r : ℕ) → r < n → x r ≡ false
      none r l = sym (left_of_column r l) ∙ (s.nothing e).0.none r l

      pub is_dependent : IsDependent n after m
      is_dependent =
          nothing_left n m k after p (entry marked) (λ i j. entry marked i (n + j)) marked_basis
          none

      still_at : (i : ℕ) → i < k → row_at marked i ≡ row_at vectors' i
      still_at i l = let ne : i ≢ k = omega arith in sym ((s.nothing e).0.others i ne)

      pub passed_basis : Reduced n (suc m) k after (slice_index firsts') (entry vectors')
          (λ i j. entry vectors' i (n + j))
      passed_basis =
          reduced_alike n (suc m) k after after p (slice_index firsts') (entry marked)
          (entry vectors') (λ i j. entry marked i (n + j)) (λ i j. entry vectors' i (n + j))
          (λ j _. refl)
          (λ i _. ap (λ (f : List ℕ). slice_index f i) (sym (s.nothing e).1))
          (λ i l. ap bit_of (still_at i l))
          (λ i l. ap (behind n) (still_at i l))
          (passed_over n m k after p (entry marked) (λ i j. entry marked i (n + j)) marked_basis
          none)

      still_numbered : IsNumberedBy k (slice_index firsts') (slice_index numbers')
      still_numbered i l =
          ap₂ (λ (f g : List ℕ). slice_index g (slice_index f i)) (s.nothing e).1 (s.nothing e).2
          ∙ h.numbered i l

      -- where nothing was counted, the column is all 0
      pub all_zero_column : counted ≡ 0 → (r : ℕ) → bit_of column r ≡ false
      all_zero_column z r = elim (sides r) [
        | inl lt ↦
            ap (λ (f : Bits). f r) (sym newest)
            ∙ sym (column_bit r lt)
            ∙ sym (ap (λ (rows : List (List Bool)). entry rows k r) (s.same z))
            ∙ (s.nothing e).0.row r
            ∙ (s.nothing e).0.none r lt
        | inr ge ↦ past_end column r (omega arith)
      ]
        where
          sides : (r : ℕ) → (r < n) ⊎ (n ≤ r)
          sides r = grind arith

    -- ---- something was left

    module _ (e : joins ≡ true) where
      abbrev found : BecomesVector n k firsts firsts' marked vectors'
      found = (s.vector e).0

      has : x found.t ≡ true
      has = sym (left_of_column found.t found.inside) ∙ found.has

      lowest : (r : ℕ) → r < found.t → x r ≡ false
      lowest r l =
          let inside = found.inside in
          sym (left_of_column r (omega arith)) ∙ found.lowest r l

      pub is_independent : ¬ IsDependent n after m
      is_independent =
          new_independent n m k after p (entry marked) (λ i j. entry marked i (n + j)) marked_basis
          found.t found.inside has lowest

      joining : Joins n k found.t x y p (slice_index firsts') (entry marked) (entry vectors')
          (λ i j. entry marked i (n + j)) (λ i j. entry vectors' i (n + j))
      joining = record {
        first_old = found.firsts_old;
        first_new = found.firsts_new;
        vector_old = λ i r l g.
            found.vectors i r l
            ∙ ap (λ (b : Bool). entry marked i r ⊻ (entry marked i found.t && b))
            (left_of_column r g);
        vector_new = λ r l. found.vector r ∙ left_of_column r l;
        members_old = λ i j l.
            found.vectors i (n + j) l
            ∙ ap (λ (b : Bool). entry marked i (n + j) ⊻ (entry marked i found.t && b))
            (members_of_column j);
        members_new = λ j. found.vector (n + j) ∙ members_of_column j;
      }

      pub joined_basis : Reduced n (suc m) (suc k) after (slice_index firsts') (entry vectors')
          (λ i j. entry vectors' i (n + j))
      joined_basis =
          joined n m k after p (entry marked) (λ i j. entry marked i (n + j)) marked_basis
          found.t found.inside has lowest (slice_index firsts') (entry vectors')
          (λ i j. entry vectors' i (n + j)) joining

      -- the new first row is none of those before
      numbered_more : IsNumberedBy (suc k) (slice_index firsts') (slice_index numbers')
      numbered_more i l =
          let t = slice_index firsts' k in
          let apart = firsts_apart n (suc m) (suc k) after (slice_index firsts') (entry vectors')
          (λ i j. entry vectors' i (n + j)) joined_basis in
          let t_is = found.firsts_new in
          let inside = found.inside in
          let count = h.numbers_count in
          ap (λ (g : List ℕ). slice_index g (slice_index firsts' i)) (s.vector e).2
          ∙ elim (last_or_before i k l) [
            | inl lt ↦
                get_or-set_other numbers t (slice_index firsts' i) k 0 (λ f.
                let same : i ≡ k = apart.apart i k l (omega arith) f in absurd (omega arith))
                ∙ ap (slice_index numbers) (found.firsts_old i lt)
                ∙ h.numbered i lt
            | inr eq ↦
                ap (λ (a : ℕ). slice_index (slice_set numbers t k) (slice_index firsts' a)) eq
                ∙ get_or-set_same numbers t k 0 (omega arith)
                ∙ sym eq
          ]

    -- ---- what holds of both

    vectors_count' : length vectors' ≡ n + 1
    vectors_count' = s.count ∙ length-set vectors k s.mark ∙ h.vectors_count

    vectors_width' : (i : ℕ) → i < n + 1 → length (row_at vectors' i) ≡ n + room
    vectors_width' i l = s.width i ∙ elim (same_or_not i k) [
      | inl e ↦
          ap (λ (a : ℕ). length (row_at marked a)) e
          ∙ ap (λ (row : List Bool). length row) mark_at
          ∙ s.mark_length
      | inr ne ↦
          ap (λ (row : List Bool). length row) (get_or-set_other vectors k i s.mark [] ne)
          ∙ h.vectors_width i l
    ]

    -- where no insertion made an addition, each vector is one column
    alone' : has_added ≡ false → counted ≡ 0 → (i : ℕ) → i < suc k →
        (j : ℕ) × (j < suc m) × ((l : ℕ) → entry vectors' i (n + l) ≡ single j l)
    alone' e z i l = elim (last_or_before i k l) [
      | inl lt ↦
          let old = h.alone e i lt in (
            old.0,
            omega (arith, old.1),
            λ a.
                ap (λ (rows : List (List Bool)). entry rows i (n + a)) (s.same z)
                ∙ sym (ap (λ (row : List Bool). bit_of row (n + a)) (others_at i lt))
                ∙ old.2 a,
          )
      | inr eq ↦ (
        m,
        omega arith,
        λ a.
            ap (λ (rows : List (List Bool)). entry rows i (n + a)) (s.same z)
            ∙ ap (λ (b : ℕ). entry marked b (n + a)) eq
            ∙ number_bit a,
      )
    ]

    module _ (columns' : List (List Bool)) (cs : columns' ≡ slice_set columns m column)
        (firsts_count : length firsts' ≡ length firsts)
        (numbers_count : length numbers' ≡ length numbers) (has_added' : Bool)
        (unadded : has_added' ≡ false → (has_added ≡ false) × (counted ≡ 0)) where
      columns_now : take (m + 1) columns' ≡ take m columns ++ (column ∷ [])
      columns_now =
          ap (λ (rows : List (List Bool)). take (m + 1) rows) cs
          ∙ columns_more columns m column (let e = h.columns_count in omega arith)

      columns_width' : (j : ℕ) → j < room → length (row_at columns' j) ≡ n
      columns_width' j l =
          ap (λ (rows : List (List Bool)). length (row_at rows j)) cs
          ∙ elim (same_or_not j m) [
            | inl e ↦
                ap (λ (a : ℕ). length (row_at (slice_set columns m column) a)) e
                ∙ ap (λ (row : List Bool). length row)
                (get_or-set_same columns m column [] (let c = h.columns_count in omega arith))
                ∙ width
            | inr ne ↦
                ap (λ (row : List Bool). length row) (get_or-set_other columns m j column [] ne)
                ∙ h.columns_width j l
          ]

      holds : (k' : ℕ) → k' ≤ n → k' ≤ suc k → Reduced n (suc m) k' after (slice_index firsts')
          (entry vectors') (λ i j. entry vectors' i (n + j)) →
          IsNumberedBy k' (slice_index firsts') (slice_index numbers') → HoldsBasis n room (m + 1)
          k' vectors' columns' firsts' numbers' has_added'
      holds k' few low basis numbered = record {
        small = h.small;
        within = (omega arith, few);
        vectors_count = vectors_count';
        vectors_width = vectors_width';
        columns_count =
            ap (λ (rows : List (List Bool)). length rows) cs
            ∙ length-set columns m column ∙ h.columns_count;
        columns_width = columns_width';
        firsts_count = firsts_count ∙ h.firsts_count;
        numbers_count = numbers_count ∙ h.numbers_count;
        numbered = numbered;
        reduced =
            let next : suc m ≡ m + 1 = omega arith in
            subst (λ (rows : List (List Bool)). Reduced n (m + 1) k' (entry rows)
            (slice_index firsts') (entry vectors') (λ i j. entry vectors' i (n + j)))
            (sym columns_now)
            (subst (λ (a : ℕ). Reduced n a k' after (slice_index firsts') (entry vectors')
            (λ i j. entry vectors' i (n + j)))
            next basis);
        alone = λ e i l.
            let one = alone' (unadded e).0 (unadded e).1 i (omega arith) in
            (one.0, omega (arith, one.1), one.2);
      }

      pub basis_more : HoldsBasis n room (m + 1) (k + cond joins 1 0) vectors' columns' firsts'
          numbers' has_added'
      basis_more = by joins refl
        where
          by : (b : Bool) → joins ≡ b →
              HoldsBasis n room (m + 1) (k + cond joins 1 0) vectors' columns' firsts' numbers'
              has_added'
          by true e =
              let more : suc k ≡ k + cond joins 1 0 =
              let f : suc k ≡ k + 1 = omega arith in
              f ∙ ap (λ (b : Bool). k + cond b 1 0) (sym e) in
              let few : k < n = (s.vector e).1 in
              subst (λ (a : ℕ). HoldsBasis n room (m + 1) a vectors' columns' firsts' numbers'
              has_added')
              more (holds (suc k) (omega arith) (omega arith) (joined_basis e) (numbered_more e))
          by false e =
              let more : k ≡ k + cond joins 1 0 =
              let f : k ≡ k + 0 = omega arith in
              f ∙ ap (λ (b : Bool). k + cond b 1 0) (sym e) in
              let few = h.within in
              subst (λ (a : ℕ). HoldsBasis n room (m + 1) a vectors' columns' firsts' numbers'
              has_added')
              more (holds k (omega arith) (omega arith) (passed_basis e) (still_numbered e))

    -- ---- what the insertion tells

    later : (j : ℕ) → j < m → after j ≡ before j
    later j l = sym (earlier j l)

    pub dependence : (joins ≡ false) ↔ IsSumOfInserted
        (seen n room m k vectors columns firsts numbers has_added h) column
    dependence = (
      λ e.
          let d = is_dependent e in (
            d.0,
            subst (λ (a : ℕ). HasSum n a before d.0 (bit_of column)) (sym taken)
                (subst (HasSum n m before d.0) newest
                (sum_alike n m after before d.0 (after m) later d.1)),
          ),
      λ d. not_true joins (λ e. is_independent e (
        d.0,
        subst (HasSum n m after d.0) (sym newest)
            (sum_alike n m before after d.0 (bit_of column) earlier
            (subst (λ (a : ℕ). HasSum n a before d.0 (bit_of column)) taken d.1)),
      )),
    )

-- a list of so many items, which was lent as `lent` and is written whole
pub written_whole : {A : Type 0} (n : ℕ) (items lent written : List A) → lent ≡ items →
    length lent ≡ n → length written ≡ length lent →
    take n (written ++ drop (length written) items) ≡ written
written_whole n items lent written e f g =
    ap (λ (a : ℕ). take a (written ++ drop (length written) items)) (sym f ∙ sym g)
    ∙ take-append_seam written (drop (length written) items)

pub byte_is : (b : Bool) → bool_byte b ≡ cond b 1 0
byte_is true = refl
byte_is false = refl

pub or_parts : (a b : Bool) → a || b ≡ false → (a ≡ false) × (b ≡ false)
or_parts false false e = (refl, refl)
or_parts false true e = cc
or_parts true b e = cc
