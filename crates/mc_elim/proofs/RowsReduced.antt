-- Rows that are reduced one after another.
use Rattle.std.specs.Prelude.{◌≡◌, ◌≢◌, ℕ, ◌+◌, ◌<◌, ◌≤◌, Bool, true, false, cond, ◌&&◌, ◌||◌}
use Rattle.std.specs.Prelude.{nat_eq, nat_lt, List, [], length, slice_index, slice_set, refl}
use Rattle.std.proofs.Common.{arith, sym, ap, ap₂, subst, ◌∙◌, inl, inr, get_or-set_same}
use Rattle.std.proofs.Common.{get_or-set_other, length-set}
use Rattle.std.proofs.lemmas.Bool.{lt-ltb, le-ltb}
use Rattle.mc_model.specs.Bits.{◌⊻◌}
use Rattle.mc_bits.specs.Words.{IsNextBit, HasNoBit}
use Rattle.mc_bits.specs.Rows.{bit_of, row_sum}
use Rattle.mc_bits.proofs.RowsByBits.{row_sum-bit, row_sum-length}
use Rattle.mc_elim.specs.Reduced.{AreApart}
use Rattle.mc_elim.specs.Tables.{row_at, entry, Cleared, CountsUpTo, IsReducedBy, IsClearedOf}
use Rattle.mc_elim.specs.Tables.{IsReducedAt, BecomesVector}
use Rattle.mc_elim.proofs.ReducedGrows.{rest_at_first}
use Rattle.mc_elim.proofs.RestByRows.{rest_below, rest_start, rest_skipped, rest_passed, rest_added}
use Rattle.mc_elim.proofs.RestByRows.{rest_whole}
use Rattle.mc_elim.proofs.NoMoreThanRows.{room_for_one}
use Rattle.mc_elim.proofs.BitSums.{same_or_not, last_or_before}
use Rattle.mc_elim.proofs.BitSums.{clash}

pub cleared_added : (old : List (List Bool)) (from to k : ℕ) → from ≢ to → to < length old →
    length (row_at old from) ≡ length (row_at old to) → entry old to k ≡ true →
    Cleared old (slice_set old to (row_sum (row_at old to) (row_at old from))) from to k
cleared_added old from to k ne within alike e =
    let sum = row_sum (row_at old to) (row_at old from) in
    let here : row_at (slice_set old to sum) to ≡ sum = get_or-set_same old to sum [] within in
    record {
      sum = λ r.
          ap (λ (row : List Bool). bit_of row r) here
          ∙ row_sum-bit (row_at old to) (row_at old from) alike r
          ∙ ap (λ (b : Bool). entry old to r ⊻ (b && entry old from r)) (sym e);
      others = λ a other. get_or-set_other old to a sum [] other;
      count = length-set old to sum;
      width =
          ap (λ (row : List Bool). length row) here
          ∙ row_sum-length (row_at old to) (row_at old from);
    }

-- ---- counts

or_true : (a : Bool) → a || true ≡ true
or_true a = grind arith

or_false : (a : Bool) → a || false ≡ a
or_false a = grind arith

pub nothing_counted : (s : ℕ) → CountsUpTo s s 0 false
nothing_counted s =
    record { rise = omega arith; most = omega arith; added_is = sym (le-ltb s s (omega arith)) }

pub count_more : (old now i : ℕ) (added has : Bool) → CountsUpTo old now i added →
    CountsUpTo old (now + cond has 1 0) (i + 1) (added || has)
count_more old now i added true h =
    let rise = h.rise in
    let most = h.most in
    record {
      rise = omega arith;
      most = omega arith;
      added_is = or_true added ∙ sym (lt-ltb old (now + 1) (omega arith));
    }
count_more old now i added false h =
    let rise = h.rise in
    let most = h.most in
    let same : now + 0 ≡ now = omega arith in
    record {
      rise = omega arith;
      most = omega arith;
      added_is = or_false added ∙ h.added_is ∙ ap (λ (n : ℕ). nat_lt old n) (sym same);
    }

-- one test more, at the place `u`
pub count_to : (old now low u : ℕ) (added has : Bool) → low ≤ u → CountsUpTo old now low added →
    CountsUpTo old (now + cond has 1 0) (u + 1) (added || has)
count_to old now low u added has l h =
    let more = count_more old now low added has h in
    let rise = more.rise in
    let most = more.most in
    record { rise = more.rise; most = omega arith; added_is = more.added_is }

pub nothing_more : (old now i : ℕ) (added has : Bool) → CountsUpTo old now i added →
    now + cond has 1 0 ≡ old → (now ≡ old) × (has ≡ false)
nothing_more old now i added true h e = let rise = h.rise in absurd (omega arith)
nothing_more old now i added false h e = (omega arith, refl)

-- ---- the row behind the vectors

-- the row `k` was reduced by those of the rows before it whose first rows are below `low`
pub record IsReducedTo (old new : List (List Bool)) (firsts : List ℕ) (k low : ℕ) : Type 0 where
  pub row : (r : ℕ) →
      entry new k r ≡ rest_below k (slice_index firsts) (entry old) low (entry old k) r
  pub others : (a : ℕ) → a ≢ k → row_at new a ≡ row_at old a
  pub count : length new ≡ length old
  pub width : length (row_at new k) ≡ length (row_at old k)

module _ (old : List (List Bool)) (firsts : List ℕ) (k : ℕ) where
  abbrev p : ℕ → ℕ
  p = slice_index firsts

  pub reduce_none : IsReducedTo old old firsts k 0
  reduce_none = record {
    row = λ r. rest_start k p (entry old) (entry old k) r;
    others = λ a _. refl;
    count = refl;
    width = refl;
  }

  module _ (n : ℕ) (apart : AreApart n k p)
      (own : (a i : ℕ) → a < k → i < k → entry old a (p i) ≡ nat_eq a i)
      (now : List (List Bool)) (low : ℕ) (h : IsReducedTo old now firsts k low) where
    pub reduce_more : (u : ℕ) → IsNextBit (entry now k) low n u → (new : List (List Bool)) →
        (told : Bool) → IsReducedAt now new firsts k u told → IsReducedTo old new firsts k (u + 1)
    reduce_more u next new told at = by told at
      where
        reached : (r : ℕ) → entry now k r ≡ rest_below k p (entry old) u (entry old k) r
        reached r =
            h.row r
            ∙ rest_skipped k p (entry old) (entry old k) own low u next.above
            (λ r l g. sym (h.row r) ∙ next.first r l g) r

        by : (told : Bool) → IsReducedAt now new firsts k u told →
            IsReducedTo old new firsts k (u + 1)
        by true (i, l, first, c) =
            let other : i ≢ k = omega arith in
            record {
              row = λ r.
                  c.sum r
                  ∙ ap₂ (λ (x y : Bool). x ⊻ y) (reached r)
                  (ap₂ (λ (x y : Bool). x && y) next.has
                  (ap (λ (row : List Bool). bit_of row r) (h.others i other)))
                  ∙ rest_added k p (entry old) (entry old k) own u i l first
                  (sym (reached u) ∙ next.has)
                  (λ a g e. apart.apart a i g l (e ∙ sym first)) r;
              others = λ a ne. c.others a ne ∙ h.others a ne;
              count = c.count ∙ h.count;
              width = c.width ∙ h.width;
            }
        by false (free, same) = record {
          row = λ r.
              ap (λ (rows : List (List Bool)). entry rows k r) same
              ∙ reached r
              ∙ rest_passed k p (entry old) (entry old k) u r free;
          others = λ a ne.
              ap (λ (rows : List (List Bool)). row_at rows a) same ∙ h.others a ne;
          count = ap (λ (rows : List (List Bool)). length rows) same ∙ h.count;
          width =
              ap (λ (rows : List (List Bool)). length (row_at rows k)) same ∙ h.width;
        }

    pub reduce_whole : low ≤ n → HasNoBit (entry now k) low n → IsReducedBy old now firsts k k
    reduce_whole le none = record {
      row = λ r.
          h.row r
          ∙ rest_whole k p (entry old) (entry old k) own low n le apart.below
          (λ r l g. sym (h.row r) ∙ none r l g) r;
      others = h.others;
      count = h.count;
      width = h.width;
    }

-- ---- the vectors before the row

module _ (old : List (List Bool)) (k t : ℕ) where
  pub clear_none : IsClearedOf old old k t 0
  clear_none = record {
    done = λ a r l. absurd (omega arith);
    left = λ a _. refl;
    count = refl;
    width = λ a. refl;
  }

  pub clear_more : (i : ℕ) → i < k → (now new : List (List Bool)) → IsClearedOf old now k t i →
      Cleared now new k i t → IsClearedOf old new k t (i + 1)
  clear_more i below now new h c = record {
    done = λ a r l. elim (last_or_before a i (omega arith)) [
      | inl lt ↦
          ap (λ (row : List Bool). bit_of row r) (c.others a (omega arith)) ∙ h.done a r lt
      | inr eq ↦
          subst (λ (j : ℕ). entry new j r ≡ entry old j r ⊻ (entry old j t && entry old k r))
          (sym eq)
          (c.sum r
          ∙ ap₂ (λ (b d : Bool). b ⊻ d) (ap (λ (row : List Bool). bit_of row r)
          (h.left i (omega arith)))
          (ap₂ (λ (b d : Bool). b && d)
          (ap (λ (row : List Bool). bit_of row t) (h.left i (omega arith)))
          (ap (λ (row : List Bool). bit_of row r) (h.left k (omega arith)))))
    ];
    left = λ a l. c.others a (omega arith) ∙ h.left a (omega arith);
    count = c.count ∙ h.count;
    width = λ a. elim (same_or_not a i) [
      | inl eq ↦
          subst (λ (j : ℕ). length (row_at new j) ≡ length (row_at old j)) (sym eq)
          (c.width ∙ h.width i)
      | inr ne ↦ ap (λ (row : List Bool). length row) (c.others a ne) ∙ h.width a
    ];
  }

-- ---- the next vector

pub next_vector : (n k t : ℕ) (firsts : List ℕ) (old now new : List (List Bool)) →
    k < length firsts → IsReducedBy old now firsts k k → IsNextBit (entry now k) 0 n t →
    IsClearedOf now new k t k → BecomesVector n k firsts (slice_set firsts k t) old new
next_vector n k t firsts old now new within h bit c = record {
  t = t;
  inside = bit.below;
  has = sym (h.row t) ∙ bit.has;
  lowest = λ r l. sym (h.row r) ∙ bit.first r (omega arith) l;
  vectors = λ i r l.
      let apart : i ≢ k = omega arith in
      let same = h.others i apart in
      c.done i r l
      ∙ ap₂ (λ (b d : Bool). b ⊻ d) (ap (λ (row : List Bool). bit_of row r) same)
      (ap₂ (λ (b d : Bool). b && d) (ap (λ (row : List Bool). bit_of row t) same) (h.row r));
  vector = λ r. ap (λ (row : List Bool). bit_of row r) (c.left k (omega arith)) ∙ h.row r;
  firsts_old = λ i l. get_or-set_other firsts k i t 0 (λ e. absurd (omega arith));
  firsts_new = get_or-set_same firsts k t 0 within;
}

-- its first row is none of those before, so that there is room for it
pub room_left : (n k t : ℕ) (firsts : List ℕ) (old now : List (List Bool)) →
    AreApart n k (slice_index firsts) →
    ((a i : ℕ) → a < k → i < k → entry old a (slice_index firsts i) ≡ nat_eq a i) →
    IsReducedBy old now firsts k k → IsNextBit (entry now k) 0 n t → k < n
room_left n k t firsts old now apart own h bit =
    room_for_one n k t (slice_index firsts) apart bit.below
    (λ i l e. clash (entry now k t) bit.has
    (ap (entry now k) (sym e) ∙ h.row (slice_index firsts i)
    ∙ rest_at_first k (slice_index firsts) (entry old) (entry old k) own i l))
