-- One more column for a reduced basis, and the least sets that a reduced basis gives.
use Rattle.std.specs.Prelude.{◌≡◌, ◌≢◌, ◌⊎◌, ℕ, suc, ◌<◌, ◌≤◌, Bool, true, false, ◌&&◌}
use Rattle.std.specs.Prelude.{nat_eq}
use Rattle.std.specs.Prelude.{refl}
use Rattle.std.proofs.Common.{arith, sym, ap, ap₂, subst, ◌∙◌, inl, inr}
use Rattle.mc_model.specs.Bits.{◌⊻◌, Bits, odd}
use Rattle.mc_model.specs.Flow.{single}
use Rattle.mc_model.proofs.OddSums.{odd-same, odd-none, odd-xor, odd-and, odd-exchange, odd-one}
use Rattle.mc_model.proofs.OddSums.{xor_and, and_xor, and_swap}
use Rattle.mc_elim.specs.Systems.{Columns, HasSum, IsEven, IsDependent, Refutes, Solves, IsLeast}
use Rattle.mc_elim.specs.Reduced.{Reduced, rest, rest_members, null_set, Joins}
use Rattle.mc_elim.proofs.BitSums.{xor_self, xor_right, xor_equal, xor_parts, and_comm, and_left}
use Rattle.mc_elim.proofs.BitSums.{and_right, both_right, not_both, clash, last_or_before}
use Rattle.mc_elim.proofs.BitSums.{same_or_not, single_itself, single_other, single_member}
use Rattle.mc_elim.proofs.BitSums.{odd-last, odd-some, odd-pick}
use Rattle.mc_elim.proofs.LeastSets.{IsFirst, least_solution, least_free, least_pivot}

and_three : (a b c : Bool) → (a && b) && c ≡ a && (b && c)
and_three a b c = grind arith

and_turned : (a b c : Bool) → a && (b && c) ≡ c && (a && b)
and_turned a b c = grind arith

-- the rest has no first row
pub rest_at_first : (k : ℕ) (p : ℕ → ℕ) (b : ℕ → Bits) (v : Bits) →
    ((a j : ℕ) → a < k → j < k → b a (p j) ≡ nat_eq a j) → (j : ℕ) → j < k →
    rest k p b v (p j) ≡ false
rest_at_first k p b v own j l =
    ap (λ (c : Bool). v (p j) ⊻ c)
    (odd-same k (λ a. v (p a) && b a (p j)) (λ a. v (p a) && single j a)
    (λ a g. ap (λ (c : Bool). v (p a) && c) (own a j g l))
    ∙ odd-pick k j (λ a. v (p a)) l)
    ∙ xor_self (v (p j))

module _ (n m k : ℕ) (columns : Columns) (p : ℕ → ℕ) (b q : ℕ → Bits)
    (h : Reduced n m k columns p b q) where
  -- ---- what is left of a column

  -- the bit that is tested before the turn `i` is that of `v`
  pub tested : (v : Bits) (i : ℕ) → i < k → rest i p b v (p i) ≡ v (p i)
  tested v i l =
      xor_right (v (p i)) (odd i (λ a. v (p a) && b a (p i)))
      (odd-none i (λ a. v (p a) && b a (p i)) (λ a g. and_right (v (p a)) (b a (p i))
      (h.own a i (omega arith) l ∙ single_other i a (omega arith))))

  rest_own : (v : Bits) (j : ℕ) → j < k → rest k p b v (p j) ≡ false
  rest_own v = rest_at_first k p b v h.own

  rest_term : (v s : Bits) → HasSum n m columns s v → (i r : ℕ) → i < k →
      odd m (λ j. s j && (columns j (p i) && b i r)) ≡ v (p i) && b i r
  rest_term v s g i r l =
      odd-same m (λ j. s j && (columns j (p i) && b i r)) (λ j. b i r && (s j && columns j (p i)))
      (λ j _. and_turned (s j) (columns j (p i)) (b i r))
      ∙ odd-and m (b i r) (λ j. s j && columns j (p i))
      ∙ ap (λ (c : Bool). b i r && c) (g (p i) (h.inside i l))
      ∙ and_comm (b i r) (v (p i))

  -- a sum of columns is made of the vectors by its bits in their first rows
  pub sum_spans : (v s : Bits) → HasSum n m columns s v → (r : ℕ) → r < n →
      v r ≡ odd k (λ i. v (p i) && b i r)
  sum_spans v s g r l =
      sym (g r l)
      ∙ odd-same m (λ j. s j && columns j r)
      (λ j. odd k (λ i. s j && (columns j (p i) && b i r)))
      (λ j e. ap (λ (c : Bool). s j && c) (h.spans j r e l)
      ∙ sym (odd-and k (s j) (λ i. columns j (p i) && b i r)))
      ∙ odd-exchange m k (λ j i. s j && (columns j (p i) && b i r))
      ∙ odd-same k (λ i. odd m (λ j. s j && (columns j (p i) && b i r))) (λ i. v (p i) && b i r)
      (λ i e. rest_term v s g i r e)

  -- a sum of columns leaves nothing
  pub rest_of_sum : (v s : Bits) → HasSum n m columns s v → (r : ℕ) → r < n →
      rest k p b v r ≡ false
  rest_of_sum v s g r l =
      ap (λ (c : Bool). c ⊻ odd k (λ i. v (p i) && b i r)) (sum_spans v s g r l)
      ∙ xor_self (odd k (λ i. v (p i) && b i r))

  -- ---- the next column

  abbrev v : Bits
  v = columns m

  abbrev x : Bits
  x = rest k p b v

  abbrev y : Bits
  y = rest_members m k p q v

  y_itself : y m ≡ true
  y_itself =
      xor_right (single m m) (odd k (λ a. v (p a) && q a m))
      (odd-none k (λ a. v (p a) && q a m) (λ a g. and_right (v (p a)) (q a m)
      (h.bounded a m g (omega arith))))
      ∙ single_itself m

  y_before : (j : ℕ) → j < m → y j ≡ odd k (λ a. v (p a) && q a j)
  y_before j l = ap (λ (c : Bool). c ⊻ odd k (λ a. v (p a) && q a j))
      (single_other m j (omega arith))

  y_behind : (j : ℕ) → suc m ≤ j → y j ≡ false
  y_behind j l =
      ap (λ (c : Bool). c ⊻ odd k (λ a. v (p a) && q a j)) (single_other m j (omega arith))
      ∙ odd-none k (λ a. v (p a) && q a j) (λ a g. and_right (v (p a)) (q a j)
      (h.bounded a j g (omega arith)))

  y_term : (r i : ℕ) → r < n → i < k →
      odd m (λ j. columns j r && (v (p i) && q i j)) ≡ v (p i) && b i r
  y_term r i l g =
      odd-same m (λ j. columns j r && (v (p i) && q i j)) (λ j. v (p i) && (q i j && columns j r))
      (λ j _. sym (and_turned (v (p i)) (q i j) (columns j r)))
      ∙ odd-and m (v (p i)) (λ j. q i j && columns j r)
      ∙ ap (λ (c : Bool). v (p i) && c) (h.made i g r l)

  -- the columns but for the next one that make what is left
  y_earlier : (r : ℕ) → r < n → odd m (λ j. y j && columns j r) ≡ odd k (λ i. v (p i) && b i r)
  y_earlier r l =
      odd-same m (λ j. y j && columns j r)
      (λ j. odd k (λ i. columns j r && (v (p i) && q i j)))
      (λ j g. ap (λ (c : Bool). c && columns j r) (y_before j g)
      ∙ and_comm (odd k (λ i. v (p i) && q i j)) (columns j r)
      ∙ sym (odd-and k (columns j r) (λ i. v (p i) && q i j)))
      ∙ odd-exchange m k (λ j i. columns j r && (v (p i) && q i j))
      ∙ odd-same k (λ i. odd m (λ j. columns j r && (v (p i) && q i j))) (λ i. v (p i) && b i r)
      (λ i g. y_term r i l g)

  rest_sum : HasSum n (suc m) columns y x
  rest_sum r l =
      odd-last m (λ j. y j && columns j r)
      ∙ ap₂ (λ (c d : Bool). c ⊻ d) (ap (λ (c : Bool). c && columns m r) y_itself) (y_earlier r l)

  -- a column that leaves nothing is a sum of earlier ones
  pub nothing_left : ((r : ℕ) → r < n → x r ≡ false) → IsDependent n columns m
  nothing_left none = (
    y,
    λ r l.
        y_earlier r l ∙ sym (xor_equal (v r) (odd k (λ i. v (p i) && b i r)) (none r l)),
  )

  -- and changes nothing
  pub passed_over : ((r : ℕ) → r < n → x r ≡ false) → Reduced n (suc m) k columns p b q
  passed_over none = record {
    inside = h.inside;
    own = h.own;
    first = h.first;
    made = λ i g r l.
        odd-last m (λ j. q i j && columns j r)
        ∙ ap₂ (λ (c d : Bool). c ⊻ d)
        (and_left (q i m) (columns m r) (h.bounded i m g (omega arith))) (h.made i g r l);
    independent = λ i j g l e. elim (last_or_before j m l) [
      | inl lt ↦ h.independent i j g lt e
      | inr eq ↦ absurd (clash (q i j) e (h.bounded i j g (omega arith)))
    ];
    bounded = λ i j g l. h.bounded i j g (omega arith);
    spans = λ j r g l. elim (last_or_before j m g) [
      | inl lt ↦ h.spans j r lt l
      | inr eq ↦
          subst (λ (z : ℕ). columns z r ≡ odd k (λ i. columns z (p i) && b i r)) (sym eq)
          (xor_equal (v r) (odd k (λ i. v (p i) && b i r)) (none r l))
    ];
  }

  -- a column of which something is left, from the row `t` on, joins the basis
  module _ (t : ℕ) (tn : t < n) (has : x t ≡ true) (lowest : (r : ℕ) → r < t → x r ≡ false) where
    pub new_independent : ¬ IsDependent n columns m
    new_independent (s, g) = clash (x t) has (rest_of_sum v s g t tn)

    y_independent : (j : ℕ) → j < suc m → y j ≡ true → ¬ IsDependent n columns j
    y_independent j l e = elim (last_or_before j m l) [
      | inl lt ↦
          odd-some k (λ a. v (p a) && q a j)
          (λ a g w. h.independent a j g lt (both_right (v (p a)) (q a j) w))
          (sym (y_before j lt) ∙ e)
      | inr eq ↦ subst (λ (i : ℕ). ¬ IsDependent n columns i) (sym eq) new_independent
    ]

    module _ (p' : ℕ → ℕ) (b' q' : ℕ → Bits) (w : Joins n k t x y p p' b b' q q') where
      new_inside : (i : ℕ) → i < suc k → p' i < n
      new_inside i l = elim (last_or_before i k l) [
        | inl lt ↦ subst (λ (z : ℕ). z < n) (sym (w.first_old i lt)) (h.inside i lt)
        | inr eq ↦ subst (λ (z : ℕ). z < n) (sym (ap p' eq ∙ w.first_new)) tn
      ]

      own_gone : (a : Bool) → a ⊻ (a && true) ≡ false
      own_gone a = grind arith

      own_by : (i j : ℕ) → (i < k) ⊎ (i ≡ k) → (j < k) ⊎ (j ≡ k) → b' i (p' j) ≡ nat_eq i j
      own_by i j (inl g) (inl l) =
          ap (b' i) (w.first_old j l)
          ∙ w.vector_old i (p j) g (h.inside j l)
          ∙ xor_right (b i (p j)) (b i t && x (p j))
          (and_right (b i t) (x (p j)) (rest_own v j l))
          ∙ h.own i j g l
      own_by i j (inl g) (inr f) =
          ap (b' i) (ap p' f ∙ w.first_new)
          ∙ w.vector_old i t g tn
          ∙ ap (λ (c : Bool). b i t ⊻ (b i t && c)) has
          ∙ own_gone (b i t)
          ∙ sym (single_other j i (omega arith))
      own_by i j (inr e) (inl l) =
          ap (λ (z : ℕ). b' z (p' j)) e
          ∙ ap (b' k) (w.first_old j l)
          ∙ w.vector_new (p j) (h.inside j l)
          ∙ rest_own v j l
          ∙ sym (single_other j i (omega arith))
      own_by i j (inr e) (inr f) =
          ap (λ (z : ℕ). b' z (p' j)) e
          ∙ ap (b' k) (ap p' f ∙ w.first_new)
          ∙ w.vector_new t tn
          ∙ has
          ∙ sym (ap₂ (λ (c d : ℕ). nat_eq c d) e f ∙ single_itself k)

      first_by : (i r : ℕ) → (i < k) ⊎ (i ≡ k) → r < p' i → b' i r ≡ false
      first_by i r (inl g) l =
          let before : r < p i = subst (λ (z : ℕ). r < z) (w.first_old i g) l in
          let inside = h.inside i g in
          w.vector_old i r g (omega arith)
          ∙ ap₂ (λ (c d : Bool). c ⊻ d) (h.first i r g before)
          (not_both (b i t) (x r) (λ e f. elim (last_or_before r t (above e)) [
            | inl lt ↦ clash (x r) f (lowest r lt)
            | inr eq ↦ clash (b i t) e (h.first i t g (omega arith))
          ]))
        where
          above : b i t ≡ true → r < suc t
          above e = elim (last_or_before (p i) t (reach e))
              [ inl lt ↦ omega arith | inr eq ↦ omega arith ]
            where
              reach : b i t ≡ true → p i < suc t
              reach e = by (order t (p i))
                where
                  order : (a c : ℕ) → (a < c) ⊎ (c < suc a)
                  order a c = grind arith

                  by : (t < p i) ⊎ (p i < suc t) → p i < suc t
                  by (inl lt) = absurd (clash (b i t) e (h.first i t g lt))
                  by (inr le) = le
      first_by i r (inr e) l =
          let before : r < t = subst (λ (z : ℕ). r < z) (ap p' e ∙ w.first_new) l in
          ap (λ (z : ℕ). b' z r) e ∙ w.vector_new r (omega arith) ∙ lowest r before

      made_by : (i : ℕ) → (i < k) ⊎ (i ≡ k) → HasSum n (suc m) columns (q' i) (b' i)
      made_by i (inl g) r l =
          odd-same (suc m) (λ j. q' i j && columns j r)
          (λ j. (q i j && columns j r) ⊻ (b i t && (y j && columns j r)))
          (λ j _. ap (λ (c : Bool). c && columns j r) (w.members_old i j g)
          ∙ xor_and (q i j) (b i t && y j) (columns j r)
          ∙ ap (λ (c : Bool). (q i j && columns j r) ⊻ c) (and_three (b i t) (y j) (columns j r)))
          ∙ odd-xor (suc m) (λ j. q i j && columns j r) (λ j. b i t && (y j && columns j r))
          ∙ ap₂ (λ (c d : Bool). c ⊻ d)
          (odd-last m (λ j. q i j && columns j r)
          ∙ ap₂ (λ (c d : Bool). c ⊻ d)
          (and_left (q i m) (columns m r) (h.bounded i m g (omega arith)))
          (h.made i g r l))
          (odd-and (suc m) (b i t) (λ j. y j && columns j r)
          ∙ ap (λ (c : Bool). b i t && c) (rest_sum r l))
          ∙ sym (w.vector_old i r g l)
      made_by i (inr e) r l =
          odd-same (suc m) (λ j. q' i j && columns j r) (λ j. y j && columns j r)
          (λ j _. ap (λ (c : Bool). c && columns j r)
          (ap (λ (z : ℕ). q' z j) e ∙ w.members_new j))
          ∙ rest_sum r l
          ∙ sym (ap (λ (z : ℕ). b' z r) e ∙ w.vector_new r l)

      independent_by : (i j : ℕ) → (i < k) ⊎ (i ≡ k) → j < suc m → q' i j ≡ true →
          ¬ IsDependent n columns j
      independent_by i j (inl g) l e =
          xor_parts (q i j) (b i t && y j)
          (λ f. elim (last_or_before j m l) [
            | inl lt ↦ h.independent i j g lt f
            | inr eq ↦ absurd (clash (q i j) f (h.bounded i j g (omega arith)))
          ])
          (λ f. y_independent j l (both_right (b i t) (y j) f))
          (sym (w.members_old i j g) ∙ e)
      independent_by i j (inr f) l e =
          y_independent j l (sym (ap (λ (z : ℕ). q' z j) f ∙ w.members_new j) ∙ e)

      bounded_by : (i j : ℕ) → (i < k) ⊎ (i ≡ k) → suc m ≤ j → q' i j ≡ false
      bounded_by i j (inl g) l =
          w.members_old i j g
          ∙ ap₂ (λ (c d : Bool). c ⊻ d) (h.bounded i j g (omega arith))
          (and_right (b i t) (y j) (y_behind j l))
      bounded_by i j (inr e) l = ap (λ (z : ℕ). q' z j) e ∙ w.members_new j ∙ y_behind j l

      -- `ur` and `ut` are a column's bits, `sr` and `st` those of the sum of the old vectors
      spans_bits : (ut ur xr sr st a : Bool) → ur ⊻ sr ≡ a && xr → ut ⊻ st ≡ a →
          ur ≡ (ut && xr) ⊻ (sr ⊻ (xr && st))
      spans_bits ut ur xr sr st a e f = grind arith

      spans_by : (u : Bits) (r : ℕ) (a : Bool) → r < n →
          u r ⊻ odd k (λ i. u (p i) && b i r) ≡ a && x r →
          u t ⊻ odd k (λ i. u (p i) && b i t) ≡ a → u r ≡ odd (suc k) (λ i. u (p' i) && b' i r)
      spans_by u r a l e f =
          spans_bits (u t) (u r) (x r) (odd k (λ i. u (p i) && b i r))
          (odd k (λ i. u (p i) && b i t)) a
          e f
          ∙ sym (
          odd-last k (λ i. u (p' i) && b' i r)
          ∙ ap₂ (λ (c d : Bool). c ⊻ d)
          (ap₂ (λ (c d : Bool). c && d) (ap u w.first_new) (w.vector_new r l))
          (odd-same k (λ i. u (p' i) && b' i r)
          (λ i. (u (p i) && b i r) ⊻ (x r && (u (p i) && b i t)))
          (λ i g. ap₂ (λ (c d : Bool). c && d) (ap u (w.first_old i g)) (w.vector_old i r g l)
          ∙ and_xor (u (p i)) (b i r) (b i t && x r)
          ∙ ap (λ (c : Bool). (u (p i) && b i r) ⊻ c) (and_turned (u (p i)) (b i t) (x r)))
          ∙ odd-xor k (λ i. u (p i) && b i r) (λ i. x r && (u (p i) && b i t))
          ∙ ap (λ (c : Bool). odd k (λ i. u (p i) && b i r) ⊻ c)
          (odd-and k (x r) (λ i. u (p i) && b i t))))

      spanned : (j r : ℕ) → j < m → r < n → columns j r ⊻ odd k (λ i. columns j (p i) && b i r) ≡
          false
      spanned j r g l =
          ap (λ (c : Bool). c ⊻ odd k (λ i. columns j (p i) && b i r)) (h.spans j r g l)
          ∙ xor_self (odd k (λ i. columns j (p i) && b i r))

      new_spans : (j r : ℕ) → (j < m) ⊎ (j ≡ m) → r < n →
          columns j r ≡ odd (suc k) (λ i. columns j (p' i) && b' i r)
      new_spans j r (inl g) l = spans_by (columns j) r false l (spanned j r g l) (spanned j t g tn)
      new_spans j r (inr e) l =
          subst (λ (z : ℕ). columns z r ≡ odd (suc k) (λ i. columns z (p' i) && b' i r)) (sym e)
          (spans_by v r true l refl has)

      pub joined : Reduced n (suc m) (suc k) columns p' b' q'
      joined = record {
        inside = new_inside;
        own = λ i j g l. own_by i j (last_or_before i k g) (last_or_before j k l);
        first = λ i r g l. first_by i r (last_or_before i k g) l;
        made = λ i g. made_by i (last_or_before i k g);
        independent = λ i j g l e. independent_by i j (last_or_before i k g) l e;
        bounded = λ i j g l. bounded_by i j (last_or_before i k g) l;
        spans = λ j r g l. new_spans j r (last_or_before j m g) l;
      }

  -- ---- the questions

  abbrev is_first : (i : ℕ) → i < k → IsFirst n m columns (p i)
  is_first i g = record {
    vector = b i;
    members = q i;
    sums = h.made i g;
    has = h.own i i g g ∙ single_itself i;
    first = λ r l. h.first i r g l;
  }

  -- where a vector is its first row alone, its columns are the least that solve that row
  pub least_single : (i : ℕ) → i < k → ((r : ℕ) → r < n → b i r ≡ single (p i) r) →
      IsLeast m (Solves n m columns (p i)) (q i)
  least_single i g e =
      least_solution n m columns (q i) (single (p i)) (λ r l. h.made i g r l ∙ e r l)
      (λ j l w. h.independent i j g l w)

  -- a row that is solved is the first row of a vector, which is that row alone
  pub solved_first : (s : Bits) (u : ℕ) → u < n → Solves n m columns u s → {P : Type 0} →
      ((i : ℕ) → i < k → p i ≡ u → ((r : ℕ) → r < n → b i r ≡ single u r) → P) → P
  solved_first s u l g {P} f =
      odd-some k (λ i. single u (p i) && b i u)
      (λ i lt e.
      let here : p i ≡ u = single_member u (p i) (grind_left (single u (p i)) (b i u) e) in
      f i lt here (λ r rn.
      sym (sum_spans (single u) s g r rn
      ∙ odd-same k (λ a. single u (p a) && b a r) (λ a. b a r && single i a)
      (λ a an. ap (λ (c : Bool). c && b a r) (alike i lt here a an) ∙ and_comm (single i a) (b a r))
      ∙ odd-pick k i (λ a. b a r) lt)))
      (sym (sum_spans (single u) s g u l) ∙ single_itself u)
    where
      grind_left : (a c : Bool) → a && c ≡ true → a ≡ true
      grind_left a c e = grind arith

      alike : (i : ℕ) → i < k → p i ≡ u → (a : ℕ) → a < k → single u (p a) ≡ single i a
      alike i lt here a an = elim (same_or_not a i) [
        | inl e ↦
            subst (λ (z : ℕ). single u (p z) ≡ single i z) (sym e)
            (subst (λ (z : ℕ). single u z ≡ single i i) (sym here)
            (single_itself u ∙ sym (single_itself i)))
        | inr ne ↦
            single_other u (p a) (λ w. clash (nat_eq i a)
            (sym (h.own i a lt an) ∙ ap (b i) (w ∙ sym here) ∙ h.own i i lt lt ∙ single_itself i)
            (single_other a i (λ z. ne (sym z))))
            ∙ sym (single_other i a ne)
      ]

  null_term : (f r i : ℕ) (c : Bool) → (b i f && nat_eq r (p i)) && c ≡ b i f &&
      (c && single (p i) r)
  null_term f r i c = and_three (b i f) (single (p i) r) c ∙ ap (λ (d : Bool). b i f && d)
      (and_comm (single (p i) r) c)

  pub null_even : (f : ℕ) → f < n → IsEven n m columns (null_set k p b f)
  null_even f l j g =
      odd-same n (λ r. null_set k p b f r && columns j r)
      (λ r. (columns j r && single f r) ⊻ odd k (λ i. b i f && (columns j r && single (p i) r)))
      (λ r _. xor_and (single f r) (odd k (λ i. b i f && nat_eq r (p i))) (columns j r)
      ∙ ap₂ (λ (c d : Bool). c ⊻ d) (and_comm (single f r) (columns j r))
      (and_comm (odd k (λ i. b i f && nat_eq r (p i))) (columns j r)
      ∙ sym (odd-and k (columns j r) (λ i. b i f && nat_eq r (p i)))
      ∙ odd-same k (λ i. columns j r && (b i f && nat_eq r (p i)))
      (λ i. b i f && (columns j r && single (p i) r))
      (λ i _. and_swap (columns j r) (b i f) (single (p i) r))))
      ∙ odd-xor n (λ r. columns j r && single f r)
      (λ r. odd k (λ i. b i f && (columns j r && single (p i) r)))
      ∙ ap₂ (λ (c d : Bool). c ⊻ d) (odd-pick n f (columns j) l)
      (odd-exchange n k (λ r i. b i f && (columns j r && single (p i) r))
      ∙ odd-same k (λ i. odd n (λ r. b i f && (columns j r && single (p i) r)))
      (λ i. columns j (p i) && b i f)
      (λ i lt. odd-and n (b i f) (λ r. columns j r && single (p i) r)
      ∙ ap (λ (c : Bool). b i f && c) (odd-pick n (p i) (columns j) (h.inside i lt))
      ∙ and_comm (b i f) (columns j (p i)))
      ∙ sym (h.spans j f g l))
      ∙ xor_self (columns j f)

  -- a member of the null set of `f` is `f` or a first row
  null_first : (f d : ℕ) → null_set k p b f d ≡ true → d ≢ f → IsFirst n m columns d
  null_first f d e ne =
      xor_parts (single f d) (odd k (λ i. b i f && nat_eq d (p i)))
      (λ w. absurd (ne (single_member f d w)))
      (odd-some k (λ i. b i f && nat_eq d (p i)) (λ i g w.
      subst (IsFirst n m columns)
      (sym (single_member (p i) d (both_right (b i f) (nat_eq d (p i)) w))) (is_first i g)))
      e

  -- where `u` is no first row, its null set is the least that refutes it
  pub least_null_free : (u : ℕ) → u < n → ((i : ℕ) → i < k → p i ≢ u) →
      IsLeast n (Refutes n m columns u) (null_set k p b u)
  least_null_free u l free =
      least_free n m columns (null_set k p b u) u (
        null_even u l,
        xor_right (single u u) (odd k (λ i. b i u && nat_eq u (p i)))
            (odd-none k (λ i. b i u && nat_eq u (p i)) (λ i g. and_right (b i u) (nat_eq u (p i))
            (single_other (p i) u (λ w. free i g (sym w)))))
            ∙ single_itself u,
      )
      (λ d g e ne. null_first u d e ne)

  -- where `u` is the first row of a vector whose next row is `f`, the null set of `f` is that set
  pub least_null_next : (i f : ℕ) → i < k → f < n → p i < f → b i f ≡ true →
      ((r : ℕ) → p i < r → r < f → b i r ≡ false) →
      IsLeast n (Refutes n m columns (p i)) (null_set k p b f)
  least_null_next i f g l lt e between =
      least_pivot n m columns (null_set k p b f) (p i) f (h.inside i g)
      (null_even f l, holds)
      (is_first i g) between above
      (λ d a c ne. null_first f d c ne)
    where
      holds : null_set k p b f (p i) ≡ true
      holds =
          ap (λ (c : Bool). c ⊻ odd k (λ a. b a f && nat_eq (p i) (p a)))
          (single_other f (p i) (omega arith))
          ∙ odd-one k (λ a. b a f && nat_eq (p i) (p a)) i g
          (ap₂ (λ (c d : Bool). c && d) e (single_itself (p i)))
          (λ a an ne. and_right (b a f) (nat_eq (p i) (p a))
          (single_other (p a) (p i) (λ w. clash (nat_eq a i)
          (sym (h.own a i an g) ∙ ap (b a) w ∙ h.own a a an an ∙ single_itself a)
          (single_other i a ne))))

      above : (r : ℕ) → r < n → f < r → null_set k p b f r ≡ false
      above r rn gt =
          ap (λ (c : Bool). c ⊻ odd k (λ j. b j f && nat_eq r (p j)))
          (single_other f r (omega arith))
          ∙ odd-none k (λ j. b j f && nat_eq r (p j)) (λ j jn.
          not_both (b j f) (nat_eq r (p j)) (λ c d.
          clash (b j f) c (h.first j f jn
          (subst (λ (z : ℕ). f < z) (single_member (p j) r d) gt))))
