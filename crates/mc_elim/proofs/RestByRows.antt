-- What is left of a row that is reduced at one place after another.
use Rattle.std.specs.Prelude.{◌≡◌, ◌≢◌, ◌⊎◌, ℕ, ◌+◌, ◌<◌, ◌≤◌, Bool, true, false, ◌&&◌}
use Rattle.std.specs.Prelude.{nat_eq, nat_lt, refl}
use Rattle.std.proofs.Common.{arith, sym, ap, ap₂, ◌∙◌, inl, inr}
use Rattle.std.proofs.lemmas.Bool.{lt-ltb, le-ltb}
use Rattle.mc_model.specs.Bits.{◌⊻◌, Bits, odd}
use Rattle.mc_model.specs.Flow.{single}
use Rattle.mc_model.proofs.OddSums.{odd-same, odd-none, odd-xor, xor_and}
use Rattle.mc_elim.specs.Reduced.{rest}
use Rattle.mc_elim.proofs.BitSums.{and_comm, and_left, and_right, xor_right, odd-pick}
use Rattle.mc_elim.proofs.BitSums.{same_or_not, single_itself, single_other}

-- what is left of `v` once it was reduced by those of `k` vectors whose first rows are below `low`
abbrev pub rest_below : ℕ → (ℕ → ℕ) → (ℕ → Bits) → ℕ → Bits → Bits
rest_below k p b low v = λ r. v r ⊻ odd k (λ a. (nat_lt (p a) low && v (p a)) && b a r)

sides : (a b : ℕ) → (a < b) ⊎ (b ≤ a)
sides a b = grind arith

xor_last : (a o x : Bool) → a ⊻ (o ⊻ x) ≡ (a ⊻ o) ⊻ x
xor_last a o x = grind arith

kept_true : (a : Bool) → true && a ≡ (true && a) ⊻ false
kept_true a = grind arith

module _ (k : ℕ) (p : ℕ → ℕ) (b : ℕ → Bits) (v : Bits) where
  abbrev term : ℕ → ℕ → Bits
  term low r = λ a. (nat_lt (p a) low && v (p a)) && b a r

  pub rest_start : (r : ℕ) → v r ≡ rest_below k p b 0 v r
  rest_start r =
      sym (xor_right (v r) (odd k (term 0 r)) (odd-none k (term 0 r) (λ a l.
      ap (λ (c : Bool). (c && v (p a)) && b a r) (le-ltb (p a) 0 (omega arith)))))

  -- the same vectors were added
  rest_same : (low high r : ℕ) →
      ((a : ℕ) → a < k → nat_lt (p a) low && v (p a) ≡ nat_lt (p a) high && v (p a)) →
      rest_below k p b low v r ≡ rest_below k p b high v r
  rest_same low high r h =
      ap (λ (c : Bool). v r ⊻ c)
      (odd-same k (term low r) (term high r) (λ a l. ap (λ (c : Bool). c && b a r) (h a l)))

  -- no vector has the first row `u`
  pub rest_passed : (u r : ℕ) → ((a : ℕ) → a < k → p a ≢ u) →
      rest_below k p b u v r ≡ rest_below k p b (u + 1) v r
  rest_passed u r free = rest_same u (u + 1) r (λ a l. elim (sides (p a) u) [
    | inl lt ↦ rw (lt-ltb (p a) u lt, lt-ltb (p a) (u + 1) (omega arith)) refl
    | inr ge ↦
        let ne : p a ≢ u = free a l in
        rw (le-ltb (p a) u ge, le-ltb (p a) (u + 1) (omega arith)) refl
  ])

  module _ (own : (a i : ℕ) → a < k → i < k → b a (p i) ≡ nat_eq a i) where
    -- the bit at a first row from `low` on is that of `v`
    pub first_kept : (low i : ℕ) → i < k → low ≤ p i → rest_below k p b low v (p i) ≡ v (p i)
    first_kept low i l g =
        xor_right (v (p i)) (odd k (term low (p i))) (odd-none k (term low (p i)) (λ a h.
        elim (same_or_not a i) [
          | inl e ↦
              and_left (nat_lt (p a) low && v (p a)) (b a (p i))
              (ap (λ (c : Bool). c && v (p a))
              (ap (λ (j : ℕ). nat_lt (p j) low) e ∙ le-ltb (p i) low g))
          | inr ne ↦
              and_right (nat_lt (p a) low && v (p a)) (b a (p i))
              (own a i h l ∙ single_other i a ne)
        ]))

    -- where no bit is left from `low` on and below `high`, no vector is added there
    pub rest_skipped : (low high : ℕ) → low ≤ high →
        ((r : ℕ) → low ≤ r → r < high → rest_below k p b low v r ≡ false) → (r : ℕ) →
        rest_below k p b low v r ≡ rest_below k p b high v r
    rest_skipped low high le none r = rest_same low high r (λ a l. elim (sides (p a) low) [
      | inl lt ↦ rw (lt-ltb (p a) low lt, lt-ltb (p a) high (omega arith)) refl
      | inr ge ↦ elim (sides (p a) high) [
        | inl lt ↦
            ap (λ (c : Bool). c && v (p a)) (le-ltb (p a) low ge)
            ∙ sym (and_right (nat_lt (p a) high) (v (p a))
            (sym (first_kept low a l ge) ∙ none (p a) ge lt))
        | inr far ↦ rw (le-ltb (p a) low ge, le-ltb (p a) high far) refl
      ]
    ])

    -- where no bit is left below `n`, all vectors that the row needs were added
    pub rest_whole : (low n : ℕ) → low ≤ n → ((a : ℕ) → a < k → p a < n) →
        ((r : ℕ) → low ≤ r → r < n → rest_below k p b low v r ≡ false) → (r : ℕ) →
        rest_below k p b low v r ≡ rest k p b v r
    rest_whole low n le below none r =
        rest_skipped low n le none r
        ∙ ap (λ (c : Bool). v r ⊻ c)
        (odd-same k (term n r) (λ a. v (p a) && b a r) (λ a l.
        ap (λ (c : Bool). (c && v (p a)) && b a r) (lt-ltb (p a) n (below a l))))

    -- the vector `i` has the first row `u`, where the row has a bit
    module _ (u i : ℕ) (l : i < k) (first : p i ≡ u) (has : rest_below k p b u v u ≡ true)
        (apart : (a : ℕ) → a < k → p a ≡ u → a ≡ i) where
      has_it : v (p i) ≡ true
      has_it =
          sym (first_kept u i l (omega arith))
          ∙ ap (λ (r : ℕ). rest_below k p b u v r) first
          ∙ has

      one_more : (a : ℕ) → a < k →
          nat_lt (p a) (u + 1) && v (p a) ≡ (nat_lt (p a) u && v (p a)) ⊻ single i a
      one_more a g = elim (same_or_not a i) [
        | inl e ↦
            ap (λ (j : ℕ). nat_lt (p j) (u + 1) && v (p j)) e
            ∙ ap₂ (λ (c d : Bool). c && d) (lt-ltb (p i) (u + 1) (omega arith)) has_it
            ∙ sym (ap₂ (λ (c d : Bool). (c && v (p a)) ⊻ d)
            (ap (λ (j : ℕ). nat_lt (p j) u) e ∙ le-ltb (p i) u (omega arith))
            (ap (single i) e ∙ single_itself i))
        | inr ne ↦
            let away : p a ≢ u = λ f. ne (apart a g f) in
            elim (sides (p a) u) [
              | inl lt ↦
                  rw (lt-ltb (p a) u lt, lt-ltb (p a) (u + 1) (omega arith), single_other i a ne)
                  (kept_true (v (p a)))
              | inr ge ↦
                  rw (le-ltb (p a) u ge, le-ltb (p a) (u + 1) (omega arith), single_other i a ne)
                  refl
            ]
      ]

      pub rest_added : (r : ℕ) →
          rest_below k p b u v r ⊻ b i r ≡ rest_below k p b (u + 1) v r
      rest_added r =
          sym (
          ap (λ (c : Bool). v r ⊻ c) (
          odd-same k (term (u + 1) r) (λ a. term u r a ⊻ (b a r && single i a)) (λ a g.
          ap (λ (c : Bool). c && b a r) (one_more a g)
          ∙ xor_and (nat_lt (p a) u && v (p a)) (single i a) (b a r)
          ∙ ap (λ (c : Bool). term u r a ⊻ c) (and_comm (single i a) (b a r)))
          ∙ odd-xor k (term u r) (λ a. b a r && single i a)
          ∙ ap (λ (c : Bool). odd k (term u r) ⊻ c) (odd-pick k i (λ a. b a r) l))
          ∙ xor_last (v r) (odd k (term u r)) (b i r))
