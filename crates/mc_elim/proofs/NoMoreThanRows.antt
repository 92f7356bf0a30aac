-- Different numbers below a bound are no more than the bound.
use Rattle.std.specs.Prelude.{◌≡◌, ◌≢◌, ◌⊎◌, ℕ, zero, suc, ◌<◌, ◌≤◌, cond, nat_eq, refl}
use Rattle.std.proofs.Common.{arith, sym, subst, ◌∙◌, inl, inr}
use Rattle.std.proofs.lemmas.Bool.{eq-eqb, ne_eqb}
use Rattle.mc_elim.specs.Reduced.{AreApart}
use Rattle.mc_elim.proofs.BitSums.{last_or_before, same_or_not}

-- `p` with its number at `i` replaced by that at `k`
moved : (ℕ → ℕ) → ℕ → ℕ → ℕ → ℕ
moved p k i = λ j. cond (nat_eq j i) (p k) (p j)

moved_here : (p : ℕ → ℕ) (k i j : ℕ) → j ≡ i → moved p k i j ≡ p k
unfolding moved
moved_here p k i j e = rw (eq-eqb j i e) refl

moved_other : (p : ℕ → ℕ) (k i j : ℕ) → j ≢ i → moved p k i j ≡ p j
unfolding moved
moved_other p k i j ne = rw (ne_eqb j i ne) refl

place_of : (p : ℕ → ℕ) (n k : ℕ) →
    ((i : ℕ) × (i < k) × (p i ≡ n)) ⊎ ((i : ℕ) → i < k → p i ≢ n)
place_of p n zero = inr (λ i l. absurd (omega arith))
place_of p n (suc k) = elim (same_or_not (p k) n) [
  | inl e ↦ inl (k, omega arith, e)
  | inr ne ↦ elim (place_of p n k) [
    | inl found ↦ inl (found.0, omega (arith, found.1), found.2)
    | inr none ↦ inr (λ i l. elim (last_or_before i k l) [
      | inl lt ↦ none i lt
      | inr eq ↦ subst (λ (j : ℕ). p j ≢ n) (sym eq) ne
    ])
  ]
]

module _ (n k i : ℕ) (p : ℕ → ℕ) (h : AreApart (suc n) (suc k) p) (l : i < suc k) (e : p i ≡ n)
  where
    below_but : (j : ℕ) → j < suc k → j ≢ i → p j < n
    below_but j g ne =
        let low = h.below j g in
        let other : p j ≢ n = λ f. ne (h.apart j i g l (f ∙ sym e)) in
        omega arith

    moved_apart : AreApart n k (moved p k i)
    moved_apart = record {
      below = λ j g. elim (same_or_not j i) [
        | inl f ↦
            subst (λ (a : ℕ). a < n) (sym (moved_here p k i j f))
            (below_but k (omega arith) (omega arith))
        | inr ne ↦
            subst (λ (a : ℕ). a < n) (sym (moved_other p k i j ne)) (below_but j (omega arith) ne)
      ];
      apart = λ a b g f same. elim (same_or_not a i) [
        | inl x ↦ elim (same_or_not b i) [
          | inl y ↦ x ∙ sym y
          | inr y ↦
              let z = h.apart k b (omega arith) (omega arith)
              (sym (moved_here p k i a x) ∙ same ∙ moved_other p k i b y) in
              absurd (omega arith)
        ]
        | inr x ↦ elim (same_or_not b i) [
          | inl y ↦
              let z = h.apart k a (omega arith) (omega arith)
              (sym (moved_here p k i b y) ∙ sym same ∙ moved_other p k i a x) in
              absurd (omega arith)
          | inr y ↦
              h.apart a b (omega arith) (omega arith)
              (sym (moved_other p k i a x) ∙ same ∙ moved_other p k i b y)
        ]
      ];
    }

pub no_more_than : (n k : ℕ) (p : ℕ → ℕ) → AreApart n k p → k ≤ n
no_more_than n zero p h = omega arith
no_more_than zero (suc k) p h = let low = h.below 0 (omega arith) in absurd (omega arith)
no_more_than (suc n) (suc k) p h = elim (place_of p n (suc k)) [
  | inl found ↦
      let le = no_more_than n k (moved p k found.0)
      (moved_apart n k found.0 p h found.1 found.2) in
      omega arith
  | inr none ↦
      let le = no_more_than n (suc k) p
      (record {
        below = λ i l. let low = h.below i l in let ne = none i l in omega arith;
        apart = h.apart;
      }) in
      omega arith
]

-- `p` with `t` as its number at `k`
extended : (ℕ → ℕ) → ℕ → ℕ → ℕ → ℕ
extended p k t = λ j. cond (nat_eq j k) t (p j)

extended_here : (p : ℕ → ℕ) (k t j : ℕ) → j ≡ k → extended p k t j ≡ t
unfolding extended
extended_here p k t j e = rw (eq-eqb j k e) refl

extended_before : (p : ℕ → ℕ) (k t j : ℕ) → j < k → extended p k t j ≡ p j
unfolding extended
extended_before p k t j l = rw (ne_eqb j k (λ e. absurd (omega arith))) refl

-- where there is one more number, there was room for it
pub room_for_one : (n k t : ℕ) (p : ℕ → ℕ) → AreApart n k p → t < n →
    ((i : ℕ) → i < k → p i ≢ t) → k < n
room_for_one n k t p h l new =
    no_more_than n (suc k) (extended p k t) (record { below = below; apart = apart })
  where
    below : (i : ℕ) → i < suc k → extended p k t i < n
    below i g = elim (last_or_before i k g) [
      | inl lt ↦ subst (λ (a : ℕ). a < n) (sym (extended_before p k t i lt)) (h.below i lt)
      | inr eq ↦ subst (λ (a : ℕ). a < n) (sym (extended_here p k t i eq)) l
    ]

    apart : (i j : ℕ) → i < suc k → j < suc k → extended p k t i ≡ extended p k t j → i ≡ j
    apart i j g f e = elim (last_or_before i k g) [
      | inl x ↦ elim (last_or_before j k f) [
        | inl y ↦
            h.apart i j x y (sym (extended_before p k t i x) ∙ e ∙ extended_before p k t j y)
        | inr y ↦
            absurd (new i x (sym (extended_before p k t i x) ∙ e ∙ extended_here p k t j y))
      ]
      | inr x ↦ elim (last_or_before j k f) [
        | inl y ↦
            absurd (new j y (sym (extended_before p k t j y) ∙ sym e ∙ extended_here p k t i x))
        | inr y ↦ x ∙ sym y
      ]
    ]
