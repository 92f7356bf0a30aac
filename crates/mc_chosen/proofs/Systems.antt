-- A system of columns has a least solution, or its unit has a least refuter.
use Rattle.std.proofs.Common.{◌≡◌, ◌⊎◌, ℕ, zero, suc, ◌<◌, ◌≤◌, Bool, true, false, ◌&&◌, refl, sym}
use Rattle.std.proofs.Common.{◌∙◌, ap, ap₂, arith, inl, inr, cond, nat_eq}
use Rattle.std.proofs.lemmas.Bool.{eq-eqb, ne_eqb}
use Rattle.mc_model.specs.Bits.{◌⊻◌, Bits, odd}
use Rattle.mc_model.specs.Flow.{single}
use Rattle.mc_model.specs.Choice.{SameBelow}
use Rattle.mc_model.proofs.OddSums.{odd-same, odd-xor, odd-and, odd-none, odd-last, odd-pick}
use Rattle.mc_model.proofs.OddSums.{last_or_before, xor_and, and_xor}
use Rattle.mc_elim.specs.Systems.{Columns, HasSum, IsEven, Solves, Refutes, IsLeast}
use Rattle.mc_elim.proofs.LeastSets.{even_with_sum}
use Rattle.mc_chosen.proofs.LeastSets.{Decided, both_decided, bits_decided, each_decided}
use Rattle.mc_chosen.proofs.LeastSets.{least_or_none}

-- whether some number below a bound has the bit 1
pub first_or_none : (n : ℕ) (b : Bits) →
    ((r : ℕ) × (r < n) × (b r ≡ true)) ⊎ ((r : ℕ) → r < n → b r ≡ false)
first_or_none zero b = inr (λ r lt. absurd (omega arith))
first_or_none (suc n) b = with_last (first_or_none n b) (b n) refl
  where
    with_last : ((r : ℕ) × (r < n) × (b r ≡ true)) ⊎ ((r : ℕ) → r < n → b r ≡ false) →
        (c : Bool) → b n ≡ c →
        ((r : ℕ) × (r < suc n) × (b r ≡ true)) ⊎ ((r : ℕ) → r < suc n → b r ≡ false)
    with_last (inl some) c e = let lt = some.1 in inl (some.0, omega arith, some.2)
    with_last (inr none) true e = inl (n, omega arith, e)
    with_last (inr none) false e = inr (λ r lt. elim (last_or_before r n lt) [
      | inl less ↦ none r less
      | inr same ↦ ap b same ∙ e
    ])

-- the parity of two sets' common members
abbrev meets : ℕ → Bits → Bits → Bool
meets n y b = odd n (λ r. y r && b r)

meets-sum : (n : ℕ) (y b c : Bits) → meets n y (λ r. b r ⊻ c r) ≡ meets n y b ⊻ meets n y c
meets-sum n y b c =
    odd-same n (λ r. y r && (b r ⊻ c r)) (λ r. (y r && b r) ⊻ (y r && c r))
    (λ r _. and_xor (y r) (b r) (c r))
    ∙ odd-xor n (λ r. y r && b r) (λ r. y r && c r)

sum-meets : (n : ℕ) (y z b : Bits) → meets n (λ r. y r ⊻ z r) b ≡ meets n y b ⊻ meets n z b
sum-meets n y z b =
    odd-same n (λ r. (y r ⊻ z r) && b r) (λ r. (y r && b r) ⊻ (z r && b r))
    (λ r _. xor_and (y r) (z r) (b r))
    ∙ odd-xor n (λ r. y r && b r) (λ r. z r && b r)

-- the set where a bit is 1, else none
abbrev scaled : Bool → Bits → Bits
scaled a b = λ r. a && b r

meets-scaled : (n : ℕ) (y b : Bits) (a : Bool) → meets n y (scaled a b) ≡ a && meets n y b
meets-scaled n y b a =
    odd-same n (λ r. y r && (a && b r)) (λ r. a && (y r && b r)) (λ r _. turned (y r) a (b r))
    ∙ odd-and n a (λ r. y r && b r)
  where
    turned : (x a c : Bool) → x && (a && c) ≡ a && (x && c)
    turned x a c = grind arith

scaled-meets : (n : ℕ) (y b : Bits) (a : Bool) → meets n (scaled a y) b ≡ a && meets n y b
scaled-meets n y b a =
    odd-same n (λ r. (a && y r) && b r) (λ r. a && (y r && b r)) (λ r _. turned a (y r) (b r))
    ∙ odd-and n a (λ r. y r && b r)
  where
    turned : (a x c : Bool) → (a && x) && c ≡ a && (x && c)
    turned a x c = grind arith

-- a set of columns has the sum, or a set of rows that meets each column evenly meets it oddly
abbrev SummedOrNot : ℕ → ℕ → Columns → Bits → Type 0
SummedOrNot n m columns b = ((s : Bits) × HasSum n m columns s b)
    ⊎ ((y : Bits) × IsEven n m columns y × (meets n y b ≡ true))

module _ (n : ℕ) (columns : Columns) where
  no_columns : (b : Bits) → SummedOrNot n zero columns b
  no_columns b = elim (first_or_none n b) [
    | inl some ↦ inr (
      single some.0,
      λ j lt. absurd (omega arith),
      odd-same n (λ r. single some.0 r && b r) (λ r. b r && single some.0 r)
          (λ r _. swapped (single some.0 r) (b r))
          ∙ odd-pick n some.0 b some.1 ∙ some.2,
    )
    | inr none ↦ inl (λ j. false, λ r lt. odd-none 0 (λ j. false) (λ j l. refl) ∙ sym (none r lt))
  ]
    where
      swapped : (a c : Bool) → a && c ≡ c && a
      swapped a c = grind arith

  -- one more column: a member of the set or not
  with_column : (m : ℕ) (s : Bits) (a : Bool) → Bits
  with_column m s a = λ j. cond (nat_eq j m) a (s j)

  sum_with : (m : ℕ) (s : Bits) (a : Bool) (r : ℕ) →
      odd (suc m) (λ j. with_column m s a j && columns j r)
      ≡ (a && columns m r) ⊻ odd m (λ j. s j && columns j r)
  unfolding with_column
  sum_with m s a r =
      odd-last m (λ j. with_column m s a j && columns j r)
      ∙ ap₂ (λ (x y : Bool). x ⊻ y)
      (rw (eq-eqb m m refl) refl)
      (odd-same m (λ j. with_column m s a j && columns j r) (λ j. s j && columns j r)
      (λ j lt. rw (ne_eqb j m (λ e. absurd (omega arith))) refl))

  more_even : (m : ℕ) (y : Bits) → IsEven n m columns y → meets n y (columns m) ≡ false →
      IsEven n (suc m) columns y
  more_even m y even last j lt = elim (last_or_before j m lt) [
    | inl less ↦ even j less
    | inr e ↦ ap (λ (k : ℕ). meets n y (columns k)) e ∙ last
  ]

  pub summed_or_not : (m : ℕ) (b : Bits) → SummedOrNot n m columns b
  summed_or_not zero b = no_columns b
  summed_or_not (suc m) b = elim (summed_or_not m (columns m)) [
    | inl depends ↦ elim (summed_or_not m b) [
      | inl some ↦ inl (
        with_column m some.0 false,
        λ r lt. sum_with m some.0 false r ∙ some.1 r lt,
      )
      | inr none ↦ inr (
        none.0,
        more_even m none.0 none.1 (dependent_even m none.0 depends.0 none.1 depends.1),
        none.2,
      )
    ]
    | inr apart ↦ with_apart m b apart.0 apart.1 apart.2 (meets n apart.0 b) refl
        (summed_or_not m (λ r. b r ⊻ (meets n apart.0 b && columns m r)))
  ]
    where
      dependent_even : (m : ℕ) (y s : Bits) → IsEven n m columns y →
          HasSum n m columns s (columns m) → meets n y (columns m) ≡ false
      dependent_even m y s even sum = even_with_sum n m columns y s (columns m) even sum

      plus_twice : (x y : Bool) → x ⊻ (y ⊻ x) ≡ y
      plus_twice x y = grind arith

      -- by a set `z` that meets the last column alone oddly
      with_apart : (m : ℕ) (b z : Bits) → IsEven n m columns z → meets n z (columns m) ≡ true →
          (a : Bool) → meets n z b ≡ a →
          SummedOrNot n m columns (λ r. b r ⊻ (meets n z b && columns m r)) →
          SummedOrNot n (suc m) columns b
      with_apart m b z even odd_last a e (inl some) = inl (
        with_column m some.0 (meets n z b),
        λ r lt.
            sum_with m some.0 (meets n z b) r
            ∙ ap (λ (x : Bool). (meets n z b && columns m r) ⊻ x) (some.1 r lt)
            ∙ plus_twice (meets n z b && columns m r) (b r),
      )
      with_apart m b z even odd_last a e (inr none) =
          let y = none.0 in
          let c = meets n y (columns m) in
          inr (
            λ r. y r ⊻ scaled c z r,
            more_even m (λ r. y r ⊻ scaled c z r)
                (λ j lt.
                sum-meets n y (scaled c z) (columns j)
                ∙ ap₂ (λ (p q : Bool). p ⊻ q) (none.1 j lt)
                (scaled-meets n z (columns j) c ∙ ap (λ (p : Bool). c && p) (even j lt)
                ∙ and_false c))
                (sum-meets n y (scaled c z) (columns m)
                ∙ ap (λ (p : Bool). c ⊻ p)
                (scaled-meets n z (columns m) c ∙ ap (λ (p : Bool). c && p) odd_last)
                ∙ twice c),
            sum-meets n y (scaled c z) b
                ∙ ap (λ (p : Bool). meets n y b ⊻ p) (scaled-meets n z b c)
                ∙ exchanged (meets n y b) c (meets n z b)
                ∙ sym (meets-sum n y b (scaled (meets n z b) (columns m))
                ∙ ap (λ (p : Bool). meets n y b ⊻ p) (meets-scaled n y (columns m) (meets n z b)))
                ∙ none.2,
          )
        where
          and_false : (x : Bool) → x && false ≡ false
          and_false x = grind arith

          twice : (x : Bool) → x ⊻ (x && true) ≡ false
          twice x = grind arith

          exchanged : (x c d : Bool) → x ⊻ (c && d) ≡ x ⊻ (d && c)
          exchanged x c d = grind arith

-- ---- the least ones

module _ (n m : ℕ) (columns : Columns) (u : ℕ) (un : u < n) where
  solves_decided : (s : Bits) → Decided (Solves n m columns u s)
  solves_decided s =
      each_decided n (λ r. odd m (λ j. s j && columns j r) ≡ single u r)
      (λ r. bits_decided (odd m (λ j. s j && columns j r)) (single u r))

  refutes_decided : (y : Bits) → Decided (Refutes n m columns u y)
  refutes_decided y =
      both_decided
      (each_decided m (λ j. odd n (λ r. y r && columns j r) ≡ false)
      (λ j. bits_decided (odd n (λ r. y r && columns j r)) false))
      (bits_decided (y u) true)

  solves_alike : (s t : Bits) → SameBelow m s t → Solves n m columns u s → Solves n m columns u t
  solves_alike s t same h r lt =
      odd-same m (λ j. t j && columns j r) (λ j. s j && columns j r)
      (λ j jm. ap (λ (b : Bool). b && columns j r) (sym (same j jm)))
      ∙ h r lt

  refutes_alike : (y z : Bits) → SameBelow n y z → Refutes n m columns u y →
      Refutes n m columns u z
  refutes_alike y z same h = (
    λ j jm.
        odd-same n (λ r. z r && columns j r) (λ r. y r && columns j r)
        (λ r rn. ap (λ (b : Bool). b && columns j r) (sym (same r rn)))
        ∙ h.0 j jm,
    sym (same u un) ∙ h.1,
  )

  -- the least solution, or there is none
  pub solution_or_none :
      ((s : Bits) × IsLeast m (Solves n m columns u) s)
      ⊎ ((s : Bits) → Solves n m columns u s → ⊥)
  solution_or_none =
      elim (least_or_none m (Solves n m columns u) solves_decided solves_alike) [
        | inl some ↦ inl (some.0, some.1)
        | inr none ↦ inr none
      ]

  -- where there is no solution there is a least refuter, of rows alone
  pub least_refuter : ((s : Bits) → Solves n m columns u s → ⊥) →
      (y : Bits) × IsLeast n (Refutes n m columns u) y × ((j : ℕ) → n ≤ j → y j ≡ false)
  least_refuter unsolved =
      elim (least_or_none n (Refutes n m columns u) refutes_decided refutes_alike) [
        | inl some ↦ some
        | inr none ↦ absurd (elim (summed_or_not n columns m (single u)) [
          | inl some ↦ unsolved some.0 some.1
          | inr y ↦ none y.0 (y.1, sym (odd-pick n u y.0 un) ∙ y.2)
        ])
      ]
