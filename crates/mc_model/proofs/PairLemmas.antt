-- The edges that are listed by a test of pairs, and the test.
use Rattle.std.proofs.Common.{◌≡◌, ◌≢◌, ◌⊎◌, ℕ, zero, suc, ◌<◌, Bool, true, false, cond, ◌&&◌, List}
use Rattle.std.proofs.Common.{[], ◌∷◌, ◌++◌, refl, sym, ◌∙◌, ap, ap₂, arith}
use Rattle.std.specs.Prelude.{nat_eq, nat_lt}
use Rattle.std.proofs.lemmas.Bool.{eq-eqb, ne_eqb, eqb-true, and_parts, or_cases, lt-ltb, le-ltb}
use Rattle.std.proofs.lemmas.Bool.{cases_eq, cases_lt, cases_order}
use mathlib.Core.Logic.{inl, inr}
use Rattle.mc_model.specs.Bits.{◌⊻◌, same_pair}
use Rattle.mc_model.specs.Numbers.{pairs_at, pairs_below}
use Rattle.mc_model.specs.Pattern.{Command, Prep, Ent, Meas, FixX, FixZ}
use Rattle.mc_model.specs.StandardForm.{is_edge}
use Rattle.mc_model.specs.Graph.{Edge, edge, joins}
use Rattle.mc_model.proofs.BitLemmas.{xor_assoc, xor_false}
use Rattle.mc_model.proofs.OddSums.{and_false, xor_and}
use Rattle.mc_model.proofs.Refutation.{same_pair_swap, joins_comm}

-- the two ways in which two pairs are one
pub pair_ends : (v w a b : ℕ) → same_pair v w a b ≡ true →
    ((v ≡ a) × (w ≡ b)) ⊎ ((v ≡ b) × (w ≡ a))
pair_ends v w a b e = elim (or_cases (nat_eq v a && nat_eq w b) (nat_eq v b && nat_eq w a) e) [
  | inl h ↦
      let p = and_parts (nat_eq v a) (nat_eq w b) h in
      inl (eqb-true v a p.0, eqb-true w b p.1)
  | inr h ↦
      let p = and_parts (nat_eq v b) (nat_eq w a) h in
      inr (eqb-true v b p.0, eqb-true w a p.1)
]

pub is_edge-comm : (cs : List Command) (i j : ℕ) → is_edge cs i j ≡ is_edge cs j i
unfolding is_edge
is_edge-comm [] i j = refl
is_edge-comm (Prep q ∷ cs) i j = is_edge-comm cs i j
is_edge-comm (Ent q r ∷ cs) i j =
    ap₂ (λ (a b : Bool). a ⊻ b)
    (same_pair_swap (nat_eq i q) (nat_eq j r) (nat_eq i r) (nat_eq j q)) (is_edge-comm cs i j)
is_edge-comm (Meas q a s t ∷ cs) i j = is_edge-comm cs i j
is_edge-comm (FixX q s ∷ cs) i j = is_edge-comm cs i j
is_edge-comm (FixZ q s ∷ cs) i j = is_edge-comm cs i j

pub is_edge-append : (cs ds : List Command) (i j : ℕ) →
    is_edge (cs ++ ds) i j ≡ is_edge cs i j ⊻ is_edge ds i j
unfolding is_edge
is_edge-append [] ds i j = refl
is_edge-append (Prep q ∷ cs) ds i j = is_edge-append cs ds i j
is_edge-append (Ent q r ∷ cs) ds i j =
    ap (λ (b : Bool). same_pair i j q r ⊻ b) (is_edge-append cs ds i j)
    ∙ sym (xor_assoc (same_pair i j q r) (is_edge cs i j) (is_edge ds i j))
is_edge-append (Meas q a s t ∷ cs) ds i j = is_edge-append cs ds i j
is_edge-append (FixX q s ∷ cs) ds i j = is_edge-append cs ds i j
is_edge-append (FixZ q s ∷ cs) ds i j = is_edge-append cs ds i j

pub joins-append : (es fs : List Edge) (v w : ℕ) →
    joins (es ++ fs) v w ≡ joins es v w ⊻ joins fs v w
unfolding joins
joins-append [] fs v w = refl
joins-append (e ∷ es) fs v w =
    ap (λ (b : Bool). same_pair v w e.one e.other ⊻ b) (joins-append es fs v w)
    ∙ sym (xor_assoc (same_pair v w e.one e.other) (joins es v w) (joins fs v w))

joins-one : (b : Bool) (i j v w : ℕ) →
    joins (cond b (edge i j ∷ []) []) v w ≡ b && same_pair v w i j
unfolding joins
joins-one true i j v w = xor_false (same_pair v w i j)
joins-one false i j v w = refl

lt_suc : (m n : ℕ) → nat_lt m (suc n) ≡ nat_lt m n ⊻ nat_eq m n
lt_suc m n = elim (cases_order m n) [
  | inl e ↦ rw (eq-eqb m n e, le-ltb m n (omega arith), lt-ltb m (suc n) (omega arith)) refl
  | inr other ↦ elim other [
    | inl lt ↦
        rw (
          ne_eqb m n (λ e. absurd (omega arith)),
          lt-ltb m n lt,
          lt-ltb m (suc n) (omega arith),
        ) refl
    | inr gt ↦
        rw (
          ne_eqb m n (λ e. absurd (omega arith)),
          le-ltb m n (omega arith),
          le-ltb m (suc n) (omega arith),
        ) refl
  ]
]

row_bits : (here last test below : Bool) →
    (here && (below && test)) ⊻ (here && (last && test)) ≡ here && ((below ⊻ last) && test)
row_bits here last test below = grind arith

-- the pair that is added to a row
row_step : (p : ℕ → ℕ → Bool) (i n v w : ℕ) → v < w →
    (nat_lt i n && p i n) && same_pair v w i n ≡ nat_eq v i && (nat_eq w n && p v w)
row_step p i n v w lt = elim (cases_eq v i) [
  | inl e ↦ elim (cases_eq w n) [
    | inl f ↦
        let ap_test : p i n ≡ p v w = ap₂ p (sym e) (sym f) in
        rw (eq-eqb v i e, eq-eqb w n f, lt-ltb i n (omega arith), ap_test) (and_yes (p v w))
    | inr f ↦
        rw (eq-eqb v i e, ne_eqb w n f, ne_eqb w i (λ d. absurd (omega arith)))
        (and_no (nat_lt i n && p i n) (nat_eq v n))
  ]
  | inr e ↦ elim (cases_lt i n) [
    | inl l ↦ elim (cases_eq v n) [
      | inl f ↦
          rw (ne_eqb v i e, ne_eqb w i (λ d. absurd (omega arith)))
          (and_no (nat_lt i n && p i n) (nat_eq v n))
      | inr f ↦ rw (ne_eqb v i e, ne_eqb v n f) (and_false (nat_lt i n && p i n))
    ]
    | inr l ↦ rw (ne_eqb v i e, le-ltb i n l) refl
  ]
]
  where
    and_yes : (b : Bool) → (true && b) && true ≡ true && (true && b)
    and_yes b = grind arith

    and_no : (a b : Bool) → a && (b && false) ≡ false
    and_no a b = grind arith

row_joins : (p : ℕ → ℕ → Bool) (i n v w : ℕ) → v < w →
    joins (pairs_at edge p i n) v w ≡ nat_eq v i && (nat_lt w n && p v w)
unfolding joins pairs_at
row_joins p i zero v w lt =
    let none : nat_lt w 0 ≡ false = le-ltb w 0 (omega arith) in
    rw none (sym (and_false (nat_eq v i)))
row_joins p i (suc n) v w lt =
    joins-append (pairs_at edge p i n) (cond (nat_lt i n && p i n) (edge i n ∷ []) []) v w
    ∙ ap₂ (λ (a b : Bool). a ⊻ b) (row_joins p i n v w lt)
    (joins-one (nat_lt i n && p i n) i n v w ∙ row_step p i n v w lt)
    ∙ row_bits (nat_eq v i) (nat_eq w n) (p v w) (nat_lt w n)
    ∙ ap (λ (b : Bool). nat_eq v i && (b && p v w)) (sym (lt_suc w n))

rows_join : (p : ℕ → ℕ → Bool) (n m v w : ℕ) → v < w →
    joins (pairs_below edge p n m) v w ≡ nat_lt v m && (nat_lt w n && p v w)
unfolding joins pairs_below
rows_join p n zero v w lt = rw (le-ltb v 0 (omega arith)) refl
rows_join p n (suc m) v w lt =
    joins-append (pairs_below edge p n m) (pairs_at edge p m n) v w
    ∙ ap₂ (λ (a b : Bool). a ⊻ b) (rows_join p n m v w lt) (row_joins p m n v w lt)
    ∙ sym (xor_and (nat_lt v m) (nat_eq v m) (nat_lt w n && p v w))
    ∙ ap (λ (b : Bool). b && (nat_lt w n && p v w)) (sym (lt_suc v m))

-- two different numbers are joined where they pass the test
pub joins-pairs : (p : ℕ → ℕ → Bool) → ((i j : ℕ) → p i j ≡ p j i) → (n v w : ℕ) → v < n → w < n →
    v ≢ w → joins (pairs_below edge p n n) v w ≡ p v w
joins-pairs p comm n v w lv lw ne = elim (cases_order v w) [
  | inl e ↦ absurd (ne e)
  | inr other ↦ elim other [
    | inl lt ↦ rw (rows_join p n n v w lt, lt-ltb v n lv, lt-ltb w n lw) refl
    | inr gt ↦
        joins_comm (pairs_below edge p n n) v w
        ∙ rw (rows_join p n n w v gt, lt-ltb v n lv, lt-ltb w n lw) (comm w v)
  ]
]
