-- Settings that list bits, and sums of which one term is left.
use Rattle.std.proofs.Common.{◌≡◌, ℕ, zero, suc, ◌<◌, Bool, true, false, cond, not, ◌&&◌, map}
use Rattle.std.proofs.Common.{length, List, [], ◌∷◌, refl, sym, ◌∙◌, ap, ap₂, arith}
use Rattle.std.specs.Prelude.{slice_index_or}
use Rattle.std.specs.List.{AllByRecursion}
use Rattle.std.proofs.lemmas.Bool.{cases_eq}
use mathlib.Core.Logic.{inl, inr}
use mathlib.Core.Path.{fun_ext}
use Rattle.mc_model.specs.Phase.{PhaseOps, PhaseLaws}
use Rattle.mc_model.specs.Bits.{◌⊻◌, Bits, replaced}
use Rattle.mc_model.specs.Amplitude.{start, agrees, placed}
use Rattle.mc_model.proofs.BitLemmas.{replaced_same, replaced_other}
use Rattle.mc_model.specs.Bits.{bits_of}
use Rattle.mc_compose.specs.Sums.{sum_over_bits}
use Rattle.mc_compose.proofs.ProductLaws.{ProductLaws, nought-product, one-product, nought_left}

-- the first `n` bits
abbrev pub listed : ℕ → Bits → List Bool
listed zero z = []
listed (suc n) z = z 0 ∷ listed n (λ k. z (suc k))

and_left : (p q r : Bool) → p && (q && r) ≡ q && (p && r)
and_left p q r = grind arith

-- the settings agree from the first bit up
agrees_up : (n : ℕ) (b x : Bits) →
    agrees (suc n) b x ≡ not (b 0 ⊻ x 0) && agrees n (λ k. b (suc k)) (λ k. x (suc k))
agrees_up zero b x = refl
agrees_up (suc n) b x =
    ap (λ (t : Bool). not (b (suc n) ⊻ x (suc n)) && t) (agrees_up n b x)
    ∙ and_left (not (b (suc n) ⊻ x (suc n))) (not (b 0 ⊻ x 0))
    (agrees n (λ k. b (suc k)) (λ k. x (suc k)))

-- ---- the setting that lists bits on the listed qubits

-- the number is none of the list
abbrev pub IsNone : List ℕ → ℕ → Type 0
IsNone qs k = (j : ℕ) → j < length qs → slice_index_or qs j 0 ≡ k → ⊥

none_head : (q : ℕ) (qs : List ℕ) (k : ℕ) → IsNone (q ∷ qs) k → k ≡ q → ⊥
none_head q qs k none e = none 0 (omega arith) (sym e)

none_tail : (q : ℕ) (qs : List ℕ) (k : ℕ) → IsNone (q ∷ qs) k → IsNone qs k
none_tail q qs k none j lt e = none (suc j) (omega arith) e

none_more : (q : ℕ) (qs : List ℕ) (k : ℕ) → (k ≡ q → ⊥) → IsNone qs k → IsNone (q ∷ qs) k
none_more q qs k ne none zero lt e = ne (sym e)
none_more q qs k ne none (suc j) lt e = none j (omega arith) e

pub placed_none : (qs : List ℕ) (ys : List Bool) (k : ℕ) → IsNone qs k → placed qs ys k ≡ false
unfolding placed
placed_none [] ys k none = refl
placed_none (q ∷ qs) [] k none = refl
placed_none (q ∷ qs) (y ∷ ys) k none =
    replaced_other (placed qs ys) q y k (none_head q qs k none)
    ∙ placed_none qs ys k (none_tail q qs k none)

-- a setting that is 0 elsewhere is the one that lists its bits
pub placed_listed : (qs : List ℕ) (x z : Bits) (k : ℕ) →
    ((j : ℕ) → j < length qs → x (slice_index_or qs j 0) ≡ z j) →
    (IsNone qs k → x k ≡ false) → x k ≡ placed qs (listed (length qs) z) k
unfolding placed
placed_listed [] x z k reads none = none (λ j lt e. absurd (omega arith))
placed_listed (q ∷ qs) x z k reads none = elim (cases_eq k q) [
  | inl e ↦
      ap x e
      ∙ reads 0 (omega arith)
      ∙ sym (replaced_same (placed qs (listed (length qs) (λ j. z (suc j)))) q (z 0))
      ∙ ap (replaced (placed qs (listed (length qs) (λ j. z (suc j)))) q (z 0)) (sym e)
  | inr ne ↦
      placed_listed qs x (λ j. z (suc j)) k (λ j lt. reads (suc j) (omega arith))
      (λ others. none (none_more q qs k ne others))
      ∙ sym (replaced_other (placed qs (listed (length qs) (λ j. z (suc j)))) q (z 0) k ne)
]

-- the numbers below `n` have places that differ
abbrev pub AreApart : ℕ → (ℕ → ℕ) → Type 0
AreApart n at = (i j : ℕ) → i < n → j < n → at i ≡ at j → i ≡ j

pub placed_through : (n : ℕ) (at : ℕ → ℕ) → AreApart n at → (qs : List ℕ) (ys : List Bool) →
    AllByRecursion (λ (q : ℕ). q < n) qs →
    (v : ℕ) → v < n → placed (map at qs) ys (at v) ≡ placed qs ys v
unfolding placed
placed_through n at apart [] ys below v lt = refl
placed_through n at apart (q ∷ qs) [] below v lt = refl
placed_through n at apart (q ∷ qs) (y ∷ ys) below v lt = elim (cases_eq v q) [
  | inl e ↦
      ap (λ (w : ℕ). replaced (placed (map at qs) ys) (at q) y (at w)) e
      ∙ replaced_same (placed (map at qs) ys) (at q) y
      ∙ sym (replaced_same (placed qs ys) q y)
      ∙ ap (replaced (placed qs ys) q y) (sym e)
  | inr ne ↦
      replaced_other (placed (map at qs) ys) (at q) y (at v)
      (λ e. ne (apart v q lt below.0 e))
      ∙ placed_through n at apart qs ys below.1 v lt
      ∙ sym (replaced_other (placed qs ys) q y v ne)
]

-- 0 at the numbers that are no places
pub placed_outside : (n : ℕ) (at : ℕ → ℕ) (qs : List ℕ) (ys : List Bool) →
    AllByRecursion (λ (q : ℕ). q < n) qs → (k : ℕ) → ((v : ℕ) → v < n → at v ≡ k → ⊥) →
    placed (map at qs) ys k ≡ false
unfolding placed
placed_outside n at [] ys below k none = refl
placed_outside n at (q ∷ qs) [] below k none = refl
placed_outside n at (q ∷ qs) (y ∷ ys) below k none =
    replaced_other (placed (map at qs) ys) (at q) y k (λ e. none q below.0 (sym e))
    ∙ placed_outside n at qs ys below.1 k none

module _ {E : Type 0} (ops : PhaseOps E) (laws : PhaseLaws ops) (mul : E → E → E)
    (ring : ProductLaws ops mul) where
  sum_nought : (n : ℕ) → sum_over_bits ops n (λ c. ops.nought) ≡ ops.nought
  unfolding sum_over_bits
  sum_nought zero = refl
  sum_nought (suc n) = ap₂ ops.add (sum_nought n) (sum_nought n) ∙ laws.add_nought ops.nought

  -- the terms of the lists whose first bit is that of the setting, and of those where it is not
  same_terms : (n : ℕ) (b : Bool) (z : Bits) (h : List Bool → E) → z 0 ≡ b →
      sum_over_bits ops n (λ c. mul (start ops (suc n) (bits_of (b ∷ c)) z) (h (b ∷ c)))
      ≡ sum_over_bits ops n (λ c. mul (start ops n (bits_of c) (λ k. z (suc k))) (h (b ∷ c)))
  unfolding start
  same_terms n b z h e =
      ap (sum_over_bits ops n)
      (fun_ext (λ c. ap (λ (t : Bool). mul (cond t ops.one ops.nought) (h (b ∷ c)))
      (agrees_up n (bits_of (b ∷ c)) z
      ∙ ap (λ (t : Bool). not (b ⊻ t) && agrees n (bits_of c) (λ k. z (suc k))) e
      ∙ same_bit b (agrees n (bits_of c) (λ k. z (suc k))))))
    where
      same_bit : (b t : Bool) → not (b ⊻ b) && t ≡ t
      same_bit b t = grind arith

  other_terms : (n : ℕ) (b : Bool) (z : Bits) (h : List Bool → E) → z 0 ≡ not b →
      sum_over_bits ops n (λ c. mul (start ops (suc n) (bits_of (b ∷ c)) z) (h (b ∷ c)))
      ≡ ops.nought
  unfolding start
  other_terms n b z h e =
      ap (sum_over_bits ops n)
      (fun_ext (λ c. ap (λ (t : Bool). mul (cond t ops.one ops.nought) (h (b ∷ c)))
      (agrees_up n (bits_of (b ∷ c)) z
      ∙ ap (λ (t : Bool). not (b ⊻ t) && agrees n (bits_of c) (λ k. z (suc k))) e
      ∙ other_bit b (agrees n (bits_of c) (λ k. z (suc k))))
      ∙ nought-product ops laws mul ring (h (b ∷ c))))
      ∙ sum_nought n
    where
      other_bit : (b t : Bool) → not (b ⊻ not b) && t ≡ false
      other_bit b t = grind arith

  both_terms : (n : ℕ) (b : Bool) (z : Bits) (h : List Bool → E) → z 0 ≡ b →
      ((g : List Bool → E) →
      sum_over_bits ops n (λ c. mul (start ops n (bits_of c) (λ k. z (suc k))) (g c))
      ≡ g (listed n (λ k. z (suc k)))) →
      ops.add
      (sum_over_bits ops n
      (λ c. mul (start ops (suc n) (bits_of (false ∷ c)) z) (h (false ∷ c))))
      (sum_over_bits ops n
      (λ c. mul (start ops (suc n) (bits_of (true ∷ c)) z) (h (true ∷ c))))
      ≡ h (listed (suc n) z)
  both_terms n false z h e rest =
      ap₂ ops.add
      (same_terms n false z h e ∙ rest (λ c. h (false ∷ c)))
      (other_terms n true z h e)
      ∙ laws.add_nought _
      ∙ ap (λ (b : Bool). h (b ∷ listed n (λ k. z (suc k)))) (sym e)
  both_terms n true z h e rest =
      ap₂ ops.add (other_terms n false z h e)
      (same_terms n true z h e ∙ rest (λ c. h (true ∷ c)))
      ∙ nought_left ops laws _
      ∙ ap (λ (b : Bool). h (b ∷ listed n (λ k. z (suc k)))) (sym e)

  -- of the terms of all lists that of the setting's bits is left
  pub picked : (n : ℕ) (z : Bits) (h : List Bool → E) →
      sum_over_bits ops n (λ c. mul (start ops n (bits_of c) z) (h c)) ≡ h (listed n z)
  unfolding sum_over_bits start
  picked zero z h = one-product ops laws mul ring (h [])
  picked (suc n) z h = both_terms n (z 0) z h refl (picked n (λ k. z (suc k)))
