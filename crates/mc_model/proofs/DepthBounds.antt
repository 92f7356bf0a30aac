-- A bound of depth excludes every flow of lesser depth.
use Rattle.std.specs.Prelude.{◌≡◌, ◌⊎◌, ℕ, zero, suc, ◌+◌, ◌<◌, ◌≤◌, Bool, true, false, not}
use Rattle.std.specs.Prelude.{◌&&◌}
use Rattle.std.specs.Prelude.{refl, nat_le, List, [], ◌∷◌, map, max, fold}
use Rattle.std.proofs.Common.{arith, sym, ap, ap₂, ◌∙◌, inl, inr}
use Rattle.std.proofs.lemmas.Bool.{cases_eq, cases_lt, le-leb, leb-true, leb-false, false≢true}
use Rattle.mc_model.specs.Numbers.{numbers_from}
use Rattle.mc_model.specs.Bits.{Bits}
use Rattle.mc_model.specs.Graph.{OpenGraph, size, is_output}
use Rattle.mc_model.specs.Flow.{IsFlow, RefutesAt, depth_of}
use Rattle.mc_model.specs.Depth.{IsDepthBound}
use Rattle.mc_model.specs.Laws.{DepthBoundsHold}
use Rattle.mc_model.proofs.Refutation.{refuted_at}

-- ---- the greatest layer

fold_start : (a : ℕ) (xs : List ℕ) → a ≤ fold max a xs
fold_start a [] = omega arith
fold_start a (x ∷ xs) = let h = fold_start (max a x) xs in omega arith

fold_within : (layer : ℕ → ℕ) (a q n v : ℕ) → q ≤ v → v < q + n →
    layer v ≤ fold max a (map layer (numbers_from q n))
fold_within layer a q zero v low high = absurd (omega arith)
fold_within layer a q (suc n) v low high = elim (cases_eq v q) [
  | inl e ↦
      let s : layer v ≡ layer q = ap layer e in
      let h = fold_start (max a (layer q)) (map layer (numbers_from (suc q) n)) in
      omega arith
  | inr ne ↦ fold_within layer (max a (layer q)) (suc q) n v (omega arith) (omega arith)
]

pub within_depth : (g : OpenGraph) (layer : ℕ → ℕ) (v : ℕ) → v < size g →
    layer v ≤ depth_of g layer
within_depth g layer v l = fold_within layer 0 0 (size g) v (omega arith) (omega arith)

-- ---- a bound and a flow

-- the vertices of a stated layer of at least `k`, but for outputs
abbrev pub is_from : OpenGraph → (ℕ → ℕ) → ℕ → Bits
is_from g stated k v = not (is_output g v) && nat_le k (stated v)

is_from_holds : (o t : Bool) → not o && t ≡ true → (o ≡ false) × (t ≡ true)
is_from_holds false t e = (refl, e)
is_from_holds true t e = absurd (false≢true e)

pub from_parts : (g : OpenGraph) (stated : ℕ → ℕ) (k v : ℕ) → is_from g stated k v ≡ true →
    (is_output g v ≡ false) × (k ≤ stated v)
from_parts g stated k v e =
    let parts = is_from_holds (is_output g v) (nat_le k (stated v)) e in
    (parts.0, leb-true k (stated v) parts.1)

pub from_both : (g : OpenGraph) (stated : ℕ → ℕ) (k v : ℕ) → is_output g v ≡ false →
    k ≤ stated v → is_from g stated k v ≡ true
from_both g stated k v e l =
    ap₂ (λ (o t : Bool). not o && t) e (le-leb k (stated v) l)

pub from_not : (g : OpenGraph) (stated : ℕ → ℕ) (k v : ℕ) → is_from g stated k v ≡ false →
    (is_output g v ≡ true) ⊎ (stated v < k)
from_not g stated k v e = by (is_output g v) refl
  where
    by : (b : Bool) → is_output g v ≡ b → (is_output g v ≡ true) ⊎ (stated v < k)
    by true o = inl o
    by false o =
        inr (leb-false k (stated v)
        (sym (ap (λ (b : Bool). not b && nat_le k (stated v)) o) ∙ e))

record Against (g : OpenGraph) (d : ℕ) (stated : ℕ → ℕ) (y : ℕ → ℕ → Bits) (sets : ℕ → Bits)
    (layer : ℕ → ℕ) : Type 0 where
  bound : IsDepthBound g d stated y
  flow : IsFlow g sets layer

refutes_at : (g : OpenGraph) (d : ℕ) (stated : ℕ → ℕ) (y : ℕ → ℕ → Bits) →
    IsDepthBound g d stated y → (k u : ℕ) → 1 ≤ k → k < stated u → u < size g →
    is_output g u ≡ false → RefutesAt g (is_from g stated k) (y k u) u
refutes_at g d stated y b k u one low l out = record {
  holds = b.holds k u one low l out;
  within = λ v i e.
      let h = b.within k u v one low l out i e in from_both g stated k v h.0 h.1;
  even = λ w i free outside.
      b.even k u w one low l out i free (from_not g stated k w outside);
}

-- a vertex of a stated layer above `k` has a layer above `k`
above : (g : OpenGraph) (d : ℕ) (stated : ℕ → ℕ) (y : ℕ → ℕ → Bits) (sets : ℕ → Bits)
    (layer : ℕ → ℕ) → Against g d stated y sets layer → (k u : ℕ) → u < size g →
    is_output g u ≡ false → k < stated u → k < layer u
above g d stated y sets layer a zero u l out low = (a.flow).positive u l out
above g d stated y sets layer a (suc k) u l out low = elim (cases_lt (suc k) (layer u)) [
  | inl h ↦ h
  | inr h ↦
      absurd (refuted_at g (is_from g stated (suc k)) (y (suc k) u) (sets u) layer u l
      ((a.flow).corrects u l out)
      (refutes_at g d stated y a.bound (suc k) u (omega arith) low l out)
      (λ v i m. earlier v i (omega arith) (is_from g stated (suc k) v) refl
      (above g d stated y sets layer a k v i)))
]
  where
    earlier : (v : ℕ) → v < size g → layer v < suc k → (b : Bool) →
        is_from g stated (suc k) v ≡ b →
        (is_output g v ≡ false → k < stated v → k < layer v) → is_from g stated (suc k) v ≡ false
    earlier v i m false e rest = e
    earlier v i m true e rest =
        let parts = from_parts g stated (suc k) v e in
        let low = parts.1 in
        let h = rest parts.0 (omega arith) in
        absurd (omega arith)

at_least : (g : OpenGraph) (d : ℕ) (stated : ℕ → ℕ) (y : ℕ → ℕ → Bits) (sets : ℕ → Bits)
    (layer : ℕ → ℕ) → Against g d stated y sets layer → (u : ℕ) → u < size g →
    is_output g u ≡ false → (k : ℕ) → stated u ≡ k → stated u ≤ layer u
at_least g d stated y sets layer a u l out zero e = omega arith
at_least g d stated y sets layer a u l out (suc k) e =
    let h = above g d stated y sets layer a k u l out (omega arith) in omega arith

pub bounds_hold : DepthBoundsHold
bounds_hold g d stated y b sets layer f =
    let a : Against g d stated y sets layer = record { bound = b; flow = f } in (
      λ v l out. at_least g d stated y sets layer a v l out (stated v) refl,
      elim b.reached [
        | inl none ↦ omega arith
        | inr top ↦
            let same = top.3 in
            let h = at_least g d stated y sets layer a top.0 top.1 top.2 (stated top.0) refl in
            let high = within_depth g layer top.0 top.1 in
            omega arith
      ],
    )
