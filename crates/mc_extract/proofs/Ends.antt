-- What holds when all vertices were passed: the current ones are the outputs, one on each wire.
use Rattle.std.proofs.Common.{◌≡◌, ℕ, ◌<◌, Bool, true, false, ◌&&◌, ◌||◌, not, map, List, [], ◌∷◌}
use Rattle.std.proofs.Common.{refl, sym, ◌∙◌, ap, ap₂}
use Rattle.std.specs.Prelude.{nat_eq, filter}
use Rattle.std.specs.List.{AllByRecursion}
use Rattle.std.proofs.lemmas.Bool.{cases_Bool, true≢false, false≢true, false_from_ne_true, or_cases}
use Rattle.std.proofs.lemmas.Bool.{or_right, eq-eqb}
use Rattle.std.proofs.lemmas.List.Elements.{recursion_from_All}
use mathlib.Core.Logic.{inl, inr}
use Rattle.mc_model.specs.Numbers.{is_member}
use Rattle.mc_model.specs.Pattern.{Gate}
use Rattle.mc_model.specs.Graph.{Edge, OpenGraph, size, is_output, IsOpenGraph}
use Rattle.mc_model.specs.Flow.{IsCausalFlow, single, depth_of}
use Rattle.mc_model.specs.Made.{measuring_order, is_first, is_current, wire_of, cz_gate}
use Rattle.mc_make.proofs.MeasuringOrder.{all-weaker}
use Rattle.mc_extract.proofs.Chains.{before_cases}
use Rattle.mc_extract.proofs.Passing.{IsPassed, nothing_passed, passed_on, next_to_pass, is_born}
use Rattle.mc_extract.proofs.Passing.{born_first, born_behind}
use Rattle.mc_extract.proofs.Wires.{IsSpread, spread_at_first, spread_on}

-- the gates of the edges between first vertices
abbrev pub first_gates : OpenGraph → (ℕ → ℕ) → List Edge → List Gate
first_gates g next es =
    map (λ e. cz_gate g next e.one e.other)
    (filter (λ e. is_first g next e.one && is_first g next e.other) es)

-- the vertices that were passed at the end, the last one first
unfoldable pub passed_all : List ℕ → List ℕ → List ℕ
passed_all done [] = done
passed_all done (i ∷ is) = passed_all (i ∷ done) is

-- ---- when all were passed

pub done_is_no_output : (g : OpenGraph) (layer : ℕ → ℕ) (done : List ℕ) (v : ℕ) → v < size g →
    IsPassed g layer done [] → is_member done v ≡ not (is_output g v)
done_is_no_output g layer done v l p = elim (cases_Bool (is_output g v)) [
  | inl e ↦
      false_from_ne_true (is_member done v)
      (λ m. true≢false (sym e ∙ (p.passed v m).0.no_output))
      ∙ sym (ap not e)
  | inr e ↦ elim (or_cases (is_member done v) false (p.all v l e)) [
    | inl m ↦ m ∙ sym (ap not e)
    | inr f ↦ absurd (false≢true f)
  ]
]

pub all_born : (g : OpenGraph) (next layer : ℕ → ℕ) (done : List ℕ) (v : ℕ) →
    IsPassed g layer done [] → is_born g next done v ≡ true
all_born g next layer done v p = elim (before_cases g next v) [
  | inl h ↦ born_first g next done v h.0
  | inr h ↦
      let q = h.2 in
      born_behind g next done h.0 v h.1
      ∙ done_is_no_output g layer done h.0 q.vertex p
      ∙ ap not q.no_output
]

-- the outputs are the vertices that are current at the end
pub current_at_end : (g : OpenGraph) (next layer : ℕ → ℕ) (done : List ℕ) (v : ℕ) → v < size g →
    IsPassed g layer done [] → is_current g next done v ≡ is_output g v
current_at_end g next layer done v l p =
    ap₂ (λ (a b : Bool). not a && b) (done_is_no_output g layer done v l p)
    (all_born g next layer done v p)
    ∙ not_not (is_output g v)
  where
    not_not : (b : Bool) → not (not b) && true ≡ b
    not_not true = refl
    not_not false = refl

-- ---- outputs

abbrev pub IsOut : OpenGraph → ℕ → Type 0
IsOut g k = (k < size g) × (is_output g k ≡ true)

listed_below : (n : ℕ) (qs : List ℕ) → AllByRecursion (λ q. q < n) qs →
    AllByRecursion (λ q. (q < n) × (is_member qs q ≡ true)) qs
listed_below n [] all = tt
listed_below n (q ∷ qs) all = (
  (all.0, ap (λ (t : Bool). t || is_member qs q) (eq-eqb q q refl)),
  all-weaker (λ k. (k < n) × (is_member qs k ≡ true))
      (λ k. (k < n) × (is_member (q ∷ qs) k ≡ true))
      (λ k h. (h.0, or_right (nat_eq k q) (is_member qs k) h.1)) qs
      (listed_below n qs all.1),
)

pub outputs_out : (g : OpenGraph) → IsOpenGraph g → AllByRecursion (IsOut g) g.outputs
outputs_out g valid =
    listed_below (size g) g.outputs
    (recursion_from_All (λ (q : ℕ). q < size g) g.outputs valid.outputs.below)

-- ---- the whole order

pub record IsAtEnd (g : OpenGraph) (next layer : ℕ → ℕ) (done : List ℕ) : Type 0 where
  pub passed : IsPassed g layer done []
  pub spread : IsSpread g next done

all_passed : (g : OpenGraph) (next layer : ℕ → ℕ) → IsCausalFlow g next layer →
    (is done : List ℕ) → IsPassed g layer done is → IsSpread g next done →
    IsAtEnd g next layer (passed_all done is)
unfolding passed_all
all_passed g next layer flow [] done p s = record { passed = p; spread = s }
all_passed g next layer flow (i ∷ is) done p s =
    all_passed g next layer flow is (i ∷ done) (passed_on g layer done i is p)
    (spread_on g next layer flow done i (next_to_pass g layer done i is p) s)

-- the vertices that are measured, the last one first
abbrev pub whole_order : OpenGraph → (ℕ → ℕ) → List ℕ
whole_order g layer = passed_all [] (measuring_order g layer (depth_of g layer))

pub at_end : (g : OpenGraph) (next layer : ℕ → ℕ) → IsCausalFlow g next layer →
    IsAtEnd g next layer (whole_order g layer)
at_end g next layer flow =
    all_passed g next layer flow (measuring_order g layer (depth_of g layer)) []
    (nothing_passed g (λ i. single (next i)) layer flow) (spread_at_first g next layer flow)

-- two outputs on one wire are the same
pub outputs_apart : (g : OpenGraph) (next layer : ℕ → ℕ) → IsCausalFlow g next layer →
    (k l : ℕ) → IsOut g k → IsOut g l → wire_of g next k ≡ wire_of g next l → k ≡ l
outputs_apart g next layer flow k l hk hl e =
    let done : List ℕ = whole_order g layer in
    let end = at_end g next layer flow in
    end.spread.apart k l hk.0 hl.0
    (current_at_end g next layer done k hk.0 end.passed ∙ hk.1)
    (current_at_end g next layer done l hl.0 end.passed ∙ hl.1) e
