-- There is at most one chosen causal flow, and at most one chosen stuck set.
use Rattle.std.proofs.Common.{◌≡◌, ℕ, ◌<◌, ◌≤◌, Bool, true, false, refl, sym, arith}
use Rattle.mc_model.specs.Bits.{Bits}
use Rattle.mc_model.specs.Graph.{OpenGraph, size, is_output}
use Rattle.mc_model.specs.Choice.{IsChosenCausalFlow, IsChosenStuckSet}
use Rattle.mc_extract.proofs.FinderLemmas.{corrects_same}

no_lower : (g : OpenGraph) (next layer next' layer' : ℕ → ℕ) → IsChosenCausalFlow g next layer →
    IsChosenCausalFlow g next' layer' → (v : ℕ) → v < size g → layer v ≤ layer' v
no_lower g next layer next' layer' c d v l =
    let other = d.least_layers v l in
    let reached = other.reached in
    let least = (c.least_layers v l).least other.next other.layer other.flow in
    omega arith

pub same_layers : (g : OpenGraph) (next layer next' layer' : ℕ → ℕ) →
    IsChosenCausalFlow g next layer → IsChosenCausalFlow g next' layer' →
    (v : ℕ) → v < size g → layer v ≡ layer' v
same_layers g next layer next' layer' c d v l =
    let a = no_lower g next layer next' layer' c d v l in
    let b = no_lower g next' layer' next layer d c v l in
    omega arith

pub same_nexts : (g : OpenGraph) (next layer next' layer' : ℕ → ℕ) →
    IsChosenCausalFlow g next layer → IsChosenCausalFlow g next' layer' →
    (u : ℕ) → u < size g → is_output g u ≡ false → next u ≡ next' u
same_nexts g next layer next' layer' c d u l out =
    let a = c.least u (next' u) l out
    (corrects_same g layer' layer (same_layers g next' layer' next layer d c) u (next' u) l
    (d.corrects u l out)) in
    let b = d.least u (next u) l out
    (corrects_same g layer layer' (same_layers g next layer next' layer' c d) u (next u) l
    (c.corrects u l out)) in
    omega arith

both_ways : (a b : Bool) → (a ≡ true → b ≡ true) → (b ≡ true → a ≡ true) → a ≡ b
both_ways true b h k = sym (h refl)
both_ways false true h k = k refl
both_ways false false h k = refl

pub same_stuck_sets : (g : OpenGraph) (B C : Bits) → IsChosenStuckSet g B →
    IsChosenStuckSet g C → (v : ℕ) → v < size g → B v ≡ C v
same_stuck_sets g B C b c v l =
    both_ways (B v) (C v) (c.greatest B b.stuck v l) (b.greatest C c.stuck v l)

pub chosen_once : (g : OpenGraph) (next layer next' layer' : ℕ → ℕ) →
    IsChosenCausalFlow g next layer → IsChosenCausalFlow g next' layer' →
    ((v : ℕ) → v < size g → layer v ≡ layer' v)
    × ((u : ℕ) → u < size g → is_output g u ≡ false → next u ≡ next' u)
chosen_once g next layer next' layer' c d = (
  same_layers g next layer next' layer' c d,
  same_nexts g next layer next' layer' c d,
)
