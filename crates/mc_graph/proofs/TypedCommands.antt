-- The commands of a graph have angles of less than a turn, and signals that are sets.
use Rattle.std.proofs.Common.{◌≡◌, ℕ, zero, suc, ◌*◌, ◌<◌, Bool, true, false, cond, map, List, []}
use Rattle.std.proofs.Common.{◌∷◌, ◌++◌, ◌-◌, ◌≤◌, length, refl, sym, ap, arith, append_assoc}
use Rattle.std.specs.Prelude.{not, flat_map, Option, Some, None, unwrap_or}
use mathlib.Core.Path.{subst}
use Rattle.mc_model.specs.Limits.{most_commands}
use Rattle.mc_model.specs.Numbers.{numbers_from, numbers_where}
use Rattle.mc_model.specs.Signals.{one_signal}
use Rattle.mc_model.specs.Pattern.{Command, FixX, FixZ, Pattern}
use Rattle.mc_model.specs.Valid.{IsValidPattern}
use Rattle.mc_model.specs.Translation.{preparations}
use Rattle.mc_model.specs.Graph.{OpenGraph, size, Edge, is_output, base_angle, entanglings}
use Rattle.mc_model.specs.Graph.{graph_state, bare_measurement, fixed_at, corrections_at}
use Rattle.mc_model.specs.Graph.{fixed_corrections, zero_pattern}
use Rattle.mc_model.proofs.StepLemmas.{permitted_positive}
use Rattle.mc_pattern.specs.Typed.{AllTyped}
use Rattle.mc_pattern.specs.Patterns.{IsPattern}
use Rattle.mc_graph.specs.Graphs.{IsGraph}
use Rattle.mc_graph.specs.Patterns.{pattern_with}
use Rattle.mc_graph.proofs.FollowingCommands.{zero_patterns_valid}
use Rattle.mc_graph.proofs.GraphSizes.{zero_pattern_fits}

pub typed-append : (half : ℕ) (cs ds : List Command) → AllTyped half cs → AllTyped half ds →
    AllTyped half (cs ++ ds)
typed-append half [] ds a b = b
typed-append half (c ∷ cs) ds a b = (a.0, typed-append half cs ds a.1 b)

typed-preparations : (half q n : ℕ) → AllTyped half (preparations q n)
unfolding preparations
typed-preparations half q zero = tt
typed-preparations half q (suc n) = (tt, typed-preparations half (suc q) n)

typed-edges : (half : ℕ) (es : List Edge) → AllTyped half (entanglings es)
typed-edges half [] = tt
typed-edges half (e ∷ es) = (tt, typed-edges half es)

pub typed-state : (half : ℕ) (g : OpenGraph) → AllTyped half (graph_state g)
typed-state half g =
    let early : List Command = preparations g.inputs (size g - g.inputs) in
    typed-append half early (entanglings g.edges)
    (typed-preparations half g.inputs (size g - g.inputs)) (typed-edges half g.edges)

angle_low : (half : ℕ) (angle : Option ℕ) → 0 < half →
    ((a : ℕ) → angle ≡ Some a → a < 2 * half) → unwrap_or angle 0 < 2 * half
angle_low half None positive h = omega arith
angle_low half (Some a) positive h = h a refl

-- the angle of a measurement
pub base_low : (half : ℕ) (g : OpenGraph) (v : ℕ) → IsGraph half g →
    unwrap_or (base_angle g v) 0 < 2 * half
base_low half g v graph =
    angle_low half (base_angle g v) (permitted_positive half graph.permitted) (graph.angles v)

typed-bare : (half : ℕ) (g : OpenGraph) (vs : List ℕ) → IsGraph half g →
    AllTyped half (map (bare_measurement g) vs)
typed-bare half g [] graph = tt
typed-bare half g (v ∷ vs) graph = ((base_low half g v graph, tt, tt), typed-bare half g vs graph)

typed-told : (half : ℕ) (told : Bool) (c : Command) → AllTyped half (c ∷ []) →
    AllTyped half (cond told (c ∷ []) [])
typed-told half true c h = h
typed-told half false c h = tt

typed-corrections : (half : ℕ) (g : OpenGraph) (vs : List ℕ) →
    AllTyped half (flat_map (corrections_at g) vs)
typed-corrections half g [] = tt
typed-corrections half g (v ∷ vs) =
    let x : List Command = cond (fixed_at g v).x (FixX v one_signal ∷ []) [] in
    let z : List Command = cond (fixed_at g v).z (FixZ v one_signal ∷ []) [] in
    typed-append half (x ++ z) (flat_map (corrections_at g) vs)
    (typed-append half x z
    (typed-told half (fixed_at g v).x (FixX v one_signal) (tt, tt))
    (typed-told half (fixed_at g v).z (FixZ v one_signal) (tt, tt)))
    (typed-corrections half g vs)

pub typed-fixed : (half : ℕ) (g : OpenGraph) → AllTyped half (fixed_corrections g)
unfolding fixed_corrections
typed-fixed half g = typed-corrections half g (numbers_from 0 (size g))

-- ---- the pattern without a flow

abbrev pub measured_state : OpenGraph → List Command
measured_state g =
    graph_state g
    ++ map (bare_measurement g) (numbers_where (λ v. not (is_output g v)) (size g))

pub zero_is : (g : OpenGraph) → pattern_with g (measured_state g) ≡ zero_pattern g
unfolding zero_pattern
zero_is g =
    let bare : List Command =
    map (bare_measurement g) (numbers_where (λ v. not (is_output g v)) (size g)) in
    ap (λ (cs : List Command). record {
      names = g.names;
      inputs = g.inputs;
      outputs = g.outputs;
      commands = cs;
    }) (append_assoc (graph_state g) bare (fixed_corrections g))

pub zero_is_pattern : (half : ℕ) (g : OpenGraph) → IsGraph half g →
    IsPattern half (pattern_with g (measured_state g))
zero_is_pattern half g graph =
    let valid = graph.open_graph in
    let bare : List Command =
    map (bare_measurement g) (numbers_where (λ v. not (is_output g v)) (size g)) in
    let typed : AllTyped half (measured_state g ++ fixed_corrections g) =
    typed-append half (measured_state g) (fixed_corrections g)
    (typed-append half (graph_state g) bare (typed-state half g)
    (typed-bare half g (numbers_where (λ v. not (is_output g v)) (size g)) graph))
    (typed-fixed half g) in
    record {
      permitted = graph.permitted;
      valid = subst IsValidPattern (sym (zero_is g)) (zero_patterns_valid g valid);
      few = subst (λ (p : Pattern). length p.commands ≤ most_commands) (sym (zero_is g))
          (zero_pattern_fits g valid);
      typed = typed;
    }
