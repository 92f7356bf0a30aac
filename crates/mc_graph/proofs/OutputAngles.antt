-- The outputs of an open graph are the vertices without a base angle.
use Rattle.std.proofs.Common.{◌≡◌, ℕ, ◌<◌, ◌*◌, Some, None, sym}
use Rattle.std.specs.Prelude.{is_none, Option, IfSome}
use Rattle.mc_model.specs.Graph.{OpenGraph, size, is_output, base_angle, IsOpenGraph}
use Rattle.mc_model.proofs.NumberLists.{member_once}
use Rattle.mc_graph.specs.Graphs.{IsGraph}

pub output_without_angle : (g : OpenGraph) (v : ℕ) → IsOpenGraph g → v < size g →
    is_none (base_angle g v) ≡ is_output g v
output_without_angle g v h l =
    sym (member_once g.outputs v (is_none (base_angle g v)) (h.outputs.once v l))

pub angle_within : (half : ℕ) (g : OpenGraph) (v : ℕ) (angle : Option ℕ) → IsGraph half g →
    base_angle g v ≡ angle → IfSome angle (λ a. a < 2 * half)
angle_within half g v None h e = tt
angle_within half g v (Some a) h e = h.angles v a e
