use Rattle.std.specs.Prelude.{◌≡◌, ◌<◌, ℕ, cond, slice_index}
use Rattle.mc_model.specs.Graph.{is_output}
use Rattle.mc_gflow.proofs.find.set_outputs.Given as goal

abbrev pub invariant-vertices : goal.invariant-vertices
invariant-vertices g l = (u : ℕ) → u < l.v →
    slice_index l.layers u ≡ cond (is_output l.graph u) 0 65535
