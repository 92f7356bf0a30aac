use Rattle.std.specs.Prelude.{◌≡◌, ◌&&◌, ℕ, not, length, take}
use Rattle.mc_model.specs.Numbers.{is_member}
use Rattle.mc_model.specs.Graph.{size, is_output}
use Rattle.mc_bits.specs.Rows.{bit_of}
use Rattle.mc_gflow.proofs.graph.column.Given as goal

abbrev pub invariant-neighbours : goal.invariant-neighbours
invariant-neighbours g l = record {
  bits : (v : ℕ) → bit_of l.column v
      ≡ (is_member (take l.v-index l.neighbours) v && not (is_output l.graph v));
  length : length l.column ≡ size l.graph;
}
