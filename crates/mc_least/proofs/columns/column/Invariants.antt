use Rattle.std.specs.Prelude.{◌≡◌, ◌&&◌, ℕ, length, take}
use Rattle.mc_model.specs.Numbers.{is_member}
use Rattle.mc_model.specs.Graph.{size}
use Rattle.mc_graph.specs.Flows.{layer_in}
use Rattle.mc_bits.specs.Rows.{bit_of}
use Rattle.mc_least.specs.Columns.{is_from}
use Rattle.mc_least.proofs.columns.column.Given as goal

abbrev pub invariant-neighbours : goal.invariant-neighbours
invariant-neighbours g l = record {
  bits : (v : ℕ) → bit_of l.column v ≡ (is_member (take l.v-index l.neighbours) v
      && (l.candidate && is_from l.g (layer_in l.f.rows) l.k v));
  length : length l.column ≡ size l.g;
}
