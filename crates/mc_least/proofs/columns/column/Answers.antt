use Rattle.std.specs.Prelude.{◌&&◌, Bool}
use Rattle.std.proofs.Common.{ap, ◌∙◌}
use Rattle.mc_model.specs.Bits.{Bits}
use Rattle.mc_model.specs.Graph.{size, joins}
use Rattle.mc_graph.specs.Flows.{layer_in}
use Rattle.mc_bits.specs.Rows.{bit_of}
use Rattle.mc_gflow.proofs.NeighbourColumns.{neighbour_more, all_neighbours}
use Rattle.mc_least.specs.Columns.{is_from}
use Rattle.mc_least.proofs.columns.column.Goals as goal

pub neighbours-preserved : goal.neighbours-preserved
neighbours-preserved g c =
    let from = is_from c.args.g.now (layer_in c.args.f.now.rows) c.args.k in
    record {
      bits = neighbour_more c.neighbours-neighbours.result.now c.neighbours.v-index
          (λ v. c.is_candidate-candidate.result && from v)
          (bit_of c.neighbours.column) (bit_of c.flip_if.new.self) c.is_kept.result
          c.neighbours-neighbours.ensures.rising c.neighbours-test.true c.is_kept.ensures
          c.neighbours.invariant.bits c.flip_if.ensures.bits;
      length = c.flip_if.ensures.length ∙ c.neighbours.invariant.length;
    }

pub returns-clause-bits : goal.returns-clause-bits
returns-clause-bits g c v vn =
    let graph = c.args.g.now in
    let from : Bits = is_from graph (layer_in c.args.f.now.rows) c.args.k in
    all_neighbours graph.edges (size graph) c.args.w c.neighbours.v-index v
    c.neighbours-neighbours.result.now (c.is_candidate-candidate.result && from v)
    (bit_of c.neighbours.column v) c.neighbours-neighbours.ensures.row
    c.neighbours-test.false vn (c.neighbours.invariant.bits v)
    ∙ ap (λ (b : Bool). joins graph.edges v c.args.w && (b && from v))
    c.is_candidate-candidate.ensures
