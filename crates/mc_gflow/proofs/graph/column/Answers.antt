use Rattle.std.specs.Prelude.{not}
use Rattle.std.proofs.Common.{ap, ◌∙◌}
use Rattle.mc_model.specs.Graph.{size, is_output}
use Rattle.mc_bits.specs.Rows.{bit_of}
use Rattle.mc_gflow.proofs.NeighbourColumns.{neighbour_more, all_neighbours}
use Rattle.mc_gflow.proofs.graph.column.Goals as goal

pub neighbours-preserved : goal.neighbours-preserved
neighbours-preserved g c = record {
  bits = neighbour_more c.neighbours-neighbours.result.now c.neighbours.v-index
      (λ v. not (is_output c.args.graph.now v)) (bit_of c.neighbours.column)
      (bit_of c.flip_if.new.self) (not c.is_output.result)
      c.neighbours-neighbours.ensures.rising c.neighbours-test.true
      (ap not c.is_output.ensures) c.neighbours.invariant.bits c.flip_if.ensures.bits;
  length = c.flip_if.ensures.length ∙ c.neighbours.invariant.length;
}

pub returns-clause-bits : goal.returns-clause-bits
returns-clause-bits g c v vn =
    all_neighbours c.args.graph.now.edges (size c.args.graph.now) c.args.w c.neighbours.v-index v
    c.neighbours-neighbours.result.now (not (is_output c.args.graph.now v))
    (bit_of c.neighbours.column v) c.neighbours-neighbours.ensures.row
    c.neighbours-test.false vn (c.neighbours.invariant.bits v)
