use Rattle.std.proofs.Common.{◌≡◌, ℕ, List, ◌∙◌, ap, length, count_by, refl, arith}
use Rattle.std.specs.Prelude.{flat_map, nat_lt}
use Rattle.mc_model.specs.Numbers.{numbers_from}
use Rattle.mc_model.specs.Graph.{size}
use Rattle.mc_graph.specs.Neighbours.{edges_up}
use Rattle.mc_graph.proofs.EdgeLists.{edges_by_rows, count_more, few_neighbours, count_within}
use Rattle.mc_graph.proofs.graph.OpenGraph.edge_count.Goals as goal

pub count_above-count-requires : goal.count_above-count-requires
count_above-count-requires g c =
    rw c.neighbours.ensures.row
    (few_neighbours c.args.self.now c.vertices.v c.len-v-end.ensures.valid.open_graph)

pub overflow_add-count : goal.overflow_add-count
overflow_add-count g c =
    let long =
    few_neighbours c.args.self.now c.vertices.v c.len-v-end.ensures.valid.open_graph in
    let row = c.neighbours.ensures.row in
    let one = count_within c.vertices.v c.neighbours.result.now (rw row long) in
    let here = c.count_above-count.ensures in
    let so_far = c.vertices.invariant.1 in
    let within = c.vertices-test.true in
    let end = c.len-v-end.ensures.len in
    let few = c.len-v-end.ensures.valid.open_graph.names.few in
    omega arith

pub vertices-preserved : goal.vertices-preserved
vertices-preserved g c =
    let long =
    few_neighbours c.args.self.now c.vertices.v c.len-v-end.ensures.valid.open_graph in
    let row = c.neighbours.ensures.row in
    let one = count_within c.vertices.v c.neighbours.result.now (rw row long) in
    let here = c.count_above-count.ensures in
    let so_far = c.vertices.invariant.1 in (
      count_more c.args.self.now c.vertices.v c.vertices.count c.count_above-count.result
          c.vertices.invariant.0
          (here ∙ ap (λ (ws : List ℕ). count_by (nat_lt c.vertices.v) ws) row),
      omega arith,
    )

pub returns-clause-up : goal.returns-clause-up
returns-clause-up g c =
    rw (← c.self.view_is) (edges_by_rows _ _ _ c.self.invariant refl)

pub returns-clause-count : goal.returns-clause-count
returns-clause-count g c =
    let over = c.vertices-test.false in
    let most = c.vertices.auto.v-end in
    let len = c.len-v-end.ensures.len in
    let all : c.vertices.v ≡ size c.args.self.now = omega arith in
    c.vertices.invariant.0
    ∙ ap (λ (n : ℕ). length (flat_map (edges_up c.args.self.now) (numbers_from 0 n))) all
    ∙ ap length (returns-clause-up g c)
