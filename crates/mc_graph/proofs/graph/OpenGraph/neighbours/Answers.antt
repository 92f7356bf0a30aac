use Rattle.std.proofs.Common.{[], sym, ◌∙◌, arith}
use Rattle.std.proofs.lemmas.List.{length-map}
use Rattle.mc_model.specs.Graph.{OpenGraph, size, joins}
use Rattle.mc_graph.proofs.ListedNumbers.{numbers_where-rise, numbers_where-below}
use Rattle.mc_graph.proofs.MappedReads.{read_mapped}
use Rattle.mc_graph.proofs.graph.OpenGraph.neighbours.Goals as goal

pub returns-clause-row : goal.returns-clause-row
returns-clause-row g c =
    let rows = c.self.inside.rows.items in
    let long = c.self.invariant.long in
    let many = length-map rows (λ r. r.items) in
    let within = rw (← c.self.view_is) at c.requires in
    rw (← c.self.view_is)
    (c.as_slice.ensures.value
    ∙ sym (read_mapped (λ r. r.items) rows c.args.v c.index.result.now [] (omega arith)
    c.index.ensures)
    ∙ c.self.invariant.each c.args.v within)

pub returns-clause-rising : goal.returns-clause-rising
returns-clause-rising g c =
    let open_graph : OpenGraph = c.args.self.now in
    rw (returns-clause-row g c)
    (numbers_where-rise (joins open_graph.edges c.args.v) (size open_graph))

pub returns-clause-below : goal.returns-clause-below
returns-clause-below g c =
    let open_graph : OpenGraph = c.args.self.now in
    rw (returns-clause-row g c)
    (numbers_where-below (joins open_graph.edges c.args.v) (size open_graph))
