use Rattle.std.proofs.Common.{◌≡◌, ℕ, List, ◌++◌, ◌∙◌, ap, arith, map}
use Rattle.std.specs.Prelude.{flat_map}
use mathlib.Core.Path.{subst}
use Rattle.mc_model.specs.Numbers.{numbers_from}
use Rattle.mc_model.specs.Pattern.{Command}
use Rattle.mc_model.specs.Graph.{size, Edge, entanglings}
use Rattle.mc_pattern.specs.Commands.{plain_command}
use Rattle.mc_graph.specs.Neighbours.{edges_up}
use Rattle.mc_graph.proofs.GraphCommands.{each_more}
use Rattle.mc_graph.proofs.EdgeLists.{entanglings_up}
use Rattle.mc_graph.proofs.parts.push_edges.Goals as goal

pub vertices-preserved : goal.vertices-preserved
vertices-preserved g c =
    each_more (λ v. entanglings (edges_up c.args.g.now v)) c.vertices.v
    (map (plain_command {h = g.row.H}) c.args.commands.now.items)
    (map (plain_command {h = g.row.H}) c.vertices.commands.items) c.vertices.invariant
    c.in_ok-push_edges_up.ensures

pub returns : goal.returns
returns g c =
    let over = c.vertices-test.false in
    let len = c.len-v-end.ensures.len in
    let most = c.vertices.auto.v-end in
    let all : c.vertices.v ≡ size c.args.g.now = omega arith in
    subst (λ (n : ℕ). map (plain_command {h = g.row.H}) c.vertices.commands.items
    ≡ map (plain_command {h = g.row.H}) c.args.commands.now.items
    ++ flat_map (λ v. entanglings (edges_up c.args.g.now v)) (numbers_from 0 n)) all
    c.vertices.invariant
    ∙ ap (λ (cs : List Command). map (plain_command {h = g.row.H}) c.args.commands.now.items ++ cs)
    (entanglings_up c.args.g.now (numbers_from 0 (size c.args.g.now))
    ∙ ap (λ (es : List Edge). entanglings es) c.edge_count-count.ensures.up)
