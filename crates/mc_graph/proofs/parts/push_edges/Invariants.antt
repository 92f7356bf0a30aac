use Rattle.std.proofs.Common.{◌≡◌, ◌++◌, map}
use Rattle.std.specs.Prelude.{flat_map}
use Rattle.mc_model.specs.Numbers.{numbers_from}
use Rattle.mc_model.specs.Graph.{entanglings}
use Rattle.mc_pattern.specs.Commands.{plain_command}
use Rattle.mc_graph.specs.Neighbours.{edges_up}
use Rattle.mc_graph.proofs.parts.push_edges.Given as goal

abbrev pub invariant-vertices : goal.invariant-vertices
invariant-vertices g l =
    map (plain_command {h = g.row.H}) l.commands.items
    ≡ map (plain_command {h = g.row.H}) l.initial.commands.items
    ++ flat_map (λ v. entanglings (edges_up l.g v)) (numbers_from 0 l.v)
