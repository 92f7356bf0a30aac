use Rattle.std.proofs.Common.{◌≡◌, ◌++◌, map}
use Rattle.std.specs.Prelude.{flat_map}
use Rattle.mc_model.specs.Numbers.{numbers_from}
use Rattle.mc_model.specs.Graph.{corrections_at}
use Rattle.mc_pattern.specs.Commands.{plain_command}
use Rattle.mc_graph.proofs.parts.push_corrections.Given as goal

abbrev pub invariant-vertices : goal.invariant-vertices
invariant-vertices g l =
    map (plain_command {h = g.row.H}) l.commands.items
    ≡ map (plain_command {h = g.row.H}) l.initial.commands.items
    ++ flat_map (corrections_at l.g) (numbers_from 0 l.v)
