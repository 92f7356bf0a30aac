use Rattle.std.proofs.Common.{◌≡◌, ◌-◌, ◌++◌, map}
use Rattle.mc_model.specs.Translation.{preparations}
use Rattle.mc_pattern.specs.Commands.{plain_command}
use Rattle.mc_graph.proofs.parts.push_preparations.Given as goal

abbrev pub invariant-vertices : goal.invariant-vertices
invariant-vertices g l =
    map (plain_command {h = g.row.H}) l.commands.items
    ≡ map (plain_command {h = g.row.H}) l.initial.commands.items
    ++ preparations l.g.inputs (l.v - l.g.inputs)
