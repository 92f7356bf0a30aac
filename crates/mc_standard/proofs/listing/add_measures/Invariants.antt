use Rattle.std.proofs.Common.{◌≡◌, ◌++◌, map, take}
use Rattle.mc_pattern.specs.Commands.{plain_command}
use Rattle.mc_standard.specs.Plain.{plain_measure}
use Rattle.mc_standard.proofs.listing.add_measures.Given as goal

abbrev pub invariant-measures : goal.invariant-measures
invariant-measures g l =
    map (plain_command {h = g.row.H}) l.commands.items
    ≡ map (plain_command {h = g.row.H}) l.initial.commands.items
    ++ map (plain_measure {h = g.row.H}) (take l.measure-index l.measures)
