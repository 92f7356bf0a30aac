use Rattle.std.proofs.Common.{◌≡◌, ◌++◌, map, take}
use Rattle.mc_pattern.specs.Commands.{plain_command}
use Rattle.mc_model.specs.Pattern.{Prep}
use Rattle.mc_standard.proofs.listing.add_preps.Given as goal

abbrev pub invariant-preps : goal.invariant-preps
invariant-preps g l =
    map (plain_command {h = g.row.H}) l.commands.items
    ≡ map (plain_command {h = g.row.H}) l.initial.commands.items ++ map Prep (take l.q-index l.preps)
