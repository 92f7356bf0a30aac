use Rattle.std.proofs.Common.{◌≡◌, ◌++◌, map, take}
use Rattle.mc_pattern.specs.Commands.{plain_command}
use Rattle.mc_standard.specs.Plain.{plain_fix}
use Rattle.mc_standard.proofs.listing.add_fixes.Given as goal

abbrev pub invariant-fixes : goal.invariant-fixes
invariant-fixes g l =
    map (plain_command {h = g.row.H}) l.commands.items
    ≡ map (plain_command {h = g.row.H}) l.initial.commands.items ++ map plain_fix (take l.fix-index l.fixes)
