use Rattle.std.proofs.Common.{◌≡◌, false, take}
use Rattle.std.specs.List.{list_any}
use Rattle.mc_model.specs.Bits.{bits_of}
use Rattle.mc_pattern.specs.Rules.{is_undone}
use Rattle.mc_pattern.proofs.rules.has_unmarked.Given as goal

abbrev pub invariant-members : goal.invariant-members
invariant-members l = list_any (is_undone (bits_of l.marks)) (take l.i l.members) ≡ false
