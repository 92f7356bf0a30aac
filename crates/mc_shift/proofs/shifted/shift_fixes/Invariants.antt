use Rattle.std.proofs.Common.{map, take}
use Rattle.mc_model.specs.Shift.{change_of, IsShifted}
use Rattle.mc_standard.specs.Plain.{plain_fix}
use Rattle.mc_shift.proofs.shifted.shift_fixes.Given as goal

abbrev pub invariant-fixes : goal.invariant-fixes
invariant-fixes g l =
    IsShifted (change_of l.p.commands) (map plain_fix (take l.fix-index l.fix-items))
    (map plain_fix l.fixes.items)
