use Rattle.std.proofs.Common.{◌≡◌, map, take, length}
use Rattle.mc_model.specs.Shift.{change_of}
use Rattle.mc_standard.specs.Plain.{plain_measure}
use Rattle.mc_shift.specs.Shifts.{signals_of}
use Rattle.mc_shift.proofs.Halfway.{IsHalfway}
use Rattle.mc_shift.proofs.shifted.shift_measures.Given as goal

abbrev pub invariant-measures : goal.invariant-measures
invariant-measures g l =
    (length l.shifts ≡ 256)
    × IsHalfway (change_of l.p.commands)
    (map (plain_measure {h = g.row.H}) (take l.measure-index l.measure-items))
    (map (plain_measure {h = g.row.H}) l.measures.items) (signals_of l.shifts) l.change
