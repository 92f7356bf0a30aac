use Rattle.std.proofs.Common.{◌≡◌, map, drop, []}
use Rattle.mc_model.specs.Signals.{toggled_all}
use Rattle.mc_compose.specs.Placing.{placed_in_row}
use Rattle.mc_compose.proofs.placing.placed_set.Given as goal

abbrev pub invariant-members : goal.invariant-members
invariant-members l =
    l.placed ≡ toggled_all (map (placed_in_row l.inputs l.others) (drop l.i l.set)) []
