use Rattle.std.proofs.Common.{length}
use Rattle.mc_run.proofs.place.+place_spelled.Given as goal

abbrev pub decreases-place_spelled : goal.decreases-place_spelled
decreases-place_spelled l = length l.qubits.now
