use Rattle.std.proofs.Common.{length}
use Rattle.mc_run.proofs.tree.+columns.Given as goal

abbrev pub decreases-columns : goal.decreases-columns
decreases-columns g l = length l.commands.now
