use Rattle.mc_model.specs.Derivation.{rank}
use Rattle.mc_rules.specs.UsesLeft.{uses_left}
use Rattle.mc_standard.proofs.tests.rewrite.Given as goal

abbrev pub decreases-loop : goal.decreases-loop
decreases-loop l = uses_left (rank l.rewriter.commands)
