use Rattle.mc_elim.specs.Units.{AreAnswers}
use Rattle.mc_elim.proofs.units.answers_of.Given as goal

abbrev pub invariant-rows : goal.invariant-rows
invariant-rows l = AreAnswers l.basis l.u l.answers.items
