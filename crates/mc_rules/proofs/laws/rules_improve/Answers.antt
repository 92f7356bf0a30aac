use Rattle.mc_rules.proofs.NearerUses.{passing_improves, settling_two_improves}
use Rattle.mc_rules.proofs.NearerUses.{settling_one_improves}
use Rattle.mc_rules.proofs.UsesLeft.{improvement_falls}
use Rattle.mc_rules.proofs.laws.rules_improve.Goals as goal

pub returns-clause-passing : goal.returns-clause-passing
returns-clause-passing c = passing_improves

pub returns-clause-two : goal.returns-clause-two
returns-clause-two c = settling_two_improves

pub returns-clause-one : goal.returns-clause-one
returns-clause-one c = settling_one_improves

pub returns-clause-end : goal.returns-clause-end
returns-clause-end c = improvement_falls
