use Rattle.mc_pattern.proofs.RuleLaws.{lists_by, by_lists}
use Rattle.mc_pattern.proofs.laws.rules_tell_outputs.Goals as goal

pub returns : goal.returns
returns c = λ p qs. (λ e. lists_by _ _ qs e, λ h. by_lists _ _ qs h)
