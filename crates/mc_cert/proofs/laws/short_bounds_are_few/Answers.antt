use Rattle.mc_cert.proofs.FewSets.{short_bounds_fit}
use Rattle.mc_cert.proofs.laws.short_bounds_are_few.Goals as goal

pub returns : goal.returns
returns c = short_bounds_fit
