use Rattle.mc_derivations.proofs.StepCosts.{derivations_short, places_small}
use Rattle.mc_derivations.proofs.laws.derivations_stay_short.Goals as goal

pub returns-clause-lists : goal.returns-clause-lists
returns-clause-lists c = derivations_short

pub returns-clause-places : goal.returns-clause-places
returns-clause-places c = places_small
