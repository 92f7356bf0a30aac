use Rattle.mc_rules.proofs.StandardReached.{improves_or_standard, standard_stays, standard_reached}
use Rattle.mc_rules.proofs.laws.steps_lead_to_standard.Goals as goal

pub returns : goal.returns
returns c = λ inputs cs v. (
  record { one_holds = improves_or_standard inputs cs v; not_both = standard_stays inputs cs v },
  standard_reached inputs cs v,
)
