use Rattle.mc_pattern.proofs.RuleLaws.{fits_by, by_fits}
use Rattle.mc_pattern.proofs.laws.rules_tell_what_fits.Goals as goal

pub returns : goal.returns
returns c = λ half p d begun no_prep typed. (
  λ e. fits_by half p.inputs p.commands _ d begun.qubits no_prep typed e,
  λ h. by_fits p.inputs p.commands _ d begun.qubits no_prep h,
)
