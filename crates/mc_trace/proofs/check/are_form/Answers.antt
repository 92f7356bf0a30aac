use Rattle.std.proofs.Common.{◌∙◌, ap}
use Rattle.mc_model.specs.Pattern.{Pattern}
use Rattle.mc_model.specs.StandardForm.{standard_form}
use Rattle.mc_trace.proofs.check.are_form.Goals as goal

pub returns : goal.returns
unfolding standard_form
returns g c =
    let form = c.commands.ensures ∙ ap (λ (p : Pattern). p.commands)
    (c.in_ok-form.ensures ∙ c.in_ok-standardise.ensures.form) in
    rw form at c.are_same.ensures
