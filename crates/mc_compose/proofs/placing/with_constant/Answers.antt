use Rattle.std.proofs.Common.{◌∙◌, refl}
use Rattle.mc_model.specs.Signals.{toggled_all}
use Rattle.mc_compose.proofs.placing.with_constant.Goals as goal

pub returns-then-constant : goal.returns-then-constant
unfolding toggled_all
returns-then-constant c =
    c.flip.ensures.signal ∙ rw (c.requires, c.if-constant.true) refl
