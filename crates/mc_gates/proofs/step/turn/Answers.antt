use Rattle.std.proofs.Common.{ℤ, ◌<◌, ◌∙◌, ap, arith, w64}
use Rattle.std.proofs.lemmas.Int.{to_z_pos}
use Rattle.mc_angle.specs.Angle.{steps_of}
use Rattle.mc_gates.proofs.Eighths.{small_steps}
use Rattle.mc_gates.proofs.step.turn.Goals as goal

pub returns : goal.returns
returns c =
    let few = c.requires in
    let within : c.args.steps < 9223372036854775808 = omega arith in
    c.of.ensures
    ∙ ap (λ (z : ℤ). steps_of 4 z) (to_z_pos w64 c.args.steps within)
    ∙ small_steps c.args.steps few
