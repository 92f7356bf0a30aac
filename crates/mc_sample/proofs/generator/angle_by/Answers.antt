use Rattle.std.proofs.Common.{ℕ, ℤ, ◌<◌, ◌∙◌, ap, arith, w64}
use Rattle.std.proofs.lemmas.Int.{to_z_pos}
use Rattle.mc_angle.specs.Angle.{steps_of}
use Rattle.mc_sample.specs.Generator.{angle_by}
use Rattle.mc_sample.proofs.SmallNumbers.{small_steps}
use Rattle.mc_sample.proofs.generator.angle_by.Goals as goal

pub returns : goal.returns
returns c =
    let steps : ℕ = angle_by c.args.x in
    let within : steps < 9223372036854775808 = omega arith in
    c.of.ensures
    ∙ ap (λ (z : ℤ). steps_of 4 z) (to_z_pos w64 steps within)
    ∙ small_steps steps (omega arith)
