use Rattle.std.proofs.Common.{refl}
use Rattle.mc_model.specs.Derivation.{z_first, z_second, z_measured}
use Rattle.mc_model.specs.Pattern.{FixZ}
use Rattle.mc_pattern.specs.Commands.{plain_command}
use Rattle.mc_standard.proofs.PickedRules.{swaps, missed_z, missed_edge, missed_measure}
use Rattle.mc_standard.proofs.pick.pass_z.Goals as goal
use Rattle.mc_standard.proofs.pick.pass_z.Goals.{in_default-via-in-Ent-2+else-j-q}
use Rattle.mc_standard.proofs.pick.pass_z.Goals.{in_default-via-in-Meas+else-i-q-2}
use Rattle.mc_standard.proofs.pick.pass_z.Goals.{in_default-via-in_default}

pub returns-in-Ent : goal.returns-in-Ent
returns-in-Ent g c = rw (c.exchange.ensures.rule, c.exchange.ensures.change)
    (refl, λ may early. rw (c.in-Ent.is, c.if-i-q.true) z_first)

pub returns-in-Ent-2 : goal.returns-in-Ent-2
returns-in-Ent-2 g c = rw (c.exchange-in-Ent-2.ensures.rule, c.exchange-in-Ent-2.ensures.change)
    (refl, λ may early. rw (c.in-Ent-2.is, c.if-j-q.true) z_second)

pub returns-in_ok-sum-in-Meas : goal.returns-in_ok-sum-in-Meas
returns-in_ok-sum-in-Meas g c = (
  refl,
  λ may early. rw (
    c.in-Meas.is,
    c.if-i-q-2.true,
    c.in_ok-sum-in-Meas.ensures,
    c.in_ok-copy-in-Meas.ensures,
  ) z_measured,
)

pub returns-in_default : goal.returns-in_default
returns-in_default g c =
    swaps c.exchange-in_default.result (FixZ c.args.q c.args.r.now) (plain_command c.args.d.now)
    c.exchange-in_default.ensures.rule c.exchange-in_default.ensures.change (λ may early.
    elim c.in_default.branch [
      | in_default-via-in-Ent-2+else-j-q w ↦
          (missed_edge _ _ _ _ _ _ w.in-Ent.is w.in-Ent-2.is w.if-i-q.false w.if-j-q.false, tt)
      | in_default-via-in-Meas+else-i-q-2 w ↦
          (missed_measure _ _ _ _ _ _ w.in-Meas.is w.if-i-q-2.false, tt)
      | in_default-via-in_default w ↦ (
        missed_z c.args.q c.args.r.now c.args.d.now w.in_default.not-Ent w.in_default.not-Meas
            may early,
        tt,
      )
    ])
