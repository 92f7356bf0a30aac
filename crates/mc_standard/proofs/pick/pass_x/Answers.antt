use Rattle.std.proofs.Common.{refl}
use Rattle.mc_model.specs.Derivation.{x_first, x_second, x_measured}
use Rattle.mc_model.specs.Pattern.{FixX}
use Rattle.mc_pattern.specs.Commands.{plain_command}
use Rattle.mc_standard.proofs.PickedRules.{swaps, missed_x, missed_edge, missed_measure}
use Rattle.mc_standard.proofs.pick.pass_x.Goals as goal
use Rattle.mc_standard.proofs.pick.pass_x.Goals.{in_default-via-in-Ent-2+else-j-q}
use Rattle.mc_standard.proofs.pick.pass_x.Goals.{in_default-via-in-Meas+else-i-q-2}
use Rattle.mc_standard.proofs.pick.pass_x.Goals.{in_default-via-in_default}

pub returns-in_ok-copy-in-Ent : goal.returns-in_ok-copy-in-Ent
returns-in_ok-copy-in-Ent g c = (
  refl,
  λ may early. rw (c.in-Ent.is, c.if-i-q.true, c.in_ok-copy-in-Ent.ensures) x_first,
)

pub returns-in_ok-copy-in-Ent-2 : goal.returns-in_ok-copy-in-Ent-2
returns-in_ok-copy-in-Ent-2 g c = (
  refl,
  λ may early. rw (c.in-Ent-2.is, c.if-j-q.true, c.in_ok-copy-in-Ent-2.ensures) x_second,
)

pub returns-in_ok-copy-in-Meas : goal.returns-in_ok-copy-in-Meas
returns-in_ok-copy-in-Meas g c = (
  refl,
  λ may early. rw (
    c.in-Meas.is,
    c.if-i-q-2.true,
    c.in_ok-sum-in-Meas.ensures,
    c.in_ok-copy-in-Meas.ensures,
  ) x_measured,
)

pub returns-in_default : goal.returns-in_default
returns-in_default g c =
    swaps c.exchange.result (FixX c.args.q c.args.r.now) (plain_command c.args.d.now)
    c.exchange.ensures.rule c.exchange.ensures.change (λ may early.
    elim c.in_default.branch [
      | in_default-via-in-Ent-2+else-j-q w ↦
          (missed_edge _ _ _ _ _ _ w.in-Ent.is w.in-Ent-2.is w.if-i-q.false w.if-j-q.false, tt)
      | in_default-via-in-Meas+else-i-q-2 w ↦
          (missed_measure _ _ _ _ _ _ w.in-Meas.is w.if-i-q-2.false, tt)
      | in_default-via-in_default w ↦ (
        missed_x c.args.q c.args.r.now c.args.d.now w.in_default.not-Ent w.in_default.not-Meas
            may early,
        tt,
      )
    ])
