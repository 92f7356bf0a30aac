use Rattle.std.proofs.Common.{◌∙◌, refl, arith}
use Rattle.mc_run_text.proofs.WrittenLines.{digits_step}
use Rattle.mc_run_text.proofs.bits.push_digits.Goals as goal

pub digits-preserved : goal.digits-preserved
digits-preserved c = record {
  within = omega (arith, c.digits.invariant.within);
  same =
      digits_step c.digits.text.items c.push_bit.new.text.items c.digits.left c.args.number _
      (omega (arith, c.digits-test.true)) refl c.in_ok-push_bit.ensures
      ∙ c.digits.invariant.same;
}
