use Rattle.std.proofs.Common.{◌∙◌}
use Rattle.mc_model.specs.Bits.{◌⊻◌, parity}
use Rattle.std.specs.Prelude.{nat_eq}
use Rattle.mc_bits.specs.Rows.{bit_of}
use Rattle.mc_odd.proofs.FlippedBits.{flip_more, flips_end}
use Rattle.mc_odd.proofs.odd.flip_all.Goals as goal

pub listed-preserved : goal.listed-preserved
listed-preserved c = record {
  bits = λ v. flip_more (bit_of c.listed.bits v) (bit_of c.flip_if.new.self v)
      (bit_of c.args.bits.now v ⊻ parity c.args.listed.now (nat_eq v)) c.args.listed.now
      c.listed.v-index v c.listed-test.true (c.flip_if.ensures.bits v) (c.listed.invariant.bits v);
  length = c.flip_if.ensures.length ∙ c.listed.invariant.length;
}

pub returns-clause-bits : goal.returns-clause-bits
returns-clause-bits c = λ v.
    flips_end (bit_of c.listed.bits v)
    (bit_of c.args.bits.now v ⊻ parity c.args.listed.now (nat_eq v)) c.args.listed.now
    c.listed.v-index v c.listed-test.false (c.listed.invariant.bits v)
