use Rattle.mc_model.specs.Bits.{bits_of}
use Rattle.mc_signal.proofs.Values.{parity_step, parity_end}
use Rattle.mc_signal.proofs.signal.parity_of.Goals as goal

pub members-preserved : goal.members-preserved
members-preserved c =
    parity_step c.members.sum c.get-sum.result _ c.args.members.now c.members.member-index
    (bits_of c.args.outcomes.now) c.members-test.true c.get-sum.ensures c.members.invariant

pub returns : goal.returns
returns c =
    parity_end c.members.sum _ c.args.members.now c.members.member-index
    (bits_of c.args.outcomes.now)
    c.members-test.false c.members.invariant
