use Rattle.std.proofs.Common.{arith, ◌≤◌, length}
use Rattle.mc_bits.specs.Words.{word_bit}
use Rattle.mc_signal.proofs.Members.{flipped_more, flipped_all}
use Rattle.mc_standard.proofs.sum.flip_all.Goals as goal

pub members-preserved : goal.members-preserved
members-preserved c = λ k.
    flipped_more c.args.set.now c.members.i c.get.result k (word_bit c.members.words k)
    (word_bit c.flip.new.words k) _ c.len-i-end.ensures.rising c.get.ensures.member
    (c.flip.ensures k) (c.members.invariant k)

pub returns-clause-bits : goal.returns-clause-bits
returns-clause-bits c = λ k.
    let long = c.len-i-end.ensures.len in
    let over = c.members-test.false in
    let past : length c.args.set.now ≤ c.members.i = omega arith in
    flipped_all c.args.set.now c.members.i k (word_bit c.members.words k) _ past
    (c.members.invariant k)
