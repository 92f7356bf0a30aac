use Rattle.std.proofs.Common.{◌≡◌, ℕ, [], subst, arith}
use Rattle.mc_standard.specs.Sums.{HasBelow}
use Rattle.mc_standard.proofs.SumBits.{has_none, has_more, has_next}
use Rattle.mc_standard.proofs.sum.members_of.Goals as goal

pub members-init : goal.members-init
members-init c =
    let words = c.args.words.now in
    let next = c.next_one-q.ensures in
    record {
      within = next.within;
      one = next.one;
      below =
          rw c.new-set.ensures (has_next words [] 0 256 c.next_one-q.result (has_none words) next);
    }

pub members-preserved : goal.members-preserved
members-preserved c =
    let words = c.args.words.now in
    let next = c.next_one-q-in-members.ensures in
    let more = c.toggle.new.self in
    record {
      within = next.within;
      one = next.one;
      below =
          has_next words more _ 256 _
          (has_more words c.members.set more c.members.q c.members.invariant.below
          (c.members.invariant.one c.members-test.true) c.in_ok-toggle.ensures.members)
          next;
    }

pub returns : goal.returns
returns c =
    let within = c.members.invariant.within in
    let over = c.members-test.false in
    let whole : c.members.q ≡ 256 = omega arith in
    subst (λ (n : ℕ). HasBelow c.args.words.now n c.members.set) whole c.members.invariant.below
