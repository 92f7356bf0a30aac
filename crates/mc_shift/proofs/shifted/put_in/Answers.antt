use Rattle.std.proofs.Common.{◌≤◌, length, arith}
use Rattle.std.proofs.lemmas.List.{take_all}
use Rattle.mc_shift.specs.Shifts.{signals_of}
use Rattle.mc_shift.proofs.PutIn.{sum_start, sum_more, sum_all, signal_read, next_member}
use Rattle.mc_shift.proofs.shifted.put_in.Goals as goal

pub members-init : goal.members-init
members-init c = record {
  rising = rw c.of-sum.ensures.sum c.of-sum.ensures.rising;
  same = λ o.
      sum_start (signals_of c.args.shifts.now) c.args.s.now c.of-sum.result c.of-sum.ensures.sum o;
}

pub members-preserved : goal.members-preserved
members-preserved c =
    let small = c.get.ensures.small in
    let long = c.requires in
    let read =
    signal_read c.args.shifts.now c.get.result c.index-shifts-get.result (omega arith)
    c.index-shifts-get.is in
    let next = next_member c.members-members.result.now c.members.i c.get.result c.get.ensures.member in
    record {
      rising = c.add_sum.ensures.rising;
      same = λ o.
          rw next
          (sum_more (signals_of c.args.shifts.now) c.args.s.now c.members.sum c.add_sum.new.self _
          c.get.result o (rw read at c.add_sum.ensures.sum) (c.members.invariant.same o));
    }

pub returns : goal.returns
returns c =
    let over = c.members-test.false in
    let end = c.len-i-end.ensures.len in
    let members = c.members-members.ensures.members in
    let past : length c.members-members.result.now ≤ c.members.i = omega arith in
    sum_all (signals_of c.args.shifts.now) c.args.s.now c.members.sum c.members.invariant.rising
    (rw (take_all _ _ past, members) at c.members.invariant.same)
