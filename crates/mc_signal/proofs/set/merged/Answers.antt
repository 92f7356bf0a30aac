use Rattle.std.proofs.Common.{◌≡◌, ◌<◌, ◌≤◌, get_or, length, inl, inr, arith, Less, Equal, Greater}
use Rattle.std.proofs.Common.{◌⊎◌}
use Rattle.std.proofs.lemmas.Cmp.{ranked}
use Rattle.mc_signal.proofs.Merging.{merge_left, merge_right, merge_both, merge_end}
use Rattle.mc_signal.proofs.set.merged.Goals.{then-merge-test+else-j-right, else-merge-test}
use Rattle.mc_signal.proofs.set.merged.Goals as goal

pub merge-preserved-in-Less : goal.merge-preserved-in-Less
merge-preserved-in-Less c =
    let left = c.args.left.now in
    let right = c.args.right.now in
    let i = c.merge.i in
    let j = c.merge.j in
    let less : get_or left i 0 < get_or right j 0 =
    ranked (get_or left i 0) (get_or right j 0) Less c.in-Less.ensures in
    record {
      within_left = omega arith;
      within_right = omega arith;
      same =
          merge_left left right c.merge.sum.items c.push.new.members.items _ i j
          c.requires.left_rising
          c.requires.right_rising c.merge-test.true c.if-j-right.true less
          c.in_ok-push-in-Less.ensures
          c.merge.invariant.same;
    }

pub merge-preserved-in-Greater : goal.merge-preserved-in-Greater
merge-preserved-in-Greater c =
    let left = c.args.left.now in
    let right = c.args.right.now in
    let i = c.merge.i in
    let j = c.merge.j in
    let less : get_or right j 0 < get_or left i 0 =
    ranked (get_or left i 0) (get_or right j 0) Greater c.in-Greater.ensures in
    record {
      within_left = omega arith;
      within_right = omega arith;
      same =
          merge_right left right c.merge.sum.items c.push-in-Greater.new.members.items _ i j
          c.requires.left_rising
          c.merge-test.true c.if-j-right.true less
          c.in_ok-push-in-Greater.ensures c.merge.invariant.same;
    }

pub merge-preserved : goal.merge-preserved
merge-preserved c =
    let left = c.args.left.now in
    let right = c.args.right.now in
    let i = c.merge.i in
    let j = c.merge.j in
    let same : get_or left i 0 ≡ get_or right j 0 =
    ranked (get_or left i 0) (get_or right j 0) Equal c.in-Equal.ensures in
    record {
      within_left = omega arith;
      within_right = omega arith;
      same =
          rw (merge_both left right i j c.requires.left_rising
          c.merge-test.true c.if-j-right.true same)
          at c.merge.invariant.same;
    }

pub returns : goal.returns
returns c =
    let left = c.args.left.now in
    let right = c.args.right.now in
    let none : (length left ≤ c.merge.i) ⊎ (length right ≤ c.merge.j) =
    elim c.merge-test.branch [
      | then-merge-test+else-j-right w ↦ inr w.if-j-right.false
      | else-merge-test w ↦ inl w.merge-test.false
    ] in
    rw (
      c.in_ok-extend-2.ensures,
      c.in_ok-extend.ensures,
      c.split_at.ensures.back,
      c.split_at-2.ensures.back,
    )
    (merge_end left right c.merge.sum.items _ c.merge.i c.merge.j c.requires.left_rising none
    c.merge.invariant.same)
