use Rattle.std.proofs.Common.{◌≡◌, vec_len, length, ap, arith}
use Rattle.mc_standard.proofs.OrderedFronts.{stays_on, settles_further}
use Rattle.mc_standard.specs.Uses.{plain_use}
use Rattle.mc_standard.proofs.search.settle_from.Goals as goal

pub returns-in-Some-clause-settles : goal.returns-in-Some-clause-settles
returns-in-Some-clause-settles g c =
    let kept = c.commands.invariant in
    let used = rw (c.in-Some.is, kept.1) at c.in_ok-used.ensures.settles in
    settles_further _ _ c.args.from c.commands.k (plain_use c.in-Some.used) kept.2 used

pub commands-preserved : goal.commands-preserved
commands-preserved g c =
    let kept = c.commands.invariant in
    let none = rw (c.in_default.is, kept.1) at c.in_ok-used.ensures.settles in
    let size = ap length none.0 in
    let before = ap length kept.1 in
    let old = c.commands.commands.ok.0 in
    let new = c.settle_at.new.commands.ok.0 in
    let first = c.args.commands.now.ok.0 in (
      omega arith,
      none.0,
      stays_on _ c.args.from c.commands.k _ kept.2 none.1,
    )

pub returns-clause-settles : goal.returns-clause-settles
returns-clause-settles g c =
    let kept = c.commands.invariant in
    let size = ap length kept.1 in
    let now = c.commands.commands.ok.0 in
    let first = c.args.commands.now.ok.0 in
    let all : c.commands.k ≡ vec_len c.args.commands.now = omega arith in
    rw (← all) (kept.1, kept.2)
