use Rattle.std.proofs.Common.{refl, sym, arith}
use mathlib.Core.Logic.{inl}
use Rattle.mc_model.specs.Derivation.{edges_exchanged}
use Rattle.mc_model.specs.Pattern.{Ent}
use Rattle.mc_standard.proofs.PickedRules.{exchanges_two, edges_cancel}
use Rattle.mc_standard.proofs.pick.settle_edges.Goals as goal

pub returns-then-is_before-2 : goal.returns-then-is_before-2
returns-then-is_before-2 g c =
    let first = c.ends-first.ensures in
    let second = c.ends-second.ensures in
    let wrong = rw (first.low, first.high, second.low, second.high) at c.if-is_before-2.ensures in
    exchanges_two c.exchange.result (Ent c.args.i c.args.j) (Ent c.args.q c.args.r)
    c.exchange.ensures.change (rw c.exchange.ensures.rule edges_exchanged) refl (sym wrong)

pub returns-else-is_before-2 : goal.returns-else-is_before-2
returns-else-is_before-2 g c =
    let first = c.ends-first.ensures in
    let second = c.ends-second.ensures in
    let left = rw (first.low, first.high, second.low, second.high) at c.if-is_before.ensures in
    let right = rw (first.low, first.high, second.low, second.high) at c.if-is_before-2.ensures in
    record {
      two = refl;
      one_part = refl;
      used = edges_cancel c.args.i c.args.j c.args.q c.args.r (sym left) (sym right);
      nearer = inl (omega arith);
    }
