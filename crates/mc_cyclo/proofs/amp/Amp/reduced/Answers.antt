use Rattle.std.proofs.Common.{rules, arith, ◌≡◌, suc, ◌-◌, ◌∙◌, sym, ap, subst}
use Rattle.mc_model.specs.Roots.{root_powers, IsSameValue}
use Rattle.mc_model.specs.Ring.{zeros}
use Rattle.mc_cyclo.proofs.RootLemmas.{permitted_quartered, powers-zeros, value_less}
use Rattle.mc_cyclo.proofs.RootLemmas.{least_exponent}
use Rattle.mc_cyclo.proofs.amp.Amp.reduced.Goals as goal

pub returns-then-same-clause-value : goal.returns-then-same-clause-value
returns-then-same-clause-value g c =
    let quartered = permitted_quartered g.row.H c.known.ensures.permitted in
    let nought : c.args.num ≡ zeros g.row.H =
    c.same.ensures.0 (search rules) ∙ c.zero.ensures in
    ap (root_powers g.row.H c.args.halves) nought
    ∙ powers-zeros g.row.H quartered c.args.halves ∙ sym nought

pub roots-preserved : goal.roots-preserved
roots-preserved g c =
    let quartered = permitted_quartered g.row.H c.known.ensures.permitted in
    let k : c.roots.left ≡ suc (c.roots.left - 1) = omega (arith, c.roots-test.true) in
    record {
      long = c.in-Some.ensures.1;
      same =
          value_less g.row.H quartered c.roots.rest c.in-Some.next c.args.num
          (c.roots.left - 1) c.args.halves c.in-Some.ensures.1 c.known.ensures.element
          c.in-Some.ensures.0
          (subst (λ n. IsSameValue g.row.H c.roots.rest n c.args.num c.args.halves) k
          c.roots.invariant.same);
    }

pub returns-in-None-clause-least : goal.returns-in-None-clause-least
returns-in-None-clause-least g c =
    let quartered = permitted_quartered g.row.H c.known.ensures.permitted in
    least_exponent g.row.H quartered c.roots.rest c.args.num c.roots.left c.args.halves
    c.roots.invariant.long c.roots.invariant.same c.in-None.ensures
