use Rattle.std.proofs.Common.{map, subst, sym}
use Rattle.mc_standard.specs.StandardForms.{IsStandardForm}
use Rattle.mc_standard.specs.Plain.{plain_measure, plain_fix}
use Rattle.mc_standard.proofs.CodeParts.{code_with_signals}
use Rattle.mc_standard.proofs.standard.Standard.with_signals.Goals as goal

pub invariant_of-result : goal.invariant_of-result
invariant_of-result g c =
    let p = c.self.inside in
    let ms = map (plain_measure {h = g.row.H}) c.args.measures.items in
    let fs = map plain_fix c.args.fixes.items in
    let same =
    code_with_signals g.row.H p.names p.inputs p.outs.items p.preps.items p.edges.items
    p.measures.items p.fixes.items ms fs in
    let form = rw (← c.self.view_is) at c.requires in
    rw (
      c.in_ok-copy.ensures,
      c.in_ok-copied.ensures,
      c.in_ok-copied-2.ensures,
      c.in_ok-copied-3.ensures,
      c.as_slice.ensures.value,
      c.as_slice-2.ensures.value,
      c.as_slice-3.ensures.value,
    ) (subst (IsStandardForm g.row.H) (sym same) form)

pub returns : goal.returns
returns g c =
    let p = c.self.inside in
    let ms = map (plain_measure {h = g.row.H}) c.args.measures.items in
    let fs = map plain_fix c.args.fixes.items in
    let same =
    code_with_signals g.row.H p.names p.inputs p.outs.items p.preps.items p.edges.items
    p.measures.items p.fixes.items ms fs in
    rw (
      c.in_ok-copy.ensures,
      c.in_ok-copied.ensures,
      c.in_ok-copied-2.ensures,
      c.in_ok-copied-3.ensures,
      c.as_slice.ensures.value,
      c.as_slice-2.ensures.value,
      c.as_slice-3.ensures.value,
      ← c.self.view_is,
    ) same
