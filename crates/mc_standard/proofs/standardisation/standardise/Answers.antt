use Rattle.std.proofs.Common.{length, sym, ◌∙◌, ap, subst, arith}
use Rattle.mc_standard.specs.Running.{AllBelow}
use Rattle.mc_standard.specs.StandardForms.{IsStandardForm}
use Rattle.mc_standard.proofs.StandardPatterns.{standard_pattern, form_made, form_of}
use Rattle.mc_standard.proofs.StandardPatterns.{operands_below}
use Rattle.mc_standard.proofs.standardisation.standardise.Goals as goal

pub pass_over-requires : goal.pass_over-requires
pass_over-requires g c = (
  omega arith,
  (
    omega arith,
    subst (AllBelow 256) (sym c.commands.ensures)
        (operands_below g.row.H c.args.p.now c.names.ensures.valid),
  ),
)

pub invariant_of-result-2 : goal.invariant_of-result-2
invariant_of-result-2 g c =
    let p = c.args.p.now in
    let h = c.names.ensures.valid in
    let made =
    (form_of p _
    (form_made g.row.H c.one_pass.ensures p h c.in_ok-preps.field-0 c.in_ok-edges_of.field-0.items
    c.in_ok-fixes_of.field-0.items c.len-qubits.result _ c.commands.ensures
    c.in_ok-preps.ensures.whole
    (c.len-qubits.ensures.len ∙ ap length (c.in_ok-names.ensures ∙ c.names.ensures.names))
    (rw c.as_slice.ensures.value at c.in_ok-edges_of.ensures)
    (rw (c.as_slice-2.ensures.value, c.as_slice-3.ensures.value) at c.in_ok-fixes_of.ensures))) in
    rw (
      c.names-2.view_is,
      c.in_ok-names.ensures,
      c.names.ensures.names,
      c.inputs.ensures,
      c.in_ok-copied.ensures,
      c.outputs.ensures,
    ) (subst (IsStandardForm g.row.H) (sym made)
    (standard_pattern c.standard_is_standard.ensures g.row.H p h))

pub returns-clause-form : goal.returns-clause-form
returns-clause-form g c =
    let p = c.args.p.now in
    let h = c.names.ensures.valid in
    rw (
      c.names-2.view_is,
      c.in_ok-names.ensures,
      c.names.ensures.names,
      c.inputs.ensures,
      c.in_ok-copied.ensures,
      c.outputs.ensures,
    )
    (form_of p _
    (form_made g.row.H c.one_pass.ensures p h c.in_ok-preps.field-0 c.in_ok-edges_of.field-0.items
    c.in_ok-fixes_of.field-0.items c.len-qubits.result _ c.commands.ensures
    c.in_ok-preps.ensures.whole
    (c.len-qubits.ensures.len ∙ ap length (c.in_ok-names.ensures ∙ c.names.ensures.names))
    (rw c.as_slice.ensures.value at c.in_ok-edges_of.ensures)
    (rw (c.as_slice-2.ensures.value, c.as_slice-3.ensures.value) at c.in_ok-fixes_of.ensures)))

pub returns-clause-alike : goal.returns-clause-alike
returns-clause-alike g c = λ half positive o.
    rw (returns-clause-form g c)
    (c.standard_is_alike.ensures half positive c.args.p.now c.names.ensures.valid.valid o)
