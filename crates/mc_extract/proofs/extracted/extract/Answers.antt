use Rattle.std.proofs.Common.{◌∙◌, sym, ap, map, List, arith}
use Rattle.std.specs.Prelude.{ℕ}
use mathlib.Core.Path.{subst}
use Rattle.mc_model.specs.Numbers.{numbers_from}
use Rattle.mc_model.specs.Graph.{size}
use Rattle.mc_model.specs.Made.{wire_of, is_first}
use Rattle.mc_model.proofs.StepLemmas.{permitted_positive}
use Rattle.mc_extract.specs.Chains.{number_at}
use Rattle.mc_extract.specs.Extracted.{HasZeroBranch}
use Rattle.mc_extract.proofs.WholeCircuits.{nexts_to, long_nexts, plan_of, planned_is, zero_branch_of}
use Rattle.mc_extract.proofs.extracted.extract.Goals as goal

pub all_before-requires : goal.all_before-requires
all_before-requires g c = (
  omega arith,
  long_nexts c.args.g.now c.args.f.now c.deref.result.now
      (nexts_to c.args.g.now c.args.f.now c.in_ok-next.next.items c.deref.result.now
      c.len-count.result c.deref.ensures.value c.in_ok-next.ensures c.len-count.ensures.len),
)

pub circuit_of-requires : goal.circuit_of-requires
circuit_of-requires g c =
    let next = c.in_ok-next.next.items in
    let vertices = numbers_from 0 (size c.args.g.now) in
    let same = nexts_to c.args.g.now c.args.f.now next c.deref-6.result.now c.len-count.result
    c.deref-6.ensures.value c.in_ok-next.ensures c.len-count.ensures.len in (
      omega arith,
      (
        omega arith,
        plan_of c.args.g.now c.args.f.now c.requires.flow c.deref-6.result.now
            c.deref-7.result.now c.deref-8.result.now c.deref_mut.result.now same
            (c.deref-7.ensures.value ∙ c.in_ok-order.ensures.order)
            (c.deref-8.ensures.value ∙ c.in_ok-wires.ensures
            ∙ ap (λ (ns : List ℕ). map (wire_of c.args.g.now (number_at ns)) vertices)
            (c.deref-2.ensures.value ∙ sym c.deref-6.ensures.value))
            (c.deref_mut.ensures.value ∙ c.in_ok-first.ensures
            ∙ ap (λ (ns : List ℕ). map (is_first c.args.g.now (number_at ns)) vertices)
            (c.deref-4.ensures.value ∙ sym c.deref-6.ensures.value)),
      ),
    )

pub returns-clause-circuit : goal.returns-clause-circuit
returns-clause-circuit g c =
    c.in_ok-circuit.ensures
    ∙ planned_is g.row.H c.args.g.now c.args.f.now c.deref-6.result.now c.deref-7.result.now
    c.requires.flow
    (nexts_to c.args.g.now c.args.f.now c.in_ok-next.next.items c.deref-6.result.now
    c.len-count.result c.deref-6.ensures.value c.in_ok-next.ensures c.len-count.ensures.len)
    (c.deref-7.ensures.value ∙ c.in_ok-order.ensures.order)

pub returns-clause-table : goal.returns-clause-table
returns-clause-table g c =
    subst (HasZeroBranch g.row.H c.args.g.now)
    (sym (c.in_ok-circuit.ensures
    ∙ planned_is g.row.H c.args.g.now c.args.f.now c.deref-6.result.now c.deref-7.result.now
    c.requires.flow
    (nexts_to c.args.g.now c.args.f.now c.in_ok-next.next.items c.deref-6.result.now
    c.len-count.result c.deref-6.ensures.value c.in_ok-next.ensures c.len-count.ensures.len)
    (c.deref-7.ensures.value ∙ c.in_ok-order.ensures.order)))
    (zero_branch_of g.row.H (permitted_positive g.row.H c.len-count.ensures.valid.permitted) c.args.g.now
    c.args.f.now c.len-count.ensures.valid.open_graph c.requires.flow)
