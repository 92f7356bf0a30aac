use Rattle.std.proofs.Common.{◌∙◌, ap, map, sym, List, ◌<◌, arith}
use Rattle.std.specs.Prelude.{ℕ, All}
use mathlib.Core.Path.{subst₂}
use Rattle.mc_extract.specs.Chains.{number_at}
use Rattle.mc_extract.proofs.GateLists.{long_first, long_wires}
use Rattle.mc_extract.proofs.WholeCircuits.{inputs_first, planned_circuit}
use Rattle.mc_extract.proofs.extracted.circuit_of.Goals as goal

pub without_gates-requires : goal.without_gates-requires
without_gates-requires g c = (
  omega arith,
  (
    omega arith,
    (
      long_first c.args.g.now c.args.next.now c.args.order.now c.args.wires.now c.args.first.now
          c.requires,
      inputs_first c.args.g.now c.args.next.now c.args.order.now c.args.wires.now c.args.first.now
          c.len-count.ensures.valid.open_graph c.requires,
    ),
  ),
)

pub outputs_of-requires : goal.outputs_of-requires
outputs_of-requires g c =
    subst₂ (λ (n : ℕ) (qs : List ℕ). All (λ v. v < n) qs)
    (sym (long_wires c.args.g.now c.args.next.now c.args.order.now c.args.wires.now c.args.first.now
    c.requires))
    (sym c.outputs.ensures) c.len-count.ensures.valid.open_graph.outputs.below

pub returns : goal.returns
returns g c =
    planned_circuit g.row.H c.args.g.now c.args.next.now c.args.order.now c.args.wires.now
    c.args.first.now c.len-count.ensures.valid.open_graph c.requires c.in_ok-circuit.ensures
    c.in_ok-push_gates.ensures
    (c.deref.ensures.value ∙ c.in_ok-out.ensures
    ∙ ap (map (number_at c.args.wires.now)) c.outputs.ensures)
    c.in_ok-circuit-2.ensures
