use Rattle.std.proofs.Common.{inl, inr, refl, arith}
use Rattle.mc_model.specs.Made.{extracted_circuit}
use Rattle.mc_circuit.specs.Canonical.{circuit_text}
use Rattle.mc_graph.specs.Flows.{layer_in, next_in}
use Rattle.mc_top.specs.Extract.{IsExtractionDue, IsStuckDue}
use Rattle.mc_top.proofs.Compilations.{gives_text}
use Rattle.mc_top.proofs.Findings.{gives_too}
use Rattle.mc_top.proofs.extract.answer_causal.Goals as goal

pub print_extracted-requires : goal.print_extracted-requires
print_extracted-requires g c =
    let found = rw c.in-Ok-Flow.field-0-is at c.in-Ok-Flow.ensures in
    (omega arith, (found.flow, c.requires))

pub answer_stuck-requires : goal.answer_stuck-requires
answer_stuck-requires g c =
    (omega arith, rw c.in-Ok-Stuck.field-0-is at c.in-Ok-Stuck.ensures)

pub returns-in-Ok-Flow : goal.returns-in-Ok-Flow
returns-in-Ok-Flow g c =
    let graph = c.args.graph.now in
    let flow = c.in-Ok-Flow.flow in
    let found = rw c.in-Ok-Flow.field-0-is at c.in-Ok-Flow.ensures in
    let text =
    circuit_text g.row.H (extracted_circuit g.row.H graph (next_in flow.rows) (layer_in flow.rows)) in
    gives_text (IsExtractionDue g.row.H graph) c.told.result text
    (c.told.ensures.due text c.print_extracted.ensures)
    (inl (record { flow = flow; chosen = found.chosen; text = refl }))

pub returns-in-Ok-Stuck : goal.returns-in-Ok-Stuck
returns-in-Ok-Stuck g c =
    let graph = c.args.graph.now in
    gives_too (IsStuckDue g.row.H graph) (IsExtractionDue g.row.H graph) c.answer_stuck.result
    (λ due h. inr h) c.answer_stuck.ensures
