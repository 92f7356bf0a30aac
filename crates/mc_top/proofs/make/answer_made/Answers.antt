use Rattle.std.proofs.Common.{inl, inr, refl}
use Rattle.mc_model.specs.Made.{flow_pattern}
use Rattle.mc_pattern_text.specs.Canonical.{pattern_text}
use Rattle.mc_graph.specs.Flows.{layer_in, sets_in}
use Rattle.mc_top.specs.Flow.{IsRefuterDue}
use Rattle.mc_top.specs.Make.{IsMakingDue}
use Rattle.mc_top.proofs.Compilations.{gives_text}
use Rattle.mc_top.proofs.Findings.{gives_too}
use Rattle.mc_top.proofs.make.answer_made.Goals as goal

pub returns-in-Ok-Flow : goal.returns-in-Ok-Flow
returns-in-Ok-Flow g c =
    let graph = c.args.graph.now in
    let flow = c.in-Ok-Flow.flow in
    let made = flow_pattern graph (sets_in flow.rows) (layer_in flow.rows) in
    let text = pattern_text g.row.H made in
    gives_text (IsMakingDue g.row.H graph) c.told.result text
    (c.told.ensures.due text c.print_made.ensures)
    (inl (record {
      flow = flow;
      chosen = rw c.in-Ok-Flow.field-0-is at c.in-Ok-Flow.ensures;
      text = refl;
    }))

pub returns-in-Ok-Refuted : goal.returns-in-Ok-Refuted
returns-in-Ok-Refuted g c =
    let graph = c.args.graph.now in
    gives_too (IsRefuterDue g.row.H graph) (IsMakingDue g.row.H graph) c.answer_refuter.result
    (λ due h. inr h) c.answer_refuter.ensures
