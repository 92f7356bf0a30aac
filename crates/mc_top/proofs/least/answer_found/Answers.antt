use Rattle.std.proofs.Common.{inl, inr}
use Rattle.mc_top.specs.Flow.{IsRefuterDue}
use Rattle.mc_top.specs.Least.{IsBoundDue, IsBoundFoundDue}
use Rattle.mc_top.proofs.Findings.{gives_too}
use Rattle.mc_top.proofs.least.answer_found.Goals as goal

pub returns-in-Ok-Flow : goal.returns-in-Ok-Flow
returns-in-Ok-Flow g c =
    let graph = c.args.graph.now in
    gives_too (IsBoundDue g.row.H graph) (IsBoundFoundDue g.row.H graph) c.answer_flow.result
    (λ due h. inl h) c.answer_flow.ensures

pub returns-in-Ok-Refuted : goal.returns-in-Ok-Refuted
returns-in-Ok-Refuted g c =
    let graph = c.args.graph.now in
    gives_too (IsRefuterDue g.row.H graph) (IsBoundFoundDue g.row.H graph) c.answer_refuter.result
    (λ due h. inr h) c.answer_refuter.ensures
