use Rattle.std.proofs.Common.{◌∙◌, sym, arith}
use Rattle.mc_top.specs.Extract.{gate_limit, IsExtractionDue}
use Rattle.mc_top.proofs.Making.{end_is_due, few_gates}
use Rattle.mc_top.proofs.Serving.{gives_unless}
use Rattle.mc_top.proofs.extract.answer_within.Goals as goal

pub returns-in-Some : goal.returns-in-Some
returns-in-Some g c =
    let graph = c.args.graph.now in
    end_is_due (gate_limit graph) (IsExtractionDue g.row.H graph) c.in-Some.end
    (sym c.gate_limit.ensures ∙ c.in-Some.is)

pub answer_causal-requires : goal.answer_causal-requires
answer_causal-requires g c =
    (omega arith, few_gates c.args.graph.now (sym c.gate_limit.ensures ∙ c.in-None.is))

pub returns-in-None : goal.returns-in-None
returns-in-None g c =
    let graph = c.args.graph.now in
    gives_unless (gate_limit graph) (IsExtractionDue g.row.H graph) c.answer_causal.result
    (sym c.gate_limit.ensures ∙ c.in-None.is) c.answer_causal.ensures
