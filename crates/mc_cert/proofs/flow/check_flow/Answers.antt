use Rattle.std.proofs.Common.{arith}
use Rattle.mc_model.specs.Graph.{size}
use Rattle.mc_graph.specs.Flows.{IsFlowOf}
use Rattle.mc_cert.specs.Rules.{breach_of, first_broken}
use Rattle.mc_cert.specs.FlowRules.{flow_lines}
use Rattle.mc_cert.proofs.FewRows.{few_rows}
use Rattle.mc_cert.proofs.RuleLemmas.{names_none}
use Rattle.mc_cert.proofs.FlowLaw.{flow_rules_exact}
use Rattle.mc_cert.proofs.flow.check_flow.Goals as goal

pub judged-requires : goal.judged-requires
judged-requires g c =
    let few =
    few_rows (λ r. r.vertex) (size c.args.g.now) c.args.f.now.rows c.requires.vertices
    c.len-2.ensures.own in
    let count = c.len.ensures.len in
    let fits = c.len.type_inv in
    (omega arith, (c.requires, omega arith))

pub returns-clause-yes : goal.returns-clause-yes
returns-clause-yes g c =
    let graph = c.args.g.now in
    let f = c.args.f.now in
    names_none (IsFlowOf graph f) (breach_of c.judged.result)
    (first_broken 1 (flow_lines graph f.depth f.rows)) c.judged.ensures
    (flow_rules_exact graph f c.requires c.len-2.ensures.own)
