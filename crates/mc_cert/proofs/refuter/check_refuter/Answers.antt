use Rattle.std.proofs.Common.{arith}
use Rattle.mc_model.specs.Graph.{size}
use Rattle.mc_graph.specs.Refuters.{IsRefuterOf}
use Rattle.mc_cert.specs.Rules.{breach_of, first_broken}
use Rattle.mc_cert.specs.RefuterRules.{refuter_lines}
use Rattle.mc_cert.proofs.FewRows.{few_rows}
use Rattle.mc_cert.proofs.RuleLemmas.{names_none}
use Rattle.mc_cert.proofs.RefuterLaw.{refuter_rules_exact}
use Rattle.mc_cert.proofs.refuter.check_refuter.Goals as goal

pub judged-requires : goal.judged-requires
judged-requires g c =
    let few =
    few_rows (λ r. r.vertex) (size c.args.g.now) c.args.r.now c.requires.vertices
    c.len-2.ensures.own in
    let count = c.len.ensures.len in
    let fits = c.len.type_inv in
    (omega arith, (c.requires, omega arith))

pub returns-clause-yes : goal.returns-clause-yes
returns-clause-yes g c =
    let graph = c.args.g.now in
    let rows = c.args.r.now in
    names_none (IsRefuterOf graph rows) (breach_of c.judged.result)
    (first_broken 1 (refuter_lines graph rows)) c.judged.ensures
    (refuter_rules_exact graph rows c.requires c.len-2.ensures.own)
