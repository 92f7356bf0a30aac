use Rattle.std.proofs.Common.{◌∙◌, sym, arith}
use Rattle.mc_top.specs.Least.{size_limit, IsBoundFoundDue}
use Rattle.mc_top.proofs.BoundsFit.{few_vertices}
use Rattle.mc_top.proofs.Making.{end_is_due}
use Rattle.mc_top.proofs.Serving.{gives_unless}
use Rattle.mc_top.proofs.least.answer_within.Goals as goal

pub returns-in-Some : goal.returns-in-Some
returns-in-Some g c =
    let graph = c.args.graph.now in
    end_is_due (size_limit graph) (IsBoundFoundDue g.row.H graph) c.in-Some.end
    (sym c.size_limit.ensures ∙ c.in-Some.is)

pub answer_found-requires : goal.answer_found-requires
answer_found-requires g c =
    (omega arith, few_vertices c.args.graph.now (sym c.size_limit.ensures ∙ c.in-None.is))

pub returns-in-None : goal.returns-in-None
returns-in-None g c =
    let graph = c.args.graph.now in
    gives_unless (size_limit graph) (IsBoundFoundDue g.row.H graph) c.answer_found.result
    (sym c.size_limit.ensures ∙ c.in-None.is) c.answer_found.ensures
