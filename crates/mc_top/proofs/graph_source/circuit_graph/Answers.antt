use Rattle.std.proofs.Common.{◌≡◌, IfOk, subst}
use Rattle.mc_model.specs.Graph.{graph_of}
use Rattle.mc_model.specs.Pattern.{Pattern}
use Rattle.mc_top.specs.Source.{translation_limit}
use Rattle.mc_top.proofs.ShiftedForms.{on_ok}
use Rattle.mc_top.proofs.graph_source.circuit_graph.Goals as goal

pub returns-in-Ok-clause-graph : goal.returns-in-Ok-clause-graph
returns-in-Ok-clause-graph g c =
    subst (λ (p : Pattern). IfOk c.pattern_graph.result (λ made. made ≡ graph_of g.row.H p))
    c.in-Ok.ensures.pattern c.pattern_graph.ensures.graph

pub returns-in-Ok-clause-few : goal.returns-in-Ok-clause-few
returns-in-Ok-clause-few g c = on_ok c.pattern_graph.result _ c.in-Ok.ensures.few

pub returns-in-Ok-clause-err : goal.returns-in-Ok-clause-err
returns-in-Ok-clause-err g c =
    c.pattern_graph.ensures.err (translation_limit c.args.circuit.now)
