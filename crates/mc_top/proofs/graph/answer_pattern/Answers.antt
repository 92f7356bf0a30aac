use Rattle.mc_model.specs.Graph.{graph_of}
use Rattle.mc_model.proofs.StepLemmas.{permitted_positive}
use Rattle.mc_graph_text.specs.Canonical.{graph_text}
use Rattle.mc_top.proofs.graph.answer_pattern.Goals as goal

pub returns-clause-due : goal.returns-clause-due
returns-clause-due g c =
    c.told.ensures.due (graph_text g.row.H (graph_of g.row.H c.args.source.now))
    c.print_pattern_graph.ensures

pub returns-clause-meaning : goal.returns-clause-meaning
returns-clause-meaning g c =
    c.graphs_keep_zero_branch.ensures g.row.H (permitted_positive g.row.H c.requires)
    c.args.source.now c.names-names.ensures.valid.valid
