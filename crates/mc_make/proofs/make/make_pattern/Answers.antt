use Rattle.mc_model.proofs.StepLemmas.{permitted_positive}
use Rattle.mc_graph.specs.Flows.{sets_in, layer_in}
use Rattle.mc_make.proofs.make.make_pattern.Goals as goal

pub returns-in-Ok-clause-alike : goal.returns-in-Ok-clause-alike
returns-in-Ok-clause-alike g c = λ o.
    let valid = c.len-vertices.ensures.valid in
    let positive = permitted_positive g.row.H valid.permitted in
    let rows = c.args.f.now.rows in
    rw c.in-Ok.ensures
    (c.flow_patterns_are_deterministic.ensures g.row.H positive c.args.g.now valid.open_graph
    (sets_in rows) (layer_in rows) c.requires.flow o)

pub returns-in-Ok-clause-zero : goal.returns-in-Ok-clause-zero
returns-in-Ok-clause-zero g c = λ y b.
    let valid = c.len-vertices.ensures.valid in
    let positive = permitted_positive g.row.H valid.permitted in
    let rows = c.args.f.now.rows in
    rw c.in-Ok.ensures
    (c.zero_branch_of_flow_pattern.ensures g.row.H positive c.args.g.now valid.open_graph
    (sets_in rows) (layer_in rows) c.requires.flow y b)

pub returns-in-Ok-clause-scale : goal.returns-in-Ok-clause-scale
returns-in-Ok-clause-scale g c =
    let rows = c.args.f.now.rows in
    rw c.in-Ok.ensures
    (c.flow_patterns_keep_scale.ensures c.args.g.now (sets_in rows) (layer_in rows)
    c.requires.flow)
