use Rattle.std.proofs.Common.{◌≡◌, sym, ◌∙◌, ap, length, arith}
use mathlib.Core.Path.{subst}
use Rattle.mc_model.specs.Pattern.{Pattern}
use Rattle.mc_model.specs.StandardForm.{standard_form}
use Rattle.mc_model.specs.Shift.{IsShiftedForm}
use Rattle.mc_model.specs.Graph.{OpenGraph, graph_of}
use Rattle.mc_model.specs.Flow.{depth_of}
use Rattle.mc_model.specs.Choice.{IsChosenFlow}
use Rattle.mc_model.specs.Made.{flow_pattern}
use Rattle.mc_graph.specs.Flows.{sets_in, layer_in}
use Rattle.mc_compile.proofs.compiling.remade.Goals as goal

pub make_pattern-requires : goal.make_pattern-requires
make_pattern-requires g c =
    let graph : OpenGraph = c.in_ok-graph.graph in
    let rows = c.in_ok-flow.flow.rows in
    let chosen = c.in_ok-flow.ensures in (
      omega arith,
      (
        omega arith,
        record {
          flow = c.chosen_flows_are_flows.ensures graph (sets_in rows) (layer_in rows) chosen.flow;
          whole = chosen.whole;
        },
      ),
    )

pub returns : goal.returns
returns g c =
    let p : Pattern = c.args.p.now in
    let rows = c.in_ok-flow.flow.rows in
    let standard : Pattern = c.in_ok-standard.standard in
    let pattern : Pattern = c.in_ok-pattern.pattern in
    let is_graph = c.in_ok-graph.ensures in
    let is_standard : standard
    ≡ standard_form (flow_pattern (graph_of g.row.H p) (sets_in rows) (layer_in rows)) =
    c.in_ok-standard.ensures.form
    ∙ ap standard_form (c.in_ok-made.ensures.pattern
    ∙ ap (λ (x : OpenGraph). flow_pattern x (sets_in rows) (layer_in rows)) is_graph) in
    record {
      sets = sets_in rows;
      layer = layer_in rows;
      chosen = subst (λ (x : OpenGraph). IsChosenFlow x (sets_in rows) (layer_in rows)) is_graph
          c.in_ok-flow.ensures.flow;
      form = subst (λ (q : Pattern). IsShiftedForm q pattern) is_standard
          (subst (λ (q : Pattern). IsShiftedForm standard q) (sym c.in_ok-pattern.ensures)
          c.in_ok-shifted.ensures.form);
      edge_count =
          c.edge_count.ensures.count ∙ ap (λ (x : OpenGraph). length x.edges) is_graph;
      flow_depth =
          c.depth.ensures ∙ sym c.in_ok-flow.ensures.whole.reached
          ∙ ap (λ (x : OpenGraph). depth_of x (layer_in rows)) is_graph;
    }
