use Rattle.std.proofs.Common.{ℕ, ◌≤◌, subst}
use Rattle.mc_model.specs.Flow.{depth_of}
use Rattle.mc_graph.specs.Flows.{layer_in, sets_in}
use Rattle.mc_graph.specs.Refuters.{refuted_in, refuting_in}
use Rattle.mc_top.proofs.laws.findings_mean_flows.Goals as goal

pub returns : goal.returns
returns c = λ g. record {
  flows = λ f h. record {
    flow = record {
      flow = c.chosen_flows_are_flows.ensures g (sets_in f.rows) (layer_in f.rows) h.flow;
      whole = h.whole;
    };
    layers = λ sets layer flow v l. (h.flow.least_layers v l).least sets layer flow;
    depth = λ sets layer flow.
        subst (λ (d : ℕ). d ≤ depth_of g layer) h.whole.reached
        (c.chosen_flows_are_least_deep.ensures g (sets_in f.rows) (layer_in f.rows) h.flow sets
        layer flow);
  };
  refuters = λ rows h sets layer flow.
      c.refuters_exclude_flows.ensures g (refuted_in rows) (refuting_in rows) h sets layer flow;
}
