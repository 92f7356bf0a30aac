use Rattle.mc_model.proofs.ChosenFlows.{chosen_is_flow}
use Rattle.mc_graph.specs.Flows.{layer_in, sets_in}
use Rattle.mc_least.proofs.laws.chosen_flows_are_earliest.Goals as goal

pub returns : goal.returns
returns c g f h = record {
  flow = record {
    flow = chosen_is_flow g (sets_in f.rows) (layer_in f.rows) h.flow;
    whole = h.whole;
  };
  least = h.flow.least_layers;
}
