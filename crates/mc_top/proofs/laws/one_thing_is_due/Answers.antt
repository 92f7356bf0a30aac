use Rattle.mc_top.proofs.ChosenDue.{FormLaws}
use Rattle.mc_top.proofs.OneDue.{CausalLaws, one_due}
use Rattle.mc_top.proofs.laws.one_thing_is_due.Goals as goal

pub returns : goal.returns
returns c =
    let causal : CausalLaws =
    record {
      flows = c.chosen_causal_flows_are_flows.ensures;
      one_flow = c.chosen_causal_flows_are_unique.ensures;
      one_set = c.chosen_stuck_sets_are_unique.ensures;
    } in
    let forms : FormLaws =
    record {
      chosen_flow = c.chosen_flows_are_flows.ensures;
      translation_valid = c.translations_are_valid.ensures;
      graph_kept = c.graphs_keep_zero_branch.ensures;
      made_valid = c.flow_patterns_are_valid.ensures;
      standard_valid = c.standard_is_standard.ensures;
      one_form = c.has_one_shifted_form.ensures.one;
    } in
    one_due causal forms c.clean_texts_spell_documents.ensures.valid
