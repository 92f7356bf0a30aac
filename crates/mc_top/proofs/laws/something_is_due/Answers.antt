use Rattle.mc_top.proofs.ChosenDue.{ChosenLaws, FormLaws, in_due, of_due}
use Rattle.mc_top.proofs.Serving.{AreSeen}
use Rattle.mc_top.proofs.laws.something_is_due.Goals as goal

pub returns-clause-for_text : goal.returns-clause-for_text
returns-clause-for_text c =
    let seen : AreSeen =
    record {
      circuit = c.taken_documents_are_seen.ensures.circuit;
      other = c.taken_documents_are_seen.ensures.other;
      two = c.taken_documents_are_seen.ensures.two;
      judged = c.every_trace_is_judged.ensures;
    } in
    let forms : FormLaws =
    record {
      chosen_flow = c.chosen_flows_are_flows.ensures;
      translation_valid = c.translations_are_valid.ensures;
      graph_kept = c.graphs_keep_zero_branch.ensures;
      made_valid = c.flow_patterns_are_valid.ensures;
      standard_valid = c.standard_is_standard.ensures;
      one_form = c.has_one_shifted_form.ensures.one;
    } in
    let laws : ChosenLaws =
    record {
      flows = c.flows_or_refuters_exist.ensures;
      causal = c.causal_flows_or_stuck_sets_exist.ensures;
      bounds = c.chosen_flows_have_bounds.ensures;
      few_bounds = c.short_bounds_are_few.ensures;
      derivations = c.derivations_exist.ensures;
      small_places = c.derivations_stay_short.ensures.places;
      translation_flow = c.translations_have_flows.ensures;
      forms = forms;
    } in
    of_due laws seen c.clean_texts_spell_documents.ensures.taken
    c.clean_texts_spell_documents.ensures.valid

pub returns-clause-in_step : goal.returns-clause-in_step
returns-clause-in_step c =
    let seen : AreSeen =
    record {
      circuit = c.taken_documents_are_seen.ensures.circuit;
      other = c.taken_documents_are_seen.ensures.other;
      two = c.taken_documents_are_seen.ensures.two;
      judged = c.every_trace_is_judged.ensures;
    } in
    let forms : FormLaws =
    record {
      chosen_flow = c.chosen_flows_are_flows.ensures;
      translation_valid = c.translations_are_valid.ensures;
      graph_kept = c.graphs_keep_zero_branch.ensures;
      made_valid = c.flow_patterns_are_valid.ensures;
      standard_valid = c.standard_is_standard.ensures;
      one_form = c.has_one_shifted_form.ensures.one;
    } in
    let laws : ChosenLaws =
    record {
      flows = c.flows_or_refuters_exist.ensures;
      causal = c.causal_flows_or_stuck_sets_exist.ensures;
      bounds = c.chosen_flows_have_bounds.ensures;
      few_bounds = c.short_bounds_are_few.ensures;
      derivations = c.derivations_exist.ensures;
      small_places = c.derivations_stay_short.ensures.places;
      translation_flow = c.translations_have_flows.ensures;
      forms = forms;
    } in
    in_due laws seen c.clean_texts_spell_documents.ensures.taken
    c.clean_texts_spell_documents.ensures.valid
