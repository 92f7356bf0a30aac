use Rattle.mc_compile.proofs.CompiledCircuits.{compiled}
use Rattle.mc_compile.proofs.laws.compiled_circuits.Goals as goal

pub returns : goal.returns
returns c = compiled (record {
  translation_valid = c.translations_are_valid.ensures;
  translation_free = c.translations_have_no_constants.ensures;
  translation_table = c.translation_keeps_table.ensures;
  translation_scale = c.translation_has_scale.ensures;
  graph_kept = c.graphs_keep_zero_branch.ensures;
  graph_plain = c.graphs_without_constants.ensures;
  chosen_flow = c.chosen_flows_are_flows.ensures;
  chosen_least = c.chosen_flows_are_least_deep.ensures;
  made = c.flow_patterns_are_made.ensures;
  made_free = c.flow_patterns_have_no_constants.ensures;
  made_no_second = c.chosen_patterns_have_no_second_signals.ensures;
  made_shallow = c.dependence_within_layers.ensures;
  standard_valid = c.standard_is_standard.ensures;
  standard_alike = c.standard_is_alike.ensures;
  standard_zero = c.standard_keeps_zero_branch.ensures;
  unshifted = c.no_second_signals_no_shift.ensures;
})
