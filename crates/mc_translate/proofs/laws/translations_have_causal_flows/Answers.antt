use Rattle.mc_translate.proofs.TranslationFlow.{translation_causal_flow}
use Rattle.mc_translate.proofs.laws.translations_have_causal_flows.Goals as goal

pub returns : goal.returns
returns c = translation_causal_flow
