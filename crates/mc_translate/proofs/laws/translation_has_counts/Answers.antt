use Rattle.mc_translate.proofs.TranslationScale.{translation_counts}
use Rattle.mc_translate.proofs.laws.translation_has_counts.Goals as goal

pub returns : goal.returns
returns c = translation_counts
