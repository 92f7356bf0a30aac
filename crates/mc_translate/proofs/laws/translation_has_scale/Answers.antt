use Rattle.mc_translate.proofs.TranslationScale.{translation_scale}
use Rattle.mc_translate.proofs.laws.translation_has_scale.Goals as goal

pub returns : goal.returns
returns c = translation_scale
