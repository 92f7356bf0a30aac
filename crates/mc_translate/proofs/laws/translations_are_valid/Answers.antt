use Rattle.mc_translate.proofs.ValidTranslation.{translation_valid}
use Rattle.mc_translate.proofs.laws.translations_are_valid.Goals as goal

pub returns : goal.returns
returns c = translation_valid
