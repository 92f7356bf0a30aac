use Rattle.mc_translate.proofs.ValidTranslation.{translation_free}
use Rattle.mc_translate.proofs.laws.translations_have_no_constants.Goals as goal

pub returns : goal.returns
returns c = translation_free
