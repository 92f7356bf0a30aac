use Rattle.mc_model.specs.Ring.{ring}
use Rattle.mc_model.proofs.RingLemmas.{ring_laws}
use Rattle.mc_translate.proofs.TranslationLaw as Law
use Rattle.mc_translate.proofs.laws.translation_keeps_table.Goals as goal

pub returns : goal.returns
returns c = λ half positive. Law.translation_keeps_table (ring half) (ring_laws half positive)
