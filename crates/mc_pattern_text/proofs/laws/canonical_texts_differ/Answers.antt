use Rattle.mc_pattern_text.proofs.ReadBack.{same_text}
use Rattle.mc_pattern_text.proofs.laws.canonical_texts_differ.Goals as goal

pub returns : goal.returns
returns g c = λ p q h k e. same_text g.row.H p q h k c.requires e
