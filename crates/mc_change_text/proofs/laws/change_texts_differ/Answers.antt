use Rattle.mc_change_text.proofs.Sound.{same_change}
use Rattle.mc_change_text.proofs.laws.change_texts_differ.Goals as goal

pub returns : goal.returns
returns c = same_change c.change_texts_are_read.ensures.same
