use Rattle.mc_cert_text.proofs.Sound.{same_cert}
use Rattle.mc_cert_text.proofs.laws.cert_texts_differ.Goals as goal

pub returns : goal.returns
returns c = same_cert c.cert_texts_are_read.ensures.same
