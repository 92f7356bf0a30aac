use Rattle.mc_trace_text.proofs.ReadBack.{same_uses}
use Rattle.mc_trace_text.proofs.laws.trace_texts_differ.Goals as goal

pub returns : goal.returns
returns c = same_uses
