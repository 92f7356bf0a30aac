use Rattle.mc_gates_text.proofs.ReadBack.{same_text}
use Rattle.mc_gates_text.proofs.laws.gate_texts_differ.Goals as goal

pub returns : goal.returns
returns c = same_text
