use Rattle.mc_graph_text.proofs.ReadBack.{same_text}
use Rattle.mc_graph_text.proofs.laws.canonical_texts_differ.Goals as goal

pub returns : goal.returns
returns g c = λ first second h k e. same_text g.row.H first second h k e
