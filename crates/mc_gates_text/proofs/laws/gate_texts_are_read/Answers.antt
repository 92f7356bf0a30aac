use Rattle.mc_gates_text.proofs.ReadBack.{header_back, text_read, text_back}
use Rattle.mc_gates_text.proofs.laws.gate_texts_are_read.Goals as goal

pub returns-clause-header : goal.returns-clause-header
returns-clause-header c = header_back

pub returns-clause-clean : goal.returns-clause-clean
returns-clause-clean c = λ g h. (text_read g h).clean

pub returns-clause-whole : goal.returns-clause-whole
returns-clause-whole c = λ g h. (text_read g h).whole

pub returns-clause-same : goal.returns-clause-same
returns-clause-same c = text_back
