use Rattle.mc_graph_text.proofs.ReadBack.{header_back, text_read, text_back}
use Rattle.mc_graph_text.proofs.laws.canonical_texts_are_read.Goals as goal

pub returns-clause-header : goal.returns-clause-header
returns-clause-header g c = λ graph. header_back g.row.H graph c.requires

pub returns-clause-clean : goal.returns-clause-clean
returns-clause-clean g c = λ graph h. (text_read g.row.H graph h).clean

pub returns-clause-whole : goal.returns-clause-whole
returns-clause-whole g c = λ graph h. (text_read g.row.H graph h).whole

pub returns-clause-same : goal.returns-clause-same
returns-clause-same g c = λ graph h. text_back g.row.H graph h
