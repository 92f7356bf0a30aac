use Rattle.mc_pattern_text.proofs.ReadBack.{header_back, text_read, text_back}
use Rattle.mc_pattern_text.proofs.laws.canonical_texts_are_read.Goals as goal

pub returns-clause-header : goal.returns-clause-header
returns-clause-header g c = λ p. header_back g.row.H p c.requires

pub returns-clause-clean : goal.returns-clause-clean
returns-clause-clean g c = λ p h. (text_read g.row.H p h c.requires).clean

pub returns-clause-whole : goal.returns-clause-whole
returns-clause-whole g c = λ p h. (text_read g.row.H p h c.requires).whole

pub returns-clause-same : goal.returns-clause-same
returns-clause-same g c = λ p h. text_back g.row.H p h c.requires
