use Rattle.mc_pattern_text.specs.Judge.{permits_constants}
use Rattle.mc_pattern_text.proofs.SoundPatterns.{clean_is_pattern, clean_is_plain}
use Rattle.mc_pattern_text.proofs.laws.clean_texts_spell_patterns.Goals as goal

pub returns-clause-valid : goal.returns-clause-valid
returns-clause-valid g c = λ version lines end clean.
    clean_is_pattern g.row.H (permits_constants version) lines end c.requires clean

pub returns-clause-plain : goal.returns-clause-plain
returns-clause-plain g c = λ lines end clean.
    clean_is_plain g.row.H lines end c.requires clean
