use Rattle.mc_document.proofs.ByKind.{clean_spells, spells_valid}
use Rattle.mc_document.proofs.laws.clean_texts_spell_documents.Goals as goal

pub returns-clause-taken : goal.returns-clause-taken
returns-clause-taken c = clean_spells

pub returns-clause-valid : goal.returns-clause-valid
returns-clause-valid c = λ half permitted takes text clean.
    spells_valid c.short_bounds_are_few.ensures half permitted takes text clean
