use Rattle.std.proofs.Common.{length, ap, sym, ◌∙◌, IsTrue, ◌++◌, drop, replicate, List, ℕ}
use Rattle.mc_model.specs.Names.{is_name}
use Rattle.mc_names.proofs.StoredNames.{stored_name, short_name}
use Rattle.mc_names.proofs.name.Name.read.Goals as goal

pub invariant_of-result : goal.invariant_of-result
invariant_of-result c =
    let word = c.args.word.now in
    let named : IsTrue (is_name word) = sym c.spells_name.ensures ∙ c.if-not-spells_name.false in
    stored_name word _ named (short_name word named)
    (ap (λ (front : List ℕ). front ++ drop (length word) (replicate 16 0))
    c.copy_from_slice.ensures.after)
