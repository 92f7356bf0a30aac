use Rattle.std.proofs.Common.{List, [], ◌∷◌, ◌++◌, ◌∙◌, sym, ap₂}
use Rattle.mc_model.specs.Names.{Name}
use Rattle.mc_sample.proofs.SmallNumbers.{names_more}
use Rattle.mc_sample.proofs.generator.input_names.Goals as goal

pub inputs-preserved : goal.inputs-preserved
inputs-preserved c =
    c.in-Ok.ensures.added
    ∙ ap₂ (λ (names : List Name) (name : Name). names ++ (name ∷ [])) c.inputs.invariant
    c.wire_name.ensures
    ∙ sym (names_more c.inputs.v)
