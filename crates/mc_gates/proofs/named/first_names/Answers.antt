use Rattle.std.proofs.Common.{◌∙◌, ap, sym, List, [], ◌∷◌, ◌++◌}
use Rattle.mc_model.specs.Names.{Name}
use Rattle.mc_gates.proofs.FirstNames.{take_next}
use Rattle.mc_gates.proofs.named.first_names.Goals as goal

pub names-preserved : goal.names-preserved
names-preserved c =
    c.in_ok-add.ensures
    ∙ ap (λ (names : List Name). names ++ (c.name.result ∷ [])) c.names.invariant
    ∙ sym (take_next c.args.names.now c.names.number c.name.result c.name.ensures)
