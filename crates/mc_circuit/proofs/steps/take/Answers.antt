use Rattle.std.proofs.Common.{◌≡◌, Some, refl, ap, ◌∙◌}
use Rattle.mc_text.specs.declared.head.Head.TheVariants.{Cz}
use Rattle.mc_circuit.proofs.Operands.{OnOk_to}
use Rattle.mc_circuit.proofs.Moving.{second_moves}
use Rattle.mc_circuit.proofs.steps.take.Goals as goal

pub returns-in-2-count-clause-ok : goal.returns-in-2-count-clause-ok
returns-in-2-count-clause-ok g c =
    let some : c.args.point.head ≡ Some c.in-Some-Cz.field-0 = c.in-Some-Cz.is in
    let which : c.in-Some-Cz.field-0 ≡ Cz = rw some at c.in-Some-Cz.field-0-is in
    let head : c.args.point.head ≡ Some Cz = some ∙ ap Some which in
    OnOk_to c.take_second.result _ _
    (λ t. second_moves c.args.kept.now _ c.args.point c.args.word.now c.in-2-count.is head t refl refl refl refl refl)
    c.take_second.ensures.ok
