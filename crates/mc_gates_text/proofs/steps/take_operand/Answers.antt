use Rattle.std.proofs.Common.{◌∙◌, sym}
use Rattle.mc_gates_text.proofs.Operands.{operand-same, operand-clean}
use Rattle.mc_gates_text.proofs.steps.take_operand.Goals as goal

pub returns-then-has-clause-err : goal.returns-then-has-clause-err
returns-then-has-clause-err c = λ earlier are.
    operand-same c.args.names.now earlier c.args.operands.now.items c.args.word.now c.in-Ok.number
    are c.in-Ok.ensures.clean c.in-Ok.ensures.place
    (sym (rw c.as_slice.ensures.value at c.has.ensures) ∙ c.if-has.true)

pub returns-in-Ok-push-clause-clean : goal.returns-in-Ok-push-clause-clean
returns-in-Ok-push-clause-clean c = λ earlier are.
    operand-clean c.args.names.now earlier c.args.operands.now.items c.args.word.now c.in-Ok.number
    are c.in-Ok.ensures.clean c.in-Ok.ensures.place
    (sym (rw c.as_slice.ensures.value at c.has.ensures) ∙ c.if-has.false)
