use Rattle.std.proofs.Common.{◌∙◌, sym}
use Rattle.mc_text.proofs.Numbers.{listed_name-twice, listed_name-clean}
use Rattle.mc_text.proofs.rule.unlisted.Goals as goal

pub returns-then-contains-clause-err : goal.returns-then-contains-clause-err
returns-then-contains-clause-err c = λ list are.
    listed_name-twice c.args.names.now list c.args.listed.now c.args.word.now c.in-Ok.number are
    c.in-Ok.ensures.clean c.in-Ok.ensures.place
    (sym c.contains.ensures.value ∙ c.if-contains.true)

pub returns-else-contains-clause-clean : goal.returns-else-contains-clause-clean
returns-else-contains-clause-clean c = λ list are.
    listed_name-clean c.args.names.now list c.args.listed.now c.args.word.now c.in-Ok.number are
    c.in-Ok.ensures.clean c.in-Ok.ensures.place
    (sym c.contains.ensures.value ∙ c.if-contains.false)
