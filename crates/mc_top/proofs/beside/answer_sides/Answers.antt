use Rattle.mc_model.specs.Pattern.{Pattern}
use Rattle.mc_model.proofs.StepLemmas.{permitted_positive}
use Rattle.mc_compose.specs.Composed.{side_by_side}
use Rattle.mc_top.proofs.ShiftedForms.{on_ok}
use Rattle.mc_top.proofs.beside.answer_sides.Goals as goal

pub returns-clause-due : goal.returns-clause-due
returns-clause-due g c =
    let first : Pattern = c.args.first.now in
    let second : Pattern = c.args.second.now in
    c.composed.ensures.due (side_by_side first second) c.beside.ensures.pattern
    c.beside.ensures.within (λ which found e. (c.beside.ensures.limit which found).0 e)

pub returns-clause-meaning : goal.returns-clause-meaning
returns-clause-meaning g c =
    let first : Pattern = c.args.first.now in
    let second : Pattern = c.args.second.now in
    let valid1 = c.names-first.ensures.valid in
    let valid2 = c.names-second.ensures.valid in
    on_ok c.composed.result _ (record {
      joined = λ o1 o2.
          (c.outcomes_join.ensures first second valid1.valid valid2.valid o1 o2).1;
      maps =
          c.sides_multiply.ensures g.row.H (permitted_positive g.row.H valid1.permitted) first second
          valid1.valid valid2.valid;
    })
