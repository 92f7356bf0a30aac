use Rattle.std.proofs.Common.{◌≡◌, ◌∙◌, length, ap, sym}
use Rattle.std.proofs.lemmas.Bool.{eq-eqb}
use Rattle.mc_model.specs.Pattern.{Pattern}
use Rattle.mc_model.proofs.StepLemmas.{permitted_positive}
use Rattle.mc_compose.specs.Composed.{chained}
use Rattle.mc_top.proofs.ShiftedForms.{on_ok}
use Rattle.mc_top.proofs.chain.answer_chained.Goals as goal

pub returns-clause-due : goal.returns-clause-due
returns-clause-due g c =
    let first : Pattern = c.args.first.now in
    let second : Pattern = c.args.second.now in
    let fit : length first.outputs ≡ second.inputs =
    sym (ap length c.outputs.ensures) ∙ c.if-outputs-inputs.false ∙ c.inputs.ensures in
    rw (eq-eqb (length first.outputs) second.inputs fit)
    (c.composed.ensures.due (chained first second) c.chain.ensures.pattern c.chain.ensures.within
    (λ which found e. (c.chain.ensures.limit which found).0 e))

pub returns-clause-meaning : goal.returns-clause-meaning
returns-clause-meaning g c =
    let first : Pattern = c.args.first.now in
    let second : Pattern = c.args.second.now in
    let fit : length first.outputs ≡ second.inputs =
    sym (ap length c.outputs.ensures) ∙ c.if-outputs-inputs.false ∙ c.inputs.ensures in
    let valid1 = c.names-first.ensures.valid in
    let valid2 = c.names-second.ensures.valid in
    on_ok c.composed.result _ (record {
      fit = fit;
      joined = λ o1 o2.
          (c.outcomes_join.ensures first second valid1.valid valid2.valid o1 o2).0 fit;
      maps =
          c.chains_multiply.ensures g.row.H (permitted_positive g.row.H valid1.permitted) first second
          valid1.valid valid2.valid fit;
    })
