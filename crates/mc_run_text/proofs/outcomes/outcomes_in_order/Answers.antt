use Rattle.std.proofs.Common.{◌≡◌, ◌<◌, length, sym, subst, ap, ◌∙◌}
use Rattle.std.specs.Prelude.{All}
use Rattle.std.proofs.lemmas.List.{length-replicate}
use Rattle.mc_model.specs.Pattern.{measured_order}
use Rattle.mc_run.proofs.MeasuringOrder.{order_listed, order_long}
use Rattle.mc_run_text.proofs.outcomes.outcomes_in_order.Goals as goal

pub set_outcomes-requires-clause-below : goal.set_outcomes-requires-clause-below
set_outcomes-requires-clause-below g c =
    let e = c.deref.ensures.value ∙ c.in_ok-order.ensures in
    let n : length c.args.pattern.now.names ≡ length c.in_ok-values.values =
    sym (ap length c.in_ok-values.ensures ∙ length-replicate _ _
    ∙ c.len-count.ensures.len ∙ ap length c.names.ensures.names) in
    subst (λ qs. All (λ q. q < length c.in_ok-values.values) qs) (sym e)
    (subst (λ m. All (λ q. q < m) (measured_order c.args.pattern.now.commands)) n
    (order_listed c.args.pattern.now c.names.ensures.valid.valid).below)

pub set_outcomes-requires-clause-same : goal.set_outcomes-requires-clause-same
set_outcomes-requires-clause-same g c =
    ap length (c.deref.ensures.value ∙ c.in_ok-order.ensures)
    ∙ order_long c.args.pattern.now c.names.ensures.valid.valid
    ∙ sym c.requires
