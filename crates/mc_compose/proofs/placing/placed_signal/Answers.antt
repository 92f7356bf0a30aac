use Rattle.std.proofs.Common.{◌∙◌, ℕ, Bool, List, [], map, ap, ap₂}
use Rattle.mc_model.specs.Signals.{Signal, toggled_all}
use Rattle.mc_compose.specs.Composed.{placed_signal}
use Rattle.mc_compose.specs.Placing.{placed_in_row}
use Rattle.mc_compose.proofs.placing.placed_signal.Goals as goal

pub returns : goal.returns
unfolding placed_signal
returns c =
    let at : ℕ → ℕ = placed_in_row c.args.inputs.now c.args.others in
    c.with_constant.ensures
    ∙ ap₂ (λ (qs : List ℕ) (b : Bool). record { members = qs; constant = b })
    (ap (λ (s : Signal). s.members) c.of.ensures
    ∙ c.in_ok-members.ensures
    ∙ ap (λ (qs : List ℕ). toggled_all (map at qs) []) c.members.ensures.members)
    c.constant.ensures
