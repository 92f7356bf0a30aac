use Rattle.std.proofs.Common.{◌≡◌, ◌<◌, ◌+◌, ◌-◌, ◌∙◌, ℕ, List, [], drop, map, ap, ap₂, sym, arith}
use Rattle.std.proofs.lemmas.List.{drop_all}
use mathlib.Core.Path.{subst}
use Rattle.mc_model.specs.Signals.{toggled, toggled_all}
use Rattle.mc_compose.specs.Placing.{placed_in_row}
use Rattle.mc_compose.proofs.PlacedSets.{all_at, members_next}
use Rattle.mc_compose.proofs.placing.placed_set.Goals as goal

pub members-init : goal.members-init
unfolding toggled_all
members-init c =
    let len = c.len-i.ensures.len in
    let at : ℕ → ℕ = placed_in_row c.args.inputs.now c.args.others in
    c.new-placed.ensures
    ∙ ap (λ (qs : List ℕ). toggled_all (map at qs) [])
    (sym (drop_all c.len-i.result c.args.set.now (omega arith)))

pub placed_qubit-requires : goal.placed_qubit-requires
placed_qubit-requires c =
    let at : ℕ → ℕ = placed_in_row c.args.inputs.now c.args.others in
    let low : at c.get.result < 256 =
    all_at (λ q. at q < 256) c.args.set.now (c.members.i - 1) c.get.result c.requires
    c.get.ensures.member in
    omega arith

pub toggle-requires : goal.toggle-requires
toggle-requires c =
    let at : ℕ → ℕ = placed_in_row c.args.inputs.now c.args.others in
    subst (λ (q : ℕ). q < 256) (sym c.placed_qubit.ensures)
    (all_at (λ q. at q < 256) c.args.set.now (c.members.i - 1) c.get.result c.requires
    c.get.ensures.member)

pub members-preserved : goal.members-preserved
members-preserved c =
    let at : ℕ → ℕ = placed_in_row c.args.inputs.now c.args.others in
    let more = c.members-test.true in
    let i : c.members.i ≡ c.members.i - 1 + 1 = omega arith in
    c.in_ok-toggle.ensures.ok
    ∙ ap₂ toggled c.placed_qubit.ensures c.members.invariant
    ∙ ap (λ (j : ℕ). toggled (at c.get.result) (toggled_all (map at (drop j c.args.set.now)) [])) i
    ∙ members_next at c.args.set.now (c.members.i - 1) c.get.result c.get.ensures.member
