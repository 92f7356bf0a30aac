use Rattle.std.proofs.Common.{◌≡◌, ◌+◌, ◌<◌, ◌∙◌, ℕ, ap, ap₂, sym, length}
use Rattle.std.proofs.Common.{refl}
use Rattle.std.proofs.Common.{arith}
use mathlib.Core.Path.{subst}
use Rattle.mc_model.specs.Numbers.{numbers_from}
use Rattle.mc_model.specs.Pattern.{Pattern}
use Rattle.mc_compose.specs.Composed.{side_by_side}
use Rattle.mc_compose.specs.Placing.{placed_in_row}
use Rattle.mc_compose.proofs.Sizes.{side_within}
use Rattle.mc_compose.proofs.OnQubits.{items_on}
use Rattle.mc_compose.proofs.InRow.{left_low, right_low, row_left, row_right}
use Rattle.mc_compose.proofs.sides.commands_of.Goals as goal

pub push_placed-requires : goal.push_placed-requires
push_placed-requires g c =
    let first : Pattern = c.args.first.now in
    let second : Pattern = c.args.second.now in
    let few = (side_within first second c.requires).0 in
    let at : placed_in_row c.deref.result.now (c.inputs-left.result + c.inputs-right.result)
    ≡ placed_in_row (numbers_from 0 first.inputs) (first.inputs + second.inputs) =
    ap₂ placed_in_row
    (c.deref.ensures.value ∙ c.in_ok-ours.ensures ∙ ap (numbers_from 0) c.inputs-left.ensures)
    (ap₂ (λ (m n : ℕ). m + n) c.inputs-left.ensures c.inputs-right.ensures) in (
      omega arith,
      items_on c.commands.result.now first
          (placed_in_row c.deref.result.now (c.inputs-left.result + c.inputs-right.result))
          c.commands.ensures c.names.ensures.valid.valid
          (λ q lt. subst (λ (f : ℕ → ℕ). f q < 256) (sym at)
          (left_low first second c.names-second.ensures.valid.valid few q lt)),
    )

pub push_placed-requires-2 : goal.push_placed-requires-2
push_placed-requires-2 g c =
    let first : Pattern = c.args.first.now in
    let second : Pattern = c.args.second.now in
    let few = (side_within first second c.requires).0 in
    let at : placed_in_row c.deref-2.result.now (c.len-count.result + c.inputs-right.result)
    ≡ placed_in_row (numbers_from first.inputs second.inputs) (length first.names + second.inputs) =
    ap₂ placed_in_row
    (c.deref-2.ensures.value
    ∙ c.in_ok-theirs.ensures
    ∙ ap₂ numbers_from c.inputs-left.ensures c.inputs-right.ensures)
    (ap₂ (λ (m n : ℕ). m + n) (c.len-count.ensures.len ∙ ap length c.names.ensures.names)
    c.inputs-right.ensures) in (
      omega arith,
      items_on c.commands-2.result.now second
          (placed_in_row c.deref-2.result.now (c.len-count.result + c.inputs-right.result))
          c.commands-2.ensures c.names-second.ensures.valid.valid
          (λ q lt. subst (λ (f : ℕ → ℕ). f q < 256) (sym at)
          (right_low first second c.names.ensures.valid.valid few q lt)),
    )

pub returns : goal.returns
unfolding side_by_side
returns g c =
    let first : Pattern = c.args.first.now in
    let second : Pattern = c.args.second.now in
    let count = c.len-count.ensures.len ∙ ap length c.names.ensures.names in
    rw (
      c.in_ok-push_placed-2.ensures,
      c.in_ok-push_placed.ensures,
      c.new-commands.ensures.items,
      c.commands.ensures,
      c.commands-2.ensures,
      c.deref.ensures.value,
      c.deref-2.ensures.value,
      c.in_ok-ours.ensures,
      c.in_ok-theirs.ensures,
      count,
      c.inputs-left.ensures,
      c.inputs-right.ensures,
      row_left first second,
      row_right first second,
    )
    refl
