use Rattle.std.proofs.Common.{◌≡◌, ◌+◌, ◌<◌, ◌∙◌, ℕ, List, ap, ap₂, sym, length}
use Rattle.std.proofs.Common.{refl}
use Rattle.std.proofs.Common.{All}
use mathlib.Core.Path.{subst}
use Rattle.mc_model.specs.Numbers.{numbers_from}
use Rattle.mc_model.specs.Pattern.{Pattern}
use Rattle.mc_compose.specs.Composed.{side_by_side}
use Rattle.mc_compose.specs.Placing.{placed_in_row}
use Rattle.mc_compose.proofs.Sizes.{side_within}
use Rattle.mc_compose.proofs.OnQubits.{outputs_on}
use Rattle.mc_compose.proofs.InRow.{left_low, right_low, row_left, row_right}
use Rattle.mc_compose.proofs.sides.outputs_of.Goals as goal

pub push_qubits-requires : goal.push_qubits-requires
push_qubits-requires g c =
    let first : Pattern = c.args.first.now in
    let second : Pattern = c.args.second.now in
    let few = (side_within first second c.requires).0 in
    let at : placed_in_row c.deref.result.now (c.inputs-left.result + c.inputs-right.result)
    ≡ placed_in_row (numbers_from 0 first.inputs) (first.inputs + second.inputs) =
    ap₂ placed_in_row
    (c.deref.ensures.value ∙ c.in_ok-ours.ensures ∙ ap (numbers_from 0) c.inputs-left.ensures)
    (ap₂ (λ (m n : ℕ). m + n) c.inputs-left.ensures c.inputs-right.ensures) in
    subst (λ (f : ℕ → ℕ). All (λ q. f q < 256) c.outputs.result.now) (sym at)
    (subst
    (All (λ q.
    placed_in_row (numbers_from 0 first.inputs) (first.inputs + second.inputs) q < 256))
    (sym c.outputs.ensures)
    (outputs_on first
    (placed_in_row (numbers_from 0 first.inputs) (first.inputs + second.inputs))
    c.names.ensures.valid.valid
    (left_low first second c.names-second.ensures.valid.valid few)))

pub push_qubits-requires-2 : goal.push_qubits-requires-2
push_qubits-requires-2 g c =
    let first : Pattern = c.args.first.now in
    let second : Pattern = c.args.second.now in
    let few = (side_within first second c.requires).0 in
    let right : ℕ → ℕ =
    placed_in_row (numbers_from first.inputs second.inputs)
    (length first.names + second.inputs) in
    let at : placed_in_row c.deref-2.result.now (c.len-count.result + c.inputs-right.result)
    ≡ right =
    ap₂ placed_in_row
    (c.deref-2.ensures.value
    ∙ c.in_ok-theirs.ensures
    ∙ ap₂ numbers_from c.inputs-left.ensures c.inputs-right.ensures)
    (ap₂ (λ (m n : ℕ). m + n) (c.len-count.ensures.len ∙ ap length c.names.ensures.names)
    c.inputs-right.ensures) in
    subst (λ (f : ℕ → ℕ). All (λ q. f q < 256) c.outputs-2.result.now) (sym at)
    (subst (All (λ q. right q < 256)) (sym c.outputs-2.ensures)
    (outputs_on second right c.names-second.ensures.valid.valid
    (right_low first second c.names.ensures.valid.valid few)))

pub returns : goal.returns
unfolding side_by_side
returns g c =
    let first : Pattern = c.args.first.now in
    let second : Pattern = c.args.second.now in
    let count = c.len-count.ensures.len ∙ ap length c.names.ensures.names in
    rw (
      c.in_ok-push_qubits-2.ensures,
      c.in_ok-push_qubits.ensures,
      c.new-outputs.ensures.items,
      c.outputs.ensures,
      c.outputs-2.ensures,
      c.deref.ensures.value,
      c.deref-2.ensures.value,
      c.in_ok-ours.ensures,
      c.in_ok-theirs.ensures,
      count,
      c.inputs-left.ensures,
      c.inputs-right.ensures,
      row_left first second,
      row_right first second,
    )
    (refl {A = List ℕ})
