use Rattle.std.proofs.Common.{◌≡◌, ◌<◌, ◌∙◌, ℕ, ap, ap₂, sym, length, refl}
use mathlib.Core.Path.{subst}
use Rattle.mc_model.specs.Pattern.{Pattern}
use Rattle.mc_compose.specs.Composed.{chained}
use Rattle.mc_compose.specs.Placing.{placed_in_row}
use Rattle.mc_compose.proofs.Sizes.{chain_within}
use Rattle.mc_compose.proofs.OnQubits.{outputs_on}
use Rattle.mc_compose.proofs.InRow.{behind_low, row_behind}
use Rattle.std.proofs.Common.{All}
use Rattle.mc_compose.proofs.chains.outputs_of.Goals as goal

pub push_qubits-requires : goal.push_qubits-requires
push_qubits-requires g c =
    let first : Pattern = c.args.first.now in
    let second : Pattern = c.args.second.now in
    let few = (chain_within first second c.requires.within).0 in
    let at : placed_in_row c.outputs.result.now c.len-others.result
    ≡ placed_in_row first.outputs (length first.names) =
    ap₂ placed_in_row c.outputs.ensures
    (c.len-others.ensures.len ∙ ap length c.names.ensures.names) in
    subst (λ (f : ℕ → ℕ). All (λ q. f q < 256) c.outputs-2.result.now) (sym at)
    (subst (All (λ q. placed_in_row first.outputs (length first.names) q < 256))
    (sym c.outputs-2.ensures)
    (outputs_on second (placed_in_row first.outputs (length first.names))
    c.names-second.ensures.valid.valid
    (behind_low first second c.names.ensures.valid.valid c.requires.fits few)))

pub returns : goal.returns
unfolding chained
returns g c =
    let first : Pattern = c.args.first.now in
    let others = c.len-others.ensures.len ∙ ap length c.names.ensures.names in
    rw (
      c.in_ok-push_qubits.ensures,
      c.new-outputs.ensures.items,
      c.outputs-2.ensures,
      c.outputs.ensures,
      others,
      row_behind first c.args.second.now c.requires.fits,
    )
    refl
