use Rattle.std.proofs.Common.{◌≡◌, ◌<◌, ◌∙◌, ℕ, [], ap, ap₂, sym, length, refl}
use Rattle.std.proofs.Common.{arith}
use mathlib.Core.Path.{subst}
use Rattle.mc_model.specs.Pattern.{Pattern}
use Rattle.mc_compose.specs.Composed.{chained}
use Rattle.mc_compose.specs.Placing.{placed_in_row}
use Rattle.mc_compose.proofs.Sizes.{chain_within}
use Rattle.mc_compose.proofs.OnQubits.{items_on}
use Rattle.mc_compose.proofs.InRow.{itself_low, behind_low, row_behind, itself_placed}
use Rattle.mc_compose.proofs.chains.commands_of.Goals as goal

pub push_placed-requires : goal.push_placed-requires
push_placed-requires g c =
    let first : Pattern = c.args.first.now in
    let valid = c.names.ensures.valid.valid in (
      omega arith,
      items_on c.commands.result.now first (placed_in_row [] 0) c.commands.ensures valid
          (itself_low first valid),
    )

pub push_placed-requires-2 : goal.push_placed-requires-2
push_placed-requires-2 g c =
    let first : Pattern = c.args.first.now in
    let second : Pattern = c.args.second.now in
    let few = (chain_within first second c.requires.within).0 in
    let at : placed_in_row c.outputs.result.now c.len-others.result
    ≡ placed_in_row first.outputs (length first.names) =
    ap₂ placed_in_row c.outputs.ensures
    (c.len-others.ensures.len ∙ ap length c.names.ensures.names) in (
      omega arith,
      items_on c.commands-2.result.now second
          (placed_in_row c.outputs.result.now c.len-others.result) c.commands-2.ensures
          c.names-second.ensures.valid.valid
          (λ q lt. subst (λ (f : ℕ → ℕ). f q < 256) (sym at)
          (behind_low first second c.names.ensures.valid.valid c.requires.fits few q lt)),
    )

pub returns : goal.returns
unfolding chained
returns g c =
    let first : Pattern = c.args.first.now in
    let others = c.len-others.ensures.len ∙ ap length c.names.ensures.names in
    rw (
      c.in_ok-push_placed-2.ensures,
      c.in_ok-push_placed.ensures,
      c.new-commands.ensures.items,
      c.commands.ensures,
      c.commands-2.ensures,
      c.outputs.ensures,
      others,
      itself_placed first c.names.ensures.valid.valid,
      row_behind first c.args.second.now c.requires.fits,
    )
    refl
