use Rattle.std.proofs.Common.{◌≡◌, ℕ, ◌+◌, ◌*◌, ◌^◌, ◌<◌, List, ℤ, ◌++◌, length, map, sym, ap}
use Rattle.std.proofs.Common.{◌∙◌}
use Rattle.std.proofs.Common.{subst, arith}
use Rattle.std.specs.Prelude.{All}
use Rattle.mc_model.specs.Bits.{bits_of}
use Rattle.mc_model.specs.Ring.{ring}
use Rattle.mc_model.specs.Amplitude.{branch_map, halvings}
use Rattle.mc_run.specs.Settings.{spelled, place_spelled}
use Rattle.mc_run.specs.Sources.{entry}
use Rattle.mc_run.specs.Gates.{IsLiving}
use Rattle.mc_run.proofs.CoefficientLists.{branch_entry}
use Rattle.mc_run.proofs.FilledColumns.{Filled, map_same, filled_more}
use Rattle.mc_run.proofs.CountsAlong.{listed_few}
use Rattle.mc_run.proofs.branch.branch_table.Goals as goal

pub column-requires-clause-living : goal.column-requires-clause-living
column-requires-clause-living g c =
    subst (λ qs. All (IsLiving c.in_ok-state.state.live.items) qs) (sym c.outputs-outputs.ensures)
    c.in_ok-state.ensures.living

pub column-requires-clause-few : goal.column-requires-clause-few
column-requires-clause-few g c = omega (arith, c.in_ok-state.ensures.few)

pub column-requires-clause-short : goal.column-requires-clause-short
column-requires-clause-short g c =
    omega (
      arith,
      ap length c.outputs-outputs.ensures,
      c.requires.few,
      listed_few _ _ _ c.names-names.ensures.valid.valid.outputs,
    )

pub column-requires-clause-long : goal.column-requires-clause-long
column-requires-clause-long g c =
    sym (ap length (map_same c.in_ok-state.state.entries.items))
    ∙ c.in_ok-state.ensures.holds.1.long

pub columns-preserved : goal.columns-preserved
columns-preserved g c =
    let pattern = c.args.pattern.now in
    let b : ℕ = c.columns.b in
    let value : ℕ → ℕ → List ℤ =
    (λ y b. (branch_map (ring g.row.H) pattern (bits_of c.args.outcomes.now)
    (spelled (length pattern.outputs) y) (bits_of (spelled pattern.inputs b))).coefficients) in
    let out : length c.outputs-outputs.result.now ≡ length pattern.outputs =
    ap length c.outputs-outputs.ensures in
    let long : length c.in_ok-next.next.items ≡ 2 ^ length pattern.outputs =
    c.in_ok-next.ensures.length ∙ ap (λ n. 2 ^ n) out in
    let values : (y : ℕ) → y < 2 ^ length pattern.outputs →
    entry c.in_ok-next.next.items y ≡ value y b =
    λ y h.
    ap (λ t. entry t y) (sym (map_same c.in_ok-next.next.items))
    ∙ c.in_ok-next.ensures.values y (subst (λ n. y < 2 ^ n) (sym out) h)
    ∙ ap (λ qs. entry (map (λ x. x) c.in_ok-state.state.entries.items)
    (place_spelled c.in_ok-state.state.live.items qs y)) c.outputs-outputs.ensures
    ∙ branch_entry g.row.H pattern (bits_of c.args.outcomes.now) c.in_ok-state.state.live.items
    c.in_ok-state.ensures.holds.0 y b (map (λ x. x) c.in_ok-state.state.entries.items)
    c.in_ok-state.ensures.holds.1 c.in_ok-state.ensures.living in
    let items : c.append.new.self.items ≡ c.columns.entries.items ++ c.in_ok-next.next.items =
    c.in-Ok.ensures.items in
    subst (Filled value (2 ^ length pattern.outputs) (b + 1)) (sym items)
    (filled_more value (2 ^ length pattern.outputs) b c.columns.entries.items c.in_ok-next.next.items
    c.columns.invariant long values)

pub overflow_cast-result : goal.overflow_cast-result
overflow_cast-result g c =
    omega (
      arith,
      ap length c.outputs-outputs.ensures,
      c.requires.few,
      listed_few _ _ _ c.names-names.ensures.valid.valid.outputs,
    )

pub invariant_of-result : goal.invariant_of-result
invariant_of-result g c =
    let pattern = c.args.pattern.now in
    let out : length c.outputs-outputs.result.now ≡ length pattern.outputs =
    ap length c.outputs-outputs.ensures in
    let all : c.columns.b ≡ 2 ^ c.inputs-inputs.result =
    omega (arith, c.columns-test.false, c.columns.auto.b-end, c.two_to-b-end.ensures) in (
      c.requires.permitted,
      record {
        long = c.columns.invariant.long ∙ ap (λ b. b * 2 ^ length pattern.outputs) all
            ∙ ap (λ n. 2 ^ c.inputs-inputs.result * 2 ^ n) (sym out);
        small =
            omega (
              arith,
              out,
              c.requires.few,
              c.inputs-inputs.ensures,
              listed_few _ _ _ c.names-names.ensures.valid.valid.outputs,
            );
      },
    )

pub returns-clause-table : goal.returns-clause-table
returns-clause-table g c =
    let pattern = c.args.pattern.now in
    let out : length c.outputs-outputs.result.now ≡ length pattern.outputs =
    ap length c.outputs-outputs.ensures in
    record {
      outputs_are = out;
      inputs_are = c.inputs-inputs.ensures;
      halves_are = c.count_halves-halves.ensures ∙ ap halvings c.commands.ensures;
      entries_are = λ y b h k.
          ap (λ n. entry c.columns.entries.items (b * 2 ^ n + y)) out
          ∙ c.columns.invariant.at y b h
          (omega (
            arith,
            c.columns-test.false,
            c.two_to-b-end.ensures,
            ap (λ n. 2 ^ n) c.inputs-inputs.ensures,
          ));
    }

pub returns-clause-long : goal.returns-clause-long
returns-clause-long g c =
    let all : c.columns.b ≡ 2 ^ c.args.pattern.now.inputs =
    omega (
      arith,
      c.columns-test.false,
      c.columns.auto.b-end,
      c.two_to-b-end.ensures,
      ap (λ n. 2 ^ n) c.inputs-inputs.ensures,
    ) in
    c.columns.invariant.long ∙ ap (λ b. b * 2 ^ length c.args.pattern.now.outputs) all
