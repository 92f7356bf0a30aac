use Rattle.std.proofs.Common.{◌≡◌, ℕ, ◌+◌, ◌*◌, ◌^◌, ◌<◌, List, ℤ, ◌++◌, length, map, sym, ap}
use Rattle.std.proofs.Common.{◌∙◌}
use Rattle.std.proofs.Common.{subst, arith}
use Rattle.std.specs.Prelude.{All}
use Rattle.mc_model.specs.Bits.{bits_of}
use Rattle.mc_model.specs.Pattern.{wires}
use Rattle.mc_model.specs.Ring.{ring}
use Rattle.mc_model.specs.Amplitude.{circuit_table}
use Rattle.mc_run.specs.Settings.{spelled, place_spelled, numbers_below}
use Rattle.mc_run.specs.Sources.{entry}
use Rattle.mc_run.specs.Gates.{IsLiving}
use Rattle.mc_run.proofs.InputVectors.{length-below}
use Rattle.mc_run.proofs.CoefficientLists.{circuit_entry}
use Rattle.mc_run.proofs.FilledColumns.{Filled, map_same, filled_more}
use Rattle.mc_run.proofs.CountsAlong.{outputs_living, listed_few}
use Rattle.mc_run.proofs.circuit.circuit_table.Goals as goal

pub column-requires-clause-living : goal.column-requires-clause-living
column-requires-clause-living g c =
    subst (λ qs. All (IsLiving c.in_ok-state.state.live.items) qs) (sym c.out-outputs.ensures)
    (subst (λ live. All (IsLiving live) c.args.circuit.now.outputs) (sym c.in_ok-state.ensures.live)
    (outputs_living c.args.circuit.now c.names.ensures.valid.valid))

pub column-requires-clause-few : goal.column-requires-clause-few
column-requires-clause-few g c =
    omega (
      arith,
      ap length c.in_ok-state.ensures.live,
      length-below (wires c.args.circuit.now),
      c.requires.few,
    )

pub column-requires-clause-short : goal.column-requires-clause-short
column-requires-clause-short g c =
    omega (
      arith,
      ap length c.out-outputs.ensures,
      c.requires.few,
      listed_few _ _ _ c.names.ensures.valid.valid.outputs,
    )

pub columns-preserved : goal.columns-preserved
columns-preserved g c =
    let circuit = c.args.circuit.now in
    let b : ℕ = c.columns.b in
    let value : ℕ → ℕ → List ℤ =
    (λ y b. (circuit_table (ring g.row.H) circuit (spelled (length circuit.outputs) y)
    (bits_of (spelled circuit.inputs b))).coefficients) in
    let out : length c.out-outputs.result.now ≡ length circuit.outputs =
    ap length c.out-outputs.ensures in
    let long : length c.in_ok-next.next.items ≡ 2 ^ length circuit.outputs =
    c.in_ok-next.ensures.length ∙ ap (λ n. 2 ^ n) out in
    let values : (y : ℕ) → y < 2 ^ length circuit.outputs →
    entry c.in_ok-next.next.items y ≡ value y b =
    λ y h.
    ap (λ t. entry t y) (sym (map_same c.in_ok-next.next.items))
    ∙ c.in_ok-next.ensures.values y (subst (λ n. y < 2 ^ n) (sym out) h)
    ∙ ap (λ live. entry (map (λ x. x) c.in_ok-state.state.entries.items)
    (place_spelled live c.out-outputs.result.now y)) c.in_ok-state.ensures.live
    ∙ ap (λ qs. entry (map (λ x. x) c.in_ok-state.state.entries.items)
    (place_spelled (numbers_below (wires circuit)) qs y)) c.out-outputs.ensures
    ∙ circuit_entry g.row.H circuit y b (map (λ x. x) c.in_ok-state.state.entries.items)
    c.in_ok-state.ensures.holds (outputs_living circuit c.names.ensures.valid.valid) in
    let items : c.append.new.self.items ≡ c.columns.entries.items ++ c.in_ok-next.next.items =
    c.in-Ok.ensures.items in
    subst (Filled value (2 ^ length circuit.outputs) (b + 1)) (sym items)
    (filled_more value (2 ^ length circuit.outputs) b c.columns.entries.items c.in_ok-next.next.items
    c.columns.invariant long values)

pub overflow_cast-result : goal.overflow_cast-result
overflow_cast-result g c =
    omega (
      arith,
      ap length c.out-outputs.ensures,
      c.requires.few,
      listed_few _ _ _ c.names.ensures.valid.valid.outputs,
    )

pub invariant_of-result : goal.invariant_of-result
invariant_of-result g c =
    let circuit = c.args.circuit.now in
    let out : length c.out-outputs.result.now ≡ length circuit.outputs =
    ap length c.out-outputs.ensures in
    let all : c.columns.b ≡ 2 ^ c.inputs-inputs.result =
    omega (arith, c.columns-test.false, c.columns.auto.b-end, c.two_to-b-end.ensures) in (
      c.requires.permitted,
      record {
        long = c.columns.invariant.long ∙ ap (λ b. b * 2 ^ length circuit.outputs) all
            ∙ ap (λ n. 2 ^ c.inputs-inputs.result * 2 ^ n) (sym out);
        small =
            omega (
              arith,
              out,
              c.requires.few,
              c.inputs-inputs.ensures,
              listed_few _ _ _ c.names.ensures.valid.valid.outputs,
            );
      },
    )

pub returns : goal.returns
returns g c =
    let circuit = c.args.circuit.now in
    let out : length c.out-outputs.result.now ≡ length circuit.outputs =
    ap length c.out-outputs.ensures in
    record {
      outputs_are = out;
      inputs_are = c.inputs-inputs.ensures;
      halves_are =
          omega (
            arith,
            c.requires.turns,
            c.len-count.ensures.len,
            ap length c.names.ensures.names,
            c.inputs-inputs.ensures,
          );
      entries_are = λ y b h k.
          ap (λ n. entry c.columns.entries.items (b * 2 ^ n + y)) out
          ∙ c.columns.invariant.at y b h
          (omega (
            arith,
            c.columns-test.false,
            c.two_to-b-end.ensures,
            ap (λ n. 2 ^ n) c.inputs-inputs.ensures,
          ));
    }
