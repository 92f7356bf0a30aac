use Rattle.std.proofs.Common.{rules, ◌≡◌, ℕ, ◌+◌, ◌*◌, ◌^◌, ◌<◌, List, ℤ, length, sym}
use Rattle.std.proofs.Common.{ap, ap₂, ◌≤◌, ◌∙◌, subst, arith}
use Rattle.mc_model.specs.Bits.{bits_of}
use Rattle.mc_model.specs.Ring.{ring}
use Rattle.mc_model.specs.Amplitude.{branch_map, halvings}
use Rattle.mc_pattern.specs.Patterns.{measured_count}
use Rattle.mc_run.specs.Reports.{outcomes_of}
use Rattle.mc_run.proofs.AllColumns.{few_columns, column_within}
use Rattle.mc_run.specs.Settings.{spelled}
use Rattle.mc_run.specs.Sources.{entry}
use Rattle.mc_run.proofs.CoefficientLists.{branch_entry}
use Rattle.mc_run.proofs.FilledColumns.{Filled, map_same, filled_more}
use Rattle.mc_run.proofs.CountsAlong.{listed_few}
use Rattle.mc_run.proofs.tree.table_of.Goals as goal

pub two_to-width-requires : goal.two_to-width-requires
two_to-width-requires g c =
    omega (
      arith,
      ap length c.outputs-outputs.ensures,
      c.requires.few,
      listed_few _ _ _ c.names-names.ensures.valid.valid.outputs,
    )

pub column_at-next-requires : goal.column_at-next-requires
column_at-next-requires g c =
    let pattern = c.args.pattern.now in
    let out : length c.outputs-outputs.result.now ≡ length pattern.outputs =
    ap length c.outputs-outputs.ensures in
    let width : c.two_to-width.result ≡ 2 ^ length pattern.outputs =
    c.two_to-width.ensures ∙ ap (λ n. 2 ^ n) out in
    let branches : c.two_to-branches.result ≡ 2 ^ measured_count pattern =
    c.two_to-branches.ensures ∙ ap (λ n. 2 ^ n) c.measured.ensures.count in
    let inside : c.columns.b < 2 ^ pattern.inputs =
    omega (
      arith,
      c.columns-test.true,
      c.two_to-b-end.ensures,
      ap (λ n. 2 ^ n) c.inputs-inputs.ensures,
    ) in
    let listed = listed_few _ _ _ c.names-names.ensures.valid.valid.outputs in
    let few : 2 ^ measured_count pattern * 2 ^ length pattern.outputs ≤ 2 ^ 32 =
    few_columns (measured_count pattern) (length pattern.outputs) (omega (arith, c.requires.few, listed)) in
    let within = column_within (2 ^ pattern.inputs) (2 ^ measured_count pattern)
    (2 ^ length pattern.outputs) c.args.i c.columns.b inside c.requires.within in (
      search rules,
      (
        subst (λ m. m * c.two_to-width.result ≤ 2 ^ 32) (sym branches)
            (subst (λ n. 2 ^ measured_count pattern * n ≤ 2 ^ 32) (sym width) few),
        subst (λ m. c.columns.b * (m * c.two_to-width.result)
            + (c.args.i * c.two_to-width.result + c.two_to-width.result) ≤ length c.args.all.now)
            (sym branches)
            (subst (λ n. c.columns.b * (2 ^ measured_count pattern * n) + (c.args.i * n + n)
            ≤ length c.args.all.now) (sym width)
            (subst (λ k. c.columns.b * (2 ^ measured_count pattern * 2 ^ length pattern.outputs)
            + (c.args.i * 2 ^ length pattern.outputs + 2 ^ length pattern.outputs) ≤ k)
            (sym c.requires.columns.long) within)),
      ),
    )

pub columns-preserved : goal.columns-preserved
columns-preserved g c =
    let pattern = c.args.pattern.now in
    let b : ℕ = c.columns.b in
    let value : ℕ → ℕ → List ℤ =
    (λ y b. (branch_map (ring g.row.H) pattern (outcomes_of pattern c.args.i)
    (spelled (length pattern.outputs) y) (bits_of (spelled pattern.inputs b))).coefficients) in
    let out : length c.outputs-outputs.result.now ≡ length pattern.outputs =
    ap length c.outputs-outputs.ensures in
    let width : c.two_to-width.result ≡ 2 ^ length pattern.outputs =
    c.two_to-width.ensures ∙ ap (λ n. 2 ^ n) out in
    let branches : c.two_to-branches.result ≡ 2 ^ measured_count pattern =
    c.two_to-branches.ensures ∙ ap (λ n. 2 ^ n) c.measured.ensures.count in
    let inside : b < 2 ^ pattern.inputs =
    omega (
      arith,
      c.columns-test.true,
      c.two_to-b-end.ensures,
      ap (λ n. 2 ^ n) c.inputs-inputs.ensures,
    ) in
    subst (Filled value (2 ^ length pattern.outputs) (b + 1)) (sym c.in-Ok.ensures.items)
    (filled_more value (2 ^ length pattern.outputs) b c.columns.entries.items
    c.column_at-next.result.now c.columns.invariant (c.column_at-next.ensures.long ∙ width)
    (λ y h.
    c.column_at-next.ensures.values y (subst (λ n. y < n) (sym width) h)
    ∙ ap₂ (λ m n. entry c.args.all.now (b * (m * n) + (c.args.i * n + y))) branches width
    ∙ c.requires.columns.at b c.args.i y inside c.requires.within h))

pub overflow_cast-result : goal.overflow_cast-result
overflow_cast-result g c =
    omega (
      arith,
      ap length c.outputs-outputs.ensures,
      c.requires.few,
      listed_few _ _ _ c.names-names.ensures.valid.valid.outputs,
    )

pub invariant_of-result : goal.invariant_of-result
invariant_of-result g c =
    let pattern = c.args.pattern.now in
    let out : length c.outputs-outputs.result.now ≡ length pattern.outputs =
    ap length c.outputs-outputs.ensures in
    let all : c.columns.b ≡ 2 ^ c.inputs-inputs.result =
    omega (arith, c.columns-test.false, c.columns.auto.b-end, c.two_to-b-end.ensures) in (
      c.requires.permitted,
      record {
        long = c.columns.invariant.long ∙ ap (λ b. b * 2 ^ length pattern.outputs) all
            ∙ ap (λ n. 2 ^ c.inputs-inputs.result * 2 ^ n) (sym out);
        small =
            omega (
              arith,
              out,
              c.requires.few,
              c.inputs-inputs.ensures,
              listed_few _ _ _ c.names-names.ensures.valid.valid.outputs,
            );
      },
    )

pub returns-clause-table : goal.returns-clause-table
returns-clause-table g c =
    let pattern = c.args.pattern.now in
    let out : length c.outputs-outputs.result.now ≡ length pattern.outputs =
    ap length c.outputs-outputs.ensures in
    record {
      outputs_are = out;
      inputs_are = c.inputs-inputs.ensures;
      halves_are = c.count_halves-halves.ensures ∙ ap halvings c.commands.ensures;
      entries_are = λ y b h k.
          ap (λ n. entry c.columns.entries.items (b * 2 ^ n + y)) out
          ∙ c.columns.invariant.at y b h
          (omega (
            arith,
            c.columns-test.false,
            c.two_to-b-end.ensures,
            ap (λ n. 2 ^ n) c.inputs-inputs.ensures,
          ));
    }

pub returns-clause-long : goal.returns-clause-long
returns-clause-long g c =
    let all : c.columns.b ≡ 2 ^ c.args.pattern.now.inputs =
    omega (
      arith,
      c.columns-test.false,
      c.columns.auto.b-end,
      c.two_to-b-end.ensures,
      ap (λ n. 2 ^ n) c.inputs-inputs.ensures,
    ) in
    c.columns.invariant.long ∙ ap (λ b. b * 2 ^ length c.args.pattern.now.outputs) all
