use Rattle.std.proofs.Common.{◌≡◌, ℕ, ◌*◌, ◌^◌, ◌<◌, [], ◌∷◌, ◌++◌, length, slice_index_or, sym}
use Rattle.std.proofs.Common.{ap}
use Rattle.std.proofs.Common.{◌∙◌, subst, arith}
use Rattle.mc_model.specs.Ring.{ring}
use Rattle.mc_model.specs.Amplitude.{branch_map, pattern_scale}
use Rattle.mc_pattern.specs.Patterns.{measured_count}
use Rattle.mc_cyclo.specs.Phase.{IsLeastPhase}
use Rattle.mc_run.specs.Tables.{TableValue, IsTableOf}
use Rattle.mc_run.specs.Reports.{outcomes_of}
use Rattle.mc_run.proofs.Vectors.{length-more}
use Rattle.mc_run.proofs.MeasuringOrder.{order_listed, order_long, each_next}
use Rattle.mc_run.proofs.report.all_branches.Goals as goal

pub branches-preserved : goal.branches-preserved
branches-preserved g c =
    let pattern = c.args.pattern.now in
    let table : TableValue = c.in_ok-table.table in
    let P : ℕ → TableValue → Type 0 =
    (λ j t. (length t.entries ≡ 2 ^ pattern.inputs * 2 ^ length pattern.outputs)
    × IsTableOf (length pattern.outputs) pattern.inputs (pattern_scale pattern)
    (branch_map (ring g.row.H) pattern (outcomes_of pattern j)) t) in
    let items : c.push.new.self.items ≡ c.branches.tables.items ++ table ∷ [] =
    c.in-Ok.ensures.items in
    let one : P c.branches.i table = (c.in_ok-table.ensures.long, c.in_ok-table.ensures.table) in
    record {
      long = ap length items ∙ length-more c.branches.tables.items table
          ∙ omega (arith, c.branches.invariant.long);
      tables =
          subst (λ ts. (j : ℕ) (d : TableValue) → j < length ts → P j (slice_index_or ts j d))
          (sym items)
          (each_next P c.branches.tables.items table c.branches.invariant.tables
          (subst (λ n. P n table) (sym c.branches.invariant.long) one));
    }

pub phases_of-requires : goal.phases_of-requires
phases_of-requires g c = (
  omega arith,
  (
    c.requires.permitted,
    λ i d h.
        let e = c.deref-2.ensures.value in
        let inside : i < length c.branches.tables.items = subst (λ ts. i < length ts) e h in
        let some : 0 < length c.branches.tables.items = omega arith in
        ap (λ ts. length (slice_index_or ts i d).entries) e
        ∙ (c.branches.invariant.tables i d inside).0
        ∙ sym ((c.branches.invariant.tables 0 d some).0)
        ∙ sym (ap (λ ts. length (slice_index_or ts 0 d).entries) e),
  ),
)

pub returns : goal.returns
returns g c =
    let pattern = c.args.pattern.now in
    let all : length c.branches.tables.items ≡ 2 ^ measured_count pattern =
    omega (
      arith,
      c.branches.invariant.long,
      c.branches-test.false,
      c.branches.auto.i-end,
      c.two_to-i-end.ensures,
      ap (λ m. 2 ^ m) c.measured.ensures.count,
    ) in
    let e = c.deref-2.ensures.value in
    record {
      count = all;
      tables_are = λ i d h.
          (c.branches.invariant.tables i d (subst (λ m. i < m) (sym all) h)).1;
      phases_are = λ i d p h.
          subst (λ ts. IsLeastPhase g.row.H (slice_index_or ts i d).entries
          (slice_index_or ts 0 d).entries (slice_index_or c.in_ok-phases.phases.items i p)) e
          (c.in_ok-phases.ensures.phases i d p
          (subst (λ ts. i < length ts) (sym e) (subst (λ m. i < m) (sym all) h)));
    }
