use Rattle.std.proofs.Common.{◌≡◌, ℕ, ◌<◌, List, [], ◌∷◌, ◌++◌, length, slice_index_or, sym, ap}
use Rattle.std.proofs.Common.{◌∙◌, subst, arith}
use Rattle.std.specs.Prelude.{Option}
use Rattle.mc_cyclo.specs.Phase.{IsLeastPhase}
use Rattle.mc_run.specs.Tables.{TableValue}
use Rattle.mc_run.proofs.Vectors.{length-more}
use Rattle.mc_run.proofs.MeasuringOrder.{read_same, each_next}
use Rattle.mc_run.proofs.report.phases_of.Goals as goal

pub tables-preserved : goal.tables-preserved
tables-preserved g c =
    let tables : List TableValue = c.args.tables.now in
    let phase : Option ℕ = c.phase_of-phase.result in
    let P : ℕ → Option ℕ → Type 0 =
    (λ j e. (d : TableValue) → IsLeastPhase g.row.H (slice_index_or tables j d).entries
    (slice_index_or tables 0 d).entries e) in
    let items : c.push.new.self.items ≡ c.tables.phases.items ++ phase ∷ [] = c.in-Ok.ensures.items in
    let some : 0 < length tables = let h = c.tables-test.true in omega arith in
    let one : P c.tables.i phase = λ d.
    subst (λ x. IsLeastPhase g.row.H x (slice_index_or tables 0 d).entries phase)
    (ap (λ t. t.entries) (c.index-tables-i.is ∙ read_same tables c.tables.i _ d c.tables-test.true))
    (subst (λ y. IsLeastPhase g.row.H c.index-tables-i.result.entries y phase)
    (ap (λ t. t.entries) (c.index-tables-0.is ∙ read_same tables 0 _ d some))
    c.phase_of-phase.ensures) in
    record {
      long = ap length items ∙ length-more c.tables.phases.items phase
          ∙ omega (arith, c.tables.invariant.long);
      phases =
          subst (λ xs. (j : ℕ) (e : Option ℕ) → j < length xs → P j (slice_index_or xs j e))
          (sym items)
          (each_next P c.tables.phases.items phase c.tables.invariant.phases
          (subst (λ n. P n phase) (sym c.tables.invariant.long) one));
    }
