use Rattle.std.proofs.Common.{◌^◌, ℕ, ap, ◌∙◌, arith}
use Rattle.mc_run.specs.Tables.{entry_at}
use Rattle.mc_compose.proofs.FilledMatrices.{few_entries, filled_next, all_filled}
use Rattle.mc_compose.proofs.products.matrix_of.Goals as goal

pub zeros-requires-clause-size : goal.zeros-requires-clause-size
zeros-requires-clause-size g c =
    let t = c.args.table.now in
    let small = c.inputs.ensures.small in
    rw (
      c.two_to-rows.ensures,
      c.outputs.ensures.outputs,
      c.two_to-columns.ensures,
      c.inputs.ensures.inputs,
    )
    (few_entries t.outputs t.inputs (omega arith))

pub entries-preserved : goal.entries-preserved
entries-preserved g c =
    filled_next c.two_to-rows.result c.two_to-columns.result (entry_at c.args.table.now)
    c.entries.matrix c.set.new.self c.entries.i c.entries.invariant c.set.ensures.size
    (c.set.ensures.entry ∙ c.at-in-entries.ensures) c.set.ensures.others

pub returns : goal.returns
returns g c =
    let t = c.args.table.now in
    let rows = c.two_to-rows.ensures ∙ ap (λ (n : ℕ). 2 ^ n) c.outputs.ensures.outputs in
    let columns = c.two_to-columns.ensures ∙ ap (λ (n : ℕ). 2 ^ n) c.inputs.ensures.inputs in
    let over = c.entries-test.false in
    record {
      rows = c.entries.invariant.rows_are ∙ rows;
      columns = c.entries.invariant.columns_are ∙ columns;
      entry = λ y b ly lb.
          all_filled c.two_to-rows.result c.two_to-columns.result (entry_at t) c.entries.matrix
          c.entries.i c.entries.invariant (omega arith) y b (rw rows ly) (rw columns lb);
    }
