use Rattle.std.proofs.Common.{◌≡◌, ◌∙◌, subst, inl, inr, arith}
use Rattle.std.proofs.lemmas.Bool.{cases_lt}
use Rattle.mc_run.specs.Tables.{IsTable}
use Rattle.mc_run_text.specs.Canonical.{table_at, branch_lines}
use Rattle.mc_run_text.proofs.WrittenLines.{lines_more, few_digits}
use Rattle.mc_run_text.proofs.report.print_branches.Goals as goal

pub print_one-requires : goal.print_one-requires
print_one-requires g c = (
  omega arith,
  (
    few_digits c.args.measured c.branches-i-end.result (c.branches-i-end.ensures ∙ c.requires)
        c.branches-i-end.type_inv,
    omega (arith, c.branches-test.true, c.branches-i-end.ensures),
  ),
)

pub branches-preserved : goal.branches-preserved
branches-preserved g c = record {
  lines =
      lines_more c.args.text.now.items c.branches.text.items c.print_one.new.text.items
      (branch_lines g.row.H c.args.measured c.args.report.now) c.branches.i
      c.branches.invariant.lines c.in_ok-print_one.ensures.lines;
  long = λ j h. elim (cases_lt j c.branches.i) [
    | inl l ↦ c.branches.invariant.long j l
    | inr l ↦
        let e : c.branches.i ≡ j = omega arith in
        subst (λ n. IsTable (table_at c.args.report.now n)) e c.in_ok-print_one.ensures.long
  ];
}
