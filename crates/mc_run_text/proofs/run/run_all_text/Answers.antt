use Rattle.std.proofs.Common.{ap, ◌∙◌}
use Rattle.std.specs.Prelude.{Err}
use Rattle.mc_run_text.specs.Canonical.{report_text}
use Rattle.mc_run_text.proofs.PrintedMeaning.{report_same}
use Rattle.mc_run_text.proofs.run.run_all_text.Goals as goal

pub returns-in-Ok-print_report-clause-text : goal.returns-in-Ok-print_report-clause-text
returns-in-Ok-print_report-clause-text g c =
    c.in-Ok-print_report.ensures.text
    ∙ ap (λ n. report_text g.row.H n c.in-Ok.report) c.measured.ensures.count
    ∙ report_same g.row.H c.args.pattern.now c.in-Ok.report c.in-Ok.ensures.report
    c.in-Ok-print_report.ensures.long

pub returns-clause-limit : goal.returns-clause-limit
returns-clause-limit g c = λ which found.
    let h = c.in-Err.ensures.limit which found in
    (λ s. h.0 (cc), λ s. ap (λ x. Err x) (let e = h.1 s in cc))
