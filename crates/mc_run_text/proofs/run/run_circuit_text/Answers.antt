use Rattle.std.proofs.Common.{ap, ◌∙◌}
use Rattle.std.specs.Prelude.{Err}
use Rattle.mc_run_text.proofs.PrintedMeaning.{circuit_same}
use Rattle.mc_run_text.proofs.run.run_circuit_text.Goals as goal

pub returns-in-Ok-print_table-clause-text : goal.returns-in-Ok-print_table-clause-text
returns-in-Ok-print_table-clause-text g c =
    c.in-Ok-print_table.ensures
    ∙ circuit_same g.row.H c.args.circuit.now c.in-Ok.table c.in-Ok.ensures.table

pub returns-clause-limit : goal.returns-clause-limit
returns-clause-limit g c = λ which found.
    let h = c.in-Err.ensures.limit which found in
    (λ s. h.0 (cc), λ s. ap (λ x. Err x) (let e = h.1 s in cc))
