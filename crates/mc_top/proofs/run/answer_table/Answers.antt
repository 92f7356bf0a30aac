use Rattle.mc_model.specs.Amplitude.{circuit_scale, circuit_table}
use Rattle.mc_model.specs.Ring.{ring}
use Rattle.mc_run.specs.Limits.{circuit_limit}
use Rattle.mc_run_text.specs.Runs.{circuit_run}
use Rattle.mc_top.proofs.ShiftedForms.{if_ok}
use Rattle.mc_top.proofs.AllBranches.{well_printed}
use Rattle.mc_top.proofs.run.answer_table.Goals as goal

pub returns-clause-meaning : goal.returns-clause-meaning
returns-clause-meaning g c =
    let law = c.amplitudes_are_reduced.ensures in
    λ y b. well_printed g.row.H law.value law.least
    (circuit_table (ring g.row.H) c.args.circuit.now y b) (circuit_scale c.args.circuit.now)

pub returns-clause-due : goal.returns-clause-due
returns-clause-due g c =
    let circuit = c.args.circuit.now in
    c.ran.ensures.due (circuit_limit circuit) (circuit_run g.row.H circuit)
    c.run_circuit_text.ensures.text
    (if_ok c.run_circuit_text.result _ c.run_circuit_text.ensures.within)
    (λ which found e. let (to, from) = c.run_circuit_text.ensures.limit which found in to e)
