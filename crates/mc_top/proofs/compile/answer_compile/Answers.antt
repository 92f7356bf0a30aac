use Rattle.mc_model.proofs.StepLemmas.{permitted_positive}
use Rattle.mc_document.specs.Documents.{plain_document}
use Rattle.mc_top.specs.Compile.{IsDueCompiled}
use Rattle.mc_top.proofs.Compilations.{circuit_gives, compiles}
use Rattle.mc_top.proofs.ShiftedForms.{on_ok_map}
use Rattle.mc_top.proofs.compile.answer_compile.Goals as goal

pub returns-clause-due : goal.returns-clause-due
returns-clause-due g c =
    circuit_gives (plain_document c.args.document) c.into_circuit-circuit.result
    (IsDueCompiled g.row.H) c.answer_compiled.result c.into_circuit-circuit.ensures
    c.answer_compiled.ensures.due

pub returns-clause-meaning : goal.returns-clause-meaning
returns-clause-meaning g c =
    on_ok_map c.answer_compiled.result _ _
    (compiles c.compiled_circuits.ensures g.row.H (permitted_positive g.row.H c.requires.permitted)
    (plain_document c.args.document) c.into_circuit-circuit.result c.requires.valid
    c.into_circuit-circuit.ensures)
    c.answer_compiled.ensures.few
