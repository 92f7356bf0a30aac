use Rattle.mc_top.proofs.Serving.{gives_some}
use Rattle.mc_top.proofs.task.answer_document.Goals as goal

pub returns-in-Translate-clause-due : goal.returns-in-Translate-clause-due
returns-in-Translate-clause-due g c =
    rw c.in-Translate.is (gives_some _ c.answer_translate.result c.answer_translate.ensures.due)

pub returns-in-Print-clause-due : goal.returns-in-Print-clause-due
returns-in-Print-clause-due g c =
    rw c.in-Print.is (gives_some _ c.answer_print.result c.answer_print.ensures.due)

pub returns-in-Print-clause-meaning : goal.returns-in-Print-clause-meaning
returns-in-Print-clause-meaning g c = rw c.in-Print.is c.answer_print.ensures.meaning

pub returns-in-Standard-clause-due : goal.returns-in-Standard-clause-due
returns-in-Standard-clause-due g c =
    rw c.in-Standard.is (gives_some _ c.answer_standard.result c.answer_standard.ensures.due)

pub returns-in-Shift-clause-due : goal.returns-in-Shift-clause-due
returns-in-Shift-clause-due g c =
    rw c.in-Shift.is (gives_some _ c.answer_shift.result c.answer_shift.ensures.due)

pub returns-in-Run-clause-due : goal.returns-in-Run-clause-due
returns-in-Run-clause-due g c =
    rw c.in-Run.is (gives_some _ c.answer_run.result c.answer_run.ensures.due)

pub returns-in-RunBranch-clause-due : goal.returns-in-RunBranch-clause-due
returns-in-RunBranch-clause-due g c =
    rw c.in-RunBranch.is (gives_some _ c.answer_branch.result c.answer_branch.ensures.due)

pub returns-in-Graph-clause-due : goal.returns-in-Graph-clause-due
returns-in-Graph-clause-due g c =
    rw c.in-Graph.is (gives_some _ c.answer_graph.result c.answer_graph.ensures.due)

pub returns-in-Lower-clause-due : goal.returns-in-Lower-clause-due
returns-in-Lower-clause-due g c =
    rw c.in-Lower.is (gives_some _ c.answer_lower.result c.answer_lower.ensures.due)

pub returns-in-Check-clause-due : goal.returns-in-Check-clause-due
returns-in-Check-clause-due g c = rw c.in-Check.is c.answer_check.ensures.due

pub returns-in-Chain-clause-due : goal.returns-in-Chain-clause-due
returns-in-Chain-clause-due g c =
    rw c.in-Chain.is (gives_some _ c.answer_chain.result c.answer_chain.ensures.due)

pub returns-in-Beside-clause-due : goal.returns-in-Beside-clause-due
returns-in-Beside-clause-due g c =
    rw c.in-Beside.is (gives_some _ c.answer_beside.result c.answer_beside.ensures.due)
