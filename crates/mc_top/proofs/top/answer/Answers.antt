use Rattle.std.proofs.Common.{◌≡◌, None, subst}
use Rattle.mc_text.specs.Stops.{IsEnd}
use Rattle.mc_document.specs.declared.takes.Takes.{Takes}
use Rattle.mc_document.specs.Documents.{plain_document}
use Rattle.mc_document.specs.Documents.{IsTaken}
use Rattle.mc_document.specs.Sections.{first_in_text}
use Rattle.mc_top.specs.Commands.{command_of, plain_task}
use Rattle.mc_top.proofs.Serving.{answered_due, answered_means, end_gives}
use Rattle.mc_top.proofs.top.answer.Goals as goal

pub returns-in-Ok-clause-due : goal.returns-in-Ok-clause-due
returns-in-Ok-clause-due g c =
    let asked = plain_task c.args.task in
    let clean = subst (λ (t : Takes). first_in_text g.row.H t c.args.text.now ≡ None) c.takes.ensures
    c.in-Ok.ensures.clean in
    answered_due g.row.H asked c.args.text.now (plain_document c.in-Ok.read.document) _
    c.answer_document.result clean c.in-Ok.ensures.value c.in-Ok.ensures.place
    c.answer_document.ensures.due

pub returns-in-Ok-clause-meaning : goal.returns-in-Ok-clause-meaning
returns-in-Ok-clause-meaning g c =
    let asked = plain_task c.args.task in
    let d = plain_document c.in-Ok.read.document in
    let taken = subst (λ (t : Takes). IsTaken t d) c.takes.ensures c.in-Ok.ensures.taken in
    answered_means c.answer_document.result g.row.H asked c.args.text.now d c.in-Ok.ensures.value
    c.in-Ok.ensures.valid taken c.answer_document.ensures.meaning

pub returns-in-Err-clause-due : goal.returns-in-Err-clause-due
returns-in-Err-clause-due g c =
    let asked = plain_task c.args.task in
    let told = subst
    (λ (t : Takes). IsEnd c.in-Err.end (first_in_text g.row.H t c.args.text.now)) c.takes.ensures
    c.in-Err.ensures.err in
    end_gives c.in-Err.end (first_in_text g.row.H (command_of asked).takes c.args.text.now) _ told
