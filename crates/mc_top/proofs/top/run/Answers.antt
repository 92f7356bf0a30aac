use Rattle.std.proofs.Common.{List, Err, Ok, refl, inl, inr}
use Rattle.std.proofs.Common.{subst, ap, ◌∙◌, ℕ}
use Rattle.std.proofs.Common.{arith}
use Rattle.mc_lex.specs.declared.end.TextEnd.TheVariants as end
use Rattle.mc_document.specs.Turns.{half_of}
use Rattle.mc_top.specs.declared.status.Status.TheVariants as status
use Rattle.mc_top.specs.Commands.{may_deny, plain_task}
use Rattle.mc_top.specs.Due.{GivesDue, refusal}
use Rattle.mc_top.specs.Serve.{Appends, IsDue, IsDueIn, IsStatus, Means}
use Rattle.mc_top.proofs.Serving.{due_past, due_within, may_be_no, of_any, of_more, of_told}
use Rattle.mc_top.proofs.Serving.{part_appends, part_status, refused_appends, refused_reads}
use Rattle.mc_top.proofs.Serving.{refusal_is_not_no, refused_status, whole_appends, whole_status}
use Rattle.mc_top.proofs.top.run.Goals as goal

pub returns-in-Ok-write_all-clause-status : goal.returns-in-Ok-write_all-clause-status
returns-in-Ok-write_all-clause-status g c =
    let asked = plain_task c.args.task in
    let bytes = c.in-Ok.bytes.items in
    let made = c.in-Ok-answer_in_turn.made in
    let gives = due_within asked bytes (Ok made)
    (let ok = c.in-Ok.bytes.ok.0 in omega (arith, c.in-Ok.ensures.short))
    (rw (← c.as_slice.ensures.value) c.in-Ok-answer_in_turn.ensures.due) in
    of_told _ (λ input. IsStatus (IsDue asked input) c.of_answer.result) bytes
    c.in-Ok.ensures.all
    (whole_status (IsDue asked bytes) made c.of_answer.result c.of_answer.ensures gives)

pub returns-in-Ok-write_all-clause-written : goal.returns-in-Ok-write_all-clause-written
returns-in-Ok-write_all-clause-written g c =
    let asked = plain_task c.args.task in
    let bytes = c.in-Ok.bytes.items in
    let made = c.in-Ok-answer_in_turn.made in
    let gives = due_within asked bytes (Ok made)
    (let ok = c.in-Ok.bytes.ok.0 in omega (arith, c.in-Ok.ensures.short))
    (rw (← c.as_slice.ensures.value) c.in-Ok-answer_in_turn.ensures.due) in
    of_told _ (λ input. Appends (IsDue asked input) c.of_answer.result _ _) bytes
    c.in-Ok.ensures.all
    (whole_appends (IsDue asked bytes) made c.of_answer.result _ _ c.of_answer.ensures
    (rw (← c.as_slice-2.ensures.value) c.in-Ok-write_all.ensures.ok) gives)

pub returns-in-Ok-write_all-clause-never_no : goal.returns-in-Ok-write_all-clause-never_no
returns-in-Ok-write_all-clause-never_no g c =
    let made = c.in-Ok-answer_in_turn.made in
    may_be_no made.holds (may_deny (plain_task c.args.task)) c.of_answer.result
    c.in-Ok-answer_in_turn.ensures.holds c.of_answer.ensures

pub returns-clause-status : goal.returns-clause-status
returns-clause-status g c =
    let asked = plain_task c.args.task in
    let bytes = c.in-Ok.bytes.items in
    let made = c.in-Ok-answer_in_turn.made in
    let gives = due_within asked bytes (Ok made)
    (let ok = c.in-Ok.bytes.ok.0 in omega (arith, c.in-Ok.ensures.short))
    (rw (← c.as_slice.ensures.value) c.in-Ok-answer_in_turn.ensures.due) in
    of_told _ (λ input. IsStatus (IsDue asked input) status.WriteFault) bytes
    c.in-Ok.ensures.all (part_status (IsDue asked bytes) made gives)

pub returns-clause-written : goal.returns-clause-written
returns-clause-written g c =
    let asked = plain_task c.args.task in
    let bytes = c.in-Ok.bytes.items in
    let made = c.in-Ok-answer_in_turn.made in
    let gives = due_within asked bytes (Ok made)
    (let ok = c.in-Ok.bytes.ok.0 in omega (arith, c.in-Ok.ensures.short))
    (rw (← c.as_slice.ensures.value) c.in-Ok-answer_in_turn.ensures.due) in
    of_told _ (λ input. Appends (IsDue asked input) status.WriteFault _ _) bytes
    c.in-Ok.ensures.all
    (part_appends (IsDue asked bytes) made _ _
    (rw (← c.as_slice-2.ensures.value) c.in-Err-write_all.ensures.failed) gives)

pub returns-in-Err-clause-status : goal.returns-in-Err-clause-status
returns-in-Err-clause-status g c =
    let asked = plain_task c.args.task in
    let bytes = c.in-Ok.bytes.items in
    let gives = due_within asked bytes (Err c.in-Err.end)
    (let ok = c.in-Ok.bytes.ok.0 in omega (arith, c.in-Ok.ensures.short))
    (subst (λ (text : List ℕ). GivesDue (IsDueIn (half_of text) asked text) (Err c.in-Err.end))
    c.as_slice.ensures.value c.in-Err.ensures.due) in
    of_told _ (λ input. IsStatus (IsDue asked input) c.from_end.result) bytes
    c.in-Ok.ensures.all
    (rw c.from_end.ensures (refused_status (IsDue asked bytes) c.in-Err.end gives))

pub returns-in-Err-clause-written : goal.returns-in-Err-clause-written
returns-in-Err-clause-written g c =
    let asked = plain_task c.args.task in
    let out = g.K.Sink.written c.args.out.now in
    of_any (g.S.Source.left c.args.source.now)
    (λ input. Appends (IsDue asked input) c.from_end.result out out)
    (λ input. rw c.from_end.ensures (refused_appends (IsDue asked input) c.in-Err.end out))

pub returns-in-Err-clause-never_no : goal.returns-in-Err-clause-never_no
returns-in-Err-clause-never_no g c =
    rw c.from_end.ensures (λ denied. absurd (refusal_is_not_no c.in-Err.end denied))

pub returns-in-Err-clause-reads : goal.returns-in-Err-clause-reads
returns-in-Err-clause-reads g c =
    rw c.from_end.ensures (refused_reads g.S.Source.reads c.args.source.now c.read_all.new.source
    c.in-Err.end (rw c.in-Ok.is at c.read_all.ensures.calls))

pub returns-in-Ok-write_all-clause-meaning : goal.returns-in-Ok-write_all-clause-meaning
returns-in-Ok-write_all-clause-meaning g c = λ whole.
    let asked = plain_task c.args.task in
    let bytes = c.in-Ok.bytes.items in
    of_told _ (λ input. Means asked input) bytes c.in-Ok.ensures.all
    (rw (← c.as_slice.ensures.value) c.in-Ok-answer_in_turn.ensures.meaning)

pub returns-in-Err-Fault-clause-status : goal.returns-in-Err-Fault-clause-status
returns-in-Err-Fault-clause-status g c =
    let asked = plain_task c.args.task in
    of_any (g.S.Source.left c.args.source.now)
    (λ input. IsStatus (IsDue asked input) status.ReadFault) (λ input. inr (inl refl))

pub returns-in-Err-Fault-clause-written : goal.returns-in-Err-Fault-clause-written
returns-in-Err-Fault-clause-written g c =
    let asked = plain_task c.args.task in
    let out = g.K.Sink.written c.args.out.now in
    of_any (g.S.Source.left c.args.source.now)
    (λ input. Appends (IsDue asked input) status.ReadFault out out) (λ input. refl)

pub returns-in-Err-Memory-clause-status : goal.returns-in-Err-Memory-clause-status
returns-in-Err-Memory-clause-status g c =
    let asked = plain_task c.args.task in
    of_any (g.S.Source.left c.args.source.now)
    (λ input. IsStatus (IsDue asked input) status.Memory) (λ input. inr (inr (inl refl)))

pub returns-in-Err-Memory-clause-written : goal.returns-in-Err-Memory-clause-written
returns-in-Err-Memory-clause-written g c =
    let asked = plain_task c.args.task in
    let out = g.K.Sink.written c.args.out.now in
    of_any (g.S.Source.left c.args.source.now)
    (λ input. Appends (IsDue asked input) status.Memory out out) (λ input. refl)

pub returns-in-Err-TooLong-clause-status : goal.returns-in-Err-TooLong-clause-status
returns-in-Err-TooLong-clause-status g c =
    let asked = plain_task c.args.task in
    of_more (g.S.Source.left c.args.source.now) (g.S.Source.left c.read_all.new.source)
    (λ input. IsStatus (IsDue asked input) (status.Limit 1 8388609)) 8388609
    (c.read_all.ensures.too_long (c.in-Err-TooLong.is ∙ ap Err c.in-Err-TooLong.field-0-is))
    (λ input long. inl (refusal (end.Limit 1 8388609), due_past asked input (omega arith), refl))

pub returns-in-Err-TooLong-clause-written : goal.returns-in-Err-TooLong-clause-written
returns-in-Err-TooLong-clause-written g c =
    let asked = plain_task c.args.task in
    let out = g.K.Sink.written c.args.out.now in
    of_any (g.S.Source.left c.args.source.now)
    (λ input. Appends (IsDue asked input) (status.Limit 1 8388609) out out) (λ input. refl)
