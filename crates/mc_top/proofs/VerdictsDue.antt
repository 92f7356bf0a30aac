-- A verdict is due for every document with a certificate or a trace, and only one.
use Rattle.std.proofs.Common.{◌≡◌, List, Option, Some, None, refl, sym, ap}
use Rattle.std.proofs.Common.{◌∙◌, inl, inr}
use Rattle.mc_lex.specs.declared.end.TextEnd.{TextEnd}
use Rattle.mc_model.specs.Derivation.{Use}
use Rattle.mc_model.specs.Pattern.{Pattern}
use Rattle.mc_cert.specs.Rules.{Breach}
use Rattle.mc_trace.specs.Judging.{EveryTraceIsJudged, Judges}
use Rattle.mc_document.specs.Documents.{PlainDocument, circuit, graph, pattern, traced, two}
use Rattle.mc_document.specs.Documents.{IsTaken, certified_kinds}
use Rattle.mc_top.specs.Check.{IsDueCheck, IsTraceVerdict, breach_in, due_verdict}
use Rattle.mc_top.specs.Due.{Due, refusal, IsDueUnless}
use Rattle.mc_top.specs.Trace.{trace_limit}
use Rattle.mc_top.proofs.TraceLimits.{within_few}

traced_due : EveryTraceIsJudged → (p : Pattern) (uses : List Use) (limit : Option TextEnd) →
    trace_limit p ≡ limit → (due : Due) × IsDueUnless limit (IsTraceVerdict p uses) due
traced_due judged p uses (Some end) e = (refusal end, refl)
traced_due judged p uses None e =
    let j = judged p.inputs uses p.commands (within_few p e) in
    (due_verdict j.0, record { found = j.0; judges = j.1; text = refl })

-- something is due
pub check_due : EveryTraceIsJudged → (d : PlainDocument) → IsTaken certified_kinds d →
    (due : Due) × IsDueCheck d due
check_due judged (circuit c) taken = absurd (cc taken)
check_due judged (pattern p change) taken = absurd (cc taken.1)
check_due judged (traced p uses) taken =
    let t = traced_due judged p uses (trace_limit p) refl in (t.0, inr t.1)
check_due judged (two p q line column) taken = absurd (cc taken.1)
check_due judged (graph g None) taken = absurd (cc (taken.1 refl))
check_due judged (graph g (Some cert)) taken = (due_verdict (breach_in (g, cert)), inl refl)
check_due judged _ taken = absurd (cc taken)

-- verdicts on one list of uses are one
one_judged : (p : Pattern) (uses : List Use) (found other : Option Breach) →
    Judges found p.inputs uses p.commands → Judges other p.inputs uses p.commands → found ≡ other
one_judged p uses None other h k =
    let (trace, none) = h.yes in
    let (there, back) = k.yes in sym (back (trace refl))
one_judged p uses (Some b) other h k =
    let (breaks, same) = h.no b.row b.rule in
    let (there, back) = k.no b.row b.rule in sym (back (breaks refl))

one_traced : (p : Pattern) (uses : List Use) (limit : Option TextEnd) (due other : Due) →
    IsDueUnless limit (IsTraceVerdict p uses) due →
    IsDueUnless limit (IsTraceVerdict p uses) other → due ≡ other
one_traced p uses (Some end) due other h k = h ∙ sym k
one_traced p uses None due other h k =
    h.text ∙ ap due_verdict (one_judged p uses h.found k.found h.judges k.judges) ∙ sym k.text

-- only one thing is due
pub one_check : (d : PlainDocument) (due other : Due) → IsDueCheck d due → IsDueCheck d other →
    due ≡ other
one_check (circuit c) due other (inl h) k = absurd h
one_check (circuit c) due other (inr h) k = absurd h
one_check (pattern p change) due other (inl h) k = absurd h
one_check (pattern p change) due other (inr h) k = absurd h
one_check (traced p uses) due other (inl h) k = absurd h
one_check (traced p uses) due other (inr h) (inl k) = absurd k
one_check (traced p uses) due other (inr h) (inr k) =
    one_traced p uses (trace_limit p) due other h k
one_check (two p q line column) due other (inl h) k = absurd h
one_check (two p q line column) due other (inr h) k = absurd h
one_check (graph g None) due other (inl h) k = absurd h
one_check (graph g cert) due other (inr h) k = absurd h
one_check (graph g (Some cert)) due other (inl h) (inl k) = h ∙ sym k
one_check (graph g (Some cert)) due other (inl h) (inr k) = absurd k
one_check _ due other (inl h) k = absurd h
one_check _ due other (inr h) k = absurd h
