-- What is given of derivations is due, and what they mean.
use Rattle.std.proofs.Common.{◌≡◌, ℕ, ◌≤◌, List, [], length, Option, Some, None, Result, Ok, Err}
use Rattle.std.proofs.Common.{IfOk, IsTrue, refl, sym, subst, arith}
use Rattle.std.specs.Prelude.{IsSomeAnd, is_some, All}
use Rattle.std.specs.declared.vec.Vec.{Vec}
use Rattle.std.specs.declared.alloc.Global.{Global}
use mathlib.Core.Logic.{inl, inr}
use Rattle.mc_lex.specs.declared.end.TextEnd.{TextEnd}
use Rattle.mc_lex.specs.declared.end.TextEnd.TheVariants as end
use Rattle.mc_model.specs.declared.memory.Memory.{Memory}
use Rattle.mc_model.specs.Derivation.{Use}
use Rattle.mc_model.specs.Graph.{OpenGraph}
use Rattle.mc_model.specs.Pattern.{Pattern}
use Rattle.mc_model.proofs.StepLemmas.{permitted_positive}
use Rattle.mc_pattern.specs.Patterns.{IsPattern}
use Rattle.mc_rules.specs.Laws.{DerivationsKeepPatterns}
use Rattle.mc_cert_text.specs.Certs.{PlainCert}
use Rattle.mc_document.specs.Documents.{IsDocument, PlainDocument, cert_in, graph_in}
use Rattle.mc_document.specs.Documents.{pattern_in, traced, traced_in}
use Rattle.mc_trace_text.specs.Traces.{CanBeWritten}
use Rattle.mc_top.specs.declared.answer.Answer.{Answer}
use Rattle.mc_top.specs.Check.{IsDueCheck, IsDueTraced, MeansCheck, MeansTraceVerdict, MeansVerdict}
use Rattle.mc_top.specs.Check.{breach_in, due_verdict}
use Rattle.mc_top.specs.Due.{Due, Gives, GivesDue, IsDueUnless, IsLimit, holding}
use Rattle.mc_top.specs.Trace.{MeansTraced}
use Rattle.mc_top.proofs.Compilations.{gives_text}
use Rattle.mc_top.proofs.Findings.{gives_too}

-- ---- meaning

pub traced_means : DerivationsKeepPatterns → (half : ℕ) (p : Pattern) → IsPattern half p →
    MeansTraced half p
traced_means law half p is = λ uses leads.
    law half (permitted_positive half is.permitted) p is.valid uses _ leads.derives

pub verdict_means : DerivationsKeepPatterns → (half : ℕ) (p : Pattern) (uses : List Use) →
    IsPattern half p → MeansTraceVerdict half (p, uses)
verdict_means law half p uses is = λ trace.
    law half (permitted_positive half is.permitted) p is.valid uses _ trace.derives

-- ---- what is given

-- a text that was made is told
pub told_owed : (made : Result (Vec ℕ Global) Memory) (given : Result Answer TextEnd)
    (Owed : Due → Type 0) → IfOk made (λ t. Owed (holding t.items)) →
    IfOk given (λ a. made ≡ Ok a.text) →
    ((text : List ℕ) → IfOk made (λ t. t.items ≡ text) → Gives given (holding text)) →
    GivesDue Owed given
told_owed (Ok t) given Owed owed same gives =
    gives_text Owed given t.items (gives t.items refl) owed
told_owed (Err e) (Ok a) Owed owed same gives = absurd (cc same)
told_owed (Err e) (Err end.Memory) Owed owed same gives = tt
told_owed (Err e) (Err (end.Refused code line column)) Owed owed same gives =
    let h = gives [] tt in absurd (cc h)
told_owed (Err e) (Err (end.Limit which found)) Owed owed same gives =
    let h = gives [] tt in absurd (cc h)

-- a limit of the pattern of a document is due for the document
pub from_end : (found : Option Pattern) (limit : Option TextEnd) (Owed : Pattern → Due → Type 0)
    (given : TextEnd) → IsTrue (is_some found) → IsLimit given limit →
    GivesDue (λ due. IsSomeAnd found (λ q. IsDueUnless limit (Owed q) due)) (Err given)
from_end None limit Owed given some h = absurd (cc some)
from_end (Some p) limit Owed end.Memory some h = tt
from_end (Some p) limit Owed (end.Refused code line column) some h = rw h refl
from_end (Some p) limit Owed (end.Limit which number) some h = rw h refl

-- the one thing that is due
pub gives_one : (due : Due) (given : Result Answer TextEnd) → Gives given due →
    GivesDue (λ other. other ≡ due) given
gives_one due (Ok made) h = sym h
gives_one due (Err end.Memory) h = tt
gives_one due (Err (end.Refused code line column)) h = sym h
gives_one due (Err (end.Limit which found)) h = sym h

-- places that are small enough for a text
pub places_fit : (uses : List Use) → length uses ≤ 65536 → All (λ u. u.place ≤ 4096) uses →
    CanBeWritten uses
places_fit uses few places = record {
  few = few;
  places = λ k u within. let h : _ = places k u within in omega arith;
}

-- ---- a pattern with a trace, as a document has it

pub traced_few : (half : ℕ) (d : PlainDocument) (uses : List Use) → IsDocument half d →
    traced_in d ≡ Some uses → length uses ≤ 65536
traced_few half (traced p us) uses valid behind =
    let e : us ≡ uses = cc behind in subst (λ (xs : List Use). length xs ≤ 65536) e valid.1.few
traced_few half _ uses valid behind = absurd (cc behind)

-- a verdict on one of the two kinds is one on the document
pub on_traced : (d : PlainDocument) (p : Pattern) (uses : List Use)
    (given : Result Answer TextEnd) → pattern_in d ≡ Some p → traced_in d ≡ Some uses →
    GivesDue (IsDueTraced (p, uses)) given → GivesDue (IsDueCheck d) given
on_traced d p uses given found behind h =
    gives_too (IsDueTraced (p, uses)) (IsDueCheck d) given
    (λ due owed. inr (rw (found, behind) owed)) h

pub on_certified : (d : PlainDocument) (g : OpenGraph) (cert : PlainCert)
    (given : Result Answer TextEnd) → graph_in d ≡ Some g → cert_in d ≡ Some cert →
    Gives given (due_verdict (breach_in (g, cert))) → GivesDue (IsDueCheck d) given
on_certified d g cert given found behind h =
    gives_too (λ due. due ≡ due_verdict (breach_in (g, cert))) (IsDueCheck d) given
    (λ due owed. inl (rw (found, behind) owed))
    (gives_one (due_verdict (breach_in (g, cert))) given h)

pub traced_meaning : (half : ℕ) (d : PlainDocument) (p : Pattern) (uses : List Use) →
    pattern_in d ≡ Some p → traced_in d ≡ Some uses → MeansTraceVerdict half (p, uses) →
    MeansCheck half d
traced_meaning half d p uses found behind m = inr (rw (found, behind) m)

pub certified_meaning : (half : ℕ) (d : PlainDocument) (g : OpenGraph) (cert : PlainCert) →
    graph_in d ≡ Some g → cert_in d ≡ Some cert → MeansVerdict (g, cert) → MeansCheck half d
certified_meaning half d g cert found behind m = inl (rw (found, behind) m)
