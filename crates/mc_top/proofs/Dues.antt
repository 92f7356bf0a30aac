-- What is due for a document, and what is given.
use Rattle.std.proofs.Common.{◌≡◌, ℕ, ◌<◌, ◌≤◌, List, true, false, nat_lt}
use Rattle.std.proofs.Common.{Option, Some, None, Result, Ok, Err, IfOk, IfErr, OnOk, refl, subst}
use Rattle.std.proofs.Common.{sym, ap, arith}
use Rattle.std.proofs.Common.{IsTrue}
use Rattle.std.specs.Prelude.{is_some, IsSomeAnd}
use Rattle.std.specs.Option.{option_map, option_or, option_and_then}
use Rattle.std.proofs.lemmas.Bool.Decides.{nat_tests}
use Rattle.mc_lex.specs.declared.end.TextEnd.{TextEnd}
use Rattle.mc_lex.specs.declared.end.TextEnd.TheVariants as end
use Rattle.mc_model.specs.Pattern.{Circuit, Pattern}
use Rattle.mc_model.specs.Translation.{translation}
use Rattle.mc_pattern_text.specs.Canonical.{pattern_text}
use Rattle.mc_top.specs.Translate.{due_translation}
use Rattle.mc_model.specs.Translation.{qubit_count}
use Rattle.mc_document.specs.Documents.{PlainDocument, circuit_in, pattern_in}
use Rattle.mc_top.specs.declared.answer.Answer.{Answer}
use Rattle.mc_top.specs.Due.{Due, Gives, IsLimit, due_unless, holding}
use Rattle.mc_top.specs.Source.{source_in, source_limit, translation_limit, due_from}

-- a passed limit is what is due
pub limit_gives : (given : TextEnd) (limit : Option TextEnd) (due : Due) → IsLimit given limit →
    Gives (Err given) (due_unless limit due)
limit_gives (end.Refused code line column) limit due h = rw h refl
limit_gives (end.Limit which found) limit due h = rw h refl
limit_gives end.Memory limit due h = tt

-- what is given for the pattern of a document is due for the document
pub from_source : (half : ℕ) (d : PlainDocument) (text_for : Pattern → List ℕ) (p : Pattern)
    (given : Result Answer TextEnd) → source_in half d ≡ Some p → source_limit d ≡ None →
    Gives given (holding (text_for p)) → IsSomeAnd (due_from half d text_for) (Gives given)
from_source half d text_for p given found few h = rw (found, few) h

pub from_limit : (half : ℕ) (d : PlainDocument) (text_for : Pattern → List ℕ) (given : TextEnd) →
    IsTrue (is_some (source_in half d)) → IsLimit given (source_limit d) →
    IsSomeAnd (due_from half d text_for) (Gives (Err given))
from_limit half d text_for given some h = by_source (source_in half d) some
  where
    by_source : (found : Option Pattern) → IsTrue (is_some found) →
        IsSomeAnd (option_map (λ p. due_unless (source_limit d) (holding (text_for p))) found)
        (Gives (Err given))
    by_source None some = absurd (cc some)
    by_source (Some p) some = limit_gives given (source_limit d) (holding (text_for p)) h

-- what is meant of the pattern of a document
pub of_source : (half : ℕ) (d : PlainDocument) (p : Pattern) (P : Pattern → Type 0) →
    source_in half d ≡ Some p → P p → IsSomeAnd (source_in half d) P
of_source half d p P found h = rw found h

-- more qubits than a pattern may have
pub limit_past : (c : Circuit) (qubits found : ℕ) →
    (256 < qubit_count c) × (qubits ≡ qubit_count c) → found ≡ qubits →
    translation_limit c ≡ Some (end.Limit 2 found)
limit_past c qubits found (past, counted) e =
    let t : nat_lt 256 (qubit_count c) ≡ true = grind (arith, nat_tests) in
    rw (t, e, counted) refl

pub no_limit : (c : Circuit) → qubit_count c ≤ 256 → translation_limit c ≡ None
no_limit c few =
    let t : nat_lt 256 (qubit_count c) ≡ false = grind (arith, nat_tests) in
    rw t refl

-- what is given for the translation of a circuit
pub translated_gives : (half : ℕ) (c : Circuit) (p : Pattern) (given : Result Answer TextEnd) →
    p ≡ translation half c → translation_limit c ≡ None → Gives given (holding (pattern_text half p)) →
    Gives given (due_translation half c)
translated_gives half c p given same few h =
    rw few (subst (λ (q : Pattern). Gives given (holding (pattern_text half q))) same h)

-- the pattern of a circuit, and of a pattern
pub source_of_circuit : (half : ℕ) (d : PlainDocument) (c : Circuit) (p : Pattern) →
    circuit_in d ≡ Some c → p ≡ translation half c → source_in half d ≡ Some p
source_of_circuit half d c p found same = rw found (ap Some (sym same))

pub source_of_pattern : (half : ℕ) (d : PlainDocument) (p : Pattern) →
    is_some (circuit_in d) ≡ false → pattern_in d ≡ Some p → source_in half d ≡ Some p
source_of_pattern half d p none found = by_circuit (circuit_in d) none
  where
    by_circuit : (o : Option Circuit) → is_some o ≡ false →
        option_or (option_map (translation half) o) (pattern_in d) ≡ Some p
    by_circuit None none = found
    by_circuit (Some c) none = absurd (cc none)

pub limit_of_pattern : (d : PlainDocument) → is_some (circuit_in d) ≡ false →
    source_limit d ≡ None
limit_of_pattern d none = by_circuit (circuit_in d) none
  where
    by_circuit : (o : Option Circuit) → is_some o ≡ false →
        option_and_then translation_limit o ≡ None
    by_circuit None none = refl
    by_circuit (Some c) none = absurd (cc none)

-- what was made of a circuit was made of its document
pub circuit_source : (half : ℕ) (d : PlainDocument) (c : Circuit) (made : Result Pattern TextEnd) →
    circuit_in d ≡ Some c → IfOk made (λ p. p ≡ translation half c) →
    IfOk made (λ p. source_in half d ≡ Some p)
circuit_source half d c (Ok p) found same = source_of_circuit half d c p found same
circuit_source half d c (Err e) found same = tt

pub circuit_few : (d : PlainDocument) (c : Circuit) (made : Result Pattern TextEnd) →
    circuit_in d ≡ Some c → OnOk made (translation_limit c ≡ None) →
    OnOk made (source_limit d ≡ None)
circuit_few d c (Ok p) found few = rw found few
circuit_few d c (Err e) found few = tt

pub circuit_err : (d : PlainDocument) (c : Circuit) (made : Result Pattern TextEnd) →
    circuit_in d ≡ Some c → IfErr made (λ e. IsLimit e (translation_limit c)) →
    IfErr made (λ e. IsLimit e (source_limit d))
circuit_err d c (Ok p) found limit = tt
circuit_err d c (Err e) found limit = rw found limit

pub some_source : (half : ℕ) (d : PlainDocument) (c : Circuit) → circuit_in d ≡ Some c →
    IsTrue (is_some (source_in half d))
some_source half d c found = rw found refl

pub some_pattern : (half : ℕ) (d : PlainDocument) (p : Pattern) →
    is_some (circuit_in d) ≡ false → pattern_in d ≡ Some p → IsTrue (is_some (source_in half d))
some_pattern half d p none found = ap is_some (source_of_pattern half d p none found)
