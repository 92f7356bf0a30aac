-- What is due and what is meant where a circuit is compiled.
use Rattle.std.proofs.Common.{◌≡◌, ℕ, ◌<◌, ◌≤◌, List, Option, Some, Result, Ok, Err, refl}
use Rattle.std.proofs.Common.{sym, subst}
use Rattle.std.specs.Prelude.{IsSomeAnd}
use Rattle.mc_lex.specs.declared.end.TextEnd.{TextEnd}
use Rattle.mc_lex.specs.declared.end.TextEnd.TheVariants as end
use Rattle.mc_model.specs.Pattern.{Circuit}
use Rattle.mc_model.specs.Translation.{qubit_count}
use Rattle.mc_circuit.specs.Circuits.{IsCircuit}
use Rattle.mc_compile.specs.Laws.{CompiledCircuits}
use Rattle.mc_document.specs.Documents.{PlainDocument, circuit, circuit_in, IsDocument}
use Rattle.mc_top.specs.declared.answer.Answer.{Answer}
use Rattle.mc_top.specs.Compile.{CompilesTo, MeansCompile}
use Rattle.mc_top.specs.Due.{Due, Gives, GivesDue, IsDueUnless, holding, refusal}

-- what was given is due, where it is a text that is due
pub gives_text : (Owed : Due → Type 0) (given : Result Answer TextEnd) (text : List ℕ) →
    Gives given (holding text) → Owed (holding text) → GivesDue Owed given
gives_text Owed (Ok made) text h due = subst Owed h due
gives_text Owed (Err (end.Refused code line column)) text h due = subst Owed h due
gives_text Owed (Err (end.Limit which found)) text h due = subst Owed h due
gives_text Owed (Err end.Memory) text h due = tt

-- a limit that is passed is due
pub limit_is_due : (limit : Option TextEnd) (Owed : Due → Type 0) (passed : TextEnd) →
    limit ≡ Some passed → IsDueUnless limit Owed (refusal passed)
limit_is_due limit Owed passed h = rw h refl

-- what was given for the circuit of a document is due for the document
pub circuit_gives : (d : PlainDocument) (c : Circuit) (Owed : Circuit → Due → Type 0)
    (given : Result Answer TextEnd) → circuit_in d ≡ Some c → GivesDue (Owed c) given →
    GivesDue (λ due. IsSomeAnd (circuit_in d) (λ k. Owed k due)) given
circuit_gives d c Owed given found h =
    subst (λ (o : Option Circuit). GivesDue (λ due. IsSomeAnd o (λ k. Owed k due)) given)
    (sym found) h

valid_circuit : (half : ℕ) (d : PlainDocument) (c : Circuit) → IsDocument half d →
    circuit_in d ≡ Some c → IsCircuit half c
valid_circuit half (circuit k) c valid found =
    subst (λ (o : Option Circuit). IsSomeAnd o (IsCircuit half)) found valid
valid_circuit half _ c valid found = absurd (cc found)

pub compiles : CompiledCircuits → (half : ℕ) → 0 < half → (d : PlainDocument) (c : Circuit) →
    IsDocument half d → circuit_in d ≡ Some c → qubit_count c ≤ 256 → MeansCompile half d
compiles law half positive d c valid found few =
    let here = valid_circuit half d c valid found in
    let means : CompilesTo half c =
    λ q edges depth made.
    law half positive c here.valid few made.sets made.layer made.chosen q made.form in
    subst (λ (o : Option Circuit). IsSomeAnd o (CompilesTo half)) (sym found) means
