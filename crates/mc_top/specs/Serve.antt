-- What the bytes that come in call for.
use Rattle.std.specs.Prelude.{◌≡◌, ◌≢◌, ◌⊎◌, ℕ, suc, List, length, nat_lt, if◌then◌else◌}
use Rattle.std.specs.Prelude.{Bool, true, false, Option, None, Some, ⊤, Ok, Err, IsSomeAnd}
use Rattle.mc_io.specs.Calls.{Reads, ReadsOn, ReadsOnThen}
use Rattle.mc_io.specs.Told.{AppendsWhereTold, AppendsPrefix}
use Rattle.mc_io.specs.Faults.{Rose}
use Rattle.mc_lex.specs.declared.end.TextEnd.{TextEnd}
use Rattle.mc_lex.specs.declared.end.TextEnd.TheVariants as end
use Rattle.mc_model.specs.Limits.{most_bytes}
use Rattle.mc_text.specs.Stops.{answered}
use Rattle.mc_document.specs.Documents.{PlainDocument, IsDocument}
use Rattle.mc_document.specs.Documents.{IsTaken}
use Rattle.mc_document.specs.Places.{first_place}
use Rattle.mc_document.specs.Sections.{first_in_text, spelled}
use Rattle.mc_document.specs.Turns.{half_of}
use Rattle.mc_top.specs.declared.status.Status.{Status}
use Rattle.mc_top.specs.declared.status.Status.TheVariants as status
use Rattle.mc_top.specs.Commands.{Asked, command_of}
use Rattle.mc_top.specs.Due.{Due, answer, refusal, IsDueUnless}
use Rattle.mc_top.specs.Ends.{status_by_end}

-- what is due for the document that a text spells
abbrev pub IsDueSpelled : ℕ → Asked → List ℕ → Due → Type 0
IsDueSpelled half asked text due =
    IsSomeAnd (spelled half text) (λ d. (command_of asked).IsDue half (first_place text) d due)

-- by the answer to the first fault or limit of the text
abbrev pub IsDueIn : ℕ → Asked → List ℕ → Due → Type 0
IsDueIn half asked text =
    IsDueUnless (answered (first_in_text half (command_of asked).takes text))
    (IsDueSpelled half asked text)

-- more bytes than a text may have
abbrev pub too_long : List ℕ → Option TextEnd
too_long input =
    if nat_lt most_bytes (length input) then Some (end.Limit 1 (suc most_bytes)) else None

-- what is due for the bytes that come in
abbrev pub IsDue : Asked → List ℕ → Due → Type 0
IsDue asked input = IsDueUnless (too_long input) (IsDueIn (half_of input) asked input)

-- a document is valid and of a kind that is taken, and the answer means this for it
pub record IsAnsweredFor (half : ℕ) (asked : Asked) (d : PlainDocument) : Type 0 where
  pub valid : IsDocument half d
  pub taken : IsTaken (command_of asked).takes d
  pub means : (command_of asked).Means half d

-- what the answer to a text means: the text spells such a document
abbrev pub MeansIn : ℕ → Asked → List ℕ → Type 0
MeansIn half asked text = IsSomeAnd (spelled half text) (IsAnsweredFor half asked)

abbrev pub Means : Asked → List ℕ → Type 0
Means asked text = MeansIn (half_of text) asked text

-- the status that is due
abbrev pub status_of : Due → Status
status_of (answer text holds) = if holds then status.Done else status.No
status_of (refusal end) = status_by_end end

-- an answer is due, and no refusal
abbrev pub IsAnswer : Due → Type 0
IsAnswer (answer text holds) = ⊤
IsAnswer (refusal end) = ⊥

-- the status is that of what is due, or a failure that no input calls for
abbrev pub IsStatus : (Due → Type 0) → Status → Type 0
IsStatus Owed given =
    ((due : Due) × Owed due × (given ≡ status_of due))
    ⊎ ((given ≡ status.ReadFault) ⊎ ((given ≡ status.Memory)
    ⊎ (((due : Due) × Owed due × IsAnswer due) × (given ≡ status.WriteFault))))

-- the whole answer was written
abbrev pub IsWhole : Status → Type 0
IsWhole given = (given ≡ status.Done) ⊎ (given ≡ status.No)

-- an answer was made and written, or a part of it
abbrev pub IsAnswered : Status → Type 0
IsAnswered given = IsWhole given ⊎ (given ≡ status.WriteFault)

-- nothing was written
abbrev pub IsUnwritten : Status → Type 0
IsUnwritten given = (given ≢ status.Done) × (given ≢ status.No) × (given ≢ status.WriteFault)

-- what was appended to the sink: the whole answer that is due, a part of it, or nothing
abbrev pub Appends : (Due → Type 0) → Status → Option (List ℕ) → Option (List ℕ) → Type 0
Appends Owed status.Done old new =
    (text : List ℕ) × Owed (answer text true) × AppendsWhereTold old new text
Appends Owed status.No old new =
    (text : List ℕ) × Owed (answer text false) × AppendsWhereTold old new text
Appends Owed status.WriteFault old new =
    (text : List ℕ) × (holds : Bool) × Owed (answer text holds) × AppendsPrefix old new text
Appends Owed _ old new = new ≡ old

-- the reads that were made: none; or reads that gave bytes, up to one that gave none, or one that
-- failed, or until there were too many bytes or no memory
abbrev pub MakesReadsFor : {S E : Type 0} → Reads S E → S → Status → S → Type 0
MakesReadsFor reads old status.Usage new = new ≡ old
MakesReadsFor {E} reads old status.ReadFault new = (e : E) × ReadsOnThen reads old (Err e) new
MakesReadsFor reads old (status.Limit which found) new =
    ReadsOn reads old new ⊎ ReadsOnThen reads old (Ok 0) new
MakesReadsFor reads old status.Memory new =
    ReadsOn reads old new ⊎ ReadsOnThen reads old (Ok 0) new
MakesReadsFor reads old _ new = ReadsOnThen reads old (Ok 0) new

-- the whole line was noted, or a part of it where the count rose
abbrev pub Notes : Option (List ℕ) → Option (List ℕ) → ℕ → ℕ → List ℕ → Type 0
Notes old new before now line =
    AppendsWhereTold old new line ⊎ (AppendsPrefix old new line × Rose before now)
