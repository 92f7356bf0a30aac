-- Something is due for every text, and what was given for it decides the status.
use Rattle.std.proofs.Common.{◌≡◌, ℕ, ◌+◌, ◌<◌, ◌≤◌, List, length, Bool, true, false}
use Rattle.std.proofs.Common.{nat_lt, Option, Some, None, Result, Ok, Err, refl, sym, subst, ap}
use Rattle.std.proofs.Common.{inl, inr, ◌∙◌, arith, IsTrue, length-append}
use Rattle.std.specs.Prelude.{is_some, IsSomeAnd, IfSome, OnOk, if◌then◌else◌}
use Rattle.std.specs.Option.{option_map, option_or}
use Rattle.std.proofs.lemmas.Bool.Decides.{nat_tests}
use Rattle.mc_io.specs.Calls.{Reads, ReadsOnThen}
use Rattle.mc_io.specs.Told.{AppendsPrefix, AppendsWhereTold, Takes}
use Rattle.mc_lex.specs.declared.end.TextEnd.{TextEnd}
use Rattle.mc_lex.specs.declared.end.TextEnd.TheVariants as end
use Rattle.mc_model.specs.Pattern.{Circuit}
use Rattle.mc_model.specs.Translation.{translation}
use Rattle.mc_text.specs.Judged.{Judgement, Place}
use Rattle.mc_text.specs.Stops.{answered, IsEnd}
use Rattle.mc_document.specs.declared.takes.Takes as takes
use Rattle.mc_document.specs.Documents as document
use Rattle.mc_document.specs.Documents.{IsDocument, PlainDocument, circuit_in, document_text}
use Rattle.mc_document.specs.Documents.{gates_in, pattern_in, two_in}
use Rattle.mc_document.specs.Documents.{two_patterns}
use Rattle.mc_document.specs.Documents.{IsTaken, circuits_and_patterns, every_source, only_circuits}
use Rattle.mc_document.specs.Documents.{only_gates, patterns_and_graphs}
use Rattle.mc_document.specs.Places.{first_place}
use Rattle.mc_document.specs.Sections.{first_in_text, spelled}
use Rattle.mc_document.specs.Turns.{half_of}
use Rattle.mc_trace.specs.Judging.{EveryTraceIsJudged}
use Rattle.mc_top.specs.declared.answer.Answer.{Answer}
use Rattle.mc_top.specs.declared.status.Status.{Status}
use Rattle.mc_top.specs.declared.status.Status.TheVariants as status
use Rattle.mc_top.specs.Commands.{Asked, translate, print, standard, shift, run, run_branch}
use Rattle.mc_top.specs.Commands.{check, chooses, command_of, compile, extract, flow, graph}
use Rattle.mc_top.specs.Commands.{beside, chain, least, lower, make, trace}
use Rattle.mc_top.specs.Due.{Due, answer, refusal, holding, Gives, GivesDue, IsDueUnless}
use Rattle.mc_top.specs.Ends.{status_by_end}
use Rattle.mc_top.specs.Requests.{Request}
use Rattle.mc_top.specs.Serve.{Appends, IsAnsweredFor, IsDue, IsDueIn, IsDueSpelled, IsStatus}
use Rattle.mc_top.specs.Serve.{MakesReadsFor, MeansIn, too_long}
use Rattle.mc_top.specs.Source.{run_source_in, source_in}
use Rattle.mc_top.proofs.VerdictsDue.{check_due}

-- ---- something is due

-- what a kind that is taken has to look at, and that every trace is judged
pub record AreSeen : Type 0 where
  pub circuit : (d : PlainDocument) → IsTaken only_circuits d → IsTrue (is_some (circuit_in d))
  pub other : (d : PlainDocument) → IsTaken circuits_and_patterns d →
      is_some (circuit_in d) ≡ false → IsTrue (is_some (pattern_in d))
  pub two : (d : PlainDocument) → IsTaken two_patterns d → IsTrue (is_some (two_in d))
  pub judged : EveryTraceIsJudged

-- what a function makes of an option that has something
mapped : {A B : Type 0} (f : A → B) (o : Option A) → IsTrue (is_some o) →
    (y : B) × (option_map f o ≡ Some y)
mapped f None h = absurd (cc h)
mapped f (Some x) h = (f x, refl)

one_of : {A B C : Type 0} (f : A → C) (g : B → C) (o : Option A) (o' : Option B) →
    (is_some o ≡ false → IsTrue (is_some o')) →
    (y : C) × (option_or (option_map f o) (option_map g o') ≡ Some y)
one_of f g None o' h = mapped g o' (h refl)
one_of f g (Some x) o' h = (f x, refl)

source_seen : AreSeen → (half : ℕ) (d : PlainDocument) → IsTaken circuits_and_patterns d →
    IsTrue (is_some (source_in half d))
source_seen seen half d taken = by_circuit (circuit_in d) (seen.other d taken)
  where
    by_circuit : (o : Option Circuit) → (is_some o ≡ false → IsTrue (is_some (pattern_in d))) →
        IsTrue (is_some (option_or (option_map (translation half) o) (pattern_in d)))
    by_circuit None h = h refl
    by_circuit (Some c) h = refl

-- what is run where the document is no circuit
run_seen : (d : PlainDocument) → IsTaken every_source d → is_some (circuit_in d) ≡ false →
    IsTrue (is_some (run_source_in d))
run_seen (document.circuit c) taken none = absurd (cc none)
run_seen (document.pattern p change) taken none = refl
run_seen (document.traced p uses) taken none = refl
run_seen (document.two p q line column) taken none = absurd (cc taken.1)
run_seen (document.graph g cert) taken none = refl
run_seen _ taken none = absurd (cc taken)

branch_seen : (d : PlainDocument) → IsTaken patterns_and_graphs d →
    IsTrue (is_some (run_source_in d))
branch_seen (document.pattern p change) taken = refl
branch_seen (document.traced p uses) taken = refl
branch_seen (document.two p q line column) taken = absurd (cc taken.1)
branch_seen (document.graph g cert) taken = refl
branch_seen _ taken = absurd (cc taken)

gates_seen : (d : PlainDocument) → IsTaken only_gates d → IsTrue (is_some (gates_in d))
gates_seen (document.pattern p change) taken = absurd (cc taken.0)
gates_seen (document.traced p uses) taken = absurd (cc taken.0)
gates_seen (document.two p q line column) taken = absurd (cc taken.0)
gates_seen (document.graph g cert) taken = absurd (cc taken.0)
gates_seen (document.gates g) taken = refl
gates_seen _ taken = absurd (cc taken)

pub command_due : AreSeen → (asked : Asked) (half : ℕ) (place : Place) (d : PlainDocument) →
    chooses asked ≡ false → IsTaken (command_of asked).takes d →
    (due : Due) × (command_of asked).IsDue half place d due
command_due seen translate half place d plain taken = mapped _ (circuit_in d) (seen.circuit d taken)
command_due seen print half place d plain taken = (holding (document_text half d), refl)
command_due seen standard half place d plain taken =
    mapped _ (source_in half d) (source_seen seen half d taken)
command_due seen shift half place d plain taken =
    mapped _ (source_in half d) (source_seen seen half d taken)
command_due seen run half place d plain taken =
    one_of _ _ (circuit_in d) (run_source_in d) (run_seen d taken)
command_due seen (run_branch outcomes) half place d plain taken =
    mapped _ (run_source_in d) (branch_seen d taken)
command_due seen graph half place d plain taken =
    mapped _ (source_in half d) (source_seen seen half d taken)
command_due seen flow half place d plain taken = absurd (cc plain)
command_due seen make half place d plain taken = absurd (cc plain)
command_due seen extract half place d plain taken = absurd (cc plain)
command_due seen compile half place d plain taken = absurd (cc plain)
command_due seen least half place d plain taken = absurd (cc plain)
command_due seen lower half place d plain taken = mapped _ (gates_in d) (gates_seen d taken)
command_due seen chain half place d plain taken = mapped _ (two_in d) (seen.two d taken)
command_due seen beside half place d plain taken = mapped _ (two_in d) (seen.two d taken)
command_due seen trace half place d plain taken = absurd (cc plain)
command_due seen check half place d plain taken = check_due seen.judged d taken

pub unless_due : (first : Option TextEnd) (Owed : Due → Type 0) →
    (first ≡ None → (due : Due) × Owed due) → (due : Due) × IsDueUnless first Owed due
unless_due None Owed h = h refl
unless_due (Some end) Owed h = (refusal end, refl)

pub spelled_due : (found : Option PlainDocument) (P : PlainDocument → Type 0)
    (Owed : PlainDocument → Due → Type 0) → IsSomeAnd found P → ((d : PlainDocument) → P d →
    (due : Due) × Owed d due) → (due : Due) × IsSomeAnd found (λ d. Owed d due)
spelled_due None P Owed h some = absurd h
spelled_due (Some d) P Owed h some = some d h

pub none_answered : (first : Option (Judgement × Place)) → answered first ≡ None → first ≡ None
none_answered None h = refl
none_answered (Some judged) h = absurd (cc h)

-- texts without faults spell documents that are taken
abbrev pub AreTaken : Type 0
AreTaken = (half : ℕ) (kinds : takes.Takes) (text : List ℕ) →
    first_in_text half kinds text ≡ None → IsSomeAnd (spelled half text) (IsTaken kinds)

-- ---- what is given for a text

-- what is given where one thing is due
pub gives_some : (o : Option Due) (given : Result Answer TextEnd) → IsSomeAnd o (Gives given) →
    GivesDue (λ due. o ≡ Some due) given
gives_some None given h = absurd h
gives_some (Some due) (Ok made) h = ap Some h
gives_some (Some due) (Err (end.Refused code line column)) h = ap Some h
gives_some (Some due) (Err (end.Limit which found)) h = ap Some h
gives_some (Some due) (Err end.Memory) h = tt

-- where no refusal comes first
pub gives_unless : (first : Option TextEnd) (Owed : Due → Type 0)
    (given : Result Answer TextEnd) → first ≡ None → GivesDue Owed given →
    GivesDue (IsDueUnless first Owed) given
gives_unless first Owed (Ok made) none h = rw none h
gives_unless first Owed (Err (end.Refused code line column)) none h = rw none h
gives_unless first Owed (Err (end.Limit which found)) none h = rw none h
gives_unless first Owed (Err end.Memory) none h = tt

-- the refusal of a text
pub end_gives : (given : TextEnd) (first : Option (Judgement × Place)) (Owed : Due → Type 0) →
    IsEnd given first → GivesDue (IsDueUnless (answered first) Owed) (Err given)
end_gives (end.Refused code line column) first Owed h = rw h refl
end_gives (end.Limit which found) first Owed h = rw h refl
end_gives end.Memory first Owed h = tt

-- ---- the status

pub due_within : (asked : Asked) (input : List ℕ) (given : Result Answer TextEnd) →
    length input ≤ 8388608 → GivesDue (IsDueIn (half_of input) asked input) given →
    GivesDue (IsDue asked input) given
due_within asked input given h gives =
    let t : nat_lt 8388608 (length input) ≡ false = grind (arith, nat_tests) in
    let short : too_long input ≡ None = rw t refl in
    gives_unless (too_long input) (IsDueIn (half_of input) asked input) given short gives

pub due_past : (asked : Asked) (input : List ℕ) → 8388608 < length input →
    IsDue asked input (refusal (end.Limit 1 8388609))
due_past asked input h =
    let t : nat_lt 8388608 (length input) ≡ true = grind (arith, nat_tests) in
    rw t refl

-- what holds of the bytes that were read holds of those that were left, where they are told
pub of_told : (left : Option (List ℕ)) (P : List ℕ → Type 0) (bytes : List ℕ) →
    IfSome left (λ l. bytes ≡ l) → P bytes → IfSome left P
of_told None P bytes e p = tt
of_told (Some l) P bytes e p = subst P e p

-- what holds of all bytes, and of more bytes than there may be
pub of_any : (left : Option (List ℕ)) (P : List ℕ → Type 0) → ((l : List ℕ) → P l) → IfSome left P
of_any None P p = tt
of_any (Some l) P p = p l

pub of_more : (left new : Option (List ℕ)) (P : List ℕ → Type 0) (n : ℕ) → Takes left new n →
    ((l : List ℕ) → n ≤ length l → P l) → IfSome left P
of_more None new P n taken p = tt
of_more (Some l) None P n (bytes, long, consumed) p = absurd consumed
of_more (Some l) (Some rest) P n (bytes, long, consumed) p =
    let whole : length l ≡ length bytes + length rest =
    ap length consumed ∙ length-append bytes rest in
    p l (omega arith)

-- the status of a refusal that is due, or of want of memory
pub refused_status : (Owed : Due → Type 0) (given : TextEnd) → GivesDue Owed (Err given) →
    IsStatus Owed (status_by_end given)
refused_status Owed (end.Refused code line column) h =
    inl (refusal (end.Refused code line column), h, refl)
refused_status Owed (end.Limit which found) h = inl (refusal (end.Limit which found), h, refl)
refused_status Owed end.Memory h = inr (inr (inl refl))

-- nothing was appended
pub refused_appends : (Owed : Due → Type 0) (given : TextEnd) (old : Option (List ℕ)) →
    Appends Owed (status_by_end given) old old
refused_appends Owed (end.Refused code line column) old = refl
refused_appends Owed (end.Limit which found) old = refl
refused_appends Owed end.Memory old = refl

-- the reads behind such a status gave all bytes
pub refused_reads : {S E : Type 0} (reads : Reads S E) (old new : S) (given : TextEnd) →
    ReadsOnThen reads old (Ok 0) new → MakesReadsFor reads old (status_by_end given) new
refused_reads reads old new (end.Refused code line column) h = h
refused_reads reads old new (end.Limit which found) h = inr h
refused_reads reads old new end.Memory h = inr h

-- what is given for the document that a text spells is due for the text
pub answered_due : (half : ℕ) (asked : Asked) (text : List ℕ) (d : PlainDocument) (place : Place)
    (given : Result Answer TextEnd) → first_in_text half (command_of asked).takes text ≡ None →
    spelled half text ≡ Some d → first_place text ≡ place →
    GivesDue ((command_of asked).IsDue half place d) given →
    GivesDue (IsDueIn half asked text) given
answered_due half asked text d place given clean value placed h =
    gives_unless (answered (first_in_text half (command_of asked).takes text))
    (IsDueSpelled half asked text) given (ap answered clean)
    (by given (subst (λ (at : Place). GivesDue ((command_of asked).IsDue half at d) given)
    (sym placed) h))
  where
    Spelled : (due : Due) → (command_of asked).IsDue half (first_place text) d due →
        IsDueSpelled half asked text due
    Spelled due h = rw value h

    by : (given : Result Answer TextEnd) →
        GivesDue ((command_of asked).IsDue half (first_place text) d) given →
        GivesDue (IsDueSpelled half asked text) given
    by (Ok made) h = Spelled _ h
    by (Err (end.Refused code line column)) h = Spelled _ h
    by (Err (end.Limit which found)) h = Spelled _ h
    by (Err end.Memory) h = tt

pub answered_means : {T E : Type 0} (result : Result T E) (half : ℕ) (asked : Asked)
    (text : List ℕ) (d : PlainDocument) → spelled half text ≡ Some d → IsDocument half d →
    IsTaken (command_of asked).takes d → OnOk result ((command_of asked).Means half d) →
    OnOk result (MeansIn half asked text)
answered_means (Ok x) half asked text d value valid taken means =
    subst (λ (o : Option PlainDocument). IsSomeAnd o (IsAnsweredFor half asked)) (sym value)
    (record { valid = valid; taken = taken; means = means })
answered_means (Err e) half asked text d value valid taken means = tt

-- the status of an answer that was written, and of one that was not
pub whole_status : (Owed : Due → Type 0) (made : Answer) (given : Status) →
    given ≡ (if made.holds then status.Done else status.No) → GivesDue Owed (Ok made) →
    IsStatus Owed given
whole_status Owed made given is gives = inl (answer made.text.items made.holds, gives, is)

pub part_status : (Owed : Due → Type 0) (made : Answer) → GivesDue Owed (Ok made) →
    IsStatus Owed status.WriteFault
part_status Owed made gives =
    inr (inr (inr ((answer made.text.items made.holds, gives, tt), refl)))

pub whole_appends : (Owed : Due → Type 0) (made : Answer) (given : Status)
    (old new : Option (List ℕ)) → given ≡ (if made.holds then status.Done else status.No) →
    AppendsWhereTold old new made.text.items → GivesDue Owed (Ok made) →
    Appends Owed given old new
whole_appends Owed made given old new is written gives =
    by made.holds given is gives
  where
    by : (t : Bool) (given : Status) → given ≡ (if t then status.Done else status.No) →
        Owed (answer made.text.items t) → Appends Owed given old new
    by true given e h = rw e (made.text.items, h, written)
    by false given e h = rw e (made.text.items, h, written)

pub part_appends : (Owed : Due → Type 0) (made : Answer) (old new : Option (List ℕ)) →
    AppendsPrefix old new made.text.items → GivesDue Owed (Ok made) →
    Appends Owed status.WriteFault old new
part_appends Owed made old new written gives = (made.text.items, made.holds, gives, written)

-- `No` comes only where an answer may not hold
pub may_be_no : (holds may : Bool) (given : Status) → (may ≡ false → holds ≡ true) →
    given ≡ (if holds then status.Done else status.No) → given ≡ status.No → may ≡ true
may_be_no holds true given h is denied = refl
may_be_no holds false given h is denied = absurd (by holds given (h refl) is denied)
  where
    by : (t : Bool) (given : Status) → t ≡ true →
        given ≡ (if t then status.Done else status.No) → given ≡ status.No → ⊥
    by true given e is denied =
        let both : status.Done ≡ status.No = sym is ∙ denied in cc both
    by false given e is denied = cc e

pub refusal_is_not_no : (given : TextEnd) → status_by_end given ≡ status.No → ⊥
refusal_is_not_no (end.Refused code line column) e = cc e
refusal_is_not_no (end.Limit which found) e = cc e
refusal_is_not_no end.Memory e = cc e

-- what holds of a request holds of what was asked for
pub of_request : (found : Option Request) (request : Request) (P : Request → Type 0) →
    Some request ≡ found → P request → IfSome found P
of_request found request P e p = subst (λ (r : Option Request). IfSome r P) e p
