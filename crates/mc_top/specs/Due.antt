-- What is due: an answer, or a refusal.
use Rattle.std.specs.Prelude.{◌≡◌, ℕ, List, Bool, true, Option, None, Some, Result}
use Rattle.std.specs.Prelude.{Ok, Err, ⊤}
use Rattle.std.specs.Option.{option_map}
use Rattle.mc_lex.specs.declared.end.TextEnd.{TextEnd}
use Rattle.mc_lex.specs.declared.end.TextEnd.TheVariants as end
use Rattle.mc_top.specs.declared.answer.Answer.{Answer}

-- the whole text of an answer, and whether what was asked holds; or the refusal or the passed limit
pub data Due : Type 0 where
  answer : List ℕ → Bool → Due
  refusal : TextEnd → Due

-- an answer that holds
abbrev pub holding : List ℕ → Due
holding text = answer text true

-- by the answer to the first fault or limit
abbrev pub due_unless : Option TextEnd → Due → Due
due_unless None due = due
due_unless (Some end) due = refusal end

-- a passed limit of a run, by its number and what passes it
abbrev pub run_limit : Option (ℕ × ℕ) → Option TextEnd
run_limit limit = option_map (λ (l : ℕ × ℕ). end.Limit l.0 l.1) limit

-- an end is that of a passed limit; want of memory says nothing
abbrev pub IsLimit : TextEnd → Option TextEnd → Type 0
IsLimit end.Memory limit = ⊤
IsLimit end limit = limit ≡ Some end

-- an answer is the one that is due, an end is the refusal that is due; want of memory says nothing
abbrev pub Gives : Result Answer TextEnd → Due → Type 0
Gives (Ok given) due = due ≡ answer given.text.items given.holds
Gives (Err end.Memory) due = ⊤
Gives (Err (end.Refused code line column)) due = due ≡ refusal (end.Refused code line column)
Gives (Err (end.Limit which found)) due = due ≡ refusal (end.Limit which found)

-- what is given is due; want of memory says nothing
abbrev pub GivesDue : (Due → Type 0) → Result Answer TextEnd → Type 0
GivesDue IsDue (Ok given) = IsDue (answer given.text.items given.holds)
GivesDue IsDue (Err end.Memory) = ⊤
GivesDue IsDue (Err (end.Refused code line column)) = IsDue (refusal (end.Refused code line column))
GivesDue IsDue (Err (end.Limit which found)) = IsDue (refusal (end.Limit which found))

-- a refusal that comes first is due; where there is none, what is due is told by what follows
abbrev pub IsDueUnless : Option TextEnd → (Due → Type 0) → Due → Type 0
IsDueUnless None IsDue due = IsDue due
IsDueUnless (Some end) IsDue due = due ≡ refusal end

-- what was asked holds
abbrev pub Holds : Answer → Type 0
Holds given = given.holds ≡ true
