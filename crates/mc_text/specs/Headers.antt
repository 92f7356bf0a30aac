-- The header of a section: a line of its kind and its version, and where that is permitted of the
-- word `turn` and the number of steps in a turn.
use Rattle.std.specs.Prelude.{◌≡◌, ℕ, List, [], ◌∷◌, Bool, true, false, not, ◌&&◌, ◌||◌, nat_eq}
use Rattle.std.specs.Prelude.{◌==◌, ◌⊎◌}
use Rattle.std.specs.Prelude.{codes, if◌then◌else◌, Option, None, Some}
use Rattle.std.specs.Option.{option_map}
use Rattle.mc_lex.specs.declared.kind.Kind.{Kind}
use Rattle.mc_lex.specs.Kinds.{kind_of, spelling}
use Rattle.mc_lex.specs.Lines as lex
use Rattle.mc_lex.specs.Lines.{Item}
use Rattle.mc_text.specs.declared.fault.Fault.{Fault}
use Rattle.mc_text.specs.declared.fault.Fault.TheVariants.{NotVersion, LineEnds, Surplus}
use Rattle.mc_text.specs.declared.fault.Fault.TheVariants.{NotNumber, StepDiffers}
use Rattle.mc_text.specs.declared.form.Turning.{Turning}
use Rattle.mc_text.specs.declared.form.Turning.TheVariants.{Unsaid, Said, Like}
use Rattle.mc_text.specs.declared.form.Form.{Form}
use Rattle.mc_text.specs.declared.form.Behind.{Behind}
use Rattle.mc_text.specs.Heads.{is_word}
use Rattle.mc_text.specs.Judged.{Judgement, fault, Words, Lines, Rules, Place, first_in_line}
use Rattle.mc_text.specs.Rules.{broken}

-- the form of a header of version 1 alone, without a step
abbrev pub plain_form : Form
plain_form = record { second = false; turning = Unsaid }

-- the same for each kind
abbrev pub plain_forms : Kind → Form
plain_forms kind = plain_form

-- the version 1, or 2 where that is permitted too
abbrev pub is_version : Form → List ℕ → Bool
is_version form word =
    is_word (codes "1") word || (form.second && is_word (codes "2") word)

abbrev pub may_say : Turning → Bool
may_say Unsaid = false
may_say Said = true
may_say (Like half) = true

-- the numbers of steps in a turn
abbrev pub is_turn : List ℕ → Bool
is_turn word = is_word (codes "8") word || is_word (codes "16") word

-- how many steps half a turn has
abbrev pub half_by : List ℕ → ℕ
half_by word = if is_word (codes "16") word then 8 else 4

-- whether a step is not the one that is due
abbrev pub is_other : Turning → ℕ → Bool
is_other Unsaid half = false
is_other Said half = false
is_other (Like due) half = not (nat_eq half due)

-- a word behind the kind, by the words between
abbrev pub form_judge : Form → Words → List ℕ → Option Judgement
form_judge form [] word = broken ((not (is_version form word), NotVersion) ∷ [])
form_judge form (version ∷ []) word =
    broken ((not (may_say form.turning && is_word (codes "turn") word), Surplus) ∷ [])
form_judge form (version ∷ turn ∷ []) word =
    broken ((not (is_turn word), NotNumber) ∷ (is_other form.turning (half_by word), StepDiffers)
    ∷ [])
form_judge form (version ∷ turn ∷ number ∷ words) word = broken ((true, Surplus) ∷ [])

-- the end of a header, by the words behind the kind
abbrev pub form_lacks : Words → Option Judgement
form_lacks [] = Some (fault LineEnds)
form_lacks (version ∷ []) = None
form_lacks (version ∷ turn ∷ []) = Some (fault LineEnds)
form_lacks (version ∷ turn ∷ number ∷ words) = None

abbrev pub form_rules : Form → Rules
form_rules form = record {
  judge = λ before here word. form_judge form here word;
  lacks = λ before here. form_lacks here;
}

-- the word that is to name a kind: `unknown` where it names none, and `refused` says which kinds
-- may not stand here
abbrev pub kind_judge : (Kind → Option Fault) → Fault → Option Kind → Option Judgement
kind_judge refused unknown None = Some (fault unknown)
kind_judge refused unknown (Some kind) = option_map fault (refused kind)

abbrev pub form_of : (Kind → Form) → Option Kind → Form
form_of form None = plain_form
form_of form (Some kind) = form kind

-- the kind, and then the words that its form permits
abbrev pub header_judge : (Kind → Option Fault) → Fault → (Kind → Form) → Words → List ℕ
    → Option Judgement
header_judge refused unknown form [] word = kind_judge refused unknown (kind_of word)
header_judge refused unknown form (kind ∷ here) word =
    form_judge (form_of form (kind_of kind)) here word

-- each line has a word
abbrev pub header_lacks : Fault → Words → Option Judgement
header_lacks unknown [] = Some (fault unknown)
header_lacks unknown (kind ∷ here) = form_lacks here

abbrev pub header_rules : (Kind → Option Fault) → Fault → (Kind → Form) → Rules
header_rules refused unknown form = record {
  judge = λ before here word. header_judge refused unknown form here word;
  lacks = λ before here. header_lacks unknown here;
}

-- the first fault of a line that is to be a header
abbrev pub first_in_header : (Kind → Option Fault) → Fault → (Kind → Form) → List Item → Place
    → Option (Judgement × Place)
first_in_header refused unknown form items lack =
    first_in_line (header_rules refused unknown form) [] [] items lack

-- the header is of this kind, and the word that names it stands at this place
abbrev pub IsHeader : Kind → Place → List Item → Type 0
IsHeader kind place [] = ⊥
IsHeader kind place (lex.word bytes line column ∷ items) =
    (kind_of bytes ≡ Some kind) × (place ≡ (line, column))
IsHeader kind place (lex.bad line column ∷ items) = ⊥

-- the version, by the words behind the kind, and how many steps half a turn has
abbrev pub version_behind : Words → ℕ
version_behind [] = 1
version_behind (version ∷ words) = if is_word (codes "2") version then 2 else 1

abbrev pub half_behind : Words → ℕ
half_behind [] = 4
half_behind (version ∷ []) = 4
half_behind (version ∷ turn ∷ []) = 4
half_behind (version ∷ turn ∷ number ∷ words) =
    if is_word (codes "turn") turn then half_by number else 4

-- the same by the words of the header
abbrev pub version_in : Words → ℕ
version_in [] = 1
version_in (kind ∷ words) = version_behind words

abbrev pub half_in : Words → ℕ
half_in [] = 4
half_in (kind ∷ words) = half_behind words

abbrev pub kind_in : Words → Option Kind
kind_in [] = None
kind_in (kind ∷ words) = kind_of kind

-- the words of a header, as they are printed
abbrev pub version_word : ℕ → List ℕ
version_word version = if version == 2 then codes "2" else codes "1"

abbrev pub turn_words : ℕ → Words
turn_words half = if half == 8 then codes "turn" ∷ codes "16" ∷ [] else []

abbrev pub header_words : Kind → ℕ → ℕ → Words
header_words kind version half = spelling kind ∷ version_word version ∷ turn_words half

-- the versions, and the numbers of steps in half a turn
abbrev pub IsVersion : ℕ → Type 0
IsVersion version = (version ≡ 1) ⊎ (version ≡ 2)

abbrev pub IsHalf : ℕ → Type 0
IsHalf half = (half ≡ 4) ⊎ (half ≡ 8)

-- what is kept of the words behind the kind
pub record Says (k : Behind) (words : Words) : Type 0 where
  pub version : k.version ≡ version_behind words
  pub half : k.half ≡ half_behind words
  pub turned : (version turn : List ℕ) → words ≡ version ∷ turn ∷ []
      → is_word (codes "turn") turn ≡ true

-- a header is one line
pub record IsBehind (k : Behind) (before : Lines) (here : Words) : Type 0 where
  pub begun : before ≡ [] → Says k here
  pub line : (words : Words) → before ≡ words ∷ [] → here ≡ [] → Says k words
