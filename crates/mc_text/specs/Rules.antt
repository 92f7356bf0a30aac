-- Rules and limits of words, in the order in which they are judged.
use Rattle.std.specs.Prelude.{◌≡◌, ℕ, List, [], ◌∷◌, Bool, true, not, nat_le, length, map}
use Rattle.std.specs.Prelude.{unwrap_or, if◌then◌else◌, Option, None, Some}
use Rattle.std.specs.List.{list_all}
use Rattle.mc_model.specs.Names.{is_name, is_held, place_of}
use Rattle.mc_angle.specs.Angle.{is_angle}
use Rattle.mc_angle.specs.Number.{is_number}
use Rattle.mc_text.specs.declared.fault.Fault.{Fault}
use Rattle.mc_text.specs.declared.fault.Fault.TheVariants.{NotFixed, NotName, NotAngle, NotNumber}
use Rattle.mc_text.specs.declared.fault.Fault.TheVariants.{DefinedTwice, NotDefined, ListedTwice}
use Rattle.mc_text.specs.Heads.{is_word}
use Rattle.mc_text.specs.Judged.{Judgement, fault, limit}

-- the first that is broken of rules, each with a test of whether it is
abbrev pub broken : List (Bool × Fault) → Option Judgement
broken [] = None
broken (rule ∷ more) = if rule.0 then Some (fault rule.1) else broken more

-- a limit by its number, what was found, and whether it is passed
abbrev pub passed : Bool → ℕ → ℕ → Option Judgement
passed test which found = if test then Some (limit which found) else None

abbrev pub or_next : Option Judgement → Option Judgement → Option Judgement
or_next None next = next
or_next (Some judged) next = Some judged

-- a name that is defined here
abbrev pub new_name : List (List ℕ) → List ℕ → Option Judgement
new_name names word =
    or_next (broken ((not (is_name word), NotName) ∷ (is_held names word, DefinedTwice) ∷ []))
    (passed (nat_le 256 (length names)) 2 257)

-- a name that is used here
abbrev pub known_name : List (List ℕ) → List ℕ → Option Judgement
known_name names word =
    broken ((not (is_name word), NotName) ∷ (not (is_held names word), NotDefined) ∷ [])

-- a name that is used and listed here, behind others of the list
abbrev pub listed_name : List (List ℕ) → List (List ℕ) → List ℕ → Option Judgement
listed_name names list word =
    or_next (known_name names word) (broken ((is_held list word, ListedTwice) ∷ []))

abbrev pub fixed_word : List ℕ → List ℕ → Option Judgement
fixed_word due word = broken ((not (is_word due word), NotFixed) ∷ [])

abbrev pub angle_word : List ℕ → Option Judgement
angle_word word = broken ((not (is_angle word), NotAngle) ∷ [])

abbrev pub number_word : List ℕ → Option Judgement
number_word word = broken ((not (is_number word), NotNumber) ∷ [])

-- the number of a name that is held
abbrev pub number_in : List (List ℕ) → List ℕ → ℕ
number_in names name = unwrap_or (place_of names name) 0

-- the names of a list are held, and these are their numbers
pub record AreNumbers (names list : List (List ℕ)) (numbers : List ℕ) : Type 0 where
  pub held : list_all (is_held names) list ≡ true
  pub numbers_are : numbers ≡ map (number_in names) list
