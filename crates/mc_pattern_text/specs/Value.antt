-- The pattern that lines spell, by filters and maps over them.
use Rattle.std.specs.Prelude.{ℕ, List, [], ◌∷◌, ◌++◌, map, length, filter_map, Bool, true, false}
use Rattle.std.specs.Prelude.{not, codes, is_some, if◌then◌else◌, Option, None, Some}
use Rattle.std.specs.List.{filter, list_any}
use Rattle.std.specs.Option.{option_or}
use Rattle.mc_angle.specs.Angle.{angle_of}
use Rattle.mc_model.specs.Numbers.{numbers_where, is_member}
use Rattle.mc_model.specs.Signals.{Signal}
use Rattle.mc_model.specs.Pattern.{Command, Prep, Ent, Meas, FixX, FixZ, Pattern}
use Rattle.mc_text.specs.declared.head.Head.{Head}
use Rattle.mc_text.specs.declared.head.Head.TheVariants as head
use Rattle.mc_text.specs.declared.point.Mark.{Mark}
use Rattle.mc_text.specs.declared.point.Mark.TheVariants.{S, T}
use Rattle.mc_text.specs.Heads.{head_of, is_word}
use Rattle.mc_text.specs.Points.{mark_of}
use Rattle.mc_text.specs.Judged.{Words, Lines}
use Rattle.mc_text.specs.Rules.{number_in}
use Rattle.mc_text.specs.Lists.{names_at}
use Rattle.mc_pattern_text.specs.Roles.{is_defining, is_input, is_output}

-- whether the last mark is the one that begins the first signal, or the second
abbrev pub is_first : Option Mark → Bool
is_first (Some S) = true
is_first _ = false

abbrev pub is_second : Option Mark → Bool
is_second (Some T) = true
is_second _ = false

-- the word, where it is no mark and the last mark before it passes the test
abbrev pub word_under : (Option Mark → Bool) → Option Mark → List ℕ → Words
word_under test mark word =
    if is_some (mark_of word) then [] else (if test mark then word ∷ [] else [])

-- those of a list with a mark before it
abbrev pub words_under : (Option Mark → Bool) → Option Mark → Words → Words
words_under test mark [] = []
words_under test mark (word ∷ words) =
    word_under test mark word ++ words_under test (option_or (mark_of word) mark) words

-- the words of a command
pub data Spelled : Type 0 where
  spelled_n : List ℕ → Spelled
  spelled_e : List ℕ → List ℕ → Spelled
  spelled_m : List ℕ → List ℕ → Words → Words → Spelled
  spelled_x : List ℕ → Words → Spelled
  spelled_z : List ℕ → Words → Spelled

-- the word of a signal's constant
abbrev pub is_constant : List ℕ → Bool
is_constant word = is_word (codes "!") word

-- the names among the words of a signal
abbrev pub names_among : Words → Words
names_among words = filter (λ word. not (is_constant word)) words

-- the words behind a record word; those of a measurement's signals stand behind their marks
abbrev pub spelled_e_by : Words → Option Spelled
spelled_e_by (a ∷ b ∷ words) = Some (spelled_e a b)
spelled_e_by _ = None

abbrev pub spelled_m_by : Words → Option Spelled
spelled_m_by (a ∷ b ∷ words) =
    let behind = a ∷ b ∷ words in
    Some (spelled_m a b (words_under is_first None behind) (words_under is_second None behind))
spelled_m_by _ = None

abbrev pub spelled_by : Option Head → Words → Option Spelled
spelled_by (Some head.E) words = spelled_e_by words
spelled_by (Some head.M) words = spelled_m_by words
spelled_by (Some head.N) (a ∷ words) = Some (spelled_n a)
spelled_by (Some head.X) (a ∷ words) = Some (spelled_x a words)
spelled_by (Some head.Z) (a ∷ words) = Some (spelled_z a words)
spelled_by _ words = None

abbrev pub spelled_command : Words → Option Spelled
spelled_command [] = None
spelled_command (h ∷ words) = spelled_by (head_of h) words

abbrev pub spelled_commands : Lines → List Spelled
spelled_commands lines = filter_map spelled_command lines

-- the signal of these words: its members are the qubits with the names among them, and it has the
-- constant where the word of that is one of them
abbrev pub signal_in : List (List ℕ) → Words → Signal
signal_in names words = record {
  members =
      numbers_where (is_member (map (number_in names) (names_among words))) (length names);
  constant = list_any is_constant words;
}

-- the command, with the numbers of these names and angles of so many steps in half a turn
abbrev pub command_by : ℕ → List (List ℕ) → Spelled → Command
command_by half names (spelled_n a) = Prep (number_in names a)
command_by half names (spelled_e a b) = Ent (number_in names a) (number_in names b)
command_by half names (spelled_m a b s t) =
    Meas (number_in names a) (angle_of half b) (signal_in names s) (signal_in names t)
command_by half names (spelled_x a s) = FixX (number_in names a) (signal_in names s)
command_by half names (spelled_z a s) = FixZ (number_in names a) (signal_in names s)

abbrev pub pattern_of : ℕ → Lines → Pattern
pattern_of half lines =
    let names = names_at is_defining lines [] in
    record {
      names = names;
      inputs = length (names_at is_input lines []);
      outputs = map (number_in names) (names_at is_output lines []);
      commands = map (command_by half names) (spelled_commands lines);
    }
