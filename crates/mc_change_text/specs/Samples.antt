-- The definitions, computed on small texts behind a pattern that measures `c`, `a` and `b`: each
-- fault that a change can meet, with its place, and what is written.
use Rattle.std.specs.Prelude.{◌≡◌, ℕ, List, [], ◌∷◌, Bool, true, false, codes, Option, None, Some}
use Rattle.std.specs.Prelude.{refl}
use Rattle.mc_lex.specs.Lines.{lines_of, end_of}
use Rattle.mc_model.specs.Shift.{ChangeRow}
use Rattle.mc_text.specs.declared.fault.Fault.{Fault}
use Rattle.mc_text.specs.declared.fault.Fault.TheVariants.{StrayByte, NotFixed, LineEnds, Surplus}
use Rattle.mc_text.specs.declared.fault.Fault.TheVariants.{NotName, NotDefined, NotMeasured}
use Rattle.mc_text.specs.declared.fault.Fault.TheVariants.{ListedTwice, TextEnds, OtherRow}
use Rattle.mc_text.specs.Judged.{Judgement, fault, Place, first_in_section, section_lines}
use Rattle.mc_write.specs.Text.{text_of}
use Rattle.mc_rows.specs.Judge.{row_rules}
use Rattle.mc_change_text.specs.Kinds.{change_kind, rows_of}
use Rattle.mc_change_text.specs.Canonical.{change_header, change_lines}

abbrev pub names : List (List ℕ)
names = codes "a" ∷ codes "b" ∷ codes "c" ∷ codes "d" ∷ []

-- the first fault of a section that is the whole text, in the second version or not
abbrev pub first : Bool → List ℕ → Option (Judgement × Place)
first second text =
    first_in_section (row_rules (change_kind second (2 ∷ 0 ∷ 1 ∷ [])) names) [] (lines_of text)
    (end_of text)

abbrev pub Breaks : List ℕ → Fault → ℕ → ℕ → Type 0
Breaks text broken line column = first false text ≡ Some (fault broken, (line, column))

abbrev pub BreaksSecond : List ℕ → Fault → ℕ → ℕ → Type 0
BreaksSecond text broken line column = first true text ≡ Some (fault broken, (line, column))

abbrev pub row : ℕ → List ℕ → Bool → ChangeRow
row q qs constant = record { qubit = q; signal = record { members = qs; constant = constant } }

pub whole : first false (codes "o c\no a c\no b c a\nend\nmore") ≡ None
whole = refl

pub whole_second : first true (codes "o c !\no a c\no b c ! a\nend\nmore") ≡ None
whole_second = refl

pub spells : rows_of names (section_lines (lines_of (codes "o c\n\to a # c\no b  c a\nend")))
    ≡ row 2 [] false ∷ row 0 [] false ∷ row 1 (0 ∷ 2 ∷ []) false ∷ []
spells = refl

pub spells_constants : rows_of names (section_lines (lines_of (codes "o c !\no a\no b c ! a\nend")))
    ≡ row 2 [] true ∷ row 0 [] false ∷ row 1 (0 ∷ 2 ∷ []) true ∷ []
spells_constants = refl

abbrev pub text_with : List ChangeRow → List ℕ
text_with rows = text_of (change_header rows ∷ change_lines names rows)

pub written : text_with (row 2 [] false ∷ row 0 (2 ∷ []) false ∷ [])
    ≡ codes "change 1\no c\no a c\nend\n"
written = refl

pub written_second : text_with (row 2 [] false ∷ row 0 (2 ∷ []) true ∷ [])
    ≡ codes "change 2\no c\no a c !\nend\n"
written_second = refl

pub stray_byte : Breaks (codes "o c \u{7f}\n") StrayByte 1 5
stray_byte = refl

pub word_of_another_kind : Breaks (codes "o c\nout\nend\n") NotFixed 2 1
word_of_another_kind = refl

pub lacks_qubit : Breaks (codes "o c\n o\nend\n") LineEnds 2 3
lacks_qubit = refl

pub behind_end : Breaks (codes "o c\no a\no b\nend o\n") Surplus 4 5
behind_end = refl

pub no_name : Breaks (codes "o c:\n") NotName 1 3
no_name = refl

pub no_name_among_members : Breaks (codes "o c\no a :\n") NotName 2 5
no_name_among_members = refl

pub undefined_qubit : Breaks (codes "o e\n") NotDefined 1 3
undefined_qubit = refl

pub undefined_member : Breaks (codes "o c\no a e\n") NotDefined 2 5
undefined_member = refl

pub member_twice : Breaks (codes "o c\no a c c\n") ListedTwice 2 7
member_twice = refl

pub measured_behind : Breaks (codes "o c\no a b\n") NotMeasured 2 5
measured_behind = refl

pub its_own_member : Breaks (codes "o c c\n") NotMeasured 1 5
its_own_member = refl

pub output_as_member : Breaks (codes "o c\no a d\n") NotMeasured 2 5
output_as_member = refl

pub out_of_order : Breaks (codes "o a\no c\n") OtherRow 1 3
out_of_order = refl

pub row_twice : Breaks (codes "o c\no c\n") OtherRow 2 3
row_twice = refl

pub row_of_an_output : Breaks (codes "o c\no a\no b\no d\n") OtherRow 4 3
row_of_an_output = refl

pub rows_lack : Breaks (codes "o c\no a\nend more\n") OtherRow 3 1
rows_lack = refl

pub constant_in_the_first_version : Breaks (codes "o c !\n") NotName 1 5
constant_in_the_first_version = refl

pub constant_twice : BreaksSecond (codes "o c\no a ! c !\n") ListedTwice 2 9
constant_twice = refl

pub constant_as_a_qubit : BreaksSecond (codes "o ! c\n") NotName 1 3
constant_as_a_qubit = refl

pub cut : Breaks (codes "o c\no a\no b\n") TextEnds 4 1
cut = refl
