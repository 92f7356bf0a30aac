-- The definitions, computed on small texts: each fault that a pattern can meet, with its place.
use Rattle.std.specs.Prelude.{◌≡◌, ℕ, List, [], ◌∷◌, codes, replicate, true, false, Option, None}
use Rattle.std.specs.Prelude.{Some, refl}
use Rattle.mc_lex.specs.Lines.{lines_of, end_of}
use Rattle.mc_model.specs.Signals.{Signal, no_signal, one_signal}
use Rattle.mc_model.specs.Pattern.{Pattern, Prep, Ent, Meas, FixX, FixZ}
use Rattle.mc_text.specs.declared.head.Head.TheVariants as head
use Rattle.mc_text.specs.declared.fault.Fault.{Fault}
use Rattle.mc_text.specs.declared.fault.Fault.TheVariants.{StrayByte, NotFixed, LineEnds, Surplus}
use Rattle.mc_text.specs.declared.fault.Fault.TheVariants.{NotName, NotAngle, DefinedTwice}
use Rattle.mc_text.specs.declared.fault.Fault.TheVariants.{NotDefined, Measured, SameOperand}
use Rattle.mc_text.specs.declared.fault.Fault.TheVariants.{NotMeasured, ListedTwice, OutputsLack}
use Rattle.mc_text.specs.declared.fault.Fault.TheVariants.{TextEnds}
use Rattle.mc_text.specs.Judged.{Judgement, fault, limit, Place, first_in_section, section_lines}
use Rattle.mc_pattern_text.specs.Value.{pattern_of}
use Rattle.mc_pattern_text.specs.Judge.{pattern_rules, next_record}

-- the first fault or limit of a section of this version that is the whole text
abbrev pub first : ℕ → List ℕ → Option (Judgement × Place)
first version text = first_in_section (pattern_rules version) [] (lines_of text) (end_of text)

abbrev pub Breaks : List ℕ → Fault → ℕ → ℕ → Type 0
Breaks text broken line column = first 2 text ≡ Some (fault broken, (line, column))

abbrev pub Spells : List ℕ → Pattern → Type 0
Spells text pattern = pattern_of 4 (section_lines (lines_of text)) ≡ pattern

abbrev pub set_of : List ℕ → Signal
set_of qs = record { members = qs; constant = false }

pub without_qubits : first 1 (codes "in\nout\nend") ≡ None
without_qubits = refl

pub whole :
    first 1 (codes "in a b\nn q\ne a q\nm a 0\nm b 1 s: a t: a\nx q a b\nz q\nout q\nend\n") ≡ None
whole = refl

pub empty_signals : first 1 (codes "in a\nm a 0 s: t:\nout\nend") ≡ None
empty_signals = refl

abbrev pub each_command : List ℕ
each_command =
    codes "in a b\nn q\ne a q # c\nm b -1\n\nm\ta 09 s: b t: b\nx q b a\nz q\nout q\nend\n"

pub spells : Spells each_command (record {
  names = codes "a" ∷ codes "b" ∷ codes "q" ∷ [];
  inputs = 2;
  outputs = 2 ∷ [];
  commands =
      Prep 2
      ∷ Ent 0 2
      ∷ Meas 1 7 no_signal no_signal
      ∷ Meas 0 1 (set_of (1 ∷ [])) (set_of (1 ∷ []))
      ∷ FixX 2 (set_of (0 ∷ 1 ∷ []))
      ∷ FixZ 2 no_signal
      ∷ [];
})
spells = refl

pub second_alone : Spells (codes "in a b\nm a 0\nm b 0 t: a\nout\nend\n") (record {
  names = codes "a" ∷ codes "b" ∷ [];
  inputs = 2;
  outputs = [];
  commands = Meas 0 0 no_signal no_signal ∷ Meas 1 0 no_signal (set_of (0 ∷ [])) ∷ [];
})
second_alone = refl

-- constants, behind the members, before them and between them
abbrev pub with_constants : List ℕ
with_constants =
    codes "in a b c\nm a 0 t: !\nm b 1 s: ! a t: a !\nx c b ! a\nz c !\nx c\nout c\nend\n"

pub constants_pass : first 2 with_constants ≡ None
constants_pass = refl

abbrev pub set_and_one : List ℕ → Signal
set_and_one qs = record { members = qs; constant = true }

pub spells_constants : Spells with_constants (record {
  names = codes "a" ∷ codes "b" ∷ codes "c" ∷ [];
  inputs = 3;
  outputs = 2 ∷ [];
  commands =
      Meas 0 0 no_signal one_signal
      ∷ Meas 1 1 (set_and_one (0 ∷ [])) (set_and_one (0 ∷ []))
      ∷ FixX 2 (set_and_one (0 ∷ 1 ∷ []))
      ∷ FixZ 2 one_signal
      ∷ FixX 2 no_signal
      ∷ [];
})
spells_constants = refl

pub no_constants_in_version_1 : first 1 with_constants ≡ Some (fault NotName, (2, 10))
no_constants_in_version_1 = refl

pub constant_twice : Breaks (codes "in a b\nm a 0\nx b ! a !\nout b\nend\n") ListedTwice 3 9
constant_twice = refl

pub constant_in_each_signal : first 2 (codes "in a\nm a 0 s: ! t: !\nout\nend\n") ≡ None
constant_in_each_signal = refl

pub corrected_constant : Breaks (codes "in a\nx ! a\nout a\nend\n") NotName 2 3
corrected_constant = refl

pub constant_without_mark : Breaks (codes "in a\nm a 0 !\nout\nend\n") NotFixed 2 7
constant_without_mark = refl

pub constant_listed : Breaks (codes "in a\nout a !\nend\n") NotName 2 7
constant_listed = refl

pub stray_byte : Breaks (codes "in a\nm a 0 s: \u{7f}\nout\nend\n") StrayByte 2 10
stray_byte = refl

pub begins_otherwise : Breaks (codes "n a\nout a\nend\n") NotFixed 1 1
begins_otherwise = refl

pub inputs_late : Breaks (codes "in a\nn b\nin c\nout a b c\nend\n") NotFixed 3 1
inputs_late = refl

pub command_behind_outputs : Breaks (codes "in a\nout a\nx a\nend\n") NotFixed 3 1
command_behind_outputs = refl

pub end_without_outputs : Breaks (codes "in a\nend\n") NotFixed 2 1
end_without_outputs = refl

pub word_of_another_kind : Breaks (codes "in a\nj a 0\nout a\nend\n") NotFixed 2 1
word_of_another_kind = refl

pub no_mark : Breaks (codes "in a b\nm a 0\nm b 0 a\nout\nend\n") NotFixed 3 7
no_mark = refl

pub mark_of_another_kind : Breaks (codes "in a\nm a 0 :\nout\nend\n") NotFixed 2 7
mark_of_another_kind = refl

pub lacks_name : Breaks (codes "in a\nn\nout a\nend\n") LineEnds 2 2
lacks_name = refl

pub lacks_second : Breaks (codes "in a b\ne a\nout a b\nend\n") LineEnds 2 4
lacks_second = refl

pub lacks_angle : Breaks (codes "in a\nm a # 1\nout\nend\n") LineEnds 2 4
lacks_angle = refl

pub lacks_corrected : Breaks (codes "in a\n z \nout a\nend\n") LineEnds 2 3
lacks_corrected = refl

pub second_prepared : Breaks (codes "in\nn a b\nout a b\nend\n") Surplus 2 5
second_prepared = refl

pub third_operand : Breaks (codes "in a b c\ne a b c\nout a b c\nend\n") Surplus 2 7
third_operand = refl

pub behind_end : Breaks (codes "in\nout\nend in\n") Surplus 3 5
behind_end = refl

pub no_name : Breaks (codes "in a-b\nout\nend\n") NotName 1 4
no_name = refl

pub second_s : Breaks (codes "in a b\nm a 0\nm b 0 s: s: a\nout\nend\n") NotName 3 10
second_s = refl

pub first_behind_second : Breaks (codes "in a b\nm a 0\nm b 0 t: a s: a\nout\nend\n") NotName 3 12
first_behind_second = refl

pub mark_in_a_correction : Breaks (codes "in a b\nm a 0\nx b s: a\nout b\nend\n") NotName 3 5
mark_in_a_correction = refl

pub no_angle : Breaks (codes "in a\nm a s: a\nout\nend\n") NotAngle 2 5
no_angle = refl

pub defined_twice : Breaks (codes "in a\nn a\nout a\nend\n") DefinedTwice 2 3
defined_twice = refl

pub measured_and_defined : Breaks (codes "in a\nm a 0\nn a\nout a\nend\n") DefinedTwice 3 3
measured_and_defined = refl

pub undefined_operand : Breaks (codes "in a\nx b\nout a\nend\n") NotDefined 2 3
undefined_operand = refl

pub undefined_member : Breaks (codes "in a\nx a b\nout a\nend\n") NotDefined 2 5
undefined_member = refl

pub undefined_output : Breaks (codes "in a\nout b\nend\n") NotDefined 2 5
undefined_output = refl

pub measured_twice : Breaks (codes "in a\nm a 0\nm a 0\nout\nend\n") Measured 3 3
measured_twice = refl

pub measured_second : Breaks (codes "in a b\nm a 0\ne b a\nout b\nend\n") Measured 3 5
measured_second = refl

pub measured_output : Breaks (codes "in a b\nm a 0\nout b a\nend\n") Measured 3 7
measured_output = refl

pub same_operands : Breaks (codes "in a\ne a a\nout a\nend\n") SameOperand 2 5
same_operands = refl

pub measured_later : Breaks (codes "in a b\nm a 0 s: b\nm b 0\nout\nend\n") NotMeasured 2 10
measured_later = refl

pub measured_in_this_line : Breaks (codes "in a\nm a 0 s: a\nout\nend\n") NotMeasured 2 10
measured_in_this_line = refl

pub corrected_by_itself : Breaks (codes "in a\nx a a\nout a\nend\n") NotMeasured 2 5
corrected_by_itself = refl

pub member_twice : Breaks (codes "in a b\nm a 0\nm b 0 s: a a\nout\nend\n") ListedTwice 3 12
member_twice = refl

pub second_member_twice :
    Breaks (codes "in a b\nm a 0\nm b 0 s: a t: a a\nout\nend\n") ListedTwice 3 17
second_member_twice = refl

pub listed_twice : Breaks (codes "in a b\nout a b a\nend\n") ListedTwice 2 9
listed_twice = refl

pub output_lacks : Breaks (codes "in a b c\nm a 0\nout b \nend") OutputsLack 3 6
output_lacks = refl

pub cut : Breaks (codes "in a\nout a\n") TextEnds 3 1
cut = refl

-- 255 words behind `in`, and one name more
abbrev pub many : List (List (List ℕ))
many = (codes "in" ∷ replicate 255 (codes "a")) ∷ (codes "n" ∷ codes "b" ∷ []) ∷ []

pub names_pass : (pattern_rules 2).judge many (codes "n" ∷ []) (codes "c") ≡ Some (limit 2 257)
names_pass = refl

pub rules_before_the_limit :
    (pattern_rules 2).judge many (codes "n" ∷ []) (codes "b") ≡ Some (fault DefinedTwice)
rules_before_the_limit = refl

pub commands_pass : next_record (Some head.M) 262144 (codes "x") ≡ Some (limit 3 262145)
commands_pass = refl

pub last_command : next_record (Some head.M) 262143 (codes "n") ≡ None
last_command = refl

pub outputs_behind_the_last : next_record (Some head.M) 262144 (codes "out") ≡ None
outputs_behind_the_last = refl

pub order_before_the_limit : next_record (Some head.Out) 262144 (codes "x") ≡ Some (fault NotFixed)
order_before_the_limit = refl
