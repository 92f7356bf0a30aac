-- The definitions, computed on small texts: each fault that a trace can meet, with its place, and
-- what is written.
use Rattle.std.specs.Prelude.{◌≡◌, ℕ, List, [], ◌∷◌, codes, Option, None, Some, refl}
use Rattle.std.specs.Fmt.{decimal}
use Rattle.mc_lex.specs.Lines.{lines_of, end_of}
use Rattle.mc_model.specs.Derivation.{Rule, Use, XE, Swap, DropEmpty}
use Rattle.mc_text.specs.declared.fault.Fault.{Fault}
use Rattle.mc_text.specs.declared.fault.Fault.TheVariants.{StrayByte, NotFixed, LineEnds, Surplus}
use Rattle.mc_text.specs.declared.fault.Fault.TheVariants.{NotNumber, TextEnds}
use Rattle.mc_text.specs.Judged.{Judgement, fault, limit, Place, first_in_section, section_lines}
use Rattle.mc_trace_text.specs.Traces.{trace_rules, uses_in, judge_by}
use Rattle.mc_trace_text.specs.declared.section.Role.TheVariants.{Record}
use Rattle.mc_trace_text.specs.Canonical.{use_line, trace_text}

-- the first fault of a section that is the whole text
abbrev pub first : List ℕ → Option (Judgement × Place)
first text = first_in_section trace_rules [] (lines_of text) (end_of text)

abbrev pub Breaks : List ℕ → Fault → ℕ → ℕ → Type 0
Breaks text broken line column = first text ≡ Some (fault broken, (line, column))

abbrev pub use_of : ℕ → Rule → Use
use_of place rule = record { place = place; rule = rule }

pub whole : first (codes "u 5 xe\nu 04 swap\nend\nmore") ≡ None
whole = refl

pub without_uses : first (codes "end") ≡ None
without_uses = refl

pub spells : uses_in (section_lines (lines_of (codes "u 5 xe\n\tu 04  swap # late\nu 0 drop\nend")))
    ≡ use_of 5 XE ∷ use_of 4 Swap ∷ use_of 0 DropEmpty ∷ []
spells = refl

pub written : trace_text [] ≡ codes "trace 1\nend\n"
written = refl

pub written_use : use_line (use_of 12 DropEmpty) ≡ codes "u" ∷ decimal 12 ∷ codes "drop" ∷ []
written_use = refl

pub too_many : judge_by 65536 None Record (codes "u") ≡ Some (limit 7 65537)
too_many = refl

pub stray_byte : Breaks (codes "u \u{7f}\n") StrayByte 1 3
stray_byte = refl

pub word_of_another_kind : Breaks (codes "u 1 xe\nout\nend\n") NotFixed 2 1
word_of_another_kind = refl

pub no_rule : Breaks (codes "u 1 XE\n") NotFixed 1 5
no_rule = refl

pub no_number : Breaks (codes "u x xe\n") NotNumber 1 3
no_number = refl

pub five_digits : Breaks (codes "u 10000 xe\n") NotNumber 1 3
five_digits = refl

pub lacks_place : Breaks (codes "u\nend\n") LineEnds 1 2
lacks_place = refl

pub lacks_rule : Breaks (codes "u 1\nend\n") LineEnds 1 4
lacks_rule = refl

pub behind_use : Breaks (codes "u 1 xe xe\n") Surplus 1 8
behind_use = refl

pub behind_end : Breaks (codes "end u\n") Surplus 1 5
behind_end = refl

pub cut : Breaks (codes "u 1 xe\n") TextEnds 2 1
cut = refl
