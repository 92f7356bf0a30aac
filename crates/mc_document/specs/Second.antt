-- What may stand behind the first section of a document, its first fault or limit, and what it
-- spells.
use Rattle.std.specs.Prelude.{ℕ, List, [], ◌∷◌, Bool, true, not, ◌||◌, if◌then◌else◌}
use Rattle.std.specs.Prelude.{Option, None, Some, option_map}
use Rattle.mc_lex.specs.declared.kind.Kind.{Kind}
use Rattle.mc_lex.specs.declared.kind.Kind.TheVariants.{Pattern, Change, Trace}
use Rattle.mc_lex.specs.declared.kind.Kind.TheVariants.{Flow, NoFlow, NoCausal, Least}
use Rattle.mc_lex.specs.Lines.{Line}
use Rattle.mc_text.specs.declared.fault.Fault.{Fault}
use Rattle.mc_text.specs.declared.fault.Fault.TheVariants.{BehindEnd, NoSecond}
use Rattle.mc_text.specs.Judged.{Judgement, fault, Place, Lines, Rules, or_later, words_of}
use Rattle.mc_text.specs.Judged.{first_in_line, first_in_section, section_lines, behind_section}
use Rattle.mc_text.specs.declared.form.Form.{Form}
use Rattle.mc_text.specs.declared.form.Turning.TheVariants.{Unsaid, Like}
use Rattle.mc_text.specs.Headers.{first_in_header, kind_in, plain_form, version_in}
use Rattle.mc_document.specs.declared.takes.Takes.{Takes}
use Rattle.mc_document.specs.Places.{place_in}

-- ---- which kinds may stand where, and what their headers may say

-- whether something must stand behind a pattern
abbrev pub is_due_behind_pattern : Takes → Bool
is_due_behind_pattern takes = takes.two || takes.trace

abbrev pub unless_stands : Bool → Option Fault
unless_stands stands = if stands then None else Some BehindEnd

-- the fault of a header behind a pattern: a change or a trace may stand there; a trace must where
-- one is due, and where two patterns are due a second pattern
abbrev pub refused_behind_pattern : Takes → Kind → Option Fault
refused_behind_pattern takes Change = unless_stands (not (is_due_behind_pattern takes))
refused_behind_pattern takes Trace = unless_stands (not takes.two)
refused_behind_pattern takes Pattern = unless_stands takes.two
refused_behind_pattern takes _ = Some BehindEnd

-- what a header behind a pattern may say: a change and a second pattern have both versions, and a
-- second pattern may say the step of the first
abbrev pub form_behind_pattern : ℕ → Kind → Form
form_behind_pattern half Change = record { second = true; turning = Unsaid }
form_behind_pattern half Pattern = record { second = true; turning = Like half }
form_behind_pattern half _ = plain_form

-- the fault of a header behind a graph: only a certificate may stand there
abbrev pub refused_behind_graph : Kind → Option Fault
refused_behind_graph Flow = None
refused_behind_graph NoFlow = None
refused_behind_graph NoCausal = None
refused_behind_graph Least = None
refused_behind_graph _ = Some BehindEnd

-- ---- what is first, and what is spelled

-- nothing may stand behind a document
abbrev pub nothing_more : Rules
nothing_more = record {
  judge = λ before here w. Some (fault BehindEnd);
  lacks = λ before here. None;
}

abbrev pub first_behind : List Line → Option (Judgement × Place)
first_behind [] = None
first_behind (line ∷ lines) = first_in_line nothing_more [] [] line.items line.lack

-- what a first section says of a second: whether there must be one, which kinds may not stand
-- there, what its header may say, and how the lines of a kind and a version are judged
pub record Second : Type 0 where
  pub due : Bool
  pub refused : Kind → Option Fault
  pub form : Kind → Form
  pub rules : Kind → ℕ → Rules

-- the first of the lines behind the header of a second section, and of what stands behind them
abbrev pub first_in_second : Second → Option Kind → ℕ → List Line → Place
    → Option (Judgement × Place)
first_in_second second None version lines end = None
first_in_second second (Some kind) version lines end =
    or_later (first_in_section (second.rules kind version) [] lines end)
    (first_behind (behind_section lines))

-- the first of what stands behind a first section
abbrev pub first_behind_first : Second → List Line → Place → Option (Judgement × Place)
first_behind_first second [] end = if second.due then Some (fault NoSecond, end) else None
first_behind_first second (line ∷ lines) end =
    let header = words_of line.items in
    or_later (first_in_header second.refused BehindEnd second.form line.items line.lack)
    (first_in_second second (kind_in header) (version_in header) lines end)

-- what the lines of a second section spell by its kind, and by the place of the word that names the
-- kind, if there is a second section
abbrev pub spelled_second : {A : Type 0} → (Kind → Place → Lines → A) → List Line → Option A
spelled_second spells [] = None
spelled_second spells (line ∷ lines) =
    option_map (λ kind. spells kind (place_in line.items line.lack) (section_lines lines))
    (kind_in (words_of line.items))
