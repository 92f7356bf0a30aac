-- The definitions, computed on small texts: what may stand where, and what headers may say.
use Rattle.std.specs.Prelude.{◌≡◌, ℕ, List, [], codes, None, Some, refl}
use Rattle.mc_model.specs.Pattern.{Pattern}
use Rattle.mc_text.specs.declared.fault.Fault.{Fault}
use Rattle.mc_text.specs.declared.fault.Fault.TheVariants.{NotVersion, Surplus, NotNumber}
use Rattle.mc_text.specs.declared.fault.Fault.TheVariants.{StepDiffers, BehindEnd, NoSecond}
use Rattle.mc_text.specs.declared.fault.Fault.TheVariants.{KindNotTaken}
use Rattle.mc_text.specs.Judged.{fault}
use Rattle.mc_document.specs.declared.takes.Takes.{Takes}
use Rattle.mc_document.specs.Documents.{certified_kinds, every_kind, every_source, two}
use Rattle.mc_document.specs.Documents.{two_patterns}
use Rattle.mc_document.specs.Sections.{first_in_text, spelled}
use Rattle.mc_document.specs.Turns.{half_of}

abbrev pub Breaks : Takes → List ℕ → Fault → ℕ → ℕ → Type 0
Breaks takes text broken line column =
    first_in_text 4 takes text ≡ Some (fault broken, (line, column))

-- a pattern without qubits
abbrev pub empty : Pattern
empty = record { names = []; inputs = 0; outputs = []; commands = [] }

pub said_twice : first_in_text 8 two_patterns
    (codes "pattern 1 turn 16\nin\nout\nend\npattern 2 turn 16\nin\nout\nend\n") ≡ None
said_twice = refl

pub said_once : first_in_text 8 two_patterns
    (codes "pattern 1 turn 16\nin\nout\nend\npattern 1\nin\nout\nend\n") ≡ None
said_once = refl

pub other_step : Breaks two_patterns
    (codes "pattern 1\nin\nout\nend\npattern 1 turn 16\nin\nout\nend\n") StepDiffers 5 16
other_step = refl

pub form_before_step : Breaks two_patterns
    (codes "pattern 1\nin\nout\nend\npattern 1 turn 12\n") NotNumber 5 16
form_before_step = refl

pub step_before_more : Breaks two_patterns
    (codes "pattern 1\nin\nout\nend\npattern 1 turn 16 8\n") StepDiffers 5 16
step_before_more = refl

pub lacks_pattern : Breaks two_patterns (codes "pattern 1\nin\nout\nend\n") NoSecond 5 1
lacks_pattern = refl

pub other_than_pattern : Breaks two_patterns
    (codes "pattern 1\nin\nout\nend\n\n trace 1\nend\n") BehindEnd 6 2
other_than_pattern = refl

pub lacks_trace : Breaks certified_kinds (codes "pattern 1\nin\nout\nend") NoSecond 4 4
lacks_trace = refl

pub other_than_trace : Breaks certified_kinds
    (codes "pattern 1\nin\nout\nend\nchange 1\nend\n") BehindEnd 5 1
other_than_trace = refl

pub second_pattern : Breaks every_kind
    (codes "pattern 1\nin\nout\nend\npattern 1\nin\nout\nend\n") BehindEnd 5 1
second_pattern = refl

pub trace_of_version_two : Breaks every_kind
    (codes "pattern 1\nin\nout\nend\ntrace 2\nend\n") NotVersion 5 7
trace_of_version_two = refl

pub change_says_no_step : Breaks every_kind
    (codes "pattern 1\nin\nout\nend\nchange 2 turn 8\nend\n") Surplus 5 10
change_says_no_step = refl

pub gates_say_no_step : Breaks every_kind (codes "gates 1 turn 8\n") Surplus 1 9
gates_say_no_step = refl

pub gates_are_no_source : Breaks every_source (codes "gates 1\nin\nout\nend\n") KindNotTaken 1 1
gates_are_no_source = refl

pub no_such_step : Breaks every_kind (codes "circuit 1 turn 12\nin\nout\nend\n") NotNumber 1 16
no_such_step = refl

pub spells_two : spelled 4 (codes "pattern 1\nin\nout\nend\n\n pattern 1\nin\nout\nend\n")
    ≡ Some (two empty empty 6 2)
spells_two = refl

pub says_sixteenths : half_of (codes "\n# note\ngraph 2 turn 16 8\n") ≡ 8
says_sixteenths = refl

pub says_eighths : half_of (codes "graph 1 turn 8\n") ≡ 4
says_eighths = refl

pub says_nothing : half_of [] ≡ 4
says_nothing = refl
