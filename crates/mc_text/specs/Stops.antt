-- The answer to the first fault or limit.
use Rattle.std.specs.Prelude.{◌≡◌, Option, None, Some}
use Rattle.mc_lex.specs.declared.end.TextEnd.{TextEnd}
use Rattle.mc_lex.specs.declared.end.TextEnd.TheVariants as end
use Rattle.mc_text.specs.declared.fault.Stop.{Stop}
use Rattle.mc_text.specs.declared.fault.Stop.TheVariants as stop
use Rattle.mc_text.specs.Faults.{code_of}
use Rattle.mc_text.specs.Judged.{Judgement, fault, limit, Place}

-- a stop is what was judged; want of memory says nothing
abbrev pub IsStop : Stop → Option Judgement → Type 0
IsStop (stop.Fault broken) judged = judged ≡ Some (fault broken)
IsStop (stop.Limit which found) judged = judged ≡ Some (limit which found)
IsStop stop.Memory judged = Unit {0}

-- a fault is answered by its code and its place, a limit by its number and what was found
abbrev pub answer : Judgement → Place → TextEnd
answer (fault broken) place = end.Refused (code_of broken) place.0 place.1
answer (limit which found) place = end.Limit which found

abbrev pub answered : Option (Judgement × Place) → Option TextEnd
answered None = None
answered (Some first) = Some (answer first.0 first.1)

-- an answer is that to the first fault or limit; want of memory says nothing
abbrev pub IsEnd : TextEnd → Option (Judgement × Place) → Type 0
IsEnd (end.Refused code line column) first = answered first ≡ Some (end.Refused code line column)
IsEnd (end.Limit which found) first = answered first ≡ Some (end.Limit which found)
IsEnd end.Memory first = Unit {0}
