-- The status of a text that is refused, or passes a limit.
use Rattle.mc_lex.specs.declared.end.TextEnd.{TextEnd}
use Rattle.mc_lex.specs.declared.end.TextEnd.TheVariants as end
use Rattle.mc_run.specs.declared.limit.RunEnd.{RunEnd}
use Rattle.mc_run.specs.declared.limit.RunEnd.TheVariants as run
use Rattle.mc_top.specs.declared.status.Status.{Status}
use Rattle.mc_top.specs.declared.status.Status.TheVariants as status

abbrev pub status_by_end : TextEnd → Status
status_by_end (end.Refused code line column) = status.Refused code line column
status_by_end (end.Limit which found) = status.Limit which found
status_by_end end.Memory = status.Memory
