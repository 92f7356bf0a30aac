use Rattle.std.proofs.Common.{◌≡◌, ◌++◌, map, take}
use Rattle.mc_write.specs.Text.{text_of}
use Rattle.mc_trace_text.specs.Canonical.{use_line}
use Rattle.mc_trace_text.proofs.print.print_uses.Given as goal

abbrev pub invariant-uses : goal.invariant-uses
invariant-uses l =
    l.text.items ≡ l.initial.text.items ++ text_of (map use_line (take l.i l.d))
