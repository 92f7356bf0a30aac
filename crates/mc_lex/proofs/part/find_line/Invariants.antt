use Rattle.std.proofs.Common.{◌≡◌, ◌+◌, ◌≤◌, length}
use Rattle.mc_lex.specs.Lines.{lines_from}
use Rattle.mc_lex.proofs.part.find_line.Given as goal

abbrev pub invariant-lines : goal.invariant-lines
invariant-lines l = record {
  within : l.line + length l.rest ≤ l.part.line + length l.part.bytes.now;
  shorter : length l.rest ≤ length l.part.bytes.now;
  same : lines_from l.line l.rest ≡ lines_from l.part.line l.part.bytes.now;
}

abbrev pub decreases-lines : goal.decreases-lines
decreases-lines l = length l.rest
