use Rattle.std.proofs.Common.{◌≡◌, ◌+◌, ◌≤◌, drop}
use Rattle.mc_lex.proofs.Ends.{end_from}
use Rattle.mc_lex.proofs.part.end_of_text.Given as goal

abbrev pub invariant-loop-b : goal.invariant-loop-b
invariant-loop-b l = record {
  line : l.line ≤ l.b-index + 1;
  column : l.column ≤ l.b-index + 1;
  same : end_from l.line l.column (drop l.b-index l.text) ≡ end_from 1 1 l.text;
}
