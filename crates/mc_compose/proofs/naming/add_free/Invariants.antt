use Rattle.std.proofs.Common.{◌≡◌, ◌≤◌, ◌+◌, ◌-◌, ◌++◌, drop, length}
use Rattle.mc_compose.specs.Composed.{free_names}
use Rattle.mc_compose.proofs.naming.add_free.Given as goal

abbrev pub invariant-names : goal.invariant-names
invariant-names l = record {
  made : l.names ++ free_names l.names (drop l.number l.more)
      ≡ l.initial.names ++ free_names l.initial.names (drop l.initial.number l.more);
  few : length l.names + (length l.more - l.number) ≤ 256;
}
