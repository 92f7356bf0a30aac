use Rattle.std.proofs.Common.{◌≡◌, ◌+◌, ◌-◌, ◌++◌, take, drop}
use Rattle.mc_compose.proofs.naming.add_range.Given as goal

abbrev pub invariant-names : goal.invariant-names
invariant-names l =
    l.names ++ take (l.count - l.k) (drop (l.start + l.k) l.more)
    ≡ l.initial.names ++ take l.count (drop l.start l.more)
