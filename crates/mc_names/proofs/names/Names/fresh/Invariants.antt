use Rattle.std.proofs.Common.{◌≡◌, ℕ, ◌+◌, ◌-◌, ◌<◌, ◌≤◌, length, true}
use Rattle.mc_model.specs.Names.{is_held, numbered}
use Rattle.mc_names.proofs.names.Names.fresh.Given as goal

abbrev pub invariant-numbers : goal.invariant-numbers
invariant-numbers l = record {
  positive : 0 < l.number;
  most : l.number ≤ length l.self + 1;
  held : (j : ℕ) → 0 < j → j < l.number → is_held l.self (numbered j) ≡ true;
}

abbrev pub decreases-numbers : goal.decreases-numbers
decreases-numbers l = length l.self + 1 - l.number
