use Rattle.std.proofs.Common.{◌≡◌, ◌≤◌, ◌++◌}
use Rattle.mc_run.specs.Settings.{spelled}
use Rattle.mc_run_text.specs.Canonical.{digits}
use Rattle.mc_run_text.proofs.bits.push_digits.Given as goal

abbrev pub invariant-digits : goal.invariant-digits
invariant-digits l = record {
  within : l.left ≤ l.count;
  same : l.text.items ++ digits (spelled l.left l.number)
      ≡ l.fn.text.items ++ digits (spelled l.count l.number);
}

abbrev pub decreases-digits : goal.decreases-digits
decreases-digits l = l.left
