use Rattle.std.proofs.Common.{◌≡◌, ◌++◌, take}
use Rattle.mc_run_text.specs.Canonical.{digits}
use Rattle.mc_run_text.proofs.bits.push_bits.Given as goal

abbrev pub invariant-bits : goal.invariant-bits
invariant-bits l = l.text.items ≡ l.fn.text.items ++ digits (take l.bit-index l.bits)
