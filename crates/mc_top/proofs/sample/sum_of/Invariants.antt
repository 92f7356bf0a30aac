use Rattle.std.proofs.Common.{◌≡◌, ◌%◌, sum, take}
use Rattle.mc_top.proofs.sample.sum_of.Given as goal

abbrev pub invariant-bytes : goal.invariant-bytes
invariant-bytes l = l.total ≡ sum (take l.byte-index l.bytes) % 65536
