use Rattle.std.proofs.Common.{◌≡◌, []}
use Rattle.mc_sample.specs.Parts.{wired}
use Rattle.mc_sample.proofs.generator.all_wires.Given as goal

abbrev pub invariant-wires : goal.invariant-wires
invariant-wires l = l.builder ≡ wired l.v []
