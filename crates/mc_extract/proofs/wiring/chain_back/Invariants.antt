use Rattle.std.proofs.Common.{◌≡◌, ◌-◌}
use Rattle.mc_extract.specs.Chains.{chain_in}
use Rattle.mc_extract.proofs.wiring.chain_back.Given as goal

abbrev pub invariant-steps : goal.invariant-steps
invariant-steps l = chain_in l.before (l.count - l._step) l.at ≡ chain_in l.before l.count l.v
