use Rattle.std.proofs.Common.{◌≡◌, drop}
use Rattle.mc_model.specs.Bits.{◌⊻◌, parity, bits_of}
use Rattle.mc_signal.proofs.signal.parity_of.Given as goal

abbrev pub invariant-members : goal.invariant-members
invariant-members l =
    (l.sum ⊻ parity (drop l.member-index l.members) (bits_of l.outcomes))
    ≡ parity l.members (bits_of l.outcomes)
