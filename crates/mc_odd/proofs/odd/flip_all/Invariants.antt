use Rattle.std.specs.Prelude.{◌≡◌, ℕ, drop, length, nat_eq}
use Rattle.mc_model.specs.Bits.{◌⊻◌, parity}
use Rattle.mc_bits.specs.Rows.{bit_of}
use Rattle.mc_odd.proofs.odd.flip_all.Given as goal

abbrev pub invariant-listed : goal.invariant-listed
invariant-listed l = record {
  bits : (v : ℕ) → bit_of l.bits v ⊻ parity (drop l.v-index l.listed) (nat_eq v)
      ≡ bit_of l.initial.bits v ⊻ parity l.listed (nat_eq v);
  length : length l.bits ≡ length l.initial.bits;
}
