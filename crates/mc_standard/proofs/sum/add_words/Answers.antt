use Rattle.std.proofs.Common.{arith, ap, ◌∙◌, ℕ, nat_eq, ◌%◌, ◌/◌, ◌<◌, slice_index_or}
use Rattle.std.specs.Int.{bit_at}
use Rattle.mc_bits.proofs.BitsOfWords.{xor_test}
use Rattle.mc_standard.proofs.sum.add_words.Goals as goal

pub returns : goal.returns
returns c = λ k h.
    let within : k / 64 < c.words.i = omega arith in
    ap (λ (n : ℕ). nat_eq (bit_at n (k % 64)) 1) (c.words.invariant.done (k / 64) within)
    ∙ xor_test (slice_index_or c.args.to.now (k / 64) 0) (slice_index_or c.args.from.now (k / 64) 0)
    (k % 64)
