use Rattle.std.proofs.Common.{arith, sym, ap, ◌∙◌, ℕ, Bool, nat_eq, ◌%◌, ◌/◌, ◌<◌, slice_index_or}
use Rattle.std.proofs.Common.{inl, inr}
use Rattle.std.specs.Int.{bit_at}
use Rattle.mc_model.specs.Bits.{◌⊻◌}
use Rattle.mc_bits.proofs.BitsOfWords.{xor_test, xor_none}
use Rattle.mc_bits.proofs.BitsFrom.{sides}
use Rattle.mc_bits.proofs.words.add_words.Goals as goal

pub returns-clause-sum : goal.returns-clause-sum
returns-clause-sum c = λ k h.
    let within : k / 64 < c.words.i = omega arith in
    ap (λ (n : ℕ). nat_eq (bit_at n (k % 64)) 1) (c.words.invariant.done (k / 64) within)
    ∙ xor_test (slice_index_or c.args.to.now (k / 64) 0) (slice_index_or c.args.from.now (k / 64) 0)
    (k % 64)

pub returns-clause-others : goal.returns-clause-others
returns-clause-others c = λ k h none.
    let word = slice_index_or c.args.to.now (k / 64) 0 in
    let other = slice_index_or c.args.from.now (k / 64) 0 in
    elim (sides (k / 64) c.words.i) [
      | inl lt ↦
          ap (λ (n : ℕ). nat_eq (bit_at n (k % 64)) 1) (c.words.invariant.done (k / 64) lt)
          ∙ xor_test word other (k % 64)
          ∙ ap (λ (b : Bool). nat_eq (bit_at word (k % 64)) 1 ⊻ b) none
          ∙ sym (xor_none (nat_eq (bit_at word (k % 64)) 1))
      | inr ge ↦ ap (λ (n : ℕ). nat_eq (bit_at n (k % 64)) 1) (c.words.invariant.left (k / 64) ge)
    ]
