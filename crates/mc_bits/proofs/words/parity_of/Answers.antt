use Rattle.std.proofs.Common.{ap, sym, ◌∙◌, refl, ◌≡◌, ◌&&◌, Bool}
use Rattle.mc_model.specs.Bits.{odd}
use Rattle.mc_bits.specs.Words.{word_bit}
use Rattle.mc_bits.proofs.BitsOfWords.{parity_more}
use Rattle.mc_bits.proofs.words.parity_of.Goals.{then-bit_in, else-bit_in}
use Rattle.mc_bits.proofs.words.parity_of.Goals as goal

pub bits-init : goal.bits-init
unfolding odd
bits-init c = refl

pub bits-preserved : goal.bits-preserved
bits-preserved c =
    let words = c.args.words.now in
    let other = c.args.other.now in
    let k = c.bits.k in
    let both : c.if-bit_in.parity ≡ word_bit words k && word_bit other k =
    elim c.if-bit_in.branch [
      | then-bit_in w ↦
          w.parity-is ∙ w.bit_in-then-bit_in.ensures
          ∙ ap (λ (b : Bool). b && word_bit other k) (sym w.if-bit_in.true ∙ c.bit_in.ensures)
      | else-bit_in w ↦
          w.parity-is ∙ w.if-bit_in.false
          ∙ ap (λ (b : Bool). b && word_bit other k) (sym w.if-bit_in.false ∙ c.bit_in.ensures)
    ] in
    parity_more (λ k. word_bit words k && word_bit other k) k c.bits.parity c.if-bit_in.parity
    c.bits.invariant both
