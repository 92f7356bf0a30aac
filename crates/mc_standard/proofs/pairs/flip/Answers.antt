use Rattle.std.proofs.Common.{◌+◌, ◌*◌, ◌/◌, ◌%◌, ◌^◌, ◌<◌, ◌∙◌, ℕ, ap, arith, length}
use Rattle.std.specs.Prelude.{bit_xor, slice_set}
use Rattle.std.proofs.lemmas.List.{get_or_default}
use Rattle.mc_bits.specs.Words.{word_bit}
use Rattle.mc_bits.proofs.BitsOfWords.{flip_word}
use Rattle.mc_standard.proofs.OddPairs.{pair_flipped}
use Rattle.mc_standard.proofs.pairs.flip.Goals as goal

pub returns-clause-flipped : goal.returns-clause-flipped
returns-clause-flipped c =
    let words = c.args.odd.now.items in
    let low = c.args.low in
    let high = c.args.high in
    let place = low * 256 + high in
    let long = c.requires.long in
    let order = c.requires.order in
    let within = c.requires.within in
    let there : place / 64 < length words = omega arith in
    let read = c.index_mut.ensures.value ∙ get_or_default words (place / 64) _ 0 there in
    pair_flipped words _ low high order within
    (λ k.
    ap (λ (word : ℕ). word_bit (slice_set words (place / 64)
    (bit_xor word (1 * 2 ^ (place % 64) % 2 ^ 64))) k) read
    ∙ flip_word words place k (omega arith))
