use Rattle.std.proofs.Common.{sym, ◌∙◌, false, replicate}
use Rattle.std.proofs.lemmas.List.{length-replicate}
use Rattle.mc_bits.proofs.BitsOfWords.{zero_words}
use Rattle.mc_bits.proofs.RowsByBits.{row_by_bits, no_bits}
use Rattle.mc_bits.proofs.row.BitRow.new.Goals as goal

pub returns : goal.returns
returns c =
    let n = c.args.bits in
    row_by_bits (replicate n false) n (replicate 16 0) (length-replicate n false)
    (λ k h. no_bits n k ∙ sym (zero_words 16 k))
