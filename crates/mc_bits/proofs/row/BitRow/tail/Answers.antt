use Rattle.std.proofs.Common.{arith, ◌≡◌, ◌∙◌, ◌+◌, ◌-◌, sym, ap, length, List, Bool}
use Rattle.mc_bits.specs.Words.{IsClearFrom}
use Rattle.mc_bits.specs.Rows.{row_of, bit_of}
use Rattle.mc_bits.proofs.RowsByBits.{row_of-length, clear_bit}
use Rattle.mc_bits.proofs.row.BitRow.tail.Goals as goal

pub overflow_sub-result : goal.overflow_sub-result
overflow_sub-result c =
    let n : length (row_of c.self.inside.bits c.self.inside.words) ≡ length c.args.self.now =
    ap (λ (row : List Bool). length row) c.self.view_is in
    omega (arith, row_of-length c.self.inside.bits c.self.inside.words)

pub returns-clause-bits : goal.returns-clause-bits
returns-clause-bits c = λ k.
    let bits = c.self.inside.bits in
    let words = c.self.inside.words in
    let low = c.args.low in
    let clear : IsClearFrom (bits - low) c.words_from.result = λ k l.
    c.words_from.ensures k ∙ c.self.invariant.1 (low + k) (omega arith) in
    clear_bit (bits - low) c.words_from.result clear k
    ∙ c.words_from.ensures k
    ∙ sym (clear_bit bits words c.self.invariant.1 (low + k))
    ∙ ap (λ (row : List Bool). bit_of row (low + k)) c.self.view_is

pub returns-clause-length : goal.returns-clause-length
returns-clause-length c =
    let bits = c.self.inside.bits in
    let words = c.self.inside.words in
    let n : length (row_of bits words) ≡ length c.args.self.now =
    ap (λ (row : List Bool). length row) c.self.view_is in
    omega (arith, row_of-length bits words, row_of-length (bits - c.args.low) c.words_from.result)
