use Rattle.std.proofs.Common.{arith, ◌≡◌, ◌∙◌, sym, ap, length, List, Bool}
use Rattle.mc_bits.specs.Words.{word_bit}
use Rattle.mc_bits.specs.Rows.{row_of, bit_of}
use Rattle.mc_bits.proofs.RowsByBits.{row_of-length, row_of-bit}
use Rattle.mc_bits.proofs.BitsFrom.{next_alike}
use Rattle.mc_bits.proofs.row.BitRow.next_bit.Goals as goal

pub next_in-requires : goal.next_in-requires
next_in-requires c =
    let n : length (row_of c.self.inside.bits c.self.inside.words) ≡ length c.args.self.now =
    ap (λ (row : List Bool). length row) c.self.view_is in
    omega (arith, row_of-length c.self.inside.bits c.self.inside.words)

pub returns : goal.returns
returns c =
    let bits = c.self.inside.bits in
    let words = c.self.inside.words in
    let n : length (row_of bits words) ≡ length c.args.self.now =
    ap (λ (row : List Bool). length row) c.self.view_is in
    next_alike (word_bit words) (bit_of c.args.self.now) c.args.low c.args.high c.next_in.result
    (λ k h.
    sym (row_of-bit bits words k (omega (arith, row_of-length bits words)))
    ∙ ap (λ (row : List Bool). bit_of row k) c.self.view_is)
    c.next_in.ensures
