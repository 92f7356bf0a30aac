use Rattle.std.proofs.Common.{arith, ◌≡◌, ◌∙◌, sym, ap, ap₂, length, List, Bool, ℕ, ◌&&◌}
use Rattle.mc_model.specs.Bits.{odd}
use Rattle.mc_model.proofs.OddSums.{odd-same}
use Rattle.mc_bits.specs.Words.{word_bit}
use Rattle.mc_bits.specs.Rows.{bit_of}
use Rattle.mc_bits.proofs.RowsByBits.{row_of-length, row_of-bit}
use Rattle.mc_bits.proofs.row.BitRow.parity_with.Goals as goal

pub returns : goal.returns
returns c =
    let row = c.args.self.now in
    let other = c.args.other.now in
    let bits = c.self.inside.bits in
    let words = c.self.inside.words in
    let m : length row ≡ bits =
    ap (λ (row : List Bool). length row) (sym c.self.view_is) ∙ row_of-length bits words in
    let n : length other ≡ c.other.inside.bits =
    ap (λ (row : List Bool). length row) (sym c.other.view_is)
    ∙ row_of-length c.other.inside.bits c.other.inside.words in
    let both : ℕ → Bool = λ k. word_bit words k && word_bit c.other.inside.words k in
    c.parity_of.ensures
    ∙ ap (λ (n : ℕ). odd n both) (sym m)
    ∙ odd-same (length row) both (λ k. bit_of row k && bit_of other k)
    (λ k h. ap₂ (λ (a b : Bool). a && b)
    (sym (row_of-bit bits words k (omega arith))
    ∙ ap (λ (row : List Bool). bit_of row k) c.self.view_is)
    (sym (row_of-bit c.other.inside.bits c.other.inside.words k (omega arith))
    ∙ ap (λ (row : List Bool). bit_of row k) c.other.view_is))
