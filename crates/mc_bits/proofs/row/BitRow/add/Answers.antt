use Rattle.std.proofs.Common.{arith, ◌≡◌, ◌∙◌, sym, ap, ap₂, length, List, Bool}
use Rattle.mc_model.specs.Bits.{◌⊻◌}
use Rattle.mc_bits.specs.Rows.{bit_of, row_sum}
use Rattle.mc_bits.proofs.RowsByBits.{row_of-length, row_of-bit, row_by_bits, row_sum-length}
use Rattle.mc_bits.proofs.RowsByBits.{row_sum-bit}
use Rattle.mc_bits.proofs.row.BitRow.add.Goals as goal

pub returns : goal.returns
returns c =
    let row = c.args.self.now in
    let other = c.args.other.now in
    let bits = c.self.inside.bits in
    let words = c.self.inside.words in
    let m : length row ≡ bits =
    ap (λ (row : List Bool). length row) (sym c.self.view_is) ∙ row_of-length bits words in
    let n : length other ≡ c.other.inside.bits =
    ap (λ (row : List Bool). length row) (sym c.other.view_is)
    ∙ row_of-length c.other.inside.bits c.other.inside.words in
    row_by_bits (row_sum row other) bits c.add_words.new.to (row_sum-length row other ∙ m)
    (λ k h.
    row_sum-bit row other c.requires k
    ∙ ap₂ (λ (a b : Bool). a ⊻ b)
    (ap (λ (row : List Bool). bit_of row k) (sym c.self.view_is) ∙ row_of-bit bits words k h)
    (ap (λ (row : List Bool). bit_of row k) (sym c.other.view_is)
    ∙ row_of-bit c.other.inside.bits c.other.inside.words k (omega arith))
    ∙ sym (c.add_words.ensures.sum k h))

pub invariant_of-self : goal.invariant_of-self
invariant_of-self c =
    let bits = c.self.inside.bits in
    let words = c.self.inside.words in
    let m : length c.args.self.now ≡ bits =
    ap (λ (row : List Bool). length row) (sym c.self.view_is) ∙ row_of-length bits words in
    let n : length c.args.other.now ≡ c.other.inside.bits =
    ap (λ (row : List Bool). length row) (sym c.other.view_is)
    ∙ row_of-length c.other.inside.bits c.other.inside.words in (
      c.self.invariant.0,
      λ k l.
          c.add_words.ensures.others k l (c.other.invariant.1 k (omega arith))
          ∙ c.self.invariant.1 k l,
    )
