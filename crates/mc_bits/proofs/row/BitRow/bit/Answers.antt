use Rattle.std.proofs.Common.{arith, ◌≡◌, ◌∙◌, sym, ap, length, List, Bool}
use Rattle.mc_bits.specs.Rows.{row_of, bit_of}
use Rattle.mc_bits.proofs.RowsByBits.{row_of-length, row_of-bit}
use Rattle.mc_bits.proofs.row.BitRow.bit.Goals as goal

pub bit_in-requires : goal.bit_in-requires
bit_in-requires c =
    let n : length (row_of c.self.inside.bits c.self.inside.words) ≡ length c.args.self.now =
    ap (λ (row : List Bool). length row) c.self.view_is in
    omega (arith, row_of-length c.self.inside.bits c.self.inside.words)

pub returns : goal.returns
returns c =
    let n : length (row_of c.self.inside.bits c.self.inside.words) ≡ length c.args.self.now =
    ap (λ (row : List Bool). length row) c.self.view_is in
    c.bit_in.ensures
    ∙ sym (row_of-bit c.self.inside.bits c.self.inside.words c.args.k
    (omega (arith, row_of-length c.self.inside.bits c.self.inside.words)))
    ∙ ap (λ (row : List Bool). bit_of row c.args.k) c.self.view_is
