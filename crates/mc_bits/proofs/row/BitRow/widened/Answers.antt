use Rattle.std.proofs.Common.{arith, ◌≡◌, ◌∙◌, ◌≤◌, sym, ap, length, List, Bool}
use Rattle.mc_bits.specs.Words.{IsClearFrom}
use Rattle.mc_bits.specs.Rows.{row_of, bit_of}
use Rattle.mc_bits.proofs.RowsByBits.{row_of-length, clear_bit}
use Rattle.mc_bits.proofs.row.BitRow.widened.Goals as goal

pub invariant_of-result : goal.invariant_of-result
invariant_of-result c =
    let n : length (row_of c.self.inside.bits c.self.inside.words) ≡ length c.args.self.now =
    ap (λ (row : List Bool). length row) c.self.view_is in
    let wider : c.self.inside.bits ≤ c.args.bits =
    let width = c.requires.0 in
    omega (arith, row_of-length c.self.inside.bits c.self.inside.words) in
    (c.requires.1, λ k l. c.self.invariant.1 k (omega arith))

pub returns-clause-bits : goal.returns-clause-bits
returns-clause-bits c = λ k.
    let bits = c.self.inside.bits in
    let words = c.self.inside.words in
    let n : length (row_of bits words) ≡ length c.args.self.now =
    ap (λ (row : List Bool). length row) c.self.view_is in
    let wider : bits ≤ c.args.bits =
    let width = c.requires.0 in omega (arith, row_of-length bits words) in
    let clear : IsClearFrom c.args.bits words = λ k l. c.self.invariant.1 k (omega arith) in
    clear_bit c.args.bits words clear k
    ∙ sym (clear_bit bits words c.self.invariant.1 k)
    ∙ ap (λ (row : List Bool). bit_of row k) c.self.view_is

pub returns-clause-length : goal.returns-clause-length
returns-clause-length c = row_of-length c.args.bits c.self.inside.words
