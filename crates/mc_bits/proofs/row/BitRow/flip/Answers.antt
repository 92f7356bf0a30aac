use Rattle.std.proofs.Common.{arith, ◌≡◌, ◌∙◌, ◌<◌, sym, ap, ap₂, length, List, Bool, nat_eq}
use Rattle.std.proofs.lemmas.Bool.{ne_eqb}
use Rattle.mc_model.specs.Bits.{◌⊻◌}
use Rattle.mc_bits.specs.Rows.{row_of, bit_of, flipped}
use Rattle.mc_bits.proofs.RowsByBits.{row_of-length, row_of-bit, row_by_bits, flipped-length}
use Rattle.mc_bits.proofs.RowsByBits.{flipped-bit}
use Rattle.mc_bits.proofs.row.BitRow.flip.Goals as goal

pub flip_in-requires : goal.flip_in-requires
flip_in-requires c =
    let n : length (row_of c.self.inside.bits c.self.inside.words) ≡ length c.args.self.now =
    ap (λ (row : List Bool). length row) c.self.view_is in
    omega (arith, row_of-length c.self.inside.bits c.self.inside.words)

pub returns : goal.returns
returns c =
    let row = c.args.self.now in
    let bits = c.self.inside.bits in
    let words = c.self.inside.words in
    let n : length (row_of bits words) ≡ length row =
    ap (λ (row : List Bool). length row) c.self.view_is in
    let m : length row ≡ bits = sym n ∙ row_of-length bits words in
    row_by_bits (flipped c.args.k row) bits c.flip_in.new.words (flipped-length c.args.k row ∙ m)
    (λ k h.
    flipped-bit c.args.k row c.requires k
    ∙ ap (λ (b : Bool). b ⊻ nat_eq k c.args.k)
    (ap (λ (row : List Bool). bit_of row k) (sym c.self.view_is) ∙ row_of-bit bits words k h)
    ∙ sym (c.flip_in.ensures k))

pub invariant_of-self : goal.invariant_of-self
invariant_of-self c =
    let n : length (row_of c.self.inside.bits c.self.inside.words) ≡ length c.args.self.now =
    ap (λ (row : List Bool). length row) c.self.view_is in
    let within : c.args.k < c.self.inside.bits =
    omega (arith, row_of-length c.self.inside.bits c.self.inside.words) in (
      c.self.invariant.0,
      λ k l.
          c.flip_in.ensures k
          ∙ ap₂ (λ (a b : Bool). a ⊻ b) (c.self.invariant.1 k l)
          (ne_eqb k c.args.k (λ e. absurd (omega arith))),
    )
