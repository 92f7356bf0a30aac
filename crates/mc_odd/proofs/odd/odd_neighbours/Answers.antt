use Rattle.std.specs.Prelude.{◌≡◌, ℕ, ◌&&◌, List, Bool, false, length}
use Rattle.std.proofs.Common.{◌∙◌, arith, ap, subst}
use Rattle.std.proofs.lemmas.List.{length-replicate}
use Rattle.mc_model.specs.Bits.{odd}
use Rattle.mc_model.specs.Numbers.{is_member}
use Rattle.mc_model.specs.Graph.{size, joins}
use Rattle.mc_bits.specs.Rows.{bit_of}
use Rattle.mc_bits.proofs.RowsByBits.{no_bits}
use Rattle.mc_odd.proofs.FlippedBits.{flipped_more}
use Rattle.mc_odd.proofs.odd.odd_neighbours.Goals as goal

pub vertices-init : goal.vertices-init
unfolding odd
vertices-init g c = record {
  bits = λ v l. ap (λ (row : List Bool). bit_of row v) c.new-odd.ensures ∙ no_bits c.len-2.result v;
  length = ap (λ (row : List Bool). length row) c.new-odd.ensures
      ∙ length-replicate c.len-2.result false ∙ c.len-2.ensures.len;
}

pub vertices-preserved : goal.vertices-preserved
vertices-preserved g c = record {
  bits =
      let test = c.vertices-test.true in
      flipped_more c.args.g.now.edges (size c.args.g.now) c.vertices.w
      (is_member c.args.set.now) (bit_of c.vertices.odd) (bit_of c.flip_neighbours_if.new.bits)
      c.bit.result
      (c.bit.ensures ∙ c.row_of-members.ensures.bits c.vertices.w (omega arith))
      c.vertices.invariant.bits c.flip_neighbours_if.ensures.bits;
  length = c.flip_neighbours_if.ensures.length ∙ c.vertices.invariant.length;
}

pub returns : goal.returns
returns g c =
    let over = c.vertices-test.false in
    let len = c.len-w-end.ensures.len in
    let most = c.vertices.auto.w-end in
    let all : c.vertices.w ≡ size c.args.g.now = omega arith in
    record {
      bits = λ v l.
          subst (λ (n : ℕ). bit_of c.vertices.odd v
          ≡ odd n (λ k. is_member c.args.set.now k && joins c.args.g.now.edges v k)) all
          (c.vertices.invariant.bits v l);
      length = c.vertices.invariant.length;
    }
