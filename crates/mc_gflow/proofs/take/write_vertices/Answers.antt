use Rattle.std.specs.Prelude.{List, Bool, false, true, length, slice_index}
use Rattle.std.proofs.Common.{arith, sym, ◌∙◌, ap}
use Rattle.std.proofs.lemmas.List.{length-replicate}
use Rattle.mc_bits.specs.Rows.{bit_of}
use Rattle.mc_gflow.proofs.TakenOrNot.{vertices_none, vertices_skipped, vertices_more}
use Rattle.mc_gflow.proofs.take.write_vertices.Goals as goal

pub columns-init : goal.columns-init
columns-init c = record {
  bits = λ w.
      vertices_none c.len.result w (slice_index c.args.order.now) (bit_of c.args.columns.now)
      c.new.result c.new.ensures;
  length =
      ap (λ (row : List Bool). length row) c.new.ensures
      ∙ length-replicate c.len.result false
      ∙ c.len.ensures.length;
  within = omega arith;
}

pub columns-preserved : goal.columns-preserved
columns-preserved c =
    let order = slice_index c.args.order.now in
    let columns = bit_of c.args.columns.now in
    let low = c.columns.low in
    let j = c.in-Some.j in
    let next = c.in-Some.ensures in
    let below = next.below in
    record {
      bits = λ w.
          vertices_more j w order columns true (bit_of c.columns.out w)
          (bit_of c.flip_if.new.self w) (sym next.has)
          (c.columns.invariant.bits w
          ∙ vertices_skipped low j w order columns next.above next.first)
          (c.flip_if.ensures.bits w);
      length = c.flip_if.ensures.length ∙ c.columns.invariant.length;
      within = omega arith;
    }

pub returns-clause-bits : goal.returns-clause-bits
returns-clause-bits c = λ w.
    c.columns.invariant.bits w
    ∙ vertices_skipped c.columns.low c.args.count w (slice_index c.args.order.now)
    (bit_of c.args.columns.now) c.columns.invariant.within c.in_default.ensures
