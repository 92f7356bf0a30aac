use Rattle.std.proofs.Common.{◌∙◌, ap, length, List, Bool}
use Rattle.std.proofs.lemmas.List.{length-replicate}
use Rattle.std.specs.Prelude.{slice_index, false}
use Rattle.mc_bits.specs.Rows.{bit_of}
use Rattle.mc_elim.specs.Tables.{entry}
use Rattle.mc_elim.proofs.RowsWritten.{null_none, null_more}
use Rattle.mc_elim.proofs.tables.write_null_set.Goals as goal

pub vectors-init : goal.vectors-init
vectors-init c = record {
  bits = λ r.
      null_none (slice_index c.args.firsts.now) (entry c.args.vectors.now) c.args.f c.len.result r
      c.new.result c.flip_if.new.self c.new.ensures (c.flip_if.ensures.bits r);
  length =
      c.flip_if.ensures.length
      ∙ ap (λ (row : List Bool). length row) c.new.ensures
      ∙ length-replicate c.len.result false
      ∙ c.len.ensures.length;
}

pub vectors-preserved : goal.vectors-preserved
vectors-preserved c = record {
  bits = λ r.
      null_more (slice_index c.args.firsts.now) (entry c.args.vectors.now) c.args.f c.vectors.i r
      c.vectors.out c.flip_if-in-vectors.new.self c.bit.result (c.vectors.invariant.bits r)
      (c.bit.ensures ∙ ap (λ (row : List Bool). bit_of row c.args.f) c.row.ensures)
      (c.flip_if-in-vectors.ensures.bits r);
  length = c.flip_if-in-vectors.ensures.length ∙ c.vectors.invariant.length;
}
