use Rattle.std.proofs.Common.{◌≡◌, Bool, ◌<◌, ◌≤◌, ◌∙◌, ap, arith, length, List}
use Rattle.std.proofs.lemmas.List.{length-replicate}
use Rattle.std.specs.Prelude.{false}
use Rattle.mc_model.specs.Bits.{◌⊻◌}
use Rattle.mc_model.specs.Numbers.{is_member}
use Rattle.mc_bits.specs.Rows.{bit_of}
use Rattle.mc_bits.proofs.RowsByBits.{no_bits}
use Rattle.mc_signal.proofs.Members.{flipped_more, flipped_all}
use Rattle.mc_elim.proofs.members.row_of.Goals as goal

none_yet : (m : Bool) → (false ⊻ m) ≡ m
none_yet m = grind arith

pub members-init : goal.members-init
members-init c = record {
  bits = λ k l.
      ap (λ (b : Bool). b ⊻ is_member c.args.set.now k)
      (ap (λ (row : List Bool). bit_of row k) c.new-row.ensures ∙ no_bits c.args.bits k)
      ∙ none_yet (is_member c.args.set.now k);
  length = ap (λ (row : List Bool). length row) c.new-row.ensures
      ∙ length-replicate c.args.bits false;
}

pub members-preserved : goal.members-preserved
members-preserved c = record {
  bits = λ k l.
      let long = c.members.invariant.length in
      let below : k < length c.members.row = omega arith in
      flipped_more c.args.set.now c.members.i c.get.result k (bit_of c.members.row k)
      (bit_of c.flip_within.new.row k) (is_member c.args.set.now k) c.len-i-end.ensures.rising
      c.get.ensures.member (c.flip_within.ensures.bits k below) (c.members.invariant.bits k l);
  length = c.flip_within.ensures.length ∙ c.members.invariant.length;
}

pub returns-clause-bits : goal.returns-clause-bits
returns-clause-bits c = λ k l.
    let long = c.len-i-end.ensures.len in
    let over = c.members-test.false in
    let past : length c.args.set.now ≤ c.members.i = omega arith in
    flipped_all c.args.set.now c.members.i k (bit_of c.members.row k) (is_member c.args.set.now k)
    past (c.members.invariant.bits k l)
