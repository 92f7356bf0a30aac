use Rattle.std.proofs.Common.{◌∙◌, length, refl, sym, ap, arith}
use Rattle.std.proofs.lemmas.List.{length-set}
use Rattle.mc_model.specs.Bits.{bits_of}
use Rattle.mc_run_text.proofs.OutcomesSet.{none_left, one_left}
use Rattle.mc_run_text.proofs.outcomes.set_outcomes.Goals as goal

pub qubits-init : goal.qubits-init
qubits-init c = record {
  within = omega arith;
  long = refl;
  bits = c.requires.clear ∙ sym (none_left c.args.qubits.now _);
}

pub qubits-preserved : goal.qubits-preserved
qubits-preserved c = record {
  within = let h = c.qubits.invariant.within in omega arith;
  long =
      ap length c.set.ensures.list ∙ length-set c.qubits.values _ _
      ∙ c.qubits.invariant.long;
  bits =
      one_left c.args.qubits.now c.args.outcomes.now c.qubits.left (bits_of c.qubits.values)
      (bits_of c.set.new.self) c.qubits-test.true c.qubits.invariant.within c.requires.same
      c.qubits.invariant.bits c.set.ensures.bits;
}
