use Rattle.std.proofs.Common.{◌≡◌, ◌+◌, ◌-◌, ◌*◌, ◌<◌, ◌≤◌, ◌++◌, true, map}
use Rattle.mc_model.specs.Numbers.{pairs_at}
use Rattle.mc_model.specs.Pattern.{Ent}
use Rattle.mc_bits.specs.Words.{word_bit}
use Rattle.mc_standard.specs.OddPairs.{is_odd}
use Rattle.mc_standard.specs.Plain.{plain_edge}
use Rattle.mc_standard.proofs.pairs.push_row.Given as goal

abbrev pub invariant-higher : goal.invariant-higher
invariant-higher l = record {
  from : l.i * 256 + l.i + 1 ≤ l.place;
  within : l.place ≤ l.i * 256 + l.qubits;
  one : l.place < l.i * 256 + l.qubits → word_bit l.odd l.place ≡ true;
  edges : map plain_edge l.edges.items
      ≡ map plain_edge l.initial.edges.items
      ++ pairs_at Ent (is_odd l.odd) l.i (l.place - l.i * 256);
}

abbrev pub decreases-higher : goal.decreases-higher
decreases-higher l = l.i * 256 + l.qubits - l.place
