-- What is kept at the end is the gate list that the lines spell, and it is valid.
use Rattle.std.proofs.Common.{◌≡◌, ◌≤◌, [], Some, true, length, get_or, refl}
use Rattle.std.proofs.lemmas.List.{append-nil}
use Rattle.std.proofs.lemmas.List.Sums.{AllPass-from_list_all}
use Rattle.mc_model.specs.Names.{Name, AreNames, is_held}
use Rattle.mc_model.specs.Numbers.{ListsOnce}
use Rattle.mc_lists.proofs.Counted.{ListsOnce-same}
use Rattle.mc_text.specs.declared.head.Head.TheVariants.{End}
use Rattle.mc_text.specs.Points.{last_head}
use Rattle.mc_text.specs.Judged.{Lines}
use Rattle.mc_text.specs.Lists.{names_at}
use Rattle.mc_text.proofs.Listed.{ListsOnce-listed}
use Rattle.mc_circuit.specs.Roles.{is_output}
use Rattle.mc_gates.specs.Gates.{GateList}
use Rattle.mc_gates.specs.Lists.{IsGateList}
use Rattle.mc_gates_text.specs.Value.{gate_list_of}
use Rattle.mc_gates_text.specs.Kept.{State, IsKept}

abbrev pub value_of : State → GateList
value_of k = record {
  names = k.names;
  inputs = k.inputs;
  outputs = k.outputs;
  ops = k.ops;
}

pub spells : (k : State) (lines : Lines) → IsKept k lines [] → value_of k ≡ gate_list_of lines
spells k lines h =
    let ops = h.ops [] in
    rw (ops, h.outputs.numbers_are, h.inputs, append-nil k.names, h.names) refl

outputs_once : (k : State) (lines : Lines) → IsKept k lines [] → AreNames k.names
    → last_head lines ≡ Some End → ListsOnce (length k.names) (λ v. true) k.outputs
outputs_once k lines h names ends =
    let listed = names_at is_output lines [] in
    let none : Name = [] in
    let complete = AllPass-from_list_all (is_held listed) k.names (h.complete (rw ends refl)) in
    ListsOnce-same (length k.names) (λ q. is_held listed (get_or k.names q none)) (λ v. true)
    k.outputs (λ q lt. complete q none lt)
    (ListsOnce-listed k.names listed k.outputs none names.distinct h.distinct h.outputs)

pub reads_gates : (k : State) (lines : Lines) → IsKept k lines [] → AreNames k.names
    → k.inputs ≤ length k.names → last_head lines ≡ Some End → IsGateList (value_of k)
reads_gates k lines h names few ends = record {
  valid = record {
    names = names;
    inputs = few;
    ops = h.fits;
    outputs = outputs_once k lines h names ends;
  };
  few = h.few;
}
