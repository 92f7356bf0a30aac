-- What is kept at the end is the circuit that the lines spell, and it is valid.
use Rattle.std.proofs.Common.{◌≡◌, ℕ, ◌≤◌, [], Some, true, length, map, get_or, refl}
use Rattle.std.proofs.lemmas.List.{append-nil, length-map}
use Rattle.std.proofs.lemmas.List.Sums.{AllPass-from_list_all}
use Rattle.mc_model.specs.Names.{Name, AreNames, is_held}
use Rattle.mc_model.specs.Numbers.{ListsOnce}
use Rattle.mc_model.specs.Pattern.{Circuit}
use Rattle.mc_lists.proofs.Counted.{ListsOnce-same}
use Rattle.mc_text.specs.declared.head.Head.TheVariants.{End}
use Rattle.mc_text.specs.Points.{last_head}
use Rattle.mc_text.specs.Judged.{Lines}
use Rattle.mc_text.specs.Lists.{names_at}
use Rattle.mc_text.proofs.Listed.{ListsOnce-listed}
use Rattle.mc_circuit.specs.declared.reader.Reader.{Reader}
use Rattle.mc_circuit.specs.Gates.{plain_gate}
use Rattle.mc_circuit.specs.Circuits.{IsCircuit}
use Rattle.mc_circuit.specs.Roles.{is_output}
use Rattle.mc_circuit.specs.Value.{circuit_of}
use Rattle.mc_circuit.specs.Kept.{IsKept}

abbrev pub value_of : {half : ℕ} → Reader half → Circuit
value_of {half} k = record {
  names = k.names;
  inputs = k.inputs;
  outputs = k.outputs.items;
  gates = map (plain_gate {h = half}) k.gates.items;
}

pub spells : {half : ℕ} (k : Reader half) (lines : Lines) → IsKept k lines []
    → value_of k ≡ circuit_of half lines
spells k lines h =
    let gates = h.gates [] in
    rw (gates, h.outputs.numbers_are, h.inputs, append-nil k.names, h.names) refl

outputs_once : {half : ℕ} (k : Reader half) (lines : Lines) → IsKept k lines []
    → AreNames k.names → last_head lines ≡ Some End
    → ListsOnce (length k.names) (λ v. true) k.outputs.items
outputs_once k lines h names ends =
    let listed = names_at is_output lines [] in
    let none : Name = [] in
    let complete = AllPass-from_list_all (is_held listed) k.names (h.complete (rw ends refl)) in
    ListsOnce-same (length k.names) (λ q. is_held listed (get_or k.names q none)) (λ v. true)
    k.outputs.items (λ q lt. complete q none lt)
    (ListsOnce-listed k.names listed k.outputs.items none names.distinct h.distinct h.outputs)

pub reads_circuit : {half : ℕ} (k : Reader half) (lines : Lines) → IsKept k lines []
    → AreNames k.names → k.inputs ≤ length k.names → last_head lines ≡ Some End
    → IsCircuit half (value_of k)
reads_circuit k lines h names few ends = record {
  permitted = k.permitted;
  valid = record {
    names = names;
    inputs = few;
    gates = h.fits.fit;
    outputs = outputs_once k lines h names ends;
  };
  few = rw length-map h.few;
  angles = h.fits.angles;
}
