-- What a second operand does.
use Rattle.std.proofs.Common.{◌≡◌, ℕ, ◌<◌, List, [], ◌∷◌, Option, Some, None, length, map, refl}
use Rattle.std.proofs.Common.{sym, ◌∙◌, arith}
use Rattle.std.specs.Option.{option_map, option_to_list}
use Rattle.std.proofs.lemmas.List.{append-nil}
use Rattle.std.proofs.lemmas.List.Quantifiers.{position-Some}
use Rattle.mc_model.specs.Names.{name_eq, place_of}
use Rattle.mc_model.specs.Pattern as plain
use Rattle.mc_text.specs.declared.head.Head.TheVariants.{Cz}
use Rattle.mc_text.specs.declared.point.Point.{Point}
use Rattle.mc_text.proofs.Kept.{number_in-more}
use Rattle.mc_circuit.specs.declared.gate.Gate.{Gate}
use Rattle.mc_circuit.specs.declared.reader.Reader.{Reader}
use Rattle.mc_circuit.specs.Gates.{plain_gate}
use Rattle.mc_circuit.specs.Kept.{Moves, IsOperand, TakesSecond, AreGates}

pub place-below : (names : List (List ℕ)) (a : List ℕ) (q : ℕ) → place_of names a ≡ Some q
    → q < length names
place-below names a q e = (position-Some (name_eq a) names q [] e).0

-- one gate or none
pub to_list_some : {half : ℕ} (gate : Option (Gate half)) (g : plain.Gate)
    → option_map (plain_gate {h = half}) gate ≡ Some g
    → map (plain_gate {h = half}) (option_to_list gate) ≡ g ∷ []
to_list_some None g e = absurd (cc e)
to_list_some {half} (Some gate) g e = let same : plain_gate {h = half} gate ≡ g = cc e in rw same refl

cz_fits : {half : ℕ} (k : Reader half) (gate : Option (Gate half)) (first : Option (List ℕ))
    (word : List ℕ) → IsOperand k.names first k.operand → TakesSecond k.names k.operand gate word
    → AreGates half (length k.names) (map (plain_gate {h = half}) (option_to_list gate))
cz_fits k gate first word is t =
    let a = place-below k.names is.name k.operand is.place in
    let b = place-below k.names word t.number t.place in
    rw (to_list_some gate (plain.CZ k.operand t.number) t.gate_is)
    (record { fit = (a, b, t.apart, tt); angles = tt })

pub second_moves : {half : ℕ} (k k' : Reader half) (p : Point) (word : List ℕ) → p.count ≡ 2
    → p.head ≡ Some Cz → TakesSecond k.names k.operand k'.gate word → k'.names ≡ k.names
    → k'.inputs ≡ k.inputs → k'.outputs.items ≡ k.outputs.items → k'.operand ≡ k.operand
    → k'.gates.items ≡ k.gates.items → Moves k k' p word
second_moves k k' p word two head t names inputs outputs operand gates = record {
  clean = λ listed first stands. rw (two, head) (t.clean first (stands.operand two (rw head refl)));
  names = rw (two, head) (names ∙ sym (append-nil k.names));
  inputs = rw (two, head) (inputs ∙ omega arith);
  outputs = rw (two, head) outputs;
  operand = λ one gate. absurd (omega arith);
  same_operand = λ ne. operand;
  gate = λ more.
      t.gate_is
      ∙ rw (two, head, names, number_in-more k.names more word t.number t.place) refl;
  gate_fits = λ listed first stands.
      rw names (cz_fits k k'.gate first word (stands.operand two (rw head refl)) t);
  gates = gates;
}
