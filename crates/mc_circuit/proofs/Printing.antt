-- The canonical text, part by part.
use Rattle.std.proofs.Common.{◌≡◌, ℕ, ◌<◌, zero, suc, List, [], ◌∷◌, ◌++◌, length, map, take, drop}
use Rattle.std.proofs.Common.{get_or, codes, refl, sym, subst, ◌∙◌, append_assoc, arith}
use Rattle.std.proofs.lemmas.Grind.{flat_map-append}
use Rattle.mc_lex.specs.declared.kind.Kind.TheVariants as kind
use Rattle.mc_text.specs.Headers.{header_words}
use Rattle.mc_write.specs.Text.{line_text, text_of}
use Rattle.mc_write.specs.Named.{name_at}
use Rattle.mc_model.specs.Pattern.{Circuit, Gate, J, CZ}
use Rattle.mc_model.specs.Valid.{GatesFit}
use Rattle.mc_circuit.specs.Canonical.{gate_line, plus_lines, circuit_text}

-- the parts of a list of gates
first_fits : (wires : ℕ) (g : Gate) (gs : List Gate) → GatesFit wires (g ∷ gs) → GatesFit wires (g ∷ [])
first_fits wires (J v a) gs h = (h.0, tt)
first_fits wires (CZ v u) gs h = (h.0, h.1, h.2, tt)

rest_fits : (wires : ℕ) (g : Gate) (gs : List Gate) → GatesFit wires (g ∷ gs) → GatesFit wires gs
rest_fits wires (J v a) gs h = h.1
rest_fits wires (CZ v u) gs h = h.3

pub GatesFit-at : {A : Type 0} (f : A → Gate) (wires : ℕ) (xs : List A) (i : ℕ) (x : A)
    → x ≡ get_or xs i x → i < length xs → GatesFit wires (map f xs) → GatesFit wires (f x ∷ [])
GatesFit-at f wires [] i x e lt h = absurd (omega arith)
GatesFit-at f wires (y ∷ xs) zero x e lt h =
    subst (λ (z : _). GatesFit wires (f z ∷ [])) (sym e) (first_fits wires (f y) (map f xs) h)
GatesFit-at f wires (y ∷ xs) (suc i) x e lt h =
    GatesFit-at f wires xs i x e (omega arith) (rest_fits wires (f y) (map f xs) h)

-- five parts behind one another
regroup : (a b c d e f : List ℕ) → ((((a ++ b) ++ c) ++ d) ++ e) ++ f ≡ a ++ (b ++ (c ++ (d ++ (e ++ f))))
regroup a b c d e f = simp append_assoc

parts : (half : ℕ) (c : Circuit) →
    (((((line_text (header_words kind.Circuit 1 half) ++ line_text (codes "in" ∷ take c.inputs c.names))
    ++ text_of (plus_lines (drop c.inputs c.names)))
    ++ text_of (map (gate_line c.names) c.gates))
    ++ line_text (codes "out" ∷ map (name_at c.names) c.outputs))
    ++ line_text (codes "end" ∷ []))
    ≡ circuit_text half c
parts half c =
    let gates = map (gate_line c.names) c.gates in
    let out = codes "out" ∷ map (name_at c.names) c.outputs in
    let plus = plus_lines (drop c.inputs c.names) in
    let end = (codes "end" ∷ []) ∷ [] in
    let last = flat_map-append line_text gates (out ∷ end) in
    let all = flat_map-append line_text plus (gates ++ out ∷ end) in
    regroup (line_text (header_words kind.Circuit 1 half)) (line_text (codes "in" ∷ take c.inputs c.names))
    (text_of plus) (text_of gates) (line_text out) (line_text (codes "end" ∷ []))
    ∙ rw (all, last) refl

-- what is written, part by part
pub record IsPrinted (half : ℕ) (c : Circuit)
    (headed with_inputs with_plus with_gates with_outputs whole : List ℕ) : Type 0 where
  pub header : headed ≡ line_text (header_words kind.Circuit 1 half)
  pub inputs : with_inputs ≡ headed ++ line_text (codes "in" ∷ take c.inputs c.names)
  pub plus : with_plus ≡ with_inputs ++ text_of (plus_lines (drop c.inputs c.names))
  pub gates : with_gates ≡ with_plus ++ text_of (map (gate_line c.names) c.gates)
  pub outputs : with_outputs ≡ with_gates ++ line_text (codes "out" ∷ map (name_at c.names) c.outputs)
  pub end : whole ≡ with_outputs ++ line_text (codes "end" ∷ [])

pub printed : (half : ℕ) (c : Circuit) (headed with_inputs with_plus with_gates with_outputs whole : List ℕ)
    → IsPrinted half c headed with_inputs with_plus with_gates with_outputs whole → whole ≡ circuit_text half c
printed half c headed with_inputs with_plus with_gates with_outputs whole h =
    rw (h.end, h.outputs, h.gates, h.plus, h.inputs, h.header) (parts half c)
