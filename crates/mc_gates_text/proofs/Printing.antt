-- The canonical text, part by part.
use Rattle.std.proofs.Common.{◌≡◌, ℕ, ◌<◌, zero, suc, List, [], ◌∷◌, ◌++◌, length, map, take, drop}
use Rattle.std.proofs.Common.{get_or, codes, refl, ◌∙◌, append_assoc, arith}
use Rattle.std.proofs.lemmas.Grind.{flat_map-append}
use Rattle.mc_lex.specs.declared.kind.Kind.TheVariants as kind
use Rattle.mc_text.specs.Headers.{header_words}
use Rattle.mc_write.specs.Text.{line_text, text_of}
use Rattle.mc_write.specs.Named.{name_at}
use Rattle.mc_circuit.specs.Canonical.{plus_lines}
use Rattle.mc_gates.specs.Gates.{Op, GateList, OpFits, OpsFit}
use Rattle.mc_gates_text.specs.Canonical.{op_line, gates_text}

pub ops_fit-at : {A : Type 0} (f : A → Op) (wires : ℕ) (xs : List A) (i : ℕ) (d : A)
    → i < length xs → OpsFit wires (map f xs) → OpFits wires (f (get_or xs i d))
ops_fit-at f wires [] i d lt h = absurd (omega arith)
ops_fit-at f wires (y ∷ xs) zero d lt h = h.0
ops_fit-at f wires (y ∷ xs) (suc i) d lt h = ops_fit-at f wires xs i d (omega arith) h.1

-- six parts behind one another
regroup : (a b c d e f : List ℕ)
    → ((((a ++ b) ++ c) ++ d) ++ e) ++ f ≡ a ++ (b ++ (c ++ (d ++ (e ++ f))))
regroup a b c d e f = simp append_assoc

-- what is written, part by part
pub record IsPrinted (g : GateList)
    (headed with_inputs with_plus with_ops with_outputs whole : List ℕ) : Type 0 where
  pub header : headed ≡ line_text (header_words kind.Gates 1 4)
  pub inputs : with_inputs ≡ headed ++ line_text (codes "in" ∷ take g.inputs g.names)
  pub plus : with_plus ≡ with_inputs ++ text_of (plus_lines (drop g.inputs g.names))
  pub ops : with_ops ≡ with_plus ++ text_of (map (op_line g.names) g.ops)
  pub outputs : with_outputs ≡ with_ops ++ line_text (codes "out" ∷ map (name_at g.names) g.outputs)
  pub end : whole ≡ with_outputs ++ line_text (codes "end" ∷ [])

parts : (g : GateList) → (((((line_text (header_words kind.Gates 1 4)
    ++ line_text (codes "in" ∷ take g.inputs g.names))
    ++ text_of (plus_lines (drop g.inputs g.names)))
    ++ text_of (map (op_line g.names) g.ops))
    ++ line_text (codes "out" ∷ map (name_at g.names) g.outputs))
    ++ line_text (codes "end" ∷ []))
    ≡ gates_text g
parts g =
    let ops = map (op_line g.names) g.ops in
    let out = codes "out" ∷ map (name_at g.names) g.outputs in
    let plus = plus_lines (drop g.inputs g.names) in
    let end = (codes "end" ∷ []) ∷ [] in
    let last = flat_map-append line_text ops (out ∷ end) in
    let all = flat_map-append line_text plus (ops ++ out ∷ end) in
    regroup (line_text (header_words kind.Gates 1 4))
    (line_text (codes "in" ∷ take g.inputs g.names))
    (text_of plus) (text_of ops) (line_text out) (line_text (codes "end" ∷ []))
    ∙ rw (all, last) refl

pub printed : (g : GateList) (headed with_inputs with_plus with_ops with_outputs whole : List ℕ)
    → IsPrinted g headed with_inputs with_plus with_ops with_outputs whole → whole ≡ gates_text g
printed g headed with_inputs with_plus with_ops with_outputs whole h =
    rw (h.end, h.outputs, h.ops, h.plus, h.inputs, h.header) (parts g)
