-- The canonical text of a circuit is read without a fault, as that circuit.
use Rattle.std.proofs.Common.{◌≡◌, ℕ, suc, ◌<◌, List, [], ◌∷◌, ◌++◌, All, Bool, true, false, ◌&&◌}
use Rattle.std.proofs.Common.{Option, Some, None, length, map, take, drop, codes, refl, sym, ap}
use Rattle.std.proofs.Common.{◌∙◌, length-append, arith, IsTrue, ◌≤◌, if◌then◌else◌, ◌==◌}
use Rattle.std.specs.Fmt.{decimal}
use Rattle.std.specs.List.{flat_map, filter_map, list_all, IsDistinct, AllByRecursion}
use Rattle.std.proofs.lemmas.Grind.{flat_map-append}
use Rattle.std.proofs.lemmas.List.{append-nil, take-append-drop, length-take-le}
use Rattle.std.proofs.lemmas.List.Elements.{filter_map-append}
use Rattle.std.proofs.lemmas.List.Folds.{list_all-append}
use Rattle.std.proofs.lemmas.List.Sums.{list_all-from_AllPass}
use Rattle.mc_model.specs.Names.{Name, AreNames, name_eq, is_name}
use Rattle.mc_model.specs.Pattern.{Circuit, Gate, CZ}
use Rattle.mc_model.specs.Pattern as plain
use Rattle.mc_model.specs.Steps.{is_permitted}
use Rattle.mc_model.proofs.StepLemmas.{permitted_at_most}
use Rattle.mc_model.specs.Valid.{GatesFit}
use Rattle.mc_angle.proofs.Numerals.{angle-decimal, number-decimal}
use Rattle.mc_lex.specs.declared.kind.Kind.TheVariants as kind
use Rattle.mc_lex.specs.Lines.{end_of}
use Rattle.mc_text.specs.Headers.{header_words, turn_words}
use Rattle.mc_write.specs.Named.{name_at}
use Rattle.mc_text.specs.declared.head.Head.{Head}
use Rattle.mc_text.specs.declared.head.Head.TheVariants.{Plus, J, Cz}
use Rattle.mc_text.specs.Heads.{head_of}
use Rattle.mc_text.specs.Judged.{Words, Lines, section_lines}
use Rattle.mc_text.specs.Lists.{names_in, names_at}
use Rattle.mc_text.proofs.Written.{is_written, is_written_line}
use Rattle.mc_text.proofs.Clean.{CleanWords, Clean, last, more, IsRead, written_read}
use Rattle.mc_text.proofs.Naming.{number-name_at, numbers-name_at, is_name-name_at, name_written}
use Rattle.mc_text.proofs.Naming.{number_written}
use Rattle.mc_circuit.specs.Circuits.{IsCircuit, AnglesFit}
use Rattle.mc_circuit.specs.Roles.{is_defining, is_input, is_gate, is_output}
use Rattle.mc_circuit.specs.Value.{spelled_by, spelled_gate, spelled_gates, gate_by, circuit_of}
use Rattle.mc_circuit.specs.Judge.{circuit_rules}
use Rattle.mc_circuit.specs.Canonical.{gate_line, plus_lines, circuit_lines, circuit_text}
use Rattle.mc_circuit.specs.Canonical.{behind_header}
use Rattle.mc_circuit.proofs.KeepingLine.{last_head-more}
use Rattle.mc_circuit.proofs.CleanLines.{IsOpen, takes_gates, define_words, gates_clean}
use Rattle.mc_circuit.proofs.CleanLines.{outputs_begin, outputs_clean}

-- the parts of a list
and_both : (a b : Bool) → (a && b) ≡ true → (a ≡ true) × (b ≡ true)
and_both true b e = (refl, e)
and_both false b e = absurd (cc e)

all_parts : (p : Name → Bool) (i : ℕ) (ns : List Name) → list_all p ns ≡ true
    → (list_all p (take i ns) ≡ true) × (list_all p (drop i ns) ≡ true)
all_parts p i ns all =
    and_both (list_all p (take i ns)) (list_all p (drop i ns))
    (sym (list_all-append p (take i ns) (drop i ns)) ∙ rw (take-append-drop i ns) all)

front : (P : Name → Type 0) (xs ys : List Name) → AllByRecursion P (xs ++ ys) → AllByRecursion P xs
front P [] ys all = tt
front P (x ∷ xs) ys all = (all.0, front P xs ys all.1)

distinct_part : (xs ys : List Name) → IsDistinct name_eq (xs ++ ys) → IsDistinct name_eq xs
unfolding IsDistinct
distinct_part [] ys distinct = tt
distinct_part (x ∷ xs) ys distinct =
    (front (λ y. name_eq x y ≡ false) xs ys distinct.0, distinct_part xs ys distinct.1)

-- a line that begins otherwise has no gate
no_gate_by : (h : Option Head) (a b : List ℕ) → is_gate h ≡ false → spelled_by h a b ≡ None
no_gate_by None a b e = refl
no_gate_by (Some J) a b e = absurd (cc e)
no_gate_by (Some Cz) a b e = absurd (cc e)
no_gate_by (Some _) a b e = refl

no_gate_line : (h : List ℕ) (ws : Words) → is_gate (head_of h) ≡ false → spelled_gate (h ∷ ws) ≡ None
no_gate_line h [] e = refl
no_gate_line h (a ∷ []) e = refl
no_gate_line h (a ∷ b ∷ []) e = no_gate_by (head_of h) a b e
no_gate_line h (a ∷ b ∷ c ∷ ws) e = refl

-- nothing is against the canonical lines
in_clean : (ns : List Name) (i : ℕ) → AreNames ns → list_all is_name (take i ns) ≡ true
    → CleanWords circuit_rules [] [] (codes "in" ∷ take i ns)
in_clean ns i valid names =
    let distinct = distinct_part (take i ns) (drop i ns) (rw (take-append-drop i ns) valid.distinct) in
    let len = length-append (take i ns) (drop i ns) in
    let few = valid.few in
    let all : length (take i ns ++ drop i ns) ≡ length ns = ap length (take-append-drop i ns) in
    (refl, define_words [] (codes "in") [] (take i ns) refl names distinct (omega arith))

plus_clean : (ns : List Name) (i : ℕ) → AreNames ns → list_all is_name (drop i ns) ≡ true
    → CleanWords circuit_rules ((codes "in" ∷ take i ns) ∷ []) [] (codes "plus" ∷ drop i ns)
plus_clean ns i valid names =
    let before = (codes "in" ∷ take i ns) ∷ [] in
    let earlier : names_at is_defining before [] ≡ take i ns =
    append-nil (take i ns ++ []) ∙ append-nil (take i ns) in
    let all : names_at is_defining before [] ++ drop i ns ≡ ns = rw earlier (take-append-drop i ns) in (
      refl,
      define_words before (codes "plus") [] (drop i ns) refl names
          (rw all valid.distinct) (rw all valid.few),
    )

-- the lines behind those of the wires
tail_of : Circuit → Lines
tail_of c =
    map (gate_line c.names) c.gates
    ++ (codes "out" ∷ map (name_at c.names) c.outputs) ∷ (codes "end" ∷ []) ∷ []

tail_clean : (half : ℕ) (c : Circuit) (before : Lines) → IsCircuit half c → IsTrue (is_permitted half)
    → IsOpen c.names before (length c.gates) → Clean circuit_rules before (tail_of c)
unfolding tail_of
tail_clean half c before h permitted begun =
    let out = codes "out" ∷ map (name_at c.names) c.outputs in
    let end = (codes "end" ∷ []) ∷ [] in
    gates_clean half c.names before c.gates (out ∷ end) begun h.valid.names permitted h.valid.gates
    h.angles (λ before' begun'.
    let follows = last_head-more before' out in
    more before' out end (
      outputs_begin c.names before' begun',
      outputs_clean c.names before' [] c.outputs begun' h.valid.names
          h.valid.outputs.below h.valid.outputs.once,
    )
    refl
    (last (before' ++ out ∷ []) (codes "end" ∷ []) (rw follows refl, refl) refl))

wires_clean : (half : ℕ) (c : Circuit) (plus : List Name) → plus ≡ drop c.inputs c.names
    → IsCircuit half c → IsTrue (is_permitted half)
    → Clean circuit_rules ((codes "in" ∷ take c.inputs c.names) ∷ []) (plus_lines plus ++ tail_of c)
unfolding takes_gates
wires_clean half c [] e h permitted =
    let ins = take c.inputs c.names in
    let all : ins ≡ c.names =
    sym (append-nil ins) ∙ rw e (take-append-drop c.inputs c.names) in
    let none = no_gate_line (codes "in") ins refl in
    tail_clean half c ((codes "in" ∷ ins) ∷ []) h permitted (record {
      defined = append-nil (ins ++ []) ∙ append-nil ins ∙ all;
      none = refl;
      takes = refl;
      room = let few = h.few in rw none (omega arith);
    })
wires_clean half c (name ∷ names) e h permitted =
    let ins = take c.inputs c.names in
    let plus = name ∷ names in
    let none = no_gate_line (codes "in") ins refl in
    let neither = no_gate_line (codes "plus") plus refl in
    let valid = list_all-from_AllPass is_name c.names h.valid.names.valid in
    let named = (all_parts is_name c.inputs c.names valid).1 in
    let clean = rw (← e) at (plus_clean c.names c.inputs h.valid.names named) in
    let all : ins ++ plus ≡ c.names = rw e (take-append-drop c.inputs c.names) in
    more ((codes "in" ∷ ins) ∷ []) (codes "plus" ∷ plus) (tail_of c) clean refl
    (tail_clean half c ((codes "in" ∷ ins) ∷ (codes "plus" ∷ plus) ∷ []) h permitted (record {
      defined = append-nil (ins ++ (plus ++ [])) ∙ rw (append-nil plus) all;
      none = refl;
      takes = refl;
      room = let few = h.few in rw (none, neither) (omega arith);
    }))

circuit_clean : (half : ℕ) (c : Circuit) → IsCircuit half c → IsTrue (is_permitted half)
    → Clean circuit_rules [] (circuit_lines c)
unfolding tail_of
circuit_clean half c h permitted =
    let ins = codes "in" ∷ take c.inputs c.names in
    let valid = list_all-from_AllPass is_name c.names h.valid.names.valid in
    let named = (all_parts is_name c.inputs c.names valid).0 in
    more [] ins (plus_lines (drop c.inputs c.names) ++ tail_of c)
    (in_clean c.names c.inputs h.valid.names named) refl
    (wires_clean half c (drop c.inputs c.names) refl h permitted)

-- the canonical lines can be written
names_written : (ns : List Name) → list_all is_name ns ≡ true → list_all is_written ns ≡ true
names_written [] all = refl
names_written (n ∷ ns) all =
    let both = and_both (is_name n) (list_all is_name ns) all in
    rw (name_written n both.0, names_written ns both.1) refl

plus_written : (ns : List Name) → list_all is_written ns ≡ true
    → list_all is_written_line (plus_lines ns) ≡ true
plus_written [] all = refl
plus_written (n ∷ ns) all = rw all refl

gates_written : (half : ℕ) (ns : List Name) (gs : List Gate) → AreNames ns
    → IsTrue (is_permitted half) → GatesFit (length ns) gs → AnglesFit half gs
    → list_all is_written_line (map (gate_line ns) gs) ≡ true
gates_written half ns [] valid permitted fit angles = refl
gates_written half ns (plain.J v a ∷ gs) valid permitted fit angles =
    let name = name_written (name_at ns v) (is_name-name_at ns v valid fit.0) in
    let few : half ≤ 8 = permitted_at_most half permitted in
    let turn = angles.0 in
    let number = number_written (decimal a) (number-decimal a (omega arith)).0 in
    rw (name, number, gates_written half ns gs valid permitted fit.1 angles.1) refl
gates_written half ns (CZ v u ∷ gs) valid permitted fit angles =
    let first = name_written (name_at ns v) (is_name-name_at ns v valid fit.0) in
    let second = name_written (name_at ns u) (is_name-name_at ns u valid fit.1) in
    rw (first, second, gates_written half ns gs valid permitted fit.3 angles) refl

outputs_written : (ns : List Name) (qs : List ℕ) → AreNames ns → All (λ q. q < length ns) qs
    → list_all is_written (map (name_at ns) qs) ≡ true
outputs_written ns [] valid below = refl
outputs_written ns (q ∷ qs) valid below =
    let lt : q < length ns = below 0 q (omega arith) in
    let name = name_written (name_at ns q) (is_name-name_at ns q valid lt) in
    let rest = outputs_written ns qs valid (λ k d l. below (suc k) d (omega arith)) in
    rw (name, rest) refl

turn_written : (half : ℕ) → list_all is_written (turn_words half) ≡ true
turn_written half = by_test (half == 8)
  where
    by_test : (t : Bool)
        → list_all is_written (if t then codes "turn" ∷ codes "16" ∷ [] else []) ≡ true
    by_test true = refl
    by_test false = refl

circuit_written : (half : ℕ) (c : Circuit) → IsCircuit half c → IsTrue (is_permitted half)
    → list_all is_written_line (header_words kind.Circuit 1 half ∷ circuit_lines c) ≡ true
circuit_written half c h permitted =
    let valid = list_all-from_AllPass is_name c.names h.valid.names.valid in
    let parts = all_parts is_written c.inputs c.names (names_written c.names valid) in
    let plus = plus_written (drop c.inputs c.names) parts.1 in
    let gates = gates_written half c.names c.gates h.valid.names permitted h.valid.gates h.angles in
    let outputs = outputs_written c.names c.outputs h.valid.names h.valid.outputs.below in
    let out = codes "out" ∷ map (name_at c.names) c.outputs in
    let end = (codes "end" ∷ []) ∷ [] in
    rw (
      turn_written half,
      parts.0,
      list_all-append is_written_line (plus_lines (drop c.inputs c.names))
          (map (gate_line c.names) c.gates ++ out ∷ end),
      plus,
      list_all-append is_written_line (map (gate_line c.names) c.gates) (out ∷ end),
      gates,
      outputs,
    ) refl

-- the circuit that the canonical lines spell
no_names : (test : Option Head → Bool) (ns : List Name) (gs : List Gate) → test (Some J) ≡ false
    → test (Some Cz) ≡ false → flat_map (names_in test) (map (gate_line ns) gs) ≡ []
no_names test ns [] j cz = refl
no_names test ns (plain.J v a ∷ gs) j cz = rw (j, no_names test ns gs j cz) refl
no_names test ns (CZ v u ∷ gs) j cz = rw (cz, no_names test ns gs j cz) refl

plus_defines : (ns : List Name) → flat_map (names_in is_defining) (plus_lines ns) ≡ ns
plus_defines [] = refl
plus_defines (n ∷ ns) = append-nil (n ∷ ns)

plus_others : (test : Option Head → Bool) (ns : List Name) → test (Some Plus) ≡ false
    → flat_map (names_in test) (plus_lines ns) ≡ []
plus_others test [] e = refl
plus_others test (n ∷ ns) e = rw e refl

names_of : (test : Option Head → Bool) (c : Circuit) → test (Some J) ≡ false
    → test (Some Cz) ≡ false
    → names_at test (circuit_lines c) []
    ≡ names_in test (codes "in" ∷ take c.inputs c.names)
    ++ (flat_map (names_in test) (plus_lines (drop c.inputs c.names))
    ++ (names_in test (codes "out" ∷ map (name_at c.names) c.outputs)
    ++ names_in test (codes "end" ∷ [])))
names_of test c j cz =
    let gates = map (gate_line c.names) c.gates in
    let out = codes "out" ∷ map (name_at c.names) c.outputs in
    let end = (codes "end" ∷ []) ∷ [] in
    append-nil (flat_map (names_in test) (circuit_lines c))
    ∙ rw (
      flat_map-append (names_in test) (plus_lines (drop c.inputs c.names)) (gates ++ out ∷ end),
      flat_map-append (names_in test) gates (out ∷ end),
      no_names test c.names c.gates j cz,
      append-nil (names_in test (codes "end" ∷ [])),
    ) refl

spelled_plus : (ns : List Name) → filter_map spelled_gate (plus_lines ns) ≡ []
spelled_plus [] = refl
spelled_plus (n ∷ ns) = rw (no_gate_line (codes "plus") (n ∷ ns) refl) refl

gates_back : (half : ℕ) (ns : List Name) (gs : List Gate) → AreNames ns
    → IsTrue (is_permitted half) → GatesFit (length ns) gs → AnglesFit half gs
    → map (gate_by half ns) (filter_map spelled_gate (map (gate_line ns) gs)) ≡ gs
gates_back half ns [] valid permitted fit angles = refl
gates_back half ns (plain.J v a ∷ gs) valid permitted fit angles =
    let number = number-name_at ns v valid.distinct fit.0 in
    let angle = (angle-decimal half a permitted angles.0).1 in
    rw (number, angle, gates_back half ns gs valid permitted fit.1 angles.1) refl
gates_back half ns (CZ v u ∷ gs) valid permitted fit angles =
    let first = number-name_at ns v valid.distinct fit.0 in
    let second = number-name_at ns u valid.distinct fit.1 in
    rw (first, second, gates_back half ns gs valid permitted fit.3 angles) refl

gates_of : (c : Circuit)
    → spelled_gates (circuit_lines c) ≡ filter_map spelled_gate (map (gate_line c.names) c.gates)
gates_of c =
    let gates = map (gate_line c.names) c.gates in
    let out = codes "out" ∷ map (name_at c.names) c.outputs in
    let end = (codes "end" ∷ []) ∷ [] in
    rw (
      no_gate_line (codes "in") (take c.inputs c.names) refl,
      filter_map-append spelled_gate (plus_lines (drop c.inputs c.names)) (gates ++ out ∷ end),
      spelled_plus (drop c.inputs c.names),
      filter_map-append spelled_gate gates (out ∷ end),
      no_gate_line (codes "out") (map (name_at c.names) c.outputs) refl,
    ) (append-nil (filter_map spelled_gate gates))

pub circuit_back : (half : ℕ) (c : Circuit) → IsCircuit half c → IsTrue (is_permitted half)
    → circuit_of half (circuit_lines c) ≡ c
circuit_back half c h permitted =
    let defined : names_at is_defining (circuit_lines c) [] ≡ c.names =
    names_of is_defining c refl refl
    ∙ rw (plus_defines (drop c.inputs c.names), append-nil (drop c.inputs c.names))
    (take-append-drop c.inputs c.names) in
    let inputs : names_at is_input (circuit_lines c) [] ≡ take c.inputs c.names =
    names_of is_input c refl refl
    ∙ rw (plus_others is_input (drop c.inputs c.names) refl)
    (append-nil (take c.inputs c.names)) in
    let outputs : names_at is_output (circuit_lines c) [] ≡ map (name_at c.names) c.outputs =
    names_of is_output c refl refl
    ∙ rw (plus_others is_output (drop c.inputs c.names) refl)
    (append-nil (map (name_at c.names) c.outputs)) in
    let few : length (take c.inputs c.names) ≡ c.inputs =
    length-take-le c.inputs c.names h.valid.inputs in
    let are = numbers-name_at c.names c.outputs h.valid.names.distinct h.valid.outputs.below in
    let gates = gates_back half c.names c.gates h.valid.names permitted h.valid.gates h.angles in
    rw (defined, inputs, few, outputs, ← are.numbers_are, gates_of c, gates) refl

pub text_read : (half : ℕ) (c : Circuit) → IsCircuit half c → IsTrue (is_permitted half)
    → IsRead circuit_rules [] (circuit_lines c) (behind_header (circuit_text half c))
    (end_of (circuit_text half c))
text_read half c h permitted =
    written_read circuit_rules (header_words kind.Circuit 1 half) (circuit_lines c)
    (end_of (circuit_text half c)) (circuit_written half c h permitted)
    (circuit_clean half c h permitted)

pub text_back : (half : ℕ) (c : Circuit) → IsCircuit half c → IsTrue (is_permitted half)
    → circuit_of half (section_lines (behind_header (circuit_text half c))) ≡ c
text_back half c h permitted =
    ap (circuit_of half) (text_read half c h permitted).same ∙ circuit_back half c h permitted

pub same_text : (half : ℕ) (c d : Circuit) → IsCircuit half c → IsCircuit half d
    → IsTrue (is_permitted half) → circuit_text half c ≡ circuit_text half d → c ≡ d
same_text half c d h k permitted e =
    sym (text_back half c h permitted)
    ∙ ap (λ text. circuit_of half (section_lines (behind_header text))) e
    ∙ text_back half d k permitted
