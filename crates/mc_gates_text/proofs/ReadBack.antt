-- The canonical text of a gate list is read without a fault, as that gate list.
use Rattle.std.proofs.Common.{◌≡◌, ℕ, suc, ◌<◌, List, [], ◌∷◌, ◌++◌, All, Bool, true, false, ◌&&◌}
use Rattle.std.proofs.Common.{Option, Some, None, length, map, take, drop, codes, refl, sym, ap}
use Rattle.std.proofs.Common.{◌∙◌, length-append, arith}
use Rattle.std.specs.List.{flat_map, filter_map, list_all, IsDistinct, AllByRecursion}
use Rattle.std.proofs.lemmas.Grind.{flat_map-append}
use Rattle.std.proofs.lemmas.List.{append-nil, take-append-drop, length-take-le}
use Rattle.std.proofs.lemmas.List.Elements.{filter_map-append, All-from_recursion}
use Rattle.std.proofs.lemmas.List.Folds.{list_all-append}
use Rattle.std.proofs.lemmas.List.Sums.{list_all-from_AllPass}
use Rattle.mc_lex.specs.declared.kind.Kind.TheVariants as kind
use Rattle.mc_lex.specs.Lines.{lines_of, end_of}
use Rattle.mc_model.specs.Names.{Name, AreNames, name_eq, is_name}
use Rattle.mc_write.specs.Named.{name_at}
use Rattle.mc_text.specs.declared.head.Head.{Head}
use Rattle.mc_text.specs.declared.head.Head.TheVariants.{In, Plus}
use Rattle.mc_text.specs.Heads.{head_of, spelling}
use Rattle.mc_text.specs.Headers.{header_words}
use Rattle.mc_text.specs.Judged.{Words, Lines, section_lines, words_of}
use Rattle.mc_text.specs.Lists.{names_in, names_at, begun}
use Rattle.mc_text.specs.Rules.{number_in}
use Rattle.mc_text.proofs.Written.{is_written, is_written_line}
use Rattle.mc_text.proofs.Clean.{CleanWords, Clean, last, more, IsRead, written_read}
use Rattle.mc_text.proofs.Naming.{numbers-name_at, is_name-name_at, name_written}
use Rattle.mc_circuit.specs.Canonical.{plus_lines, behind_header}
use Rattle.mc_circuit.specs.Roles.{is_defining, is_input, is_output}
use Rattle.mc_gates.specs.Gates.{Op, GateList, OpFits, OpsFit}
use Rattle.mc_gates.specs.Gates.{H, X, Z, S, Sdg, T, Tdg, Cx, Cz, Swap, Ccx}
use Rattle.mc_gates.specs.Lists.{IsGateList}
use Rattle.mc_gates_text.specs.Words.{is_gate, gate_word, operands}
use Rattle.mc_gates_text.specs.Roles.{goes_on, may_follow}
use Rattle.mc_gates_text.specs.Value.{op_in, gate_list_of}
use Rattle.mc_gates_text.specs.Judge.{gates_rules}
use Rattle.mc_gates_text.specs.Canonical.{op_line, gates_lines, gates_text}
use Rattle.mc_gates_text.proofs.KeepingLine.{last_head-more}
use Rattle.mc_gates_text.proofs.Tables.{no_op}
use Rattle.mc_gates_text.proofs.Spelled.{word_of, below}
use Rattle.mc_gates_text.proofs.CleanLines.{IsOpen, define_words, ops_clean, outputs_begin}
use Rattle.mc_gates_text.proofs.CleanLines.{outputs_clean}

-- the parts of a list
and_both : (a b : Bool) → (a && b) ≡ true → (a ≡ true) × (b ≡ true)
and_both true b e = (refl, e)
and_both false b e = absurd (cc e)

all_parts : (p : Name → Bool) (i : ℕ) (ns : List Name) → list_all p ns ≡ true
    → (list_all p (take i ns) ≡ true) × (list_all p (drop i ns) ≡ true)
all_parts p i ns all =
    and_both (list_all p (take i ns)) (list_all p (drop i ns))
    (sym (list_all-append p (take i ns) (drop i ns)) ∙ rw (take-append-drop i ns) all)

front : (P : Name → Type 0) (xs ys : List Name) → AllByRecursion P (xs ++ ys) → AllByRecursion P xs
front P [] ys all = tt
front P (x ∷ xs) ys all = (all.0, front P xs ys all.1)

distinct_part : (xs ys : List Name) → IsDistinct name_eq (xs ++ ys) → IsDistinct name_eq xs
unfolding IsDistinct
distinct_part [] ys distinct = tt
distinct_part (x ∷ xs) ys distinct =
    (front (λ y. name_eq x y ≡ false) xs ys distinct.0, distinct_part xs ys distinct.1)

-- nothing is against the canonical lines
in_clean : (ns : List Name) (i : ℕ) → AreNames ns → list_all is_name (take i ns) ≡ true
    → CleanWords gates_rules [] [] (codes "in" ∷ take i ns)
in_clean ns i valid names =
    let distinct = distinct_part (take i ns) (drop i ns)
    (rw (take-append-drop i ns) valid.distinct) in
    let len = length-append (take i ns) (drop i ns) in
    let few = valid.few in
    let all : length (take i ns ++ drop i ns) ≡ length ns = ap length (take-append-drop i ns) in
    (refl, define_words [] (codes "in") [] (take i ns) refl names distinct (omega arith))

plus_clean : (ns : List Name) (i : ℕ) → AreNames ns → list_all is_name (drop i ns) ≡ true
    → CleanWords gates_rules ((codes "in" ∷ take i ns) ∷ []) [] (codes "plus" ∷ drop i ns)
plus_clean ns i valid names =
    let before = (codes "in" ∷ take i ns) ∷ [] in
    let earlier : names_at is_defining before [] ≡ take i ns =
    append-nil (take i ns ++ []) ∙ append-nil (take i ns) in
    let all : names_at is_defining before [] ++ drop i ns ≡ ns =
    rw earlier (take-append-drop i ns) in (
      refl,
      define_words before (codes "plus") [] (drop i ns) refl names
          (rw all valid.distinct) (rw all valid.few),
    )

-- the lines behind those of the wires
tail_of : GateList → Lines
tail_of g =
    map (op_line g.names) g.ops
    ++ (codes "out" ∷ map (name_at g.names) g.outputs) ∷ (codes "end" ∷ []) ∷ []

tail_clean : (g : GateList) (before : Lines) → IsGateList g → IsOpen g.names before (length g.ops)
    → Clean gates_rules before (tail_of g)
unfolding tail_of
tail_clean g before h begun =
    let out = codes "out" ∷ map (name_at g.names) g.outputs in
    let end = (codes "end" ∷ []) ∷ [] in
    ops_clean g.names before g.ops (out ∷ end) begun h.valid.names h.valid.ops (λ before' begun'.
    let follows = last_head-more before' out in
    more before' out end (
      outputs_begin g.names before' begun',
      outputs_clean g.names before' [] g.outputs begun' h.valid.names
          h.valid.outputs.below h.valid.outputs.once,
    )
    refl
    (last (before' ++ out ∷ []) (codes "end" ∷ []) (rw follows refl, refl) refl))

behind_in : (h : Option Head) → goes_on h ≡ true → may_follow (Some In) h ≡ true
behind_in None e = absurd (cc e)
behind_in (Some Plus) e = refl
behind_in (Some _) e = e

wires_clean : (g : GateList) (plus : List Name) → plus ≡ drop g.inputs g.names → IsGateList g
    → Clean gates_rules ((codes "in" ∷ take g.inputs g.names) ∷ []) (plus_lines plus ++ tail_of g)
wires_clean g [] e h =
    let ins = take g.inputs g.names in
    let all : ins ≡ g.names =
    sym (append-nil ins) ∙ rw e (take-append-drop g.inputs g.names) in
    tail_clean g ((codes "in" ∷ ins) ∷ []) h (record {
      defined = append-nil (ins ++ []) ∙ append-nil ins ∙ all;
      none = refl;
      takes = behind_in;
      room = let few = h.few in omega arith;
    })
wires_clean g (name ∷ names) e h =
    let ins = take g.inputs g.names in
    let plus = name ∷ names in
    let valid = list_all-from_AllPass is_name g.names h.valid.names.valid in
    let named = (all_parts is_name g.inputs g.names valid).1 in
    let clean = rw (← e) at (plus_clean g.names g.inputs h.valid.names named) in
    let all : ins ++ plus ≡ g.names = rw e (take-append-drop g.inputs g.names) in
    more ((codes "in" ∷ ins) ∷ []) (codes "plus" ∷ plus) (tail_of g) clean refl
    (tail_clean g ((codes "in" ∷ ins) ∷ (codes "plus" ∷ plus) ∷ []) h (record {
      defined = append-nil (ins ++ (plus ++ [])) ∙ rw (append-nil plus) all;
      none = refl;
      takes = λ h goes. goes;
      room = let few = h.few in omega arith;
    }))

gates_clean : (g : GateList) → IsGateList g → Clean gates_rules [] (gates_lines g)
unfolding tail_of
gates_clean g h =
    let ins = codes "in" ∷ take g.inputs g.names in
    let valid = list_all-from_AllPass is_name g.names h.valid.names.valid in
    let named = (all_parts is_name g.inputs g.names valid).0 in
    more [] ins (plus_lines (drop g.inputs g.names) ++ tail_of g)
    (in_clean g.names g.inputs h.valid.names named) refl
    (wires_clean g (drop g.inputs g.names) refl h)

-- the canonical lines can be written
names_written : (ns : List Name) → list_all is_name ns ≡ true → list_all is_written ns ≡ true
names_written [] all = refl
names_written (n ∷ ns) all =
    let both = and_both (is_name n) (list_all is_name ns) all in
    rw (name_written n both.0, names_written ns both.1) refl

plus_written : (ns : List Name) → list_all is_written ns ≡ true
    → list_all is_written_line (plus_lines ns) ≡ true
plus_written [] all = refl
plus_written (n ∷ ns) all = rw all refl

numbers_written : (ns : List Name) (qs : List ℕ) → AreNames ns → All (λ q. q < length ns) qs
    → list_all is_written (map (name_at ns) qs) ≡ true
numbers_written ns [] valid under = refl
numbers_written ns (q ∷ qs) valid under =
    let lt : q < length ns = under 0 q (omega arith) in
    let name = name_written (name_at ns q) (is_name-name_at ns q valid lt) in
    let rest = numbers_written ns qs valid (λ k d l. under (suc k) d (omega arith)) in
    rw (name, rest) refl

word_written : (g : Op) → is_written (spelling (gate_word g)) ≡ true
word_written (H q) = refl
word_written (X q) = refl
word_written (Z q) = refl
word_written (S q) = refl
word_written (Sdg q) = refl
word_written (T q) = refl
word_written (Tdg q) = refl
word_written (Cx p q) = refl
word_written (Cz p q) = refl
word_written (Swap p q) = refl
word_written (Ccx p q r) = refl

ops_written : (ns : List Name) (gs : List Op) → AreNames ns → OpsFit (length ns) gs
    → list_all is_written_line (map (op_line ns) gs) ≡ true
ops_written ns [] valid fit = refl
ops_written ns (g ∷ gs) valid fit =
    let named = numbers_written ns (operands g) valid
    (All-from_recursion (λ q. q < length ns) (operands g) (below (length ns) g fit.0)) in
    rw (word_written g, named, ops_written ns gs valid fit.1) refl

gates_written : (g : GateList) → IsGateList g
    → list_all is_written_line (header_words kind.Gates 1 4 ∷ gates_lines g) ≡ true
gates_written g h =
    let valid = list_all-from_AllPass is_name g.names h.valid.names.valid in
    let parts = all_parts is_written g.inputs g.names (names_written g.names valid) in
    let plus = plus_written (drop g.inputs g.names) parts.1 in
    let ops = ops_written g.names g.ops h.valid.names h.valid.ops in
    let outputs = numbers_written g.names g.outputs h.valid.names h.valid.outputs.below in
    let out = codes "out" ∷ map (name_at g.names) g.outputs in
    let end = (codes "end" ∷ []) ∷ [] in
    rw (
      parts.0,
      list_all-append is_written_line (plus_lines (drop g.inputs g.names))
          (map (op_line g.names) g.ops ++ out ∷ end),
      plus,
      list_all-append is_written_line (map (op_line g.names) g.ops) (out ∷ end),
      ops,
      outputs,
    ) refl

-- the gate list that the canonical lines spell
no_names : (test : Option Head → Bool) (ns : List Name) (gs : List Op)
    → ((g : Op) → test (Some (gate_word g)) ≡ false)
    → flat_map (names_in test) (map (op_line ns) gs) ≡ []
no_names test ns [] other = refl
no_names test ns (g ∷ gs) other = rw ((word_of g).word, other g, no_names test ns gs other) refl

plus_defines : (ns : List Name) → flat_map (names_in is_defining) (plus_lines ns) ≡ ns
plus_defines [] = refl
plus_defines (n ∷ ns) = append-nil (n ∷ ns)

plus_others : (test : Option Head → Bool) (ns : List Name) → test (Some Plus) ≡ false
    → flat_map (names_in test) (plus_lines ns) ≡ []
plus_others test [] e = refl
plus_others test (n ∷ ns) e = rw e refl

names_of : (test : Option Head → Bool) (g : GateList)
    → ((g : Op) → test (Some (gate_word g)) ≡ false)
    → names_at test (gates_lines g) []
    ≡ names_in test (codes "in" ∷ take g.inputs g.names)
    ++ (flat_map (names_in test) (plus_lines (drop g.inputs g.names))
    ++ (names_in test (codes "out" ∷ map (name_at g.names) g.outputs)
    ++ names_in test (codes "end" ∷ [])))
names_of test g other =
    let ops = map (op_line g.names) g.ops in
    let out = codes "out" ∷ map (name_at g.names) g.outputs in
    let end = (codes "end" ∷ []) ∷ [] in
    append-nil (flat_map (names_in test) (gates_lines g))
    ∙ rw (
      flat_map-append (names_in test) (plus_lines (drop g.inputs g.names)) (ops ++ out ∷ end),
      flat_map-append (names_in test) ops (out ∷ end),
      no_names test g.names g.ops other,
      append-nil (names_in test (codes "end" ∷ [])),
    ) refl

op_back : (ns : List Name) (g : Op) → AreNames ns → OpFits (length ns) g
    → op_in ns (op_line ns g) ≡ Some g
op_back ns g valid fit =
    let are = numbers-name_at ns (operands g) valid.distinct
    (All-from_recursion (λ q. q < length ns) (operands g) (below (length ns) g fit)) in
    rw ((word_of g).word, ← are.numbers_are) (word_of g).op

ops_back : (ns : List Name) (gs : List Op) → AreNames ns → OpsFit (length ns) gs
    → filter_map (op_in ns) (map (op_line ns) gs) ≡ gs
ops_back ns [] valid fit = refl
ops_back ns (g ∷ gs) valid fit =
    rw (op_back ns g valid fit.0, ops_back ns gs valid fit.1) refl

no_op_line : (ns : List Name) (h : List ℕ) (ws : Words) → is_gate (head_of h) ≡ false
    → op_in ns (h ∷ ws) ≡ None
no_op_line ns h ws e = no_op (head_of h) (map (number_in ns) ws) e

no_plus_op : (ns plus : List Name) → filter_map (op_in ns) (plus_lines plus) ≡ []
no_plus_op ns [] = refl
no_plus_op ns (n ∷ plus) = rw (no_op_line ns (codes "plus") (n ∷ plus) refl) refl

ops_of : (g : GateList)
    → filter_map (op_in g.names) (gates_lines g)
    ≡ filter_map (op_in g.names) (map (op_line g.names) g.ops)
ops_of g =
    let ops = map (op_line g.names) g.ops in
    let out = codes "out" ∷ map (name_at g.names) g.outputs in
    let end = (codes "end" ∷ []) ∷ [] in
    rw (
      no_op_line g.names (codes "in") (take g.inputs g.names) refl,
      filter_map-append (op_in g.names) (plus_lines (drop g.inputs g.names)) (ops ++ out ∷ end),
      no_plus_op g.names (drop g.inputs g.names),
      filter_map-append (op_in g.names) ops (out ∷ end),
      no_op_line g.names (codes "out") (map (name_at g.names) g.outputs) refl,
    ) (append-nil (filter_map (op_in g.names) ops))

by_parts : (lines : Lines) (g : GateList) → names_at is_defining lines [] ≡ g.names
    → length (names_at is_input lines []) ≡ g.inputs
    → map (number_in g.names) (names_at is_output lines []) ≡ g.outputs
    → filter_map (op_in g.names) lines ≡ g.ops → gate_list_of lines ≡ g
by_parts lines g names inputs outputs ops = rw (names, inputs, outputs, ops) refl

gates_back : (g : GateList) → IsGateList g → gate_list_of (gates_lines g) ≡ g
gates_back g h =
    let defined : names_at is_defining (gates_lines g) [] ≡ g.names =
    names_of is_defining g (λ o. (word_of o).no_wires)
    ∙ rw (plus_defines (drop g.inputs g.names), append-nil (drop g.inputs g.names))
    (take-append-drop g.inputs g.names) in
    let inputs : names_at is_input (gates_lines g) [] ≡ take g.inputs g.names =
    names_of is_input g (λ o. (word_of o).no_inputs)
    ∙ rw (plus_others is_input (drop g.inputs g.names) refl)
    (append-nil (take g.inputs g.names)) in
    let outputs : names_at is_output (gates_lines g) [] ≡ map (name_at g.names) g.outputs =
    names_of is_output g (λ o. (word_of o).no_outputs)
    ∙ rw (plus_others is_output (drop g.inputs g.names) refl)
    (append-nil (map (name_at g.names) g.outputs)) in
    let few : length (take g.inputs g.names) ≡ g.inputs =
    length-take-le g.inputs g.names h.valid.inputs in
    let are = numbers-name_at g.names g.outputs h.valid.names.distinct h.valid.outputs.below in
    let ops = ops_back g.names g.ops h.valid.names h.valid.ops in
    by_parts (gates_lines g) g defined (ap length inputs ∙ few)
    (ap (map (number_in g.names)) outputs ∙ sym are.numbers_are) (ops_of g ∙ ops)

pub header_back : (g : GateList)
    → map (λ line. words_of line.items) (take 1 (lines_of (gates_text g)))
    ≡ header_words kind.Gates 1 4 ∷ []
header_back g = refl

pub text_read : (g : GateList) → IsGateList g
    → IsRead gates_rules [] (gates_lines g) (behind_header (gates_text g)) (end_of (gates_text g))
text_read g h =
    written_read gates_rules (header_words kind.Gates 1 4) (gates_lines g) (end_of (gates_text g))
    (gates_written g h) (gates_clean g h)

pub text_back : (g : GateList) → IsGateList g
    → gate_list_of (section_lines (behind_header (gates_text g))) ≡ g
text_back g h = ap gate_list_of (text_read g h).same ∙ gates_back g h

pub same_text : (g k : GateList) → IsGateList g → IsGateList k → gates_text g ≡ gates_text k → g ≡ k
same_text g k h i e =
    sym (text_back g h)
    ∙ ap (λ text. gate_list_of (section_lines (behind_header text))) e
    ∙ text_back k i
