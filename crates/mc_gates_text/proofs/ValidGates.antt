-- A section without a fault spells a gate list that the code holds.
use Rattle.std.proofs.Common.{◌≡◌, ℕ, ◌+◌, ◌<◌, ◌≤◌, List, [], ◌∷◌, ◌++◌, Bool, true, false}
use Rattle.std.proofs.Common.{Option, Some, None, IsTrue, length, refl, sym, subst, ◌∙◌, arith}
use Rattle.std.proofs.Common.{◌==◌, nat_le, nat_lt, length-append, if◌then◌else◌}
use Rattle.std.specs.List.{IsDistinct}
use Rattle.std.specs.Option.{option_to_list}
use Rattle.std.specs.Cmp.Lexicographic.{nat_list_eq_equiv}
use Rattle.std.proofs.lemmas.Bool.Decides.{nat_tests}
use Rattle.std.proofs.lemmas.List.{append-nil}
use Rattle.std.proofs.lemmas.List.Elements.{All-push}
use Rattle.std.proofs.lemmas.Map.Keys.{IsDistinct-push}
use Rattle.mc_lex.specs.Lines.{Line}
use Rattle.mc_model.specs.Names.{Name, AreNames, is_name, is_held, place_of}
use Rattle.mc_text.specs.declared.head.Head.{Head}
use Rattle.mc_text.specs.declared.head.Head.TheVariants.{In, Plus, Out}
use Rattle.mc_text.specs.declared.point.Point.{Point}
use Rattle.mc_text.specs.Points.{point_of}
use Rattle.mc_text.specs.Judged.{Words, Lines, Place, first_in_section, section_lines}
use Rattle.mc_text.specs.Rules.{new_name, known_name, listed_name}
use Rattle.mc_text.specs.Lists.{names_in, names_at}
use Rattle.mc_text.proofs.Kept.{numbers-none}
use Rattle.mc_text.proofs.Numbers.{place-held}
use Rattle.mc_text.proofs.Sections.{clean_ends}
use Rattle.mc_circuit.specs.Roles.{is_defining, is_input, is_output}
use Rattle.mc_gates.specs.Lists.{IsGateList}
use Rattle.mc_gates_text.specs.Words.{arity, is_gate, op_with}
use Rattle.mc_gates_text.specs.Roles.{role_in, role_of, operand, surplus}
use Rattle.mc_gates_text.specs.Value.{gate_list_of}
use Rattle.mc_gates_text.specs.Judge.{judge_by, operand_word, gates_rules}
use Rattle.mc_gates_text.specs.Kept.{State, IsKept, Moves, Ends}
use Rattle.mc_gates_text.proofs.Keeping.{same_judge, same_lacks, operand_by}
use Rattle.mc_gates_text.proofs.KeepingWord.{word_kept}
use Rattle.mc_gates_text.proofs.KeepingLine.{line_kept}
use Rattle.mc_gates_text.proofs.Spelling.{spells, reads_gates}
use Rattle.mc_gates_text.proofs.CleanSections.{GoesOn, behind_clean}

-- what is kept, if it is read
pub record IsWhole (before : Lines) (here : Words) : Type 0 where
  pub state : State
  pub kept : IsKept state before here
  pub names : AreNames state.names
  pub few : state.inputs ≤ length state.names

empty : State
empty = record { names = []; inputs = 0; ops = []; outputs = []; operands = [] }

whole_start : IsWhole [] []
unfolding empty IsDistinct
whole_start = record {
  state = empty;
  kept = record {
    names = refl;
    inputs = refl;
    outputs = numbers-none [];
    distinct = tt;
    operands = numbers-none [];
    apart = tt;
    within = omega arith;
    ops = λ more. refl;
    fits = tt;
    count = refl;
    few = omega arith;
    room = λ gate. absurd (cc gate);
    order = refl;
    complete = λ closed. absurd (cc closed);
  };
  names = record { distinct = tt; valid = λ k d lt. absurd (omega arith); few = omega arith };
  few = omega arith;
}

-- what a clean word says of its name
defined_by : (names : List Name) (word : List ℕ) (n h r : Bool) → is_name word ≡ n
    → is_held names word ≡ h → nat_le 256 (length names) ≡ r → new_name names word ≡ None
    → (is_name word ≡ true) × (is_held names word ≡ false) × (length names < 256)
defined_by names word false h r e f g none = let none' = rw e at none in absurd (cc none')
defined_by names word true true r e f g none = let none' = rw (e, f) at none in absurd (cc none')
defined_by names word true false true e f g none =
    let none' = rw (e, f, g) at none in absurd (cc none')
defined_by names word true false false e f g none = (e, f, grind (arith, nat_tests))

names_more : (names : List Name) (word : List ℕ) → AreNames names → new_name names word ≡ None
    → AreNames (names ++ word ∷ [])
names_more names word valid none =
    let is = defined_by names word (is_name word) (is_held names word) (nat_le 256 (length names))
    refl refl refl none in
    record {
      distinct = IsDistinct-push nat_list_eq_equiv names word valid.distinct is.1;
      valid = All-push (λ name. IsTrue (is_name name)) names word valid.valid is.0;
      few = rw (length-append names (word ∷ [])) (let few = is.2 in omega arith);
    }

known_by : (names : List Name) (word : List ℕ) (n h : Bool) → is_name word ≡ n
    → is_held names word ≡ h → known_name names word ≡ None → is_held names word ≡ true
known_by names word false h e f none = let none' = rw e at none in absurd (cc none')
known_by names word true false e f none = let none' = rw (e, f) at none in absurd (cc none')
known_by names word true true e f none = f

number_by : (names : List Name) (word : List ℕ) → known_name names word ≡ None
    → (q : ℕ) × (place_of names word ≡ Some q)
number_by names word none =
    place-held names word
    (known_by names word (is_name word) (is_held names word) refl refl none)

listed_known : (names listed : List Name) (word : List ℕ) (n h : Bool) → is_name word ≡ n
    → is_held names word ≡ h → listed_name names listed word ≡ None → known_name names word ≡ None
listed_known names listed word false h e f none = let none' = rw e at none in absurd (cc none')
listed_known names listed word true false e f none =
    let none' = rw (e, f) at none in absurd (cc none')
listed_known names listed word true true e f none = rw (e, f) refl

operand_known : (names earlier : List Name) (word : List ℕ) (n h : Bool) → is_name word ≡ n
    → is_held names word ≡ h → operand_word names earlier word ≡ None → known_name names word ≡ None
operand_known names earlier word false h e f none = let none' = rw e at none in absurd (cc none')
operand_known names earlier word true false e f none =
    let none' = rw (e, f) at none in absurd (cc none')
operand_known names earlier word true true e f none = rw (e, f) refl

-- what is kept with one more word
record Next (k : State) (p : Point) (word : List ℕ) : Type 0 where
  state : State
  moves : Moves k state p word
  names : AreNames state.names
  few : state.inputs ≤ length state.names

first_word : (k : State) (p : Point) (word : List ℕ) → (p.count == 0) ≡ true → AreNames k.names
    → k.inputs ≤ length k.names → Next k p word
first_word k p word e names few = record {
  state = k;
  moves = record {
    names = rw e (sym (append-nil k.names));
    inputs = rw e (omega arith);
    outputs = rw e refl;
    operands = rw e refl;
    ops = refl;
  };
  names = names;
  few = few;
}

input_word : (k : State) (p : Point) (word : List ℕ) → (p.count == 0) ≡ false → p.head ≡ Some In
    → new_name k.names word ≡ None → AreNames k.names → k.inputs ≤ length k.names → Next k p word
input_word k p word e h none names few =
    let size = length-append k.names (word ∷ []) in
    record {
      state = record k { names = k.names ++ word ∷ []; inputs = k.inputs + 1 };
      moves = record {
        names = rw (e, h) refl;
        inputs = rw (e, h) refl;
        outputs = rw (e, h) refl;
        operands = rw (e, h) refl;
        ops = refl;
      };
      names = names_more k.names word names none;
      few = rw size (omega arith);
    }

plus_word : (k : State) (p : Point) (word : List ℕ) → (p.count == 0) ≡ false → p.head ≡ Some Plus
    → new_name k.names word ≡ None → AreNames k.names → k.inputs ≤ length k.names → Next k p word
plus_word k p word e h none names few =
    let size = length-append k.names (word ∷ []) in
    record {
      state = record k { names = k.names ++ word ∷ [] };
      moves = record {
        names = rw (e, h) refl;
        inputs = rw (e, h) (omega arith);
        outputs = rw (e, h) refl;
        operands = rw (e, h) refl;
        ops = refl;
      };
      names = names_more k.names word names none;
      few = rw size (omega arith);
    }

output_word : (k : State) (p : Point) (word : List ℕ) → (p.count == 0) ≡ false → p.head ≡ Some Out
    → known_name k.names word ≡ None → AreNames k.names → k.inputs ≤ length k.names → Next k p word
output_word k p word e h none names few =
    let number = number_by k.names word none in
    record {
      state = record k { outputs = k.outputs ++ number.0 ∷ [] };
      moves = record {
        names = rw (e, h) (sym (append-nil k.names));
        inputs = rw (e, h) (omega arith);
        outputs = rw (e, h) (number.0, number.1, refl);
        operands = rw (e, h) refl;
        ops = refl;
      };
      names = names;
      few = few;
    }

gate_by : (n m : ℕ) → (n == 0) ≡ false → n ≤ m → nat_lt 0 m ≡ true
gate_by n m e le = grind (arith, nat_tests)

next_operand : (k : State) (p : Point) (word : List ℕ) (listed earlier : List Name) (gates : ℕ)
    → (p.count == 0) ≡ false → is_defining p.head ≡ false → is_input p.head ≡ false
    → is_output p.head ≡ false
    → role_in p.head p.count ≡ (if nat_le p.count (arity p.head) then operand else surplus)
    → judge_by k.names listed earlier gates p.last (role_of p) word ≡ None
    → AreNames k.names → k.inputs ≤ length k.names → Next k p word
next_operand k p word listed earlier gates e d i o role clean names few =
    let clean' : judge_by k.names listed earlier gates p.last
    (if nat_le p.count (arity p.head) then operand else surplus) word ≡ None =
    rw (e, role) at clean in
    let is = operand_by k.names listed earlier gates p.last word p.count (arity p.head)
    (nat_le p.count (arity p.head)) refl clean' in
    let gate : is_gate p.head ≡ true = gate_by p.count (arity p.head) e is.0 in
    let number = number_by k.names word
    (operand_known k.names earlier word (is_name word) (is_held k.names word) refl refl is.1) in
    record {
      state = record k { operands = k.operands ++ number.0 ∷ [] };
      moves = record {
        names = rw (e, d) (sym (append-nil k.names));
        inputs = rw (e, i) (omega arith);
        outputs = rw (e, o) refl;
        operands = rw (e, gate) (number.0, number.1, refl);
        ops = refl;
      };
      names = names;
      few = few;
    }

next_by : (k : State) (p : Point) (word : List ℕ) (listed earlier : List Name) (gates : ℕ)
    (h : Option Head) → p.head ≡ h → (p.count == 0) ≡ false
    → judge_by k.names listed earlier gates p.last (role_of p) word ≡ None
    → AreNames k.names → k.inputs ≤ length k.names → Next k p word
next_by k p word listed earlier gates None h e clean names few =
    next_operand k p word listed earlier gates e (rw h refl) (rw h refl) (rw h refl) (rw h refl)
    clean names few
next_by k p word listed earlier gates (Some In) h e clean names few =
    input_word k p word e h (rw (e, h) at clean) names few
next_by k p word listed earlier gates (Some Plus) h e clean names few =
    plus_word k p word e h (rw (e, h) at clean) names few
next_by k p word listed earlier gates (Some Out) h e clean names few =
    let clean' : listed_name k.names listed word ≡ None = rw (e, h) at clean in
    output_word k p word e h
    (listed_known k.names listed word (is_name word) (is_held k.names word) refl refl clean')
    names few
next_by k p word listed earlier gates (Some _) h e clean names few =
    next_operand k p word listed earlier gates e (rw h refl) (rw h refl) (rw h refl) (rw h refl)
    clean names few

next : (k : State) (p : Point) (word : List ℕ) (listed earlier : List Name) (gates : ℕ)
    (t : Bool) → (p.count == 0) ≡ t
    → judge_by k.names listed earlier gates p.last (role_of p) word ≡ None
    → AreNames k.names → k.inputs ≤ length k.names → Next k p word
next k p word listed earlier gates true e clean names few = first_word k p word e names few
next k p word listed earlier gates false e clean names few =
    next_by k p word listed earlier gates p.head refl e clean names few

with_word : (before : Lines) (here : Words) (word : List ℕ) → IsWhole before here
    → gates_rules.judge before here word ≡ None → IsWhole before (here ++ word ∷ [])
with_word before here word w clean =
    let k = w.state in
    let p = point_of before here in
    let clean' = same_judge k before here p word w.kept refl ∙ clean in
    let more = next k p word (names_at is_output before here) (names_in is_gate here)
    (length k.ops) (p.count == 0) refl clean' w.names w.few in
    record {
      state = more.state;
      kept = word_kept k more.state before here p word w.kept refl clean' more.moves;
      names = more.names;
      few = more.few;
    }

with_line : (before : Lines) (here : Words) → IsWhole before here
    → gates_rules.lacks before here ≡ None → IsWhole (before ++ here ∷ []) []
with_line before here w clean =
    let k = w.state in
    let p = point_of before here in
    let clean' = same_lacks k before here p w.kept refl ∙ clean in
    let ended : State = record k {
      ops = k.ops ++ option_to_list (op_with p.head k.operands);
      operands = [];
    } in
    let ends : Ends k ended p = record {
      names = refl;
      inputs = refl;
      outputs = refl;
      operands = refl;
      ops = refl;
    } in
    record {
      state = ended;
      kept = line_kept k ended before here p w.kept refl clean' ends;
      names = w.names;
      few = w.few;
    }

pub clean_is_list : (lines : List Line) (end : Place)
    → first_in_section gates_rules [] lines end ≡ None
    → IsGateList (gate_list_of (section_lines lines))
clean_is_list lines end clean =
    let on : GoesOn gates_rules IsWhole = record { with_word = with_word; with_line = with_line } in
    let w = behind_clean gates_rules IsWhole on lines end whole_start clean in
    subst IsGateList (spells w.state (section_lines lines) w.kept)
    (reads_gates w.state (section_lines lines) w.kept w.names w.few
    (clean_ends gates_rules lines end clean))
