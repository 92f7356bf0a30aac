-- How what is kept goes on with a word and with a line.
use Rattle.std.proofs.Common.{◌≡◌, ℕ, List, [], ◌∷◌, ◌++◌, Bool, true, false, Option, Some, None}
use Rattle.std.proofs.Common.{length, refl, sym, ap, arith, ◌==◌, ne_eqb, if◌then◌else◌, ◌⊎◌, inl}
use Rattle.std.proofs.Common.{inr}
use Rattle.std.specs.List.{IsDistinct}
use Rattle.std.specs.Option.{option_map}
use Rattle.std.specs.Cmp.Lexicographic.{nat_list_eq_equiv}
use Rattle.std.proofs.lemmas.List.{append-nil, length-map}
use Rattle.std.proofs.lemmas.Map.Keys.{IsDistinct-push}
use Rattle.mc_model.specs.Names.{name_eq, is_name, is_held}
use Rattle.mc_angle.specs.Angle.{angle_of}
use Rattle.mc_text.specs.declared.head.Head.{Head}
use Rattle.mc_text.specs.declared.head.Head.TheVariants.{J, Cz, Out, End}
use Rattle.mc_text.specs.declared.point.Point.{Point}
use Rattle.mc_text.specs.Heads.{head_of}
use Rattle.mc_text.specs.Points.{point_of}
use Rattle.mc_text.specs.Judged.{Words, Lines}
use Rattle.mc_text.specs.Rules.{number_in, AreNumbers, listed_name}
use Rattle.mc_text.specs.Lists.{names_at, added, operand_at}
use Rattle.mc_text.proofs.Going.{head_at}
use Rattle.mc_text.proofs.Kept.{count_at, numbers-word}
use Rattle.mc_circuit.specs.declared.reader.Reader.{Reader}
use Rattle.mc_circuit.specs.Roles.{may_follow, role_of, is_gate, is_output}
use Rattle.mc_circuit.specs.Value.{spelled_by, spelled_gate, spelled_gates, gate_by}
use Rattle.mc_circuit.specs.Judge.{judge_by, lacks_by, circuit_rules}
use Rattle.mc_circuit.specs.Kept.{IsKept, Stands, Lists, is_closed, gate_with, next_gate}

-- tests of record words
out_head : (h : Option Head) → is_output h ≡ true → h ≡ Some Out
out_head None e = absurd (cc e)
out_head (Some Out) e = refl
out_head (Some _) e = absurd (cc e)

pub closed_head : (h : Option Head) → is_closed h ≡ true → (h ≡ Some Out) ⊎ (h ≡ Some End)
closed_head None e = absurd (cc e)
closed_head (Some Out) e = inl refl
closed_head (Some End) e = inr refl
closed_head (Some _) e = absurd (cc e)

-- behind the outputs stands `end`, and nothing behind that
pub behind_closed : (last h : Option Head) → is_closed last ≡ true → may_follow last h ≡ true
    → (last ≡ Some Out) × (h ≡ Some End)
behind_closed last h closed follows =
    elim (closed_head last closed) [
      | inl out ↦ (out, end_behind h (rw out at follows))
      | inr end ↦ absurd (none_behind h (rw end at follows))
    ]
  where
    end_behind : (h : Option Head) → may_follow (Some Out) h ≡ true → h ≡ Some End
    end_behind None e = absurd (cc e)
    end_behind (Some End) e = refl
    end_behind (Some _) e = absurd (cc e)

    none_behind : (h : Option Head) → may_follow (Some End) h ≡ true → ⊥
    none_behind None e = absurd (cc e)
    none_behind (Some _) e = absurd (cc e)

-- what the words before say of a word
pub operand_there : (before : Lines) (here : Words) (p : Point) → p ≡ point_of before here
    → p.count ≡ 2 → is_gate p.head ≡ true → (a : List ℕ) × (operand_at 0 is_gate here ≡ Some a)
operand_there before [] p e two gate =
    let count = count_at before [] in
    let two' = rw e at two in
    absurd (omega arith)
operand_there before (h ∷ []) p e two gate =
    let count = count_at before (h ∷ []) in
    let two' = rw e at two in
    absurd (omega arith)
operand_there before (h ∷ a ∷ words) p e two gate =
    let gate' = rw (e, head_at before (h ∷ a ∷ words)) at gate in
    (a, rw gate' refl)

count_kept : {half : ℕ} (k : Reader half) (before : Lines) (here : Words) → IsKept k before here
    → length (spelled_gates before) ≡ length k.gates.items
count_kept {half} k before here h =
    let same = ap length (h.gates []) in
    sym (simp length-map at same)

pub stands_at : {half : ℕ} (k : Reader half) (before : Lines) (here : Words) (p : Point)
    → IsKept k before here → p ≡ point_of before here
    → Stands k p (names_at is_output before here) (operand_at 0 is_gate here)
stands_at k before here p h e = record {
  are = h.outputs;
  operand = λ two gate.
      let a = operand_there before here p e two gate in
      record { name = a.0; is = a.1; place = h.operand a.0 a.1 };
}

pub same_judge : {half : ℕ} (k : Reader half) (before : Lines) (here : Words) (p : Point)
    (word : List ℕ) → IsKept k before here → p ≡ point_of before here
    → judge_by k.names (names_at is_output before here) (operand_at 0 is_gate here)
    (length k.gates.items) p.last (role_of p) word
    ≡ circuit_rules.judge before here word
same_judge k before here p word h e = rw (e, h.names, count_kept k before here h) refl

pub same_lacks : {half : ℕ} (k : Reader half) (before : Lines) (here : Words) (p : Point)
    → IsKept k before here → p ≡ point_of before here
    → lacks_by k.names (names_at is_output before here) (role_of p)
    ≡ circuit_rules.lacks before here
same_lacks k before here p h e = rw (e, h.names) refl

-- the gate of a line with one more word
same_gate : (half : ℕ) (names : List (List ℕ)) (h : Option Head) (a word : List ℕ) (wire : ℕ)
    → (is_gate h ≡ true → number_in names a ≡ wire)
    → gate_with h wire (number_in names word) (angle_of half word)
    ≡ option_map (gate_by half names) (spelled_by h a word)
same_gate half names None a word wire same = refl
same_gate half names (Some J) a word wire same = rw (same refl) refl
same_gate half names (Some Cz) a word wire same = rw (same refl) refl
same_gate half names (Some _) a word wire same = refl

spelled_many : (h a b : List ℕ) (words : Words) (word : List ℕ)
    → spelled_gate (h ∷ a ∷ b ∷ (words ++ word ∷ [])) ≡ None
spelled_many h a b [] word = refl
spelled_many h a b (c ∷ words) word = refl

gate_at : (half : ℕ) (names : List (List ℕ)) (before : Lines) (here : Words) (wire : ℕ)
    (word : List ℕ)
    → ((a : List ℕ) → operand_at 0 is_gate here ≡ Some a → number_in names a ≡ wire)
    → next_gate half names (point_of before here) wire word
    ≡ option_map (gate_by half names) (spelled_gate (here ++ word ∷ []))
gate_at half names before [] wire word same = refl
gate_at half names before (h ∷ []) wire word same = refl
gate_at half names before (h ∷ a ∷ []) wire word same =
    same_gate half names (head_of h) a word wire (λ gate. same a (rw gate refl))
gate_at half names before (h ∷ a ∷ b ∷ words) wire word same =
    let count = count_at before (h ∷ a ∷ b ∷ words) in
    let ne = ne_eqb (point_of before (h ∷ a ∷ b ∷ words)).count 2 (λ two. omega arith) in
    rw (ne, spelled_many h a b words word) refl

pub gate_more : (half : ℕ) (names : List (List ℕ)) (before : Lines) (here : Words) (p : Point)
    (wire : ℕ) (word : List ℕ) → p ≡ point_of before here
    → ((a : List ℕ) → operand_at 0 is_gate here ≡ Some a → number_in names a ≡ wire)
    → next_gate half names p wire word
    ≡ option_map (gate_by half names) (spelled_gate (here ++ word ∷ []))
gate_more half names before here p wire word e same =
    rw e (gate_at half names before here wire word same)

-- the outputs with one more word
pub outputs_more : (names listed : List (List ℕ)) (outputs outputs' : List ℕ) (word : List ℕ)
    (t s : Bool) → AreNumbers names listed outputs
    → Lists names outputs outputs' (if t then [] else (if s then word ∷ [] else []))
    → AreNumbers names (listed ++ (if t then [] else (if s then word ∷ [] else []))) outputs'
outputs_more names listed outputs outputs' word true s are same =
    rw (append-nil listed, same) are
outputs_more names listed outputs outputs' word false true are m =
    rw m.2 (numbers-word names listed outputs word m.0 m.1 are)
outputs_more names listed outputs outputs' word false false are same =
    rw (append-nil listed, same) are

unlisted_by : (names list : List (List ℕ)) (word : List ℕ) (n h t : Bool) → is_name word ≡ n
    → is_held names word ≡ h → is_held list word ≡ t → listed_name names list word ≡ None → t ≡ false
unlisted_by names list word false h t e f l none = let none' = rw e at none in absurd (cc none')
unlisted_by names list word true false t e f l none =
    let none' = rw (e, f) at none in absurd (cc none')
unlisted_by names list word true true true e f l none =
    let none' = rw (e, f, l) at none in absurd (cc none')
unlisted_by names list word true true false e f l none = refl

pub distinct_more : (names listed : List (List ℕ)) (first : Option (List ℕ)) (gates : ℕ) (p : Point)
    (word : List ℕ) (t s : Bool) → (p.count == 0) ≡ t → is_output p.head ≡ s
    → judge_by names listed first gates p.last (role_of p) word ≡ None
    → IsDistinct name_eq listed → IsDistinct name_eq (listed ++ added is_output p word)
distinct_more names listed first gates p word true s e f clean apart =
    rw (e, append-nil listed) apart
distinct_more names listed first gates p word false false e f clean apart =
    rw (e, f, append-nil listed) apart
distinct_more names listed first gates p word false true e f clean apart =
    let head = out_head p.head f in
    let clean' : listed_name names listed word ≡ None = rw (e, head) at clean in
    let new = unlisted_by names listed word (is_name word) (is_held names word) (is_held listed word)
    refl refl refl clean' in
    rw (e, f) (IsDistinct-push nat_list_eq_equiv listed word apart new)
