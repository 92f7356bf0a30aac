-- How what is kept goes on with a word and with a line.
use Rattle.std.proofs.Common.{◌≡◌, ℕ, ◌≤◌, List, [], ◌∷◌, ◌++◌, Bool, true, false, Option, Some}
use Rattle.std.proofs.Common.{None, length, refl, sym, ◌∙◌, ap₂, arith, ◌==◌, nat_le}
use Rattle.std.proofs.Common.{if◌then◌else◌, ◌⊎◌, inl, inr}
use Rattle.std.specs.List.{IsDistinct}
use Rattle.std.specs.Cmp.Lexicographic.{nat_list_eq_equiv}
use Rattle.std.proofs.lemmas.Bool.Decides.{nat_tests}
use Rattle.std.proofs.lemmas.List.{append-nil}
use Rattle.std.proofs.lemmas.Map.Keys.{IsDistinct-push}
use Rattle.mc_model.specs.Names.{name_eq, is_name, is_held}
use Rattle.mc_text.specs.declared.head.Head.{Head}
use Rattle.mc_text.specs.declared.head.Head.TheVariants.{Out, End}
use Rattle.mc_text.specs.declared.point.Point.{Point}
use Rattle.mc_text.specs.Points.{point_of}
use Rattle.mc_text.specs.Judged.{Words, Lines}
use Rattle.mc_text.specs.Rules.{AreNumbers, listed_name}
use Rattle.mc_text.specs.Lists.{names_in, names_at, added}
use Rattle.mc_text.proofs.Going.{head_at}
use Rattle.mc_text.proofs.Kept.{count_at, numbers-word, names_at-word}
use Rattle.mc_circuit.specs.Roles.{is_output}
use Rattle.mc_gates_text.specs.Words.{arity, is_gate}
use Rattle.mc_gates_text.specs.Roles.{may_follow, role_of, operand, surplus}
use Rattle.mc_gates_text.specs.Judge.{judge_by, lacks_by, operand_word, gates_rules}
use Rattle.mc_gates_text.specs.Kept.{State, IsKept, Stands, Lists, is_closed}
use Rattle.mc_gates_text.proofs.Tables.{gate_role}

-- tests of record words
out_head : (h : Option Head) → is_output h ≡ true → h ≡ Some Out
out_head None e = absurd (cc e)
out_head (Some Out) e = refl
out_head (Some _) e = absurd (cc e)

pub closed_head : (h : Option Head) → is_closed h ≡ true → (h ≡ Some Out) ⊎ (h ≡ Some End)
closed_head None e = absurd (cc e)
closed_head (Some Out) e = inl refl
closed_head (Some End) e = inr refl
closed_head (Some _) e = absurd (cc e)

-- behind the outputs stands `end`, and nothing behind that
pub behind_closed : (last h : Option Head) → is_closed last ≡ true → may_follow last h ≡ true
    → (last ≡ Some Out) × (h ≡ Some End)
behind_closed last h closed follows =
    elim (closed_head last closed) [
      | inl out ↦ (out, end_behind h (rw out at follows))
      | inr end ↦ absurd (none_behind h (rw end at follows))
    ]
  where
    end_behind : (h : Option Head) → may_follow (Some Out) h ≡ true → h ≡ Some End
    end_behind None e = absurd (cc e)
    end_behind (Some End) e = refl
    end_behind (Some _) e = absurd (cc e)

    none_behind : (h : Option Head) → may_follow (Some End) h ≡ true → ⊥
    none_behind h e = absurd (cc e)

pub stands_at : (k : State) (before : Lines) (here : Words) → IsKept k before here
    → Stands k (names_at is_output before here) (names_in is_gate here)
stands_at k before here h = record { outputs = h.outputs; operands = h.operands }

-- the judgement by what is kept is that by the lines
pub same_judge : (k : State) (before : Lines) (here : Words) (p : Point) (word : List ℕ)
    → IsKept k before here → p ≡ point_of before here
    → judge_by k.names (names_at is_output before here) (names_in is_gate here)
    (length k.ops) p.last (role_of p) word
    ≡ gates_rules.judge before here word
same_judge k before here p word h e = rw (e, h.names, h.count) refl

pub same_lacks : (k : State) (before : Lines) (here : Words) (p : Point)
    → IsKept k before here → p ≡ point_of before here
    → lacks_by k.names (names_at is_output before here) (role_of p)
    ≡ gates_rules.lacks before here
same_lacks k before here p h e = rw (e, h.names) refl

-- the operands of a line with one more word
pub names_in-word : (test : Option Head → Bool) (before : Lines) (here : Words) (p : Point)
    (word : List ℕ) → p ≡ point_of before here
    → names_in test (here ++ word ∷ []) ≡ names_in test here ++ added test p word
names_in-word test before here p word e =
    let count : (point_of [] here).count ≡ p.count =
    count_at [] here ∙ sym (count_at before here) ∙ rw e refl in
    let head : (point_of [] here).head ≡ p.head =
    head_at [] here ∙ sym (head_at before here) ∙ rw e refl in
    names_at-word test [] here (point_of [] here) word refl
    ∙ ap₂ (λ (n : ℕ) (h : Option Head). names_in test here
    ++ (if n == 0 then [] else (if test h then word ∷ [] else []))) count head

-- a list with one more word
pub listed_more : (names listed : List (List ℕ)) (numbers numbers' : List ℕ) (word : List ℕ)
    (t s : Bool) → AreNumbers names listed numbers
    → Lists names numbers numbers' (if t then [] else (if s then word ∷ [] else []))
    → AreNumbers names (listed ++ (if t then [] else (if s then word ∷ [] else []))) numbers'
listed_more names listed numbers numbers' word true s are same = rw (append-nil listed, same) are
listed_more names listed numbers numbers' word false true are m =
    rw m.2 (numbers-word names listed numbers word m.0 m.1 are)
listed_more names listed numbers numbers' word false false are same =
    rw (append-nil listed, same) are

unlisted_by : (names list : List (List ℕ)) (word : List ℕ) (n h t : Bool) → is_name word ≡ n
    → is_held names word ≡ h → is_held list word ≡ t → listed_name names list word ≡ None
    → t ≡ false
unlisted_by names list word false h t e f l none = let none' = rw e at none in absurd (cc none')
unlisted_by names list word true false t e f l none =
    let none' = rw (e, f) at none in absurd (cc none')
unlisted_by names list word true true true e f l none =
    let none' = rw (e, f, l) at none in absurd (cc none')
unlisted_by names list word true true false e f l none = refl

pub distinct_more : (names listed earlier : List (List ℕ)) (gates : ℕ) (p : Point)
    (word : List ℕ) (t s : Bool) → (p.count == 0) ≡ t → is_output p.head ≡ s
    → judge_by names listed earlier gates p.last (role_of p) word ≡ None
    → IsDistinct name_eq listed → IsDistinct name_eq (listed ++ added is_output p word)
distinct_more names listed earlier gates p word true s e f clean apart =
    rw (e, append-nil listed) apart
distinct_more names listed earlier gates p word false false e f clean apart =
    rw (e, f, append-nil listed) apart
distinct_more names listed earlier gates p word false true e f clean apart =
    let head = out_head p.head f in
    let clean' : listed_name names listed word ≡ None = rw (e, head) at clean in
    let new = unlisted_by names listed word (is_name word) (is_held names word)
    (is_held listed word) refl refl refl clean' in
    rw (e, f) (IsDistinct-push nat_list_eq_equiv listed word apart new)

-- a word behind a gate word that nothing is against is an operand of it
pub operand_by : (names listed earlier : List (List ℕ)) (gates : ℕ) (last : Option Head)
    (word : List ℕ) (n m : ℕ) (t : Bool) → nat_le n m ≡ t
    → judge_by names listed earlier gates last (if nat_le n m then operand else surplus) word ≡ None
    → (n ≤ m) × (operand_word names earlier word ≡ None)
operand_by names listed earlier gates last word n m true e clean =
    (grind (arith, nat_tests), rw e at clean)
operand_by names listed earlier gates last word n m false e clean =
    let clean' = rw e at clean in absurd (cc clean')

pub operand_clean : (names listed earlier : List (List ℕ)) (gates : ℕ) (p : Point)
    (word : List ℕ) → (p.count == 0) ≡ false → is_gate p.head ≡ true
    → judge_by names listed earlier gates p.last (role_of p) word ≡ None
    → (p.count ≤ arity p.head) × (operand_word names earlier word ≡ None)
operand_clean names listed earlier gates p word e f clean =
    let role : role_of p ≡ (if nat_le p.count (arity p.head) then operand else surplus) =
    rw e (gate_role p.head p.count f) in
    operand_by names listed earlier gates p.last word p.count (arity p.head)
    (nat_le p.count (arity p.head)) refl (rw role at clean)

free_by : (names earlier : List (List ℕ)) (word : List ℕ) (n h t : Bool) → is_name word ≡ n
    → is_held names word ≡ h → is_held earlier word ≡ t → operand_word names earlier word ≡ None
    → t ≡ false
free_by names earlier word false h t e f l none = let none' = rw e at none in absurd (cc none')
free_by names earlier word true false t e f l none =
    let none' = rw (e, f) at none in absurd (cc none')
free_by names earlier word true true true e f l none =
    let none' = rw (e, f, l) at none in absurd (cc none')
free_by names earlier word true true false e f l none = refl

pub apart_more : (names listed earlier : List (List ℕ)) (gates : ℕ) (p : Point) (word : List ℕ)
    (t s : Bool) → (p.count == 0) ≡ t → is_gate p.head ≡ s
    → judge_by names listed earlier gates p.last (role_of p) word ≡ None
    → IsDistinct name_eq earlier → IsDistinct name_eq (earlier ++ added is_gate p word)
apart_more names listed earlier gates p word true s e f clean apart =
    rw (e, append-nil earlier) apart
apart_more names listed earlier gates p word false false e f clean apart =
    rw (e, f, append-nil earlier) apart
apart_more names listed earlier gates p word false true e f clean apart =
    let clean' = (operand_clean names listed earlier gates p word e f clean).1 in
    let new = free_by names earlier word (is_name word) (is_held names word) (is_held earlier word)
    refl refl refl clean' in
    rw (e, f) (IsDistinct-push nat_list_eq_equiv earlier word apart new)
