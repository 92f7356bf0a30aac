-- The end of a line with nothing against it is kept.
use Rattle.std.proofs.Common.{◌≡◌, ℕ, ◌+◌, ◌<◌, ◌≤◌, List, [], ◌∷◌, ◌++◌, Bool, true, false}
use Rattle.std.proofs.Common.{Option, Some, None, length, map, refl, sym, ap, ◌∙◌, length-append}
use Rattle.std.proofs.Common.{arith, ◌==◌, ne_eqb, nat_le, if◌then◌else◌, inl, inr}
use Rattle.std.specs.List.{filter_map, list_all, IsDistinct}
use Rattle.std.specs.Option.{option_to_list}
use Rattle.std.proofs.lemmas.Bool.Decides.{nat_tests}
use Rattle.std.proofs.lemmas.List.{length-map}
use Rattle.std.proofs.lemmas.List.Elements.{filter_map-append}
use Rattle.std.proofs.lemmas.List.Sums.{fold-append}
use Rattle.mc_model.specs.Names.{Name, name_eq, is_held}
use Rattle.mc_text.specs.declared.head.Head.{Head}
use Rattle.mc_text.specs.declared.head.Head.TheVariants.{In, Plus, Out, End}
use Rattle.mc_text.specs.declared.point.Point.{Point}
use Rattle.mc_text.specs.Heads.{head_of, head_in}
use Rattle.mc_text.specs.Points.{point_of, last_head}
use Rattle.mc_text.specs.Judged.{Words, Lines}
use Rattle.mc_text.specs.Rules.{number_in, AreNumbers}
use Rattle.mc_text.specs.Lists.{names_in, names_at, begun, count_of}
use Rattle.mc_text.proofs.Going.{head_at}
use Rattle.mc_text.proofs.Kept.{count_at, count_some, names_at-line, numbers-more, numbers-none}
use Rattle.mc_text.proofs.Kept.{count_of-line}
use Rattle.mc_circuit.specs.Roles.{is_defining, is_input, is_output}
use Rattle.mc_gates.specs.Gates.{Op, OpsFit}
use Rattle.mc_gates_text.specs.Words.{arity, is_gate, op_with}
use Rattle.mc_gates_text.specs.Roles.{may_follow, role_of, operand, output, surplus}
use Rattle.mc_gates_text.specs.Value.{op_in}
use Rattle.mc_gates_text.specs.Judge.{lacks_by}
use Rattle.mc_gates_text.specs.Kept.{State, IsKept, Ends, is_closed}
use Rattle.mc_gates_text.proofs.Tables.{arity_few, gate_role, makes_op, no_op, op_fits}
use Rattle.mc_gates_text.proofs.Tables.{ops_fit-append}
use Rattle.mc_gates_text.proofs.Distinct.{numbers_under, numbers_distinct}
use Rattle.mc_gates_text.proofs.Keeping.{closed_head}

pub last_head-more : (before : Lines) (here : Words)
    → last_head (before ++ here ∷ []) ≡ head_in here
last_head-more before here =
    fold-append (λ (last : Option Head) (line : Words). head_in line) None before (here ∷ [])

-- the operation of a line
filter_one : (f : Words → Option Op) (here : Words) (o : Option Op) → f here ≡ o
    → filter_map f (here ∷ []) ≡ option_to_list (f here)
filter_one f here None e = rw e refl
filter_one f here (Some g) e = rw e refl

op_by : (names : List Name) (h : List ℕ) (words : Words) (qs : List ℕ) (t : Bool)
    → is_gate (head_of h) ≡ t
    → AreNumbers names (if is_gate (head_of h) then words else []) qs
    → op_in names (h ∷ words) ≡ op_with (head_of h) qs
op_by names h words qs true e are =
    let are' : AreNumbers names words qs = rw e at are in
    ap (op_with (head_of h)) (sym are'.numbers_are)
op_by names h words qs false e are =
    no_op (head_of h) (map (number_in names) words) e ∙ sym (no_op (head_of h) qs e)

op_here : (names : List Name) (before : Lines) (here : Words) (p : Point) (qs : List ℕ)
    → p ≡ point_of before here → AreNumbers names (names_in is_gate here) qs
    → op_in names here ≡ op_with p.head qs
op_here names before [] p qs e are = rw e refl
op_here names before (h ∷ words) p qs e are =
    rw (e, head_at before (h ∷ words)) (op_by names h words qs (is_gate (head_of h)) refl are)

ops_more : (names : List Name) (before : Lines) (here : Words) (p : Point) (qs : List ℕ)
    → p ≡ point_of before here → AreNumbers names (names_in is_gate here) qs
    → filter_map (op_in names) (before ++ here ∷ [])
    ≡ filter_map (op_in names) before ++ option_to_list (op_with p.head qs)
ops_more names before here p qs e are =
    filter_map-append (op_in names) before (here ∷ [])
    ∙ ap (λ (gs : List Op). filter_map (op_in names) before ++ gs)
    (filter_one (op_in names) here (op_in names here) refl
    ∙ ap option_to_list (op_here names before here p qs e are))

fits_one : (n : ℕ) (h : Option Head) (names list : List Name) (qs : List ℕ) (o : Option Op)
    → op_with h qs ≡ o → n ≡ length names → AreNumbers names list qs → IsDistinct name_eq list
    → OpsFit n (option_to_list o)
fits_one n h names list qs None e long are apart = tt
fits_one n h names list qs (Some g) e long are apart = (
  op_fits n h qs g e (rw long (numbers_under names list qs are))
      (numbers_distinct names list qs are apart),
  tt,
)

-- a line of a gate has one, where nothing is against its end
whole_by : (names listed : List Name) (n m : ℕ) (t : Bool) → nat_le n m ≡ t
    → lacks_by names listed (if nat_le n m then operand else surplus) ≡ None → m < n
whole_by names listed n m true e clean = let clean' = rw e at clean in absurd (cc clean')
whole_by names listed n m false e clean = grind (arith, nat_tests)

whole_line : (names listed : List Name) (p : Point) → (p.count == 0) ≡ false
    → is_gate p.head ≡ true → lacks_by names listed (role_of p) ≡ None → arity p.head < p.count
whole_line names listed p some gate clean =
    let role : role_of p ≡ (if nat_le p.count (arity p.head) then operand else surplus) =
    rw some (gate_role p.head p.count gate) in
    whole_by names listed p.count (arity p.head) (nat_le p.count (arity p.head)) refl
    (rw role at clean)

made_one : (head h : Option Head) (qs : List ℕ) → head ≡ h → is_gate h ≡ true
    → length qs ≡ arity h
    → length (option_to_list (op_with head qs)) ≡ (if is_gate h then 1 else 0)
made_one head h qs same gate exact =
    let made = makes_op h qs gate exact in
    rw (same, made.1, gate) refl

one_more : (names listed : List Name) (before : Lines) (h : List ℕ) (words : Words) (p : Point)
    (qs : List ℕ) (t : Bool) → is_gate (head_of h) ≡ t → p ≡ point_of before (h ∷ words)
    → lacks_by names listed (role_of p) ≡ None
    → length (names_in is_gate (h ∷ words)) ≤ arity (head_of h)
    → length qs ≡ length (names_in is_gate (h ∷ words))
    → length (option_to_list (op_with p.head qs)) ≡ (if is_gate (head_of h) then 1 else 0)
one_more names listed before h words p qs true gate e clean within long =
    let some : (p.count == 0) ≡ false = ne_eqb p.count 0 (rw e (count_some before h words)) in
    let head : p.head ≡ head_of h = rw e (head_at before (h ∷ words)) in
    let below = whole_line names listed p some (rw head gate) clean in
    let below' : arity (head_of h) < (point_of before (h ∷ words)).count = rw (← e, ← head) below in
    let count = count_at before (h ∷ words) in
    let few = arity_few (head_of h) in
    let within' : length words ≤ arity (head_of h) = rw gate at within in
    let long' : length qs ≡ length words = rw gate at long in
    let exact : length qs ≡ arity (head_of h) = omega (arith, count, below', few, within', long') in
    made_one p.head (head_of h) qs head gate exact
one_more names listed before h words p qs false gate e clean within long =
    let head : p.head ≡ head_of h = rw e (head_at before (h ∷ words)) in
    rw (head, no_op (head_of h) qs gate, gate) refl

one_line : (names listed : List Name) (before : Lines) (here : Words) (p : Point) (qs : List ℕ)
    → p ≡ point_of before here → lacks_by names listed (role_of p) ≡ None
    → length (names_in is_gate here) ≤ arity (head_in here)
    → length qs ≡ length (names_in is_gate here)
    → length (option_to_list (op_with p.head qs)) ≡ begun is_gate here
one_line names listed before [] p qs e clean within long = rw e refl
one_line names listed before (h ∷ words) p qs e clean within long =
    one_more names listed before h words p qs (is_gate (head_of h)) refl e clean within long

few_by : (here : Words) (n : ℕ) (t : Bool) → is_gate (head_in here) ≡ t → n ≤ 32768
    → (is_gate (head_in here) ≡ true → n < 32768) → n + begun is_gate here ≤ 32768
few_by [] n t e few room = omega arith
few_by (h ∷ words) n true e few room = let less = room e in rw e (omega arith)
few_by (h ∷ words) n false e few room = rw e (omega arith)

-- the outputs are whole
listed_by : (listed names : List Name) (t : Bool) → list_all (is_held listed) names ≡ t
    → lacks_by names listed output ≡ None → t ≡ true
listed_by listed names true e clean = refl
listed_by listed names false e clean = let clean' = rw e at clean in absurd (cc clean')

complete_line : (k : State) (before : Lines) (here : Words) (p : Point) → IsKept k before here
    → p ≡ point_of before here
    → lacks_by k.names (names_at is_output before here) (role_of p) ≡ None
    → is_closed (head_in here) ≡ true
    → list_all (is_held (names_at is_output before here)) k.names ≡ true
complete_line k before [] p h e clean closed = absurd (cc closed)
complete_line k before (w ∷ words) p h e clean closed =
    elim (closed_head (head_of w) closed) [
      | inl out ↦
          let listed = names_at is_output before (w ∷ words) in
          let head : p.head ≡ Some Out = rw (e, head_at before (w ∷ words)) out in
          let some = ne_eqb p.count 0 (rw e (count_some before w words)) in
          let clean' : lacks_by k.names listed output ≡ None = rw (some, head) at clean in
          listed_by listed k.names (list_all (is_held listed) k.names) refl clean'
      | inr end ↦
          let follows : may_follow (last_head before) (Some End) ≡ true = rw end at h.order in
          h.complete (ends_behind (last_head before) follows)
    ]
  where
    ends_behind : (last : Option Head) → may_follow last (Some End) ≡ true → is_closed last ≡ true
    ends_behind None f = absurd (cc f)
    ends_behind (Some In) f = absurd (cc f)
    ends_behind (Some Plus) f = absurd (cc f)
    ends_behind (Some Out) f = refl
    ends_behind (Some _) f = absurd (cc f)

-- so many operations stand before, with those of the line
counted : (n m d : ℕ) (before : Lines) (here : Words) → m ≡ n + d
    → n ≡ count_of is_gate before [] → d ≡ begun is_gate here
    → count_of is_gate (before ++ here ∷ []) [] ≡ count_of is_gate before here
    → m ≡ count_of is_gate (before ++ here ∷ []) []
counted n m d before here sizes earlier made line = omega (arith, sizes, earlier, made, line)

pub line_kept : (k k' : State) (before : Lines) (here : Words) (p : Point) → IsKept k before here
    → p ≡ point_of before here
    → lacks_by k.names (names_at is_output before here) (role_of p) ≡ None → Ends k k' p
    → IsKept k' (before ++ here ∷ []) []
unfolding IsDistinct
line_kept k k' before here p h e clean m =
    let listed = names_at is_output before here in
    let qs = k.operands in
    let one = option_to_list (op_with p.head qs) in
    let long : length qs ≡ length (names_in is_gate here) =
    ap length h.operands.numbers_are ∙ length-map (names_in is_gate here) (number_in k.names) in
    let made : length one ≡ begun is_gate here =
    one_line k.names listed before here p qs e clean h.within long in
    let sizes : length k'.ops ≡ length k.ops + length one =
    ap length m.ops ∙ length-append k.ops one in
    let line : count_of is_gate (before ++ here ∷ []) [] ≡ count_of is_gate before here =
    count_of-line is_gate before here in
    let few = few_by here (length k.ops) (is_gate (head_in here)) refl h.few h.room in
    record {
      names = m.names ∙ h.names ∙ sym (names_at-line is_defining before here);
      inputs = m.inputs ∙ h.inputs ∙ ap length (sym (names_at-line is_input before here));
      outputs = rw (m.names, m.outputs, names_at-line is_output before here) h.outputs;
      distinct = rw (names_at-line is_output before here) h.distinct;
      operands = rw m.operands (numbers-none k'.names);
      apart = tt;
      within = omega arith;
      ops = λ more.
          m.ops
          ∙ ap (λ (gs : List Op). gs ++ one) (rw m.names (h.ops more))
          ∙ sym (ops_more (k'.names ++ more) before here p qs e
          (rw m.names (numbers-more k.names more (names_in is_gate here) qs h.operands)));
      fits = rw (m.ops, m.names) (ops_fit-append (length k.names) k.ops one
          h.fits
          (fits_one (length k.names) p.head k.names (names_in is_gate here) qs
          (op_with p.head qs) refl refl h.operands h.apart));
      count = counted (length k.ops) (length k'.ops) (length one) before here sizes
          h.count made line;
      few = rw (sizes, made) few;
      room = λ gate. absurd (cc gate);
      order = refl;
      complete = λ closed.
          let closed' = rw (last_head-more before here) at closed in
          rw (m.names, names_at-line is_output before here)
          (complete_line k before here p h e clean closed');
    }
