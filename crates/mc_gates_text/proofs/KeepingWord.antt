-- A word with nothing against it is kept.
use Rattle.std.proofs.Common.{◌≡◌, ℕ, ◌+◌, ◌<◌, ◌≤◌, List, [], ◌∷◌, ◌++◌, Bool, true, false}
use Rattle.std.proofs.Common.{Option, Some, None, length, refl, sym, ◌∙◌, append_assoc}
use Rattle.std.proofs.Common.{length-append, arith, ◌==◌, nat_le, ne_eqb}
use Rattle.std.specs.List.{list_all}
use Rattle.std.proofs.lemmas.Bool.Decides.{nat_tests}
use Rattle.std.proofs.lemmas.List.{append-nil}
use Rattle.mc_model.specs.Names.{is_held}
use Rattle.mc_text.specs.declared.head.Head.{Head}
use Rattle.mc_text.specs.declared.head.Head.TheVariants.{End}
use Rattle.mc_text.specs.declared.point.Point.{Point}
use Rattle.mc_text.specs.Heads.{head_of, head_in}
use Rattle.mc_text.specs.Points.{point_of, last_head}
use Rattle.mc_text.specs.Judged.{Words, Lines}
use Rattle.mc_text.specs.Rules.{AreNumbers}
use Rattle.mc_text.specs.Lists.{names_in, names_at, added}
use Rattle.mc_text.proofs.Going.{head_at}
use Rattle.mc_text.proofs.Kept.{names_at-word, added_none, numbers-more, count_at, count_some}
use Rattle.mc_circuit.specs.Roles.{is_defining, is_input, is_output}
use Rattle.mc_gates_text.specs.Words.{arity, is_gate}
use Rattle.mc_gates_text.specs.Roles.{may_follow, role_of, record_word}
use Rattle.mc_gates_text.specs.Judge.{judge_by}
use Rattle.mc_gates_text.specs.Kept.{State, IsKept, Moves, opens, is_closed}
use Rattle.mc_gates_text.proofs.Tables.{arity_few, ops_fit-more}
use Rattle.mc_gates_text.proofs.Keeping.{listed_more, distinct_more, apart_more}
use Rattle.mc_gates_text.proofs.Keeping.{behind_closed, operand_clean, names_in-word}

-- a record word with nothing against it
follows_by : (last : Option Head) (word : List ℕ) (gates : ℕ) (t : Bool)
    → may_follow last (head_of word) ≡ t
    → judge_by [] [] [] gates last record_word word ≡ None → t ≡ true
follows_by last word gates true e clean = refl
follows_by last word gates false e clean = let clean' = rw e at clean in absurd (cc clean')

room_by : (last : Option Head) (word : List ℕ) (gates : ℕ) (t : Bool)
    → may_follow last (head_of word) ≡ true → nat_le 32768 gates ≡ t
    → judge_by [] [] [] gates last record_word word ≡ None → is_gate (head_of word) ≡ true
    → gates < 32768
room_by last word gates true e f clean gate =
    let clean' = rw (e, gate, f) at clean in absurd (cc clean')
room_by last word gates false e f clean gate = grind (arith, nat_tests)

-- the record word of the line, the first word of it
order_more : (k : State) (before : Lines) (here : Words) (p : Point) (word : List ℕ)
    → IsKept k before here → p ≡ point_of before here
    → judge_by k.names (names_at is_output before here) (names_in is_gate here)
    (length k.ops) p.last (role_of p) word ≡ None
    → opens (last_head before) (here ++ word ∷ []) ≡ true
order_more k before [] p word h e clean =
    let clean' = rw e at clean in
    follows_by (last_head before) word (length k.ops)
    (may_follow (last_head before) (head_of word)) refl clean'
order_more k before (w ∷ words) p word h e clean = h.order

room_more : (k : State) (before : Lines) (here : Words) (p : Point) (word : List ℕ)
    → IsKept k before here → p ≡ point_of before here
    → judge_by k.names (names_at is_output before here) (names_in is_gate here)
    (length k.ops) p.last (role_of p) word ≡ None
    → is_gate (head_in (here ++ word ∷ [])) ≡ true → length k.ops < 32768
room_more k before [] p word h e clean gate =
    let clean' = rw e at clean in
    let follows = follows_by (last_head before) word (length k.ops)
    (may_follow (last_head before) (head_of word)) refl clean' in
    room_by (last_head before) word (length k.ops) (nat_le 32768 (length k.ops))
    follows refl clean' gate
room_more k before (w ∷ words) p word h e clean gate = h.room gate

-- behind the outputs no word is a name
added_closed : (test : Option Head → Bool) (before : Lines) (here : Words) (p : Point)
    (word : List ℕ) → test (Some End) ≡ false → p ≡ point_of before here
    → opens (last_head before) here ≡ true → is_closed (last_head before) ≡ true
    → added test p word ≡ []
added_closed test before [] p word not_end e order closed = rw e refl
added_closed test before (h ∷ words) p word not_end e order closed =
    let end = (behind_closed (last_head before) (head_of h) closed order).1 in
    added_none test p word (rw (e, head_at before (h ∷ words), end) not_end)

complete_more : (k k' : State) (before : Lines) (here : Words) (p : Point) (word : List ℕ)
    → IsKept k before here → p ≡ point_of before here → Moves k k' p word
    → is_closed (last_head before) ≡ true
    → list_all (is_held (names_at is_output before (here ++ word ∷ []))) k'.names ≡ true
complete_more k k' before here p word h e m closed =
    let defined = added_closed is_defining before here p word refl e h.order closed in
    let listed = added_closed is_output before here p word refl e h.order closed in
    rw (
      m.names,
      names_at-word is_output before here p word e,
      defined,
      listed,
      append-nil k.names,
      append-nil (names_at is_output before here),
    ) (h.complete closed)

-- the operands are no more than the gate word has
within_by : (h : List ℕ) (words : Words) (word : List ℕ) (t : Bool) → is_gate (head_of h) ≡ t
    → (t ≡ true → length words + 1 ≤ arity (head_of h))
    → length (names_in is_gate (h ∷ (words ++ word ∷ []))) ≤ arity (head_of h)
within_by h words word false e fit = rw e (omega arith)
within_by h words word true e fit =
    let few = fit refl in
    rw (e, length-append words (word ∷ [])) few

none_first : (word : List ℕ) (t : Bool) → is_gate (head_of word) ≡ t
    → length (names_in is_gate (word ∷ [])) ≤ arity (head_of word)
none_first word true e = rw e (omega arith)
none_first word false e = rw e (omega arith)

within_more : (k : State) (before : Lines) (here : Words) (p : Point) (word : List ℕ)
    → p ≡ point_of before here
    → judge_by k.names (names_at is_output before here) (names_in is_gate here)
    (length k.ops) p.last (role_of p) word ≡ None
    → length (names_in is_gate (here ++ word ∷ [])) ≤ arity (head_in (here ++ word ∷ []))
within_more k before [] p word e clean = none_first word (is_gate (head_of word)) refl
within_more k before (h ∷ words) p word e clean =
    let count = count_at before (h ∷ words) in
    let some : (p.count == 0) ≡ false = ne_eqb p.count 0 (rw e (count_some before h words)) in
    let head : p.head ≡ head_of h = rw e (head_at before (h ∷ words)) in
    within_by h words word (is_gate (head_of h)) refl (λ gate.
    let gate' : is_gate p.head ≡ true = rw head gate in
    let below = (operand_clean k.names (names_at is_output before (h ∷ words))
    (names_in is_gate (h ∷ words)) (length k.ops) p word some gate' clean).0 in
    let below' : (point_of before (h ∷ words)).count ≤ arity (head_of h) = rw (← e, ← head) below in
    let few = arity_few (head_of h) in
    omega (arith, count, below', few))

pub word_kept : (k k' : State) (before : Lines) (here : Words) (p : Point) (word : List ℕ)
    → IsKept k before here → p ≡ point_of before here
    → judge_by k.names (names_at is_output before here) (names_in is_gate here)
    (length k.ops) p.last (role_of p) word ≡ None
    → Moves k k' p word → IsKept k' before (here ++ word ∷ [])
word_kept k k' before here p word h e clean m =
    let listed = names_at is_output before here in
    let earlier = names_in is_gate here in
    let more_names = added is_defining p word in
    let all_names = names_at-word is_defining before here p word e in
    let all_listed = names_at-word is_output before here p word e in
    let all_operands = names_in-word is_gate before here p word e in
    let longer : length k.names ≤ length k'.names = rw (m.names, length-append) (omega arith) in
    let outputs : AreNumbers k'.names listed k.outputs =
    rw m.names (numbers-more k.names more_names listed k.outputs h.outputs) in
    let operands : AreNumbers k'.names earlier k.operands =
    rw m.names (numbers-more k.names more_names earlier k.operands h.operands) in
    record {
      names = m.names ∙ rw h.names (sym all_names);
      inputs =
          m.inputs
          ∙ rw (h.inputs, names_at-word is_input before here p word e)
          (sym (length-append (names_at is_input before here) (added is_input p word)));
      outputs = rw all_listed
          (listed_more k'.names listed k.outputs k'.outputs word (p.count == 0)
          (is_output p.head) outputs m.outputs);
      distinct = rw all_listed
          (distinct_more k.names listed earlier (length k.ops) p word
          (p.count == 0) (is_output p.head) refl refl clean h.distinct);
      operands = rw all_operands
          (listed_more k'.names earlier k.operands k'.operands word (p.count == 0)
          (is_gate p.head) operands m.operands);
      apart = rw all_operands
          (apart_more k.names listed earlier (length k.ops) p word
          (p.count == 0) (is_gate p.head) refl refl clean h.apart);
      within = within_more k before here p word e clean;
      ops = λ more.
          rw (m.ops, m.names, append_assoc k.names more_names more)
          (h.ops (more_names ++ more));
      fits = rw m.ops (ops_fit-more (length k.names) (length k'.names) _ longer h.fits);
      count = rw m.ops h.count;
      few = rw m.ops h.few;
      room = λ gate. rw m.ops (room_more k before here p word h e clean gate);
      order = order_more k before here p word h e clean;
      complete = λ closed. complete_more k k' before here p word h e m closed;
    }
