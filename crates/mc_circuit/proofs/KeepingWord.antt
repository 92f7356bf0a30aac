-- A word with nothing against it is kept.
use Rattle.std.proofs.Common.{◌≡◌, ℕ, ◌<◌, ◌≤◌, List, [], ◌∷◌, ◌++◌, Bool, true, false, Option}
use Rattle.std.proofs.Common.{Some, None, length, refl, sym, ◌∙◌, append_assoc, length-append}
use Rattle.std.proofs.Common.{arith, ◌==◌, nat_le}
use Rattle.std.specs.List.{list_all}
use Rattle.std.proofs.lemmas.Bool.{eq-eqb, eqb-true, true≢false}
use Rattle.std.proofs.lemmas.Bool.Decides.{nat_tests}
use Rattle.std.proofs.lemmas.List.{append-nil}
use Rattle.mc_model.specs.Names.{is_held, place_of}
use Rattle.mc_model.specs.Pattern as plain
use Rattle.mc_model.specs.Pattern.{J, CZ}
use Rattle.mc_model.specs.Valid.{GatesFit}
use Rattle.mc_text.specs.declared.head.Head.{Head}
use Rattle.mc_text.specs.declared.head.Head.TheVariants.{End}
use Rattle.mc_text.specs.declared.point.Point.{Point}
use Rattle.mc_text.specs.Heads.{head_of, head_in}
use Rattle.mc_text.specs.Points.{point_of, last_head}
use Rattle.mc_text.specs.Judged.{Words, Lines}
use Rattle.mc_text.specs.Rules.{number_in, AreNumbers}
use Rattle.mc_text.specs.Lists.{names_at, added, operand_at, next_operand}
use Rattle.mc_text.proofs.Going.{head_at}
use Rattle.mc_text.proofs.Kept.{names_at-word, added_none, place-more, number_in-more, numbers-more}
use Rattle.mc_text.proofs.Kept.{operand_at-word}
use Rattle.mc_circuit.specs.declared.reader.Reader.{Reader}
use Rattle.mc_circuit.specs.Roles.{may_follow, role_of, record_word, is_defining, is_input, is_gate}
use Rattle.mc_circuit.specs.Roles.{is_output}
use Rattle.mc_circuit.specs.Judge.{judge_by}
use Rattle.mc_circuit.specs.Kept.{IsKept, Moves, opens, is_closed}
use Rattle.mc_circuit.proofs.Keeping.{stands_at, gate_more, outputs_more, distinct_more}
use Rattle.mc_circuit.proofs.Keeping.{behind_closed}

-- gates fit on more wires
GatesFit-more : (wires wires' : ℕ) (gs : List plain.Gate) → wires ≤ wires' → GatesFit wires gs
    → GatesFit wires' gs
GatesFit-more wires wires' [] more h = tt
GatesFit-more wires wires' (J v a ∷ gs) more h =
    let v' = h.0 in (omega arith, GatesFit-more wires wires' gs more h.1)
GatesFit-more wires wires' (CZ v u ∷ gs) more h =
    let v' = h.0 in
    let u' = h.1 in
    (omega arith, omega arith, h.2, GatesFit-more wires wires' gs more h.3)

-- a record word with nothing against it
follows_by : (last : Option Head) (word : List ℕ) (gates : ℕ) (t : Bool)
    → may_follow last (head_of word) ≡ t → judge_by [] [] None gates last record_word word ≡ None
    → t ≡ true
follows_by last word gates true e clean = refl
follows_by last word gates false e clean = let clean' = rw e at clean in absurd (cc clean')

room_by : (last : Option Head) (word : List ℕ) (gates : ℕ) (t : Bool)
    → may_follow last (head_of word) ≡ true → nat_le 32768 gates ≡ t
    → judge_by [] [] None gates last record_word word ≡ None → is_gate (head_of word) ≡ true
    → gates < 32768
room_by last word gates true e f clean gate =
    let clean' = rw (e, gate, f) at clean in absurd (cc clean')
room_by last word gates false e f clean gate = grind (arith, nat_tests)

-- the record word of the line, the first word of it
order_more : {half : ℕ} (k : Reader half) (before : Lines) (here : Words) (p : Point) (word : List ℕ)
    → IsKept k before here → p ≡ point_of before here
    → judge_by k.names (names_at is_output before here) (operand_at 0 is_gate here)
    (length k.gates.items) p.last (role_of p) word ≡ None
    → opens (last_head before) (here ++ word ∷ []) ≡ true
order_more k before [] p word h e clean =
    let clean' = rw e at clean in
    follows_by (last_head before) word (length k.gates.items)
    (may_follow (last_head before) (head_of word)) refl clean'
order_more k before (w ∷ words) p word h e clean = h.order

room_more : {half : ℕ} (k : Reader half) (before : Lines) (here : Words) (p : Point) (word : List ℕ)
    → IsKept k before here → p ≡ point_of before here
    → judge_by k.names (names_at is_output before here) (operand_at 0 is_gate here)
    (length k.gates.items) p.last (role_of p) word ≡ None
    → is_gate (head_in (here ++ word ∷ [])) ≡ true → length k.gates.items < 32768
room_more k before [] p word h e clean gate =
    let clean' = rw e at clean in
    let follows = follows_by (last_head before) word (length k.gates.items)
    (may_follow (last_head before) (head_of word)) refl clean' in
    room_by (last_head before) word (length k.gates.items) (nat_le 32768 (length k.gates.items))
    follows refl clean' gate
room_more k before (w ∷ words) p word h e clean gate = h.room gate

-- behind the outputs no word is a name
added_closed : (test : Option Head → Bool) (before : Lines) (here : Words) (p : Point)
    (word : List ℕ) → test (Some End) ≡ false → p ≡ point_of before here
    → opens (last_head before) here ≡ true → is_closed (last_head before) ≡ true
    → added test p word ≡ []
added_closed test before [] p word not_end e order closed = rw e refl
added_closed test before (h ∷ words) p word not_end e order closed =
    let end = (behind_closed (last_head before) (head_of h) closed order).1 in
    added_none test p word (rw (e, head_at before (h ∷ words), end) not_end)

complete_more : {half : ℕ} (k k' : Reader half) (before : Lines) (here : Words) (p : Point)
    (word : List ℕ) → IsKept k before here → p ≡ point_of before here → Moves k k' p word
    → is_closed (last_head before) ≡ true
    → list_all (is_held (names_at is_output before (here ++ word ∷ []))) k'.names ≡ true
complete_more k k' before here p word h e m closed =
    let defined = added_closed is_defining before here p word refl e h.order closed in
    let listed = added_closed is_output before here p word refl e h.order closed in
    rw (
      m.names,
      names_at-word is_output before here p word e,
      defined,
      listed,
      append-nil k.names,
      append-nil (names_at is_output before here),
    ) (h.complete closed)

-- the first operand
operand_gate : (n : ℕ) (test : Option Head → Bool) (here : Words) (a : List ℕ)
    → operand_at n test here ≡ Some a → test (head_in here) ≡ true
operand_gate n test [] a e = absurd (cc e)
operand_gate n test (h ∷ words) a e = by_test (test (head_of h)) refl
  where
    by_test : (t : Bool) → test (head_of h) ≡ t → t ≡ true
    by_test true f = refl
    by_test false f = let e' = rw f at e in absurd (cc e')

operand_more : {half : ℕ} (k k' : Reader half) (before : Lines) (here : Words) (p : Point)
    (word : List ℕ) (t s : Bool) → IsKept k before here → p ≡ point_of before here
    → Moves k k' p word → (p.count == 1) ≡ t → is_gate p.head ≡ s → (a : List ℕ)
    → next_operand 0 is_gate p (operand_at 0 is_gate here) word ≡ Some a
    → place_of k'.names a ≡ Some k'.operand
operand_more k k' before here p word true true h e m one gate a is =
    let is' = rw (one, gate) at is in
    let same : word ≡ a = cc is' in
    rw (← same) (m.operand (eqb-true p.count 1 one) gate)
operand_more k k' before here p word true false h e m one gate a is =
    let is' : operand_at 0 is_gate here ≡ Some a = rw (one, gate) at is in
    let head = operand_gate 0 is_gate here a is' in
    absurd (true≢false (sym head ∙ rw (← head_at before here, ← e) gate))
operand_more k k' before here p word false s h e m one gate a is =
    let is' : operand_at 0 is_gate here ≡ Some a = rw one at is in
    let same = m.same_operand (λ two. true≢false (sym (eq-eqb p.count 1 two) ∙ one)) in
    rw (m.names, same) (place-more k.names (added is_defining p word) a k.operand (h.operand a is'))

pub word_kept : {half : ℕ} (k k' : Reader half) (before : Lines) (here : Words) (p : Point)
    (word : List ℕ) → IsKept k before here → p ≡ point_of before here → Moves k k' p word
    → (judge_by k.names (names_at is_output before here) (operand_at 0 is_gate here)
    (length k.gates.items) p.last (role_of p) word ≡ None)
    × IsKept k' before (here ++ word ∷ [])
word_kept {half} k k' before here p word h e m =
    let listed = names_at is_output before here in
    let stands = stands_at k before here p h e in
    let clean = m.clean listed (operand_at 0 is_gate here) stands in
    let more_names = added is_defining p word in
    let all_names = names_at-word is_defining before here p word e in
    let all_listed = names_at-word is_output before here p word e in
    let longer : length k.names ≤ length k'.names = rw (m.names, length-append) (omega arith) in
    let next : next_operand 0 is_gate p (operand_at 0 is_gate here) word
    ≡ operand_at 0 is_gate (here ++ word ∷ []) =
    rw e (operand_at-word 0 is_gate before here word (omega arith)) in
    let numbers : AreNumbers k'.names listed k.outputs.items =
    rw m.names (numbers-more k.names more_names listed k.outputs.items h.outputs) in
    let wire : (more : List (List ℕ)) (a : List ℕ) → operand_at 0 is_gate here ≡ Some a
    → number_in (k'.names ++ more) a ≡ k.operand = λ more a is.
    let place = place-more k.names more_names a k.operand (h.operand a is) in
    rw m.names (number_in-more (k.names ++ more_names) more a k.operand place) in (
      clean,
      record {
        names = m.names ∙ rw h.names (sym all_names);
        inputs =
            m.inputs
            ∙ rw (h.inputs, names_at-word is_input before here p word e)
            (sym (length-append (names_at is_input before here) (added is_input p word)));
        outputs = rw all_listed
            (outputs_more k'.names listed k.outputs.items k'.outputs.items word (p.count == 0)
            (is_output p.head) numbers m.outputs);
        distinct = rw all_listed
            (distinct_more k.names listed (operand_at 0 is_gate here) (length k.gates.items) p word
            (p.count == 0) (is_output p.head) refl refl clean h.distinct);
        operand = λ a is.
            operand_more k k' before here p word (p.count == 1) (is_gate p.head) h e m refl refl a
            (next ∙ is);
        gate = λ more.
            m.gate more
            ∙ gate_more half (k'.names ++ more) before here p k.operand word e (wire more);
        gates = λ more.
            rw (m.gates, m.names, append_assoc k.names more_names more)
            (h.gates (more_names ++ more));
        gate_fits = m.gate_fits listed (operand_at 0 is_gate here) stands;
        fits = record {
          fit = rw m.gates (GatesFit-more (length k.names) (length k'.names) _ longer h.fits.fit);
          angles = rw m.gates h.fits.angles;
        };
        few = rw m.gates h.few;
        room = λ gate. rw m.gates (room_more k before here p word h e clean gate);
        order = order_more k before here p word h e clean;
        complete = λ closed. complete_more k k' before here p word h e m closed;
      },
    )
