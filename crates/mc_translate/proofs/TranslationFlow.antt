-- The causal flow of the graph of a translation.
use Rattle.std.proofs.Common.{◌≡◌, ◌≢◌, ℕ, zero, suc, ◌+◌, ◌-◌, ◌<◌, ◌≤◌, Bool, true, false}
use Rattle.std.proofs.Common.{cond}
use Rattle.std.proofs.Common.{◌&&◌, ◌||◌, not, List, [], ◌∷◌, ◌++◌, length, map, refl, sym, ◌∙◌, ap}
use Rattle.std.proofs.Common.{ap₂, append_assoc, append-nil, length-append, arith}
use Rattle.std.specs.Prelude.{nat_eq}
use Rattle.std.proofs.lemmas.Bool.{eq-eqb, ne_eqb, eqb-true, le-ltb, not-true, not-false, or_parts}
use Rattle.std.proofs.lemmas.Bool.{cases_Bool, cases_eq, true≢false, false≢true}
use mathlib.Core.Path.{subst}
use mathlib.Core.Logic.{inl, inr}
use Rattle.mc_model.specs.Names.{Name, with_fresh, fresh_name}
use Rattle.mc_model.specs.Bits.{◌⊻◌, Bits, same_pair}
use Rattle.mc_model.specs.Pattern.{Command, Ent, Gate, J, CZ, Circuit, wires}
use Rattle.mc_model.specs.Amplitude.{j_count}
use Rattle.mc_model.specs.Valid.{measured, GatesFit, IsValidCircuit}
use Rattle.mc_model.specs.Translation.{moved, translated, last_qubits, preparations, translation}
use Rattle.mc_model.specs.StandardForm.{is_edge}
use Rattle.mc_model.specs.Graph.{OpenGraph, size, is_input, is_output, joins, graph_of}
use Rattle.mc_model.specs.Flow.{CorrectsAt, IsFlow, IsCausalFlow, single}
use Rattle.mc_model.proofs.PreparationLemmas.{measured-preparations}
use Rattle.mc_model.proofs.ValidLemmas.{measured-append}
use Rattle.mc_model.proofs.Refutation.{odd_of_single}
use Rattle.mc_translate.specs.Steps.{j_commands, StandApart, IsStanding}
use Rattle.mc_model.proofs.NumberLists.{member_once}
use Rattle.mc_model.proofs.PairLemmas.{pair_ends, is_edge-comm, is_edge-append, joins-pairs}
use Rattle.mc_translate.proofs.WireQubits.{moved_same, moved_other, moved_apart, numbers_apart}
use Rattle.mc_translate.proofs.WireQubits.{standing_start, standing_cz, standing_j}
use Rattle.mc_translate.proofs.Outputs.{outputs_listed}

-- ---- the next qubit

-- the qubit that is prepared when `q` is measured, or, where it is not, the number of all qubits
next_qubit : List Gate → (ℕ → ℕ) → ℕ → ℕ → ℕ
next_qubit [] at next q = next
next_qubit (J v a ∷ gs) at next q =
    cond (nat_eq q (at v)) next (next_qubit gs (moved at v next) (suc next) q)
next_qubit (CZ v u ∷ gs) at next q = next_qubit gs at next q

-- the causal flow of a translation: a qubit is corrected by the one that takes its wire over, and
-- its layer is the number of qubits from that one on
abbrev wire_next : Circuit → ℕ → ℕ
wire_next c q = next_qubit c.gates (λ v. v) (wires c) q

abbrev wire_layer : Circuit → ℕ → ℕ
wire_layer c q = wires c + j_count c.gates - wire_next c q

next_least : (gs : List Gate) (at : ℕ → ℕ) (next q : ℕ) → next ≤ next_qubit gs at next q
unfolding next_qubit
next_least [] at next q = omega arith
next_least (J v a ∷ gs) at next q = elim (cases_eq q (at v)) [
  | inl e ↦ rw (eq-eqb q (at v) e) (omega arith)
  | inr ne ↦
      let h = next_least gs (moved at v next) (suc next) q in
      rw (ne_eqb q (at v) ne) (omega arith)
]
next_least (CZ v u ∷ gs) at next q = next_least gs at next q

-- it is a later qubit
next_above : (wires : ℕ) (gs : List Gate) (at : ℕ → ℕ) (next q : ℕ) → GatesFit wires gs →
    StandApart wires at next → q < next + j_count gs → q < next_qubit gs at next q
unfolding next_qubit j_count
next_above wires [] at next q fit st lt = omega arith
next_above wires (J v a ∷ gs) at next q fit st lt = elim (cases_eq q (at v)) [
  | inl e ↦ rw (eq-eqb q (at v) e) (let below = st.below v fit.0 in omega arith)
  | inr ne ↦
      rw (ne_eqb q (at v) ne)
      (next_above wires gs (moved at v next) (suc next) q fit.1 (moved_apart wires at next v st)
      (omega arith))
]
next_above wires (CZ v u ∷ gs) at next q fit st lt = next_above wires gs at next q fit.3 st lt

-- that of a qubit which is not measured is the number of all
next_of_last : (half : ℕ) (gs : List Gate) (at : ℕ → ℕ) (next q : ℕ) →
    measured (translated half gs at next) q ≡ false → next_qubit gs at next q ≡ next + j_count gs
unfolding next_qubit translated measured j_count
next_of_last half [] at next q free = omega arith
next_of_last half (J v a ∷ gs) at next q free =
    let parts = or_parts (nat_eq q (at v)) _ free in
    let h = next_of_last half gs (moved at v next) (suc next) q parts.1 in
    rw parts.0 (omega arith)
next_of_last half (CZ v u ∷ gs) at next q free = next_of_last half gs at next q free

next_of_measured : (half : ℕ) (gs : List Gate) (at : ℕ → ℕ) (next q : ℕ) →
    measured (translated half gs at next) q ≡ true → next_qubit gs at next q < next + j_count gs
unfolding next_qubit translated measured j_count
next_of_measured half [] at next q gone = absurd (false≢true gone)
next_of_measured half (J v a ∷ gs) at next q gone = elim (cases_eq q (at v)) [
  | inl e ↦ rw (eq-eqb q (at v) e) (omega arith)
  | inr ne ↦
      let h =
      next_of_measured half gs (moved at v next) (suc next) q (rw (ne_eqb q (at v) ne) at gone) in
      rw (ne_eqb q (at v) ne) (omega arith)
]
next_of_measured half (CZ v u ∷ gs) at next q gone = next_of_measured half gs at next q gone

-- no two measured qubits have the same
next_apart : (gs : List Gate) (at : ℕ → ℕ) (next q r : ℕ) →
    next_qubit gs at next q ≡ next_qubit gs at next r →
    next_qubit gs at next r < next + j_count gs → q ≡ r
unfolding next_qubit j_count
next_apart [] at next q r e lt = absurd (omega arith)
next_apart (CZ v u ∷ gs) at next q r e lt = next_apart gs at next q r e lt
next_apart (J v a ∷ gs) at next q r e lt =
    let at' : ℕ → ℕ = moved at v next in
    let low = next_least gs at' (suc next) q in
    let below = next_least gs at' (suc next) r in
    elim (cases_eq q (at v)) [
      | inl eq ↦ elim (cases_eq r (at v)) [
        | inl er ↦ eq ∙ sym er
        | inr nr ↦
            let same = rw (eq-eqb q (at v) eq, ne_eqb r (at v) nr) at e in absurd (omega arith)
      ]
      | inr nq ↦ elim (cases_eq r (at v)) [
        | inl er ↦
            let same = rw (ne_eqb q (at v) nq, eq-eqb r (at v) er) at e in absurd (omega arith)
        | inr nr ↦
            let same = rw (ne_eqb q (at v) nq, ne_eqb r (at v) nr) at e in
            let few = rw (ne_eqb r (at v) nr) at lt in
            next_apart gs at' (suc next) q r same (omega arith)
      ]
    ]

-- ---- edges

first_no_pair : (i j q r : ℕ) → (i ≡ q → ⊥) → (i ≡ r → ⊥) → same_pair i j q r ≡ false
first_no_pair i j q r nq nr = rw (ne_eqb i q nq, ne_eqb i r nr) refl

second_no_pair : (i j q r : ℕ) → (j ≡ q → ⊥) → (j ≡ r → ⊥) → same_pair i j q r ≡ false
second_no_pair i j q r nq nr =
    rw (ne_eqb j q nq, ne_eqb j r nr) (and_none (nat_eq i q) (nat_eq i r))
  where
    and_none : (a b : Bool) → (a && false) || (b && false) ≡ false
    and_none a b = grind arith

-- the qubit stands for no wire
abbrev StandsForNone : ℕ → (ℕ → ℕ) → ℕ → Type 0
StandsForNone wires at q = (w : ℕ) → w < wires → at w ≡ q → ⊥

none_moved : (wires : ℕ) (at : ℕ → ℕ) (v next q : ℕ) → q < next →
    ((w : ℕ) → w < wires → (w ≡ v → ⊥) → at w ≡ q → ⊥) → StandsForNone wires (moved at v next) q
none_moved wires at v next q lt none w lw e = elim (cases_eq w v) [
  | inl ew ↦
      let k : moved at v next w ≡ next = ap (moved at v next) ew ∙ moved_same at v next in
      absurd (omega arith)
  | inr nw ↦ none w lw nw (sym (moved_other at v next w nw) ∙ e)
]

-- such a qubit gets no further edge
no_further_edge : (half wires : ℕ) (gs : List Gate) (at : ℕ → ℕ) (next q r : ℕ) →
    GatesFit wires gs → q < next → StandsForNone wires at q →
    is_edge (translated half gs at next) q r ≡ false
unfolding translated is_edge
no_further_edge half wires [] at next q r fit lt none = refl
no_further_edge half wires (J v a ∷ gs) at next q r fit lt none =
    ap₂ (λ (b c : Bool). b ⊻ c)
    (first_no_pair q r (at v) next (λ e. none v fit.0 (sym e)) (λ e. absurd (omega arith)))
    (no_further_edge half wires gs (moved at v next) (suc next) q r fit.1 (omega arith)
    (none_moved wires at v next q lt (λ w lw nw. none w lw)))
no_further_edge half wires (CZ v u ∷ gs) at next q r fit lt none =
    ap₂ (λ (b c : Bool). b ⊻ c)
    (first_no_pair q r (at v) (at u) (λ e. none v fit.0 (sym e)) (λ e. none u fit.1 (sym e)))
    (no_further_edge half wires gs at next q r fit.3 lt none)

-- a qubit that was measured stands for none
old_stands_for_none : (wires : ℕ) (at : ℕ → ℕ) (next v : ℕ) → StandApart wires at next →
    v < wires → StandsForNone wires (moved at v next) (at v)
old_stands_for_none wires at next v st lv =
    none_moved wires at v next (at v) (st.below v lv) (λ w lw nw e. nw (st.apart w v lw lv e))

-- a measured qubit is joined with its next
joined_with_next : (half wires : ℕ) (gs : List Gate) (at : ℕ → ℕ) (next q : ℕ) →
    GatesFit wires gs → StandApart wires at next →
    measured (translated half gs at next) q ≡ true →
    is_edge (translated half gs at next) q (next_qubit gs at next q) ≡ true
unfolding translated is_edge measured next_qubit
joined_with_next half wires [] at next q fit st gone = absurd (false≢true gone)
joined_with_next half wires (J v a ∷ gs) at next q fit st gone =
    let at' : ℕ → ℕ = moved at v next in
    let below = st.below v fit.0 in
    elim (cases_eq q (at v)) [
      | inl e ↦
          let none : StandsForNone wires at' q =
          subst (StandsForNone wires at') (sym e) (old_stands_for_none wires at next v st fit.0) in
          let rest : is_edge (translated half gs at' (suc next)) q next ≡ false =
          no_further_edge half wires gs at' (suc next) q next fit.1 (omega arith) none in
          rw (eq-eqb q (at v) e, eq-eqb next next refl, rest) refl
      | inr ne ↦
          let low = next_least gs at' (suc next) q in
          let to : ℕ = next_qubit gs at' (suc next) q in
          let apart : same_pair q to (at v) next ≡ false =
          second_no_pair q to (at v) next (λ e. absurd (omega arith)) (λ e. absurd (omega arith)) in
          let rest : List Command = translated half gs at' (suc next) in
          let here : cond (nat_eq q (at v)) next to ≡ to =
          ap (λ (b : Bool). cond b next to) (ne_eqb q (at v) ne) in
          subst (λ (r : ℕ). same_pair q r (at v) next ⊻ is_edge rest q r ≡ true) (sym here)
          (ap₂ (λ (b c : Bool). b ⊻ c) apart
          (joined_with_next half wires gs at' (suc next) q fit.1 (moved_apart wires at next v st)
          (rw (ne_eqb q (at v) ne) at gone)))
    ]
joined_with_next half wires (CZ v u ∷ gs) at next q fit st gone =
    let low = next_least gs at next q in
    let one = st.below v fit.0 in
    let two = st.below u fit.1 in
    let to : ℕ = next_qubit gs at next q in
    ap₂ (λ (b c : Bool). b ⊻ c)
    (second_no_pair q to (at v) (at u) (λ e. absurd (omega arith)) (λ e. absurd (omega arith)))
    (joined_with_next half wires gs at next q fit.3 st gone)

-- what a qubit is joined with is no later than its next
joined_within : (half wires : ℕ) (gs : List Gate) (at : ℕ → ℕ) (next q r : ℕ) →
    GatesFit wires gs → StandApart wires at next →
    is_edge (translated half gs at next) q r ≡ true → r ≤ next_qubit gs at next q
unfolding translated is_edge next_qubit
joined_within half wires [] at next q r fit st e = absurd (false≢true e)
joined_within half wires (J v a ∷ gs) at next q r fit st e =
    let at' : ℕ → ℕ = moved at v next in
    let below = st.below v fit.0 in
    let low = next_least gs at' (suc next) q in
    elim (cases_Bool (same_pair q r (at v) next)) [
      | inl s ↦ elim (pair_ends q r (at v) next s) [
        | inl h ↦ rw (eq-eqb q (at v) h.0) (let f = h.1 in omega arith)
        | inr h ↦
            let f = h.1 in
            let g = h.0 in
            rw (ne_eqb q (at v) (λ d. absurd (omega arith))) (omega arith)
      ]
      | inr s ↦
          let rest : is_edge (translated half gs at' (suc next)) q r ≡ true = rw s at e in
          elim (cases_eq q (at v)) [
            | inl d ↦
                let none : StandsForNone wires at' q =
                subst (StandsForNone wires at') (sym d)
                (old_stands_for_none wires at next v st fit.0) in
                absurd (true≢false (sym rest
                ∙ no_further_edge half wires gs at' (suc next) q r fit.1 (omega arith) none))
            | inr nq ↦
                rw (ne_eqb q (at v) nq)
                (joined_within half wires gs at' (suc next) q r fit.1
                (moved_apart wires at next v st) rest)
          ]
    ]
joined_within half wires (CZ v u ∷ gs) at next q r fit st e =
    let low = next_least gs at next q in
    let one = st.below v fit.0 in
    let two = st.below u fit.1 in
    elim (cases_Bool (same_pair q r (at v) (at u))) [
      | inl s ↦ elim (pair_ends q r (at v) (at u) s) [
        | inl h ↦ (let f = h.1 in omega arith)
        | inr h ↦ (let f = h.1 in omega arith)
      ]
      | inr s ↦ joined_within half wires gs at next q r fit.3 st (rw s at e)
    ]

-- ---- the qubits at the end

pub standing_behind : (half wires next inputs : ℕ) (at : ℕ → ℕ) (cs : List Command)
    (gs : List Gate) →
    GatesFit wires gs → IsStanding wires next at inputs cs →
    IsStanding wires (next + j_count gs) (last_qubits gs at next) inputs
    (cs ++ translated half gs at next)
unfolding translated last_qubits j_count
standing_behind half wires next inputs at cs [] fit h =
    let none : next ≡ next + 0 = omega arith in
    subst (λ (n : ℕ). IsStanding wires n at inputs (cs ++ [])) none
    (subst (IsStanding wires next at inputs) (sym (append-nil cs)) h)
standing_behind half wires next inputs at cs (J v a ∷ gs) fit h =
    let at' : ℕ → ℕ = moved at v next in
    let one : suc next + j_count gs ≡ next + suc (j_count gs) = omega arith in
    let made : List Command = j_commands half (at v) next a in
    subst (λ (n : ℕ). IsStanding wires n (last_qubits gs at' (suc next)) inputs
    (cs ++ (made ++ translated half gs at' (suc next)))) one
    (subst (IsStanding wires (suc next + j_count gs) (last_qubits gs at' (suc next)) inputs)
    (append_assoc cs made (translated half gs at' (suc next)))
    (standing_behind half wires (suc next) inputs at' (cs ++ made) gs fit.1
    (standing_j wires next inputs at cs half v a fit.0 h)))
standing_behind half wires next inputs at cs (CZ v u ∷ gs) fit h =
    subst (IsStanding wires (next + j_count gs) (last_qubits gs at next) inputs)
    (append_assoc cs (Ent (at v) (at u) ∷ []) (translated half gs at next))
    (standing_behind half wires next inputs at (cs ++ (Ent (at v) (at u) ∷ [])) gs fit.3
    (standing_cz wires next inputs at cs (at v) (at u) h))

no_early_edge : (q n i j : ℕ) → is_edge (preparations q n) i j ≡ false
unfolding is_edge preparations
no_early_edge q zero i j = refl
no_early_edge q (suc n) i j = no_early_edge (suc q) n i j

pub length-with_fresh : (n : ℕ) (names : List Name) → length (with_fresh n names) ≡ length names + n
length-with_fresh zero names = omega arith
length-with_fresh (suc n) names =
    let one = length-append names (fresh_name names ∷ []) in
    let rest = length-with_fresh n (names ++ fresh_name names ∷ []) in
    omega arith

-- ---- the flow

-- the translation of the gates
abbrev gate_commands : ℕ → Circuit → List Command
gate_commands half c = translated half c.gates (λ v. v) (wires c)

size_of : (half : ℕ) (c : Circuit) →
    size (graph_of half (translation half c)) ≡ wires c + j_count c.gates
unfolding graph_of translation
size_of half c = length-with_fresh (j_count c.gates) c.names

is_joined : (half : ℕ) (c : Circuit) (v w : ℕ) → v < size (graph_of half (translation half c)) →
    w < size (graph_of half (translation half c)) → v ≢ w →
    joins (graph_of half (translation half c)).edges v w ≡ is_edge (gate_commands half c) v w
unfolding graph_of translation
is_joined half c v w lv lw ne =
    let early : List Command = preparations c.inputs (wires c - c.inputs) in
    joins-pairs (is_edge (early ++ gate_commands half c))
    (λ i j. is_edge-comm (early ++ gate_commands half c) i j)
    (length (with_fresh (j_count c.gates) c.names)) v w lv lw ne
    ∙ is_edge-append early (gate_commands half c) v w
    ∙ ap (λ (b : Bool). b ⊻ is_edge (gate_commands half c) v w)
    (no_early_edge c.inputs (wires c - c.inputs) v w)

is_unmeasured : (half : ℕ) (c : Circuit) → IsValidCircuit c → (v : ℕ) →
    v < wires c + j_count c.gates →
    is_output (graph_of half (translation half c)) v ≡ not (measured (gate_commands half c) v)
unfolding graph_of translation
is_unmeasured half c valid v lt =
    let n : ℕ = wires c in
    let early : List Command = preparations c.inputs (n - c.inputs) in
    let last : ℕ → ℕ = last_qubits c.gates (λ u. u) n in
    let standing = standing_behind half n n c.inputs (λ u. u) early c.gates valid.gates
    (standing_start n c.inputs valid.inputs) in
    let listed = outputs_listed n (n + j_count c.gates) last c.inputs
    (early ++ gate_commands half c) c.outputs standing valid.outputs in
    member_once (map last c.outputs) v (not (measured (early ++ gate_commands half c) v))
    (listed.once v lt)
    ∙ ap not (measured-append early (gate_commands half c) v
    ∙ ap (λ (b : Bool). b || measured (gate_commands half c) v)
    (measured-preparations c.inputs (n - c.inputs) v))

no_input_from : (half : ℕ) (c : Circuit) → IsValidCircuit c → (v : ℕ) → wires c ≤ v →
    is_input (graph_of half (translation half c)) v ≡ false
unfolding graph_of translation
no_input_from half c valid v le = le-ltb v c.inputs (let h = valid.inputs in omega arith)

corrected_by_next : (half : ℕ) (c : Circuit) → IsValidCircuit c → (i : ℕ) →
    i < size (graph_of half (translation half c)) →
    is_output (graph_of half (translation half c)) i ≡ false →
    CorrectsAt (graph_of half (translation half c)) (single (wire_next c i)) (wire_layer c) i
corrected_by_next half c valid i lt no_output =
    let n : ℕ = wires c in
    let gs : List Gate = c.gates in
    let g : OpenGraph = graph_of half (translation half c) in
    let apart = numbers_apart n in
    let total = size_of half c in
    let gone : measured (gate_commands half c) i ≡ true =
    not-false _ (sym (is_unmeasured half c valid i (omega arith)) ∙ no_output) in
    let next : ℕ = wire_next c i in
    let high : next < n + j_count gs = next_of_measured half gs (λ v. v) n i gone in
    let low : n ≤ next = next_least gs (λ v. v) n i in
    let there : next < size g = omega arith in
    let after : (k : ℕ) → k ≡ next → wire_layer c k < wire_layer c i = λ k e.
    let more = next_above n gs (λ v. v) n k valid.gates apart (omega arith) in omega arith in
    record {
      within = λ k e. let f = eqb-true k next e in omega arith;
      no_input = λ k e.
          let f = eqb-true k next e in no_input_from half c valid k (omega arith);
      not_itself =
          let more = next_above n gs (λ v. v) n i valid.gates apart (omega arith) in
          ne_eqb i next (λ e. absurd (omega arith));
      odd_itself =
          let more = next_above n gs (λ v. v) n i valid.gates apart (omega arith) in
          odd_of_single g next i there
          ∙ is_joined half c i next lt there (λ e. absurd (omega arith))
          ∙ joined_with_next half n gs (λ v. v) n i valid.gates apart gone;
      set_later = λ k e. after k (eqb-true k next e);
      odd_later = λ k l ne e. elim (cases_eq k next) [
        | inl same ↦ after k same
        | inr other ↦
            let joined =
            sym (is_joined half c k next l there other) ∙ sym (odd_of_single g next k there) ∙ e in
            let least = joined_within half n gs (λ v. v) n k next valid.gates apart joined in
            elim (cases_eq (wire_next c k) next) [
              | inl same ↦ absurd (ne (next_apart gs (λ v. v) n k i same high))
              | inr differs ↦ omega arith
            ]
      ];
    }

wires_flow : (half : ℕ) (c : Circuit) → IsValidCircuit c →
    IsCausalFlow (graph_of half (translation half c)) (wire_next c) (wire_layer c)
wires_flow half c valid = record {
  outputs = λ v lt e.
      let total = size_of half c in
      let free = is_unmeasured half c valid v (omega arith) in
      let last = next_of_last half c.gates (λ u. u) (wires c) v (not-true _ (sym free ∙ e)) in
      omega arith;
  positive = λ i lt e.
      let total = size_of half c in
      let free = is_unmeasured half c valid i (omega arith) in
      let last = next_of_measured half c.gates (λ u. u) (wires c) i (not-false _ (sym free ∙ e)) in
      omega arith;
  corrects = corrected_by_next half c valid;
}

pub translation_causal_flow : (half : ℕ) (c : Circuit) → IsValidCircuit c →
    (next : ℕ → ℕ) × (layer : ℕ → ℕ) × IsCausalFlow (graph_of half (translation half c)) next layer
translation_causal_flow half c valid = (wire_next c, wire_layer c, wires_flow half c valid)

pub translation_flow : (half : ℕ) (c : Circuit) → IsValidCircuit c →
    (sets : ℕ → Bits) × (layer : ℕ → ℕ) × IsFlow (graph_of half (translation half c)) sets layer
translation_flow half c valid =
    (λ i. single (wire_next c i), wire_layer c, wires_flow half c valid)
