-- The end of a line with nothing against it is kept.
use Rattle.std.proofs.Common.{◌≡◌, ℕ, ◌<◌, ◌≤◌, List, [], ◌∷◌, ◌++◌, Bool, true, false, Option}
use Rattle.std.proofs.Common.{Some, None, length, map, refl, sym, ap, ◌∙◌, length-append, arith}
use Rattle.std.proofs.Common.{ne_eqb, inl, inr}
use Rattle.std.specs.List.{filter_map, list_all}
use Rattle.std.specs.Option.{option_map, option_to_list}
use Rattle.std.proofs.lemmas.List.{append-nil, map-append}
use Rattle.std.proofs.lemmas.List.Elements.{filter_map-append}
use Rattle.std.proofs.lemmas.List.Sums.{fold-append}
use Rattle.mc_model.specs.Names.{is_held}
use Rattle.mc_model.specs.Pattern as plain
use Rattle.mc_text.specs.declared.head.Head.{Head}
use Rattle.mc_text.specs.declared.head.Head.TheVariants.{J, Cz, Out, End}
use Rattle.mc_text.specs.declared.point.Point.{Point}
use Rattle.mc_text.specs.Heads.{head_of, head_in}
use Rattle.mc_text.specs.Points.{point_of, last_head}
use Rattle.mc_text.specs.Judged.{Words, Lines}
use Rattle.mc_text.specs.Lists.{names_at}
use Rattle.mc_text.proofs.Going.{head_at}
use Rattle.mc_text.proofs.Kept.{count_some, names_at-line}
use Rattle.mc_circuit.specs.declared.gate.Gate.{Gate}
use Rattle.mc_circuit.specs.declared.reader.Reader.{Reader}
use Rattle.mc_circuit.specs.Gates.{plain_gate}
use Rattle.mc_circuit.specs.Roles.{may_follow, role_of, output, is_defining, is_input, is_gate}
use Rattle.mc_circuit.specs.Roles.{is_output}
use Rattle.mc_circuit.specs.Value.{Spelled, spelled_by, spelled_gate, spelled_gates, gate_by}
use Rattle.mc_circuit.specs.Judge.{lacks_by}
use Rattle.mc_circuit.specs.Kept.{IsKept, Ends, is_closed}
use Rattle.mc_circuit.proofs.Building.{GatesFit-append, AnglesFit-append}
use Rattle.mc_circuit.proofs.Keeping.{closed_head}

pub last_head-more : (before : Lines) (here : Words)
    → last_head (before ++ here ∷ []) ≡ head_in here
last_head-more before here =
    fold-append (λ (last : Option Head) (line : Words). head_in line) None before (here ∷ [])

-- the gates of the lines with one more
line_gates : {half : ℕ} (f : Spelled → plain.Gate) (gate : Option (Gate half)) (here : Words)
    (o : Option Spelled) → spelled_gate here ≡ o → option_map (plain_gate {h = half}) gate ≡ option_map f o
    → map f (filter_map spelled_gate (here ∷ [])) ≡ map (plain_gate {h = half}) (option_to_list gate)
line_gates f None here None e same = rw e refl
line_gates f None here (Some s) e same = absurd (cc same)
line_gates f (Some g) here None e same = absurd (cc same)
line_gates {half} f (Some g) here (Some s) e same =
    let one : plain_gate {h = half} g ≡ f s = cc same in
    rw (e, one) refl

gates_more : {half : ℕ} (f : Spelled → plain.Gate) (gates : List (Gate half))
    (gate : Option (Gate half)) (before : Lines) (here : Words)
    → map (plain_gate {h = half}) gates ≡ map f (spelled_gates before)
    → option_map (plain_gate {h = half}) gate ≡ option_map f (spelled_gate here)
    → map (plain_gate {h = half}) (gates ++ option_to_list gate)
    ≡ map f (spelled_gates (before ++ here ∷ []))
gates_more {half} f gates gate before here all one =
    let line = line_gates f gate here (spelled_gate here) refl one in
    map-append (plain_gate {h = half}) gates (option_to_list gate)
    ∙ rw (
      filter_map-append spelled_gate before (here ∷ []),
      map-append f (spelled_gates before) (filter_map spelled_gate (here ∷ [])),
      all,
      line,
    ) refl

-- a line with a gate is a line of gates
spelled_line : (here : Words) (s : Spelled) → spelled_gate here ≡ Some s
    → is_gate (head_in here) ≡ true
spelled_line [] s e = absurd (cc e)
spelled_line (h ∷ []) s e = absurd (cc e)
spelled_line (h ∷ a ∷ []) s e = absurd (cc e)
spelled_line (h ∷ a ∷ b ∷ []) s e = by_head (head_of h) e
  where
    by_head : (head : Option Head) → spelled_by head a b ≡ Some s → is_gate head ≡ true
    by_head None f = absurd (cc f)
    by_head (Some J) f = refl
    by_head (Some Cz) f = refl
    by_head (Some _) f = absurd (cc f)
spelled_line (h ∷ a ∷ b ∷ c ∷ words) s e = absurd (cc e)

few_more : {half : ℕ} (f : Spelled → plain.Gate) (gates : List (Gate half))
    (gate : Option (Gate half)) (here : Words) (o : Option Spelled) → spelled_gate here ≡ o
    → option_map (plain_gate {h = half}) gate ≡ option_map f o → length gates ≤ 32768
    → (is_gate (head_in here) ≡ true → length gates < 32768)
    → length (gates ++ option_to_list gate) ≤ 32768
few_more f gates None here o e same few room = rw (append-nil gates) few
few_more f gates (Some g) here None e same few room = absurd (cc same)
few_more f gates (Some g) here (Some s) e same few room =
    let less = room (spelled_line here s e) in
    rw (length-append gates (g ∷ [])) (omega arith)

-- the outputs are whole
whole_by : (listed names : List (List ℕ)) (t : Bool) → list_all (is_held listed) names ≡ t
    → lacks_by names listed output ≡ None → t ≡ true
whole_by listed names true e clean = refl
whole_by listed names false e clean = let clean' = rw e at clean in absurd (cc clean')

complete_line : {half : ℕ} (k : Reader half) (before : Lines) (here : Words) (p : Point)
    → IsKept k before here → p ≡ point_of before here
    → lacks_by k.names (names_at is_output before here) (role_of p) ≡ None
    → is_closed (head_in here) ≡ true
    → list_all (is_held (names_at is_output before here)) k.names ≡ true
complete_line k before [] p h e clean closed = absurd (cc closed)
complete_line k before (w ∷ words) p h e clean closed =
    elim (closed_head (head_of w) closed) [
      | inl out ↦
          let listed = names_at is_output before (w ∷ words) in
          let head : p.head ≡ Some Out = rw (e, head_at before (w ∷ words)) out in
          let some = ne_eqb p.count 0 (rw e (count_some before w words)) in
          let clean' : lacks_by k.names listed output ≡ None = rw (some, head) at clean in
          whole_by listed k.names (list_all (is_held listed) k.names) refl clean'
      | inr end ↦
          let follows : may_follow (last_head before) (Some End) ≡ true = rw end at h.order in
          h.complete (ends_behind (last_head before) follows)
    ]
  where
    ends_behind : (last : Option Head) → may_follow last (Some End) ≡ true → is_closed last ≡ true
    ends_behind None f = absurd (cc f)
    ends_behind (Some Out) f = refl
    ends_behind (Some _) f = absurd (cc f)

pub line_kept : {half : ℕ} (k k' : Reader half) (before : Lines) (here : Words) (p : Point)
    → IsKept k before here → p ≡ point_of before here → Ends k k' p
    → (lacks_by k.names (names_at is_output before here) (role_of p) ≡ None)
    × IsKept k' (before ++ here ∷ []) []
line_kept {half} k k' before here p h e m =
    let clean = m.clean (names_at is_output before here) h.outputs in
    let same_gates = λ (more : List (List ℕ)). gates_more (gate_by half (k.names ++ more))
    k.gates.items k.gate before here (h.gates more) (h.gate more) in
    let gates = map (plain_gate {h = half}) k.gates.items in
    let gate = map (plain_gate {h = half}) (option_to_list k.gate) in
    let both = map-append (plain_gate {h = half}) k.gates.items (option_to_list k.gate) in (
      clean,
      record {
        names = m.names ∙ h.names ∙ sym (names_at-line is_defining before here);
        inputs = m.inputs ∙ h.inputs ∙ ap length (sym (names_at-line is_input before here));
        outputs = rw (m.names, m.outputs, names_at-line is_output before here) h.outputs;
        distinct = rw (names_at-line is_output before here) h.distinct;
        operand = λ a none. absurd (cc none);
        gate = λ more. rw m.gate refl;
        gates = λ more. rw (m.gates, m.names) (same_gates more);
        gate_fits = rw m.gate (record { fit = tt; angles = tt });
        fits = rw (m.gates, m.names, both) (record {
          fit = GatesFit-append (length k.names) gates gate h.fits.fit h.gate_fits.fit;
          angles = AnglesFit-append half gates gate h.fits.angles h.gate_fits.angles;
        });
        few = rw m.gates (few_more (gate_by half (k.names ++ [])) k.gates.items k.gate here
            (spelled_gate here) refl (h.gate []) h.few h.room);
        room = λ gate. absurd (cc gate);
        order = refl;
        complete = λ closed.
            let closed' = rw (last_head-more before here) at closed in
            rw (m.names, names_at-line is_output before here)
            (complete_line k before here p h e clean closed');
      },
    )
