-- At outcomes 0 the pattern of a graph does exactly what the standard form of its source does.
use Rattle.std.proofs.Common.{◌≡◌, ℕ, zero, suc, ◌+◌, ◌-◌, ◌*◌, ◌%◌, ◌≤◌, Bool, true, false, cond}
use Rattle.std.proofs.Common.{not, ◌&&◌, map, length, List, [], ◌∷◌, ◌++◌, refl, sym, ◌∙◌, ap, ap₂}
use Rattle.std.proofs.Common.{append-nil, arith}
use Rattle.std.specs.Prelude.{Option, nat_lt, unwrap_or, option_map, flat_map}
use Rattle.std.proofs.Math.Nat.{mod-mod}
use Rattle.std.proofs.lemmas.List.{map-append}
use Rattle.std.proofs.lemmas.List.Concat.{flat_map-append}
use mathlib.Core.Path.{fun_ext}
use Rattle.mc_model.specs.Phase.{PhaseOps, PhaseLaws, turn, sign, negated, measured_angle}
use Rattle.mc_model.specs.Bits.{◌⊻◌, Bits, replaced, parity, all_zero}
use Rattle.mc_model.specs.Numbers.{numbers_from, numbers_where, pairs_at, pairs_below}
use Rattle.mc_model.specs.Signals.{Signal, value, no_signal, one_signal}
use Rattle.mc_model.specs.Pattern.{Command, Prep, Ent, Meas, FixX, FixZ, Pattern}
use Rattle.mc_model.specs.Amplitude.{Amps, act, after, start, amp}
use Rattle.mc_model.specs.Valid.{prepared, measured, IsValidPattern}
use Rattle.mc_model.specs.Translation.{preparations}
use Rattle.mc_model.specs.StandardForm.{is_edge, fix_x, fix_z, corrections_below, measurements_with}
use Rattle.mc_model.specs.StandardForm.{first_sum, second_sum, standard_commands}
use Rattle.mc_model.specs.Graph.{edge, OpenGraph, Fixed, not_fixed, is_output, angle_in}
use Rattle.mc_model.specs.Graph.{turned_angle, graph_of, entanglings, graph_state, bare_measurement}
use Rattle.mc_model.specs.Graph.{where_fixed, corrections_at, fixed_corrections, zero_pattern}
use Rattle.mc_model.proofs.BitLemmas.{xor_false, replaced_itself}
use Rattle.mc_model.proofs.SignalLemmas.{zero_value}
use Rattle.mc_model.proofs.AmplitudeLemmas.{after-append, after-preparations}
use Rattle.mc_model.proofs.OddSums.{and_false}
use Rattle.mc_model.proofs.NumberLists.{numbers_below-last}
use Rattle.mc_model.proofs.AnyOrder.{commands_in_any_order}
use Rattle.mc_model.proofs.ValidInPlace.{InPlace, valid_in_place}
use Rattle.mc_model.proofs.CorrectionsAct.{fix_x_acts, fix_z_acts, preparations_act}
use Rattle.mc_graph.proofs.MeasuredLists.{measured_list, HaveAngles, have_angles, measured_once}
use Rattle.mc_graph.proofs.PatternGraphs.{angle_of_vertex, fixed_of_vertex, measured_vertices}

-- ---- edges

pairs_at_mapped : {A B : Type 0} (f : A → B) (make : ℕ → ℕ → A) (p : ℕ → ℕ → Bool) (i j : ℕ) →
    map f (pairs_at make p i j) ≡ pairs_at (λ k l. f (make k l)) p i j
unfolding pairs_at
pairs_at_mapped f make p i zero = refl
pairs_at_mapped f make p i (suc j) =
    map-append f (pairs_at make p i j) (cond (nat_lt i j && p i j) (make i j ∷ []) [])
    ∙ ap₂ (λ (xs ys : List _). xs ++ ys) (pairs_at_mapped f make p i j)
    (one (nat_lt i j && p i j))
  where
    one : (b : Bool) → map f (cond b (make i j ∷ []) []) ≡ cond b (f (make i j) ∷ []) []
    one true = refl
    one false = refl

pairs_mapped : {A B : Type 0} (f : A → B) (make : ℕ → ℕ → A) (p : ℕ → ℕ → Bool) (n m : ℕ) →
    map f (pairs_below make p n m) ≡ pairs_below (λ k l. f (make k l)) p n m
unfolding pairs_below
pairs_mapped f make p n zero = refl
pairs_mapped f make p n (suc m) =
    map-append f (pairs_below make p n m) (pairs_at make p m n)
    ∙ ap₂ (λ (xs ys : List _). xs ++ ys) (pairs_mapped f make p n m)
    (pairs_at_mapped f make p m n)

negated_modulo : (half k : ℕ) → negated half (k % (2 * half) + 0) ≡ negated half k
unfolding negated
negated_modulo half k =
    let e : k % (2 * half) + 0 ≡ k % (2 * half) = omega arith in
    ap (λ (m : ℕ). (2 * half - m % (2 * half)) % (2 * half)) e
    ∙ ap (λ (m : ℕ). (2 * half - m) % (2 * half)) (mod-mod k (2 * half))

module _ {E : Type 0} (ops : PhaseOps E) (laws : PhaseLaws ops) where
  -- ---- measurements at outcomes 0

  turned_measurement : (q a : ℕ) (s t : Signal) (f : Amps E) →
      act ops all_zero (Meas q a s t) f
      ≡ act ops all_zero (Meas q (measured_angle ops.half a s.constant t.constant % (2 * ops.half))
      no_signal no_signal) f
  unfolding act value parity
  turned_measurement q a s t f = fun_ext λ x.
      ap (λ (k : ℕ). ops.add (f (replaced x q false)) (turn ops k (f (replaced x q true))))
      (ap₂ (λ (b c : Bool). negated ops.half (measured_angle ops.half a b c))
      (zero_value s) (zero_value t)
      ∙ sym (negated_modulo ops.half (measured_angle ops.half a s.constant t.constant)))

  -- the measurements of the standard form, and those of the graph in the same order
  measurements_turned : (p : Pattern) (cs : List Command) (f : Amps E) →
      InPlace (length p.names) cs → HaveAngles (angle_in p.commands) cs →
      after ops all_zero
      (measurements_with (first_sum p.commands) (second_sum p.commands) cs) f
      ≡ after ops all_zero (map (bare_measurement (graph_of ops.half p)) (measured_list cs)) f
  unfolding after measurements_with measured_list
  measurements_turned p [] f place angles = refl
  measurements_turned p (Prep q ∷ cs) f place angles =
      measurements_turned p cs f place.2 angles
  measurements_turned p (Ent q r ∷ cs) f place angles =
      measurements_turned p cs f place.2 angles
  measurements_turned p (Meas q a s t ∷ cs) f place angles =
      let g : OpenGraph = graph_of ops.half p in
      let rest : List Command = map (bare_measurement g) (measured_list cs) in
      measurements_turned p cs _ place.2 angles.1
      ∙ ap (after ops all_zero rest)
      (turned_measurement q a (first_sum p.commands q) (second_sum p.commands q) f
      ∙ ap (λ (o : Option ℕ). act ops all_zero (Meas q (unwrap_or o 0) no_signal no_signal) f)
      (sym (angle_of_vertex ops.half p q place.0.0
      ∙ ap (option_map (turned_angle ops.half p.commands q)) angles.0)))
  measurements_turned p (FixX q s ∷ cs) f place angles =
      measurements_turned p cs f place.2 angles
  measurements_turned p (FixZ q s ∷ cs) f place angles =
      measurements_turned p cs f place.2 angles

  -- and by rising number
  measurements_rise : (p : Pattern) (f : Amps E) → IsValidPattern p →
      InPlace (length p.names) p.commands →
      after ops all_zero
      (measurements_with (first_sum p.commands) (second_sum p.commands) p.commands) f
      ≡ after ops all_zero (map (bare_measurement (graph_of ops.half p))
      (numbers_where (λ v. not (is_output (graph_of ops.half p) v)) (length p.names))) f
  measurements_rise p f v place =
      let n : ℕ = length p.names in
      let g : OpenGraph = graph_of ops.half p in
      measurements_turned p p.commands f place (have_angles n p.commands place)
      ∙ commands_in_any_order ops laws all_zero (bare_measurement g)
      (λ i j ne e. ne (sym e)) n (measured p.commands) (measured_list p.commands) f
      (measured_once n p.commands place)
      ∙ ap (λ (qs : List ℕ). after ops all_zero (map (bare_measurement g) qs) f)
      (sym (measured_vertices ops.half p v))

  -- ---- corrections at outcomes 0

  constant_x : (q : ℕ) (c : Bool) (f : Amps E) (x : Bits) →
      f (replaced x q (x q ⊻ c)) ≡ after ops all_zero (cond c (FixX q one_signal ∷ []) []) f x
  unfolding after act value parity
  constant_x q true f x = refl
  constant_x q false f x =
      ap (λ (b : Bool). f (replaced x q b)) (xor_false (x q)) ∙ ap f (replaced_itself x q)

  constant_z : (q : ℕ) (c : Bool) (f : Amps E) (x : Bits) →
      sign ops (x q && c) (f x) ≡ after ops all_zero (cond c (FixZ q one_signal ∷ []) []) f x
  unfolding after act value parity
  constant_z q true f x = refl
  constant_z q false f x = ap (λ (b : Bool). sign ops b (f x)) (and_false (x q))

  fixed_x : (q : ℕ) (s : Signal) (f : Amps E) →
      after ops all_zero (fix_x q s) f
      ≡ after ops all_zero (cond s.constant (FixX q one_signal ∷ []) []) f
  fixed_x q s f = fun_ext λ x.
      fix_x_acts ops all_zero q s f x
      ∙ ap (λ (b : Bool). f (replaced x q (x q ⊻ b))) (zero_value s)
      ∙ constant_x q s.constant f x

  fixed_z : (q : ℕ) (s : Signal) (f : Amps E) →
      after ops all_zero (fix_z q s) f
      ≡ after ops all_zero (cond s.constant (FixZ q one_signal ∷ []) []) f
  fixed_z q s f = fun_ext λ x.
      fix_z_acts ops all_zero q s f x
      ∙ ap (λ (b : Bool). sign ops (x q && b) (f x)) (zero_value s)
      ∙ constant_z q s.constant f x

  fixed_qubit : (gone : Bool) (q : ℕ) (s t : Signal) (f : Amps E) →
      after ops all_zero (cond gone [] (fix_x q s ++ fix_z q t)) f
      ≡ after ops all_zero
      (where_fixed (cond gone not_fixed (record { x = s.constant; z = t.constant }))
      (FixX q one_signal ∷ []) (FixZ q one_signal ∷ [])) f
  fixed_qubit true q s t f = refl
  fixed_qubit false q s t f =
      after-append ops laws all_zero (fix_x q s) (fix_z q t) f
      ∙ ap (after ops all_zero (fix_z q t)) (fixed_x q s f)
      ∙ fixed_z q t _
      ∙ sym (after-append ops laws all_zero (cond s.constant (FixX q one_signal ∷ []) [])
      (cond t.constant (FixZ q one_signal ∷ []) []) f)

  corrections_fixed : (p : Pattern) (m : ℕ) (f : Amps E) → m ≤ length p.names →
      after ops all_zero
      (corrections_below (measured p.commands) (first_sum p.commands) (second_sum p.commands) m) f
      ≡ after ops all_zero
      (flat_map (corrections_at (graph_of ops.half p)) (numbers_from 0 m)) f
  unfolding corrections_below
  corrections_fixed p zero f l = refl
  corrections_fixed p (suc m) f l =
      let cs : List Command = p.commands in
      let s : Signal = first_sum cs m in
      let t : Signal = second_sum cs m in
      let low : List Command = corrections_below (measured cs) (first_sum cs) (second_sum cs) m in
      let each : ℕ → List Command = corrections_at (graph_of ops.half p) in
      after-append ops laws all_zero low (cond (measured cs m) [] (fix_x m s ++ fix_z m t)) f
      ∙ fixed_qubit (measured cs m) m s t (after ops all_zero low f)
      ∙ ap (λ (c : Fixed). after ops all_zero
      (where_fixed c (FixX m one_signal ∷ []) (FixZ m one_signal ∷ [])) (after ops all_zero low f))
      (sym (fixed_of_vertex ops.half p m (omega arith)))
      ∙ ap (after ops all_zero (each m)) (corrections_fixed p m f (omega arith))
      ∙ sym (ap (λ (ds : List Command). after ops all_zero ds f)
      (ap (flat_map each) (numbers_below-last m)
      ∙ flat_map-append each (numbers_from 0 m) (m ∷ [])
      ∙ ap (λ (ds : List Command). flat_map each (numbers_from 0 m) ++ ds) (append-nil (each m)))
      ∙ after-append ops laws all_zero (flat_map each (numbers_from 0 m)) (each m) f)

  -- ---- the whole

  standard_parts : (o : Bits) (inputs n : ℕ) (cs : List Command) (f : Amps E) →
      n ≡ inputs + prepared cs →
      after ops o (standard_commands inputs cs) f
      ≡ after ops o (corrections_below (measured cs) (first_sum cs) (second_sum cs) n)
      (after ops o (measurements_with (first_sum cs) (second_sum cs) cs)
      (after ops o (pairs_below Ent (is_edge cs) n n) f))
  unfolding standard_commands
  standard_parts o inputs n cs f e =
      let m : ℕ = inputs + prepared cs in
      let edges : List Command = pairs_below Ent (is_edge cs) m m in
      let measures : List Command = measurements_with (first_sum cs) (second_sum cs) cs in
      let corrections : ℕ → List Command =
      λ k. corrections_below (measured cs) (first_sum cs) (second_sum cs) k in
      preparations_act ops o cs (edges ++ (measures ++ corrections m)) f
      ∙ after-append ops laws o edges (measures ++ corrections m) f
      ∙ after-append ops laws o measures (corrections m) (after ops o edges f)
      ∙ ap (λ (k : ℕ). after ops o (corrections k)
      (after ops o measures (after ops o (pairs_below Ent (is_edge cs) k k) f))) (sym e)

  pub zero_amplitudes : (p : Pattern) → IsValidPattern p → (b : Bits) →
      amp ops (zero_pattern (graph_of ops.half p)) all_zero b
      ≡ after ops all_zero (standard_commands p.inputs p.commands) (start ops p.inputs b)
  unfolding amp zero_pattern graph_of fixed_corrections
  zero_amplitudes p v b =
      let n : ℕ = length p.names in
      let cs : List Command = p.commands in
      let g : OpenGraph = graph_of ops.half p in
      let f : Amps E = start ops p.inputs b in
      let preps : List Command = preparations p.inputs (n - p.inputs) in
      let bare : List Command =
      map (bare_measurement g) (numbers_where (λ q. not (is_output g q)) n) in
      let last : List Command = fixed_corrections g in
      let edges : List Command = pairs_below Ent (is_edge cs) n n in
      let place : InPlace n cs = valid_in_place p.inputs n [] cs v.commands
      (let e = v.qubits in omega arith) in
      let joined : entanglings g.edges ≡ edges =
      pairs_mapped (λ e. Ent e.one e.other) edge (is_edge cs) n n in
      after-append ops laws all_zero (graph_state g) (bare ++ last) f
      ∙ after-append ops laws all_zero bare last (after ops all_zero (graph_state g) f)
      ∙ ap (λ (h : Amps E). after ops all_zero last (after ops all_zero bare h))
      (after-append ops laws all_zero preps (entanglings g.edges) f
      ∙ ap₂ (λ (ds : List Command) (h : Amps E). after ops all_zero ds h) joined
      (after-preparations ops laws all_zero p.inputs (n - p.inputs) f))
      ∙ sym (standard_parts all_zero p.inputs n cs f v.qubits
      ∙ ap (after ops all_zero (corrections_below (measured cs) (first_sum cs) (second_sum cs) n))
      (measurements_rise p (after ops all_zero edges f) v place)
      ∙ corrections_fixed p n _ (omega arith))
