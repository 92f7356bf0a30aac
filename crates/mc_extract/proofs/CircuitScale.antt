-- The scale of the extracted circuit: the vertices that are no inputs, and two for each fixed
-- correction.
use Rattle.std.proofs.Common.{◌≡◌, ℕ, zero, suc, ◌+◌, ◌-◌, ◌*◌, Bool, true, false, cond, not, ◌&&◌}
use Rattle.std.proofs.Common.{map, length, List, [], ◌∷◌, ◌++◌, refl, sym, ◌∙◌, ap, arith}
use Rattle.std.specs.Prelude.{nat_lt, filter, flat_map, is_none}
use Rattle.std.proofs.lemmas.List.{length-map, length-append}
use Rattle.mc_model.specs.Bits.{Bits}
use Rattle.mc_model.specs.Numbers.{numbers_from, numbers_where}
use Rattle.mc_model.specs.Signals.{one_signal}
use Rattle.mc_model.specs.Pattern.{Command, FixX, FixZ, Gate, J, CZ, Circuit, wires}
use Rattle.mc_model.specs.Amplitude.{j_count, circuit_scale}
use Rattle.mc_model.specs.Graph.{Edge, OpenGraph, size, is_output, base_angle, fixed_at}
use Rattle.mc_model.specs.Graph.{IsOpenGraph, corrections_at, fixed_corrections}
use Rattle.mc_model.specs.Flow.{IsCausalFlow, single, depth_of}
use Rattle.mc_model.specs.Made.{measuring_order, is_first, is_current, wire_of, cz_gate, gates_at}
use Rattle.mc_model.specs.Made.{fixed_gates, extracted_gates, extracted_circuit}
use Rattle.mc_model.specs.Graph.{joins}
use Rattle.mc_model.proofs.NumberLists.{numbers_where-last, numbers_where-same, numbers_where-none}
use Rattle.mc_model.proofs.NumberLists.{member_once}
use Rattle.mc_model.proofs.AnyOrder.{same_length}
use Rattle.mc_make.proofs.OrderLists.{order_falls}
use Rattle.mc_extract.proofs.ValidCircuits.{extracted_valid}

-- ---- numbers below a bound

-- those that pass a test and those that do not
split_length : (p : Bits) (n : ℕ) →
    length (numbers_where p n) + length (numbers_where (λ k. not (p k)) n) ≡ n
split_length p zero = refl
split_length p (suc n) =
    let old = split_length p n in
    let a = ap length (numbers_where-last p n) in
    let b = ap length (numbers_where-last (λ k. not (p k)) n) in
    let c = length-append (numbers_where p n) (cond (p n) (n ∷ []) []) in
    let d = length-append (numbers_where (λ k. not (p k)) n) (cond (not (p n)) (n ∷ []) []) in
    let e = one (p n) in
    omega arith
  where
    one : (b : Bool) →
        length (cond b (n ∷ []) []) + length (cond (not b) (n ∷ []) []) ≡ 1
    one true = refl
    one false = refl

all_length : (n : ℕ) → length (numbers_where (λ k. true) n) ≡ n
all_length n =
    let whole = split_length (λ k. true) n in
    let none = ap length (numbers_where-none (λ k. false) n (λ k l. refl)) in
    omega arith

-- ---- the gates `J`

j_count-append : (gs hs : List Gate) → j_count (gs ++ hs) ≡ j_count gs + j_count hs
unfolding j_count
j_count-append [] hs = omega arith
j_count-append (J v a ∷ gs) hs = let h = j_count-append gs hs in omega arith
j_count-append (CZ v u ∷ gs) hs = j_count-append gs hs

one_cz : (t : Bool) (v w : ℕ) (gs : List Gate) →
    j_count (cond t (CZ v w) (CZ w v) ∷ gs) ≡ j_count gs
unfolding j_count
one_cz true v w gs = refl
one_cz false v w gs = refl

no_j : (g : OpenGraph) (next : ℕ → ℕ) (u : ℕ) (ks : List ℕ) →
    j_count (map (cz_gate g next u) ks) ≡ 0
unfolding j_count
no_j g next u [] = refl
no_j g next u (k ∷ ks) =
    one_cz (nat_lt k u) (wire_of g next k) (wire_of g next u) (map (cz_gate g next u) ks)
    ∙ no_j g next u ks

no_first_j : (g : OpenGraph) (next : ℕ → ℕ) (es : List Edge) →
    j_count (map (λ e. cz_gate g next e.one e.other) es) ≡ 0
unfolding j_count
no_first_j g next [] = refl
no_first_j g next (e ∷ es) =
    one_cz (nat_lt e.other e.one) (wire_of g next e.other) (wire_of g next e.one)
    (map (λ d. cz_gate g next d.one d.other) es)
    ∙ no_first_j g next es

-- one for each vertex that is measured
extracted_j : (g : OpenGraph) (next : ℕ → ℕ) (half : ℕ) (done is : List ℕ) →
    j_count (extracted_gates g next half done is) ≡ length is
unfolding extracted_gates j_count
extracted_j g next half done [] = refl
extracted_j g next half done (i ∷ is) =
    let ks : List ℕ =
    numbers_where (λ k. joins g.edges (next i) k && is_current g next (i ∷ done) k) (size g) in
    let czs : List Gate = map (cz_gate g next (next i)) ks in
    let a = j_count-append czs (extracted_gates g next half (i ∷ done) is) in
    let b = no_j g next (next i) ks in
    let c = extracted_j g next half (i ∷ done) is in
    omega arith

two_j : (t : Bool) (w a b : ℕ) (c : Command) →
    j_count (cond t (J w a ∷ J w b ∷ []) []) ≡ 2 * length (cond t (c ∷ []) [])
unfolding j_count
two_j true w a b c = refl
two_j false w a b c = refl

-- two for each fixed correction
fixed_j : (half : ℕ) (g : OpenGraph) (next : ℕ → ℕ) (vs : List ℕ) →
    j_count (flat_map (gates_at half g next) vs) ≡ 2 * length (flat_map (corrections_at g) vs)
unfolding j_count
fixed_j half g next [] = refl
fixed_j half g next (v ∷ vs) =
    let w : ℕ = wire_of g next v in
    let xs : List Gate = cond (fixed_at g v).x (J w 0 ∷ J w half ∷ []) [] in
    let zs : List Gate = cond (fixed_at g v).z (J w half ∷ J w 0 ∷ []) [] in
    let xcs : List Command = cond (fixed_at g v).x (FixX v one_signal ∷ []) [] in
    let zcs : List Command = cond (fixed_at g v).z (FixZ v one_signal ∷ []) [] in
    let whole : j_count ((xs ++ zs) ++ flat_map (gates_at half g next) vs)
    ≡ 2 * length ((xcs ++ zcs) ++ flat_map (corrections_at g) vs) =
    (let a = j_count-append (xs ++ zs) (flat_map (gates_at half g next) vs) in
    let b = j_count-append xs zs in
    let c = length-append (xcs ++ zcs) (flat_map (corrections_at g) vs) in
    let d = length-append xcs zcs in
    let e = two_j (fixed_at g v).x w 0 half (FixX v one_signal) in
    let f = two_j (fixed_at g v).z w half 0 (FixZ v one_signal) in
    let h = fixed_j half g next vs in
    omega arith) in
    whole

-- ---- the circuit

module _ (g : OpenGraph) (next layer : ℕ → ℕ) (valid : IsOpenGraph g)
    (flow : IsCausalFlow g next layer) (half : ℕ) where
  -- a gate `J` for each vertex that is measured, and two for each fixed correction
  circuit_j : j_count (extracted_circuit half g next layer).gates
      ≡ length (numbers_where (λ v. not (is_output g v)) (size g))
      + 2 * length (fixed_corrections g)
  unfolding extracted_circuit fixed_gates fixed_corrections
  circuit_j =
      let order : List ℕ = measuring_order g layer (depth_of g layer) in
      let es : List Edge = filter (λ e. is_first g next e.one && is_first g next e.other) g.edges in
      let firsts : List Gate = map (λ e. cz_gate g next e.one e.other) es in
      let rest : List Gate = extracted_gates g next half [] order in
      let fixes : List Gate = fixed_gates half g next in
      let a = j_count-append firsts (rest ++ fixes) in
      let b = j_count-append rest fixes in
      let c = no_first_j g next es in
      let d = extracted_j g next half [] order in
      let e : j_count fixes ≡ 2 * length (fixed_corrections g) =
      fixed_j half g next (numbers_from 0 (size g)) in
      let once = (order_falls g (λ i. single (next i)) layer flow).each_once in
      let f = same_length (size g) (λ v. not (is_output g v)) order once in
      omega arith

  -- a wire for each output
  circuit_wires : wires (extracted_circuit half g next layer) ≡ length g.outputs
  unfolding extracted_circuit
  circuit_wires =
      let c : Circuit = extracted_circuit half g next layer in
      let once = (extracted_valid g next layer valid flow half).outputs in
      let a = same_length (wires c) (λ v. true) c.outputs once in
      let b = all_length (wires c) in
      let d = length-map g.outputs (wire_of g next) in
      omega arith

  outputs_length : length g.outputs + length (numbers_where (λ v. not (is_output g v)) (size g))
      ≡ size g
  outputs_length =
      let a =
      same_length (size g) (λ v. is_none (base_angle g v)) g.outputs valid.outputs in
      let b = ap length (numbers_where-same (λ v. is_none (base_angle g v)) (is_output g) (size g)
      (λ v l. sym (member_once g.outputs v (is_none (base_angle g v)) (valid.outputs.once v l)))) in
      let c = split_length (is_output g) (size g) in
      omega arith

  inputs_kept : (extracted_circuit half g next layer).inputs ≡ g.inputs
  unfolding extracted_circuit
  inputs_kept = refl

  pub extracted_scale : circuit_scale (extracted_circuit half g next layer)
      ≡ (size g - g.inputs) + 2 * length (fixed_corrections g)
  extracted_scale =
      let c : Circuit = extracted_circuit half g next layer in
      let a = circuit_j in
      let b = circuit_wires in
      let d = outputs_length in
      let few = (extracted_valid g next layer valid flow half).inputs in
      let same = inputs_kept in
      omega arith
