-- What is made of a graph depends on the layers, sets and nexts of its vertices alone.
use Rattle.std.proofs.Common.{◌≡◌, ℕ, zero, suc, ◌+◌, ◌<◌, Bool, true, false, not, cond, ◌&&◌}
use Rattle.std.proofs.Common.{List, [], ◌∷◌, ◌++◌, map, refl, sym, ap, ap₂, ◌∙◌, arith}
use Rattle.std.specs.Prelude.{nat_eq, fold, max, flat_map}
use Rattle.std.proofs.lemmas.List.Concat.{flat_map-append}
use Rattle.mc_model.specs.Bits.{Bits}
use Rattle.mc_model.specs.Numbers.{numbers_from, numbers_where}
use Rattle.mc_model.specs.Signals.{signal_of}
use Rattle.mc_model.specs.Pattern.{Command, FixX, FixZ}
use Rattle.mc_model.specs.Graph.{OpenGraph, size, is_output, odd_neighbourhood, joins}
use Rattle.mc_model.specs.Graph.{graph_state, bare_measurement, fixed_corrections}
use Rattle.mc_model.specs.Flow.{depth_of}
use Rattle.mc_model.specs.Choice.{SameBelow}
use Rattle.mc_model.specs.Made.{measuring_order, corrected_measurement, flow_pattern}
use Rattle.mc_model.proofs.NumberLists.{numbers_where-last, numbers_where-same}
use Rattle.mc_model.proofs.OddSums.{odd-same}

abbrev pub SameLayers : OpenGraph → (ℕ → ℕ) → (ℕ → ℕ) → Type 0
SameLayers g layer layer' = (v : ℕ) → v < size g → layer v ≡ layer' v

mapped_same : (f h : ℕ → ℕ) (q n : ℕ) → ((k : ℕ) → k < q + n → f k ≡ h k) →
    map f (numbers_from q n) ≡ map h (numbers_from q n)
mapped_same f h q zero e = refl
mapped_same f h q (suc n) e =
    ap₂ (λ (x : ℕ) (xs : List ℕ). x ∷ xs) (e q (omega arith))
    (mapped_same f h (suc q) n (λ k l. e k (omega arith)))

same_depth : (g : OpenGraph) (layer layer' : ℕ → ℕ) → SameLayers g layer layer' →
    depth_of g layer ≡ depth_of g layer'
same_depth g layer layer' same =
    ap (λ (ls : List ℕ). fold max 0 ls)
    (mapped_same layer layer' 0 (size g) (λ k l. same k (omega arith)))

-- the vertices of a layer that are no outputs
abbrev pub in_layer : OpenGraph → (ℕ → ℕ) → ℕ → Bits
in_layer g layer k v = not (is_output g v) && nat_eq (layer v) (suc k)

same_order : (g : OpenGraph) (layer layer' : ℕ → ℕ) → SameLayers g layer layer' → (k : ℕ) →
    measuring_order g layer k ≡ measuring_order g layer' k
unfolding measuring_order
same_order g layer layer' same zero = refl
same_order g layer layer' same (suc k) =
    ap₂ (λ (xs ys : List ℕ). xs ++ ys)
    (numbers_where-same (in_layer g layer k) (in_layer g layer' k) (size g)
    (λ v l. ap (λ (m : ℕ). not (is_output g v) && nat_eq m (suc k)) (same v l)))
    (same_order g layer layer' same k)

pub same_whole_order : (g : OpenGraph) (layer layer' : ℕ → ℕ) → SameLayers g layer layer' →
    measuring_order g layer (depth_of g layer) ≡ measuring_order g layer' (depth_of g layer')
same_whole_order g layer layer' same =
    same_order g layer layer' same (depth_of g layer)
    ∙ ap (measuring_order g layer') (same_depth g layer layer' same)

flat_if : {A : Type 0} (f h : ℕ → List A) (n : ℕ) (b : Bool) → (b ≡ true → f n ≡ h n) →
    flat_map f (cond b (n ∷ []) []) ≡ flat_map h (cond b (n ∷ []) [])
flat_if f h n true e = ap (λ xs. xs ++ []) (e refl)
flat_if f h n false e = refl

flat_where : {A : Type 0} (f h : ℕ → List A) (p : Bits) (n : ℕ) →
    ((k : ℕ) → k < n → p k ≡ true → f k ≡ h k) →
    flat_map f (numbers_where p n) ≡ flat_map h (numbers_where p n)
flat_where f h p zero e = refl
flat_where f h p (suc n) e =
    ap (flat_map f) (numbers_where-last p n)
    ∙ flat_map-append f (numbers_where p n) (cond (p n) (n ∷ []) [])
    ∙ ap₂ (λ xs ys. xs ++ ys) (flat_where f h p n (λ k l. e k (omega arith)))
    (flat_if f h n (p n) (e n (omega arith)))
    ∙ sym (flat_map-append h (numbers_where p n) (cond (p n) (n ∷ []) []))
    ∙ sym (ap (flat_map h) (numbers_where-last p n))

pub no_output : (out other : Bool) → not out && other ≡ true → out ≡ false
no_output false other e = refl
no_output true other e = absurd (cc e)

flat_order : {A : Type 0} (g : OpenGraph) (layer : ℕ → ℕ) (f h : ℕ → List A) →
    ((i : ℕ) → i < size g → is_output g i ≡ false → f i ≡ h i) → (k : ℕ) →
    flat_map f (measuring_order g layer k) ≡ flat_map h (measuring_order g layer k)
unfolding measuring_order
flat_order g layer f h e zero = refl
flat_order g layer f h e (suc k) =
    flat_map-append f (numbers_where (in_layer g layer k) (size g)) (measuring_order g layer k)
    ∙ ap₂ (λ xs ys. xs ++ ys)
    (flat_where f h (in_layer g layer k) (size g)
    (λ v l m. e v l (no_output (is_output g v) (nat_eq (layer v) (suc k)) m)))
    (flat_order g layer f h e k)
    ∙ sym (flat_map-append h (numbers_where (in_layer g layer k) (size g))
    (measuring_order g layer k))

same_corrected : (g : OpenGraph) (s t : Bits) (i : ℕ) → SameBelow (size g) s t →
    corrected_measurement g s i ≡ corrected_measurement g t i
unfolding corrected_measurement
same_corrected g s t i same =
    let odd_same : (k : ℕ) → odd_neighbourhood g s k ≡ odd_neighbourhood g t k =
    λ k. odd-same (size g) (λ w. s w && joins g.edges k w) (λ w. t w && joins g.edges k w)
    (λ w l. ap (λ (b : Bool). b && joins g.edges k w) (same w l)) in
    ap₂
    (λ (xs zs : List ℕ).
    bare_measurement g i
    ∷ (map (λ k. FixX k (signal_of i)) xs ++ map (λ k. FixZ k (signal_of i)) zs))
    (numbers_where-same s t (size g) same)
    (numbers_where-same (λ k. odd_neighbourhood g s k && not (nat_eq k i))
    (λ k. odd_neighbourhood g t k && not (nat_eq k i)) (size g)
    (λ k l. ap (λ (b : Bool). b && not (nat_eq k i)) (odd_same k)))

pub same_flow_pattern : (g : OpenGraph) (sets sets' : ℕ → Bits) (layer layer' : ℕ → ℕ) →
    SameLayers g layer layer' →
    ((u : ℕ) → u < size g → is_output g u ≡ false → SameBelow (size g) (sets u) (sets' u)) →
    flow_pattern g sets layer ≡ flow_pattern g sets' layer'
unfolding flow_pattern
same_flow_pattern g sets sets' layer layer' same inside =
    let commands =
    flat_order g layer (λ i. corrected_measurement g (sets i) i)
    (λ i. corrected_measurement g (sets' i) i)
    (λ i l out. same_corrected g (sets i) (sets' i) i (inside i l out)) (depth_of g layer)
    ∙ ap (flat_map (λ i. corrected_measurement g (sets' i) i))
    (same_whole_order g layer layer' same) in
    ap
    (λ (cs : List Command). record {
      names = g.names;
      inputs = g.inputs;
      outputs = g.outputs;
      commands = graph_state g ++ (cs ++ fixed_corrections g);
    })
    commands
