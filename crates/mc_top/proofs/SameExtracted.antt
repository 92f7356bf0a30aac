-- What is extracted of a graph depends on the layers and nexts of its vertices alone.
use Rattle.std.proofs.Common.{◌≡◌, ℕ, zero, suc, ◌+◌, ◌<◌, Bool, true, false, not, cond, ◌&&◌, ◌||◌}
use Rattle.std.proofs.Common.{List, [], ◌∷◌, ◌++◌, map, Option, Some, refl, sym, ap, ap₂}
use Rattle.std.proofs.Common.{subst}
use Rattle.std.proofs.Common.{◌∙◌, arith}
use Rattle.std.specs.Prelude.{nat_eq, nat_lt, All, filter, find, flat_map, is_none, position}
use Rattle.std.specs.Prelude.{slice_get, unwrap_or}
use Rattle.std.proofs.lemmas.List.Elements.{All-nil, All-cons, All-head, All-tail, All-append}
use Rattle.mc_model.specs.Bits.{Bits}
use Rattle.mc_model.specs.Names.{Name}
use Rattle.mc_model.specs.Numbers.{numbers_from, numbers_where, is_member}
use Rattle.mc_model.specs.Phase.{negated}
use Rattle.mc_model.specs.Pattern.{Gate, J, CZ}
use Rattle.mc_model.specs.Graph.{OpenGraph, Edge, size, is_output, base_angle, joins, fixed_at}
use Rattle.mc_model.specs.Graph.{where_fixed}
use Rattle.mc_model.specs.Flow.{depth_of}
use Rattle.mc_model.specs.Made.{measuring_order, last_before, is_first, chain_start, first_vertices}
use Rattle.mc_model.specs.Made.{wire_of, is_current, cz_gate, extracted_gates, gates_at}
use Rattle.mc_model.specs.Made.{fixed_gates, extracted_circuit}
use Rattle.mc_model.proofs.NumberLists.{numbers_where-last, numbers_where-same}
use Rattle.mc_top.proofs.SameMade.{SameLayers, in_layer, no_output, same_whole_order}

abbrev pub SameNexts : OpenGraph → (ℕ → ℕ) → (ℕ → ℕ) → Type 0
SameNexts g next next' = (u : ℕ) → u < size g → is_output g u ≡ false → next u ≡ next' u

-- ---- lists

find_same : (p q : Bits) (a n : ℕ) → ((k : ℕ) → k < a + n → p k ≡ q k) →
    find p (numbers_from a n) ≡ find q (numbers_from a n)
find_same p q a zero h = refl
find_same p q a (suc n) h =
    ap₂ (λ (b : Bool) (o : Option ℕ). cond b (Some a) o) (h a (omega arith))
    (find_same p q (suc a) n (λ k l. h k (omega arith)))

map_same : {A B : Type 0} (f h : A → B) (xs : List A) → ((x : A) → f x ≡ h x) →
    map f xs ≡ map h xs
map_same f h [] e = refl
map_same f h (x ∷ xs) e = ap₂ (λ y ys. y ∷ ys) (e x) (map_same f h xs e)

flat_same : {A B : Type 0} (f h : A → List B) (xs : List A) → ((x : A) → f x ≡ h x) →
    flat_map f xs ≡ flat_map h xs
flat_same f h [] e = refl
flat_same f h (x ∷ xs) e = ap₂ (λ y ys. y ++ ys) (e x) (flat_same f h xs e)

filter_same : {A : Type 0} (p q : A → Bool) (xs : List A) → ((x : A) → p x ≡ q x) →
    filter p xs ≡ filter q xs
filter_same p q [] e = refl
filter_same p q (x ∷ xs) e =
    ap₂ (λ (b : Bool) (ys : List _). cond b (x ∷ ys) ys) (e x) (filter_same p q xs e)

all_if : (P : ℕ → Type 0) (n : ℕ) (b : Bool) → (b ≡ true → P n) → All P (cond b (n ∷ []) [])
all_if P n true e = All-cons P n [] (e refl) (All-nil P)
all_if P n false e = All-nil P

all_where : (P : ℕ → Type 0) (p : Bits) (n : ℕ) → ((k : ℕ) → k < n → p k ≡ true → P k) →
    All P (numbers_where p n)
all_where P p zero e = All-nil P
all_where P p (suc n) e =
    subst (All P) (sym (numbers_where-last p n))
    (All-append P (numbers_where p n) (cond (p n) (n ∷ []) [])
    (all_where P p n (λ k l. e k (omega arith))) (all_if P n (p n) (e n (omega arith))))

all_order : (P : ℕ → Type 0) (g : OpenGraph) (layer : ℕ → ℕ) →
    ((i : ℕ) → i < size g → is_output g i ≡ false → P i) → (k : ℕ) →
    All P (measuring_order g layer k)
unfolding measuring_order
all_order P g layer e zero = All-nil P
all_order P g layer e (suc k) =
    All-append P (numbers_where (in_layer g layer k) (size g)) (measuring_order g layer k)
    (all_where P (in_layer g layer k) (size g)
    (λ v l m. e v l (no_output (is_output g v) (nat_eq (layer v) (suc k)) m)))
    (all_order P g layer e k)

-- ---- wires

same_test : (g : OpenGraph) (next next' : ℕ → ℕ) → SameNexts g next next' → (v u : ℕ) →
    u < size g → (not (is_output g u) && nat_eq (next u) v)
    ≡ (not (is_output g u) && nat_eq (next' u) v)
same_test g next next' same v u l = by (is_output g u) (same u l)
  where
    by : (out : Bool) → (out ≡ false → next u ≡ next' u) →
        (not out && nat_eq (next u) v) ≡ (not out && nat_eq (next' u) v)
    by true e = refl
    by false e = ap (λ (m : ℕ). nat_eq m v) (e refl)

same_last : (g : OpenGraph) (next next' : ℕ → ℕ) → SameNexts g next next' → (v : ℕ) →
    last_before g next v ≡ last_before g next' v
same_last g next next' same v =
    find_same (λ u. not (is_output g u) && nat_eq (next u) v)
    (λ u. not (is_output g u) && nat_eq (next' u) v) 0 (size g)
    (λ u l. same_test g next next' same v u (omega arith))

same_first : (g : OpenGraph) (next next' : ℕ → ℕ) → SameNexts g next next' → (v : ℕ) →
    is_first g next v ≡ is_first g next' v
same_first g next next' same v =
    ap (λ (o : Option ℕ). is_none o) (same_last g next next' same v)

same_firsts : (g : OpenGraph) (next next' : ℕ → ℕ) → SameNexts g next next' →
    first_vertices g next ≡ first_vertices g next'
same_firsts g next next' same =
    numbers_where-same (is_first g next) (is_first g next') (size g)
    (λ v l. same_first g next next' same v)

same_start : (g : OpenGraph) (next next' : ℕ → ℕ) → SameNexts g next next' → (n v : ℕ) →
    chain_start g next n v ≡ chain_start g next' n v
unfolding chain_start
same_start g next next' same zero v = refl
same_start g next next' same (suc n) v =
    ap (λ (o : Option ℕ). chain_start g next n (unwrap_or o v)) (same_last g next next' same v)
    ∙ same_start g next next' same n (unwrap_or (last_before g next' v) v)

same_wire : (g : OpenGraph) (next next' : ℕ → ℕ) → SameNexts g next next' → (v : ℕ) →
    wire_of g next v ≡ wire_of g next' v
same_wire g next next' same v =
    ap₂ (λ (c : ℕ) (fs : List ℕ). unwrap_or (position (nat_eq c) fs) 0)
    (same_start g next next' same (size g) v) (same_firsts g next next' same)

same_cz : (g : OpenGraph) (next next' : ℕ → ℕ) → SameNexts g next next' → (v w : ℕ) →
    cz_gate g next v w ≡ cz_gate g next' v w
same_cz g next next' same v w =
    ap₂ (λ (a b : ℕ). cond (nat_lt w v) (CZ b a) (CZ a b)) (same_wire g next next' same v)
    (same_wire g next next' same w)

same_current : (g : OpenGraph) (next next' : ℕ → ℕ) → SameNexts g next next' →
    (done : List ℕ) (v : ℕ) → is_current g next done v ≡ is_current g next' done v
same_current g next next' same done v =
    ap
    (λ (o : Option ℕ). not (is_member done v) && (is_none o || is_member done (unwrap_or o v)))
    (same_last g next next' same v)

-- ---- gates

same_gates : (g : OpenGraph) (next next' : ℕ → ℕ) → SameNexts g next next' → (half : ℕ)
    (done is : List ℕ) → All (λ i. next i ≡ next' i) is →
    extracted_gates g next half done is ≡ extracted_gates g next' half done is
unfolding extracted_gates
same_gates g next next' same half done [] all = refl
same_gates g next next' same half done (i ∷ is) all =
    let here = All-head (λ i. next i ≡ next' i) i is all in
    let rest = same_gates g next next' same half (i ∷ done) is
    (All-tail (λ i. next i ≡ next' i) i is all) in
    let edges =
    ap
    (λ (m : ℕ). map (cz_gate g next m)
    (numbers_where (λ k. joins g.edges m k && is_current g next (i ∷ done) k) (size g)))
    here
    ∙ ap (map (cz_gate g next (next' i)))
    (numbers_where-same (λ k. joins g.edges (next' i) k && is_current g next (i ∷ done) k)
    (λ k. joins g.edges (next' i) k && is_current g next' (i ∷ done) k) (size g)
    (λ k l. ap (λ (b : Bool). joins g.edges (next' i) k && b)
    (same_current g next next' same (i ∷ done) k)))
    ∙ map_same (cz_gate g next (next' i)) (cz_gate g next' (next' i)) _
    (same_cz g next next' same (next' i)) in
    ap₂ (λ (w : ℕ) (gs : List Gate). J w (negated half (unwrap_or (base_angle g i) 0)) ∷ gs)
    (same_wire g next next' same i) (ap₂ (λ (xs ys : List Gate). xs ++ ys) edges rest)

same_fixed : (half : ℕ) (g : OpenGraph) (next next' : ℕ → ℕ) → SameNexts g next next' →
    fixed_gates half g next ≡ fixed_gates half g next'
unfolding fixed_gates
same_fixed half g next next' same =
    flat_same (gates_at half g next) (gates_at half g next') (numbers_from 0 (size g))
    (λ v. ap (λ (w : ℕ).
    where_fixed (fixed_at g v) (J w 0 ∷ J w half ∷ []) (J w half ∷ J w 0 ∷ []))
    (same_wire g next next' same v))

abbrev first_gates : OpenGraph → (ℕ → ℕ) → List Gate
first_gates g next =
    map (λ (e : Edge). cz_gate g next e.one e.other)
    (filter (λ (e : Edge). is_first g next e.one && is_first g next e.other) g.edges)

same_first_gates : (g : OpenGraph) (next next' : ℕ → ℕ) → SameNexts g next next' →
    first_gates g next ≡ first_gates g next'
same_first_gates g next next' same =
    ap (map (λ (e : Edge). cz_gate g next e.one e.other))
    (filter_same (λ (e : Edge). is_first g next e.one && is_first g next e.other)
    (λ (e : Edge). is_first g next' e.one && is_first g next' e.other) g.edges
    (λ e. ap₂ (λ (a b : Bool). a && b) (same_first g next next' same e.one)
    (same_first g next next' same e.other)))
    ∙ map_same (λ (e : Edge). cz_gate g next e.one e.other)
    (λ (e : Edge). cz_gate g next' e.one e.other) _
    (λ e. same_cz g next next' same e.one e.other)

same_order_gates : (half : ℕ) (g : OpenGraph) (next next' layer layer' : ℕ → ℕ) →
    SameLayers g layer layer' → SameNexts g next next' →
    extracted_gates g next half [] (measuring_order g layer (depth_of g layer))
    ≡ extracted_gates g next' half [] (measuring_order g layer' (depth_of g layer'))
same_order_gates half g next next' layer layer' layers same =
    same_gates g next next' same half [] (measuring_order g layer (depth_of g layer))
    (all_order (λ i. next i ≡ next' i) g layer same (depth_of g layer))
    ∙ ap (extracted_gates g next' half []) (same_whole_order g layer layer' layers)

pub same_extracted : (half : ℕ) (g : OpenGraph) (next next' layer layer' : ℕ → ℕ) →
    SameLayers g layer layer' → SameNexts g next next' →
    extracted_circuit half g next layer ≡ extracted_circuit half g next' layer'
unfolding extracted_circuit
same_extracted half g next next' layer layer' layers same =
    let names =
    ap (map (λ v. unwrap_or (slice_get g.names v) [])) (same_firsts g next next' same) in
    let outputs = map_same (wire_of g next) (wire_of g next') g.outputs
    (same_wire g next next' same) in
    let gates = ap₂ (λ (xs ys : List Gate). xs ++ ys) (same_first_gates g next next' same)
    (ap₂ (λ (xs ys : List Gate). xs ++ ys)
    (same_order_gates half g next next' layer layer' layers same)
    (same_fixed half g next next' same)) in
    ap
    (λ (ns : List Name). record {
      names = ns;
      inputs = g.inputs;
      outputs = map (wire_of g next) g.outputs;
      gates =
          first_gates g next
          ++ (extracted_gates g next half [] (measuring_order g layer (depth_of g layer))
          ++ fixed_gates half g next);
    })
    names
    ∙ ap₂
    (λ (os : List ℕ) (gs : List Gate). record {
      names = map (λ v. unwrap_or (slice_get g.names v) []) (first_vertices g next');
      inputs = g.inputs;
      outputs = os;
      gates = gs;
    })
    outputs gates
