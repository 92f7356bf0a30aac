-- The wires and outputs of an extracted circuit, and the whole of it.
use Rattle.std.proofs.Common.{◌≡◌, ℕ, zero, suc, ◌+◌, ◌<◌, ◌≤◌, Bool, true, false, cond, map}
use Rattle.std.proofs.Common.{List, [], ◌∷◌, ◌++◌, length, refl, sym, ◌∙◌, ap, ap₂, arith}
use Rattle.std.specs.Prelude.{All, filter}
use Rattle.std.proofs.lemmas.List.{map-append}
use Rattle.std.proofs.lemmas.List.Elements.{All-head, All-tail}
use mathlib.Core.Path.{subst}
use Rattle.mc_model.specs.Bits.{Bits}
use Rattle.mc_model.specs.Numbers.{numbers_from, numbers_where}
use Rattle.mc_model.specs.Pattern.{Circuit}
use Rattle.mc_model.specs.Graph.{OpenGraph, size, IsOpenGraph}
use Rattle.mc_model.specs.Ring.{ring}
use Rattle.mc_model.specs.Flow.{IsCausalFlow, depth_of}
use Rattle.mc_model.specs.Made.{measuring_order, is_first, wire_of}
use Rattle.mc_model.specs.Made.{extracted_circuit}
use Rattle.mc_model.proofs.NumberLists.{numbers_where-same}
use Rattle.mc_model.proofs.RingLemmas.{ring_laws}
use Rattle.mc_graph.specs.Flows.{FlowRows, layer_in, next_in, IsCausalFlowOf}
use Rattle.mc_extract.specs.Chains.{number_at}
use Rattle.mc_extract.specs.Written.{bit_at, name_at, with_gates, gates_of, planned, IsPlan}
use Rattle.mc_extract.specs.Extracted.{HasZeroBranch}
use Rattle.mc_extract.proofs.CausalRows.{causal_rows, nexts_are, long_table}
use Rattle.mc_extract.proofs.ChainLists.{where_more}
use Rattle.mc_extract.proofs.CircuitScale.{extracted_scale}
use Rattle.mc_extract.proofs.Extraction.{extracted_keeps_table}
use Rattle.mc_extract.proofs.FinderLemmas.{read_number}
use Rattle.mc_extract.proofs.GateCounts.{gates_are_edges}
use Rattle.mc_extract.proofs.ValidCircuits.{extracted_valid}
use Rattle.mc_extract.proofs.Wires.{input_first}

-- ---- names

filter_all : (p : Bits) (q n : ℕ) → ((v : ℕ) → q ≤ v → v < q + n → p v ≡ true) →
    filter p (numbers_from q n) ≡ numbers_from q n
filter_all p q zero h = refl
filter_all p q (suc n) h =
    ap₂ (λ (b : Bool) (vs : List ℕ). cond b (q ∷ vs) vs) (h q (omega arith) (omega arith))
    (filter_all p (suc q) n (λ v low high. h v (omega arith) (omega arith)))

-- the inputs are first
pub names_at_first : (g : OpenGraph) (first : List Bool) (names : List (List ℕ)) (count : ℕ) →
    ((v : ℕ) → v < g.inputs → bit_at first v ≡ true) →
    names ≡ map (name_at g) (numbers_from 0 g.inputs) → count ≡ g.inputs →
    names ≡ map (name_at g) (numbers_where (bit_at first) count)
names_at_first g first names count all e f =
    e ∙ ap (map (name_at g)) (sym (filter_all (bit_at first) 0 g.inputs
    (λ v low high. all v (omega arith))))
    ∙ ap (λ (n : ℕ). map (name_at g) (numbers_where (bit_at first) n)) (sym f)

map-one : (f : ℕ → List ℕ) (b : Bool) (v : ℕ) →
    map f (cond b (v ∷ []) []) ≡ cond b (f v ∷ []) []
map-one f true v = refl
map-one f false v = refl

pub names_more : (g : OpenGraph) (first : List Bool) (v : ℕ) (told : Bool) (name : List ℕ)
    (now : List (List ℕ)) → now ≡ map (name_at g) (numbers_where (bit_at first) v) →
    told ≡ bit_at first v → name ≡ name_at g v →
    now ++ cond told (name ∷ []) [] ≡ map (name_at g) (numbers_where (bit_at first) (v + 1))
names_more g first v told name now e t h =
    let one : List ℕ = cond (bit_at first v) (v ∷ []) [] in
    ap₂ (λ (xs ys : List (List ℕ)). xs ++ ys) e
    (ap₂ (λ (b : Bool) (x : List ℕ). cond b (x ∷ []) []) t h
    ∙ sym (map-one (name_at g) (bit_at first v) v))
    ∙ sym (map-append (name_at g) (numbers_where (bit_at first) v) one)
    ∙ ap (map (name_at g)) (sym (where_more (bit_at first) v (bit_at first v) refl))

-- ---- the next of each vertex

pub nexts_to : (g : OpenGraph) (f : FlowRows) (next now : List ℕ) (count : ℕ) → now ≡ next →
    next ≡ map (next_in f.rows) (numbers_from 0 count) → count ≡ size g →
    now ≡ map (next_in f.rows) (numbers_from 0 (size g))
nexts_to g f next now count d e h =
    d ∙ e ∙ ap (λ (n : ℕ). map (next_in f.rows) (numbers_from 0 n)) h

pub long_nexts : (g : OpenGraph) (f : FlowRows) (next : List ℕ) →
    next ≡ map (next_in f.rows) (numbers_from 0 (size g)) → length next ≡ size g
long_nexts g f next e = long_table (next_in f.rows) (size g) next e

pub plan_of : (g : OpenGraph) (f : FlowRows) → IsCausalFlowOf g f →
    (next order wires : List ℕ) (first : List Bool) →
    next ≡ map (next_in f.rows) (numbers_from 0 (size g)) →
    order ≡ measuring_order g (layer_in f.rows) (depth_of g (layer_in f.rows)) →
    wires ≡ map (wire_of g (number_at next)) (numbers_from 0 (size g)) →
    first ≡ map (is_first g (number_at next)) (numbers_from 0 (size g)) →
    IsPlan g next order wires first
plan_of g f flow next order wires first e o w b = record {
  long = long_nexts g f next e;
  layer = layer_in f.rows;
  flow = subst (λ (n : ℕ → ℕ). IsCausalFlow g n (layer_in f.rows))
      (sym (nexts_are g f flow next e)) (causal_rows g f flow);
  order_is = o;
  wires_are = w;
  first_are = b;
}

read_first : (g : OpenGraph) (next order wires : List ℕ) (first : List Bool) →
    IsPlan g next order wires first → (v : ℕ) → v < size g →
    bit_at first v ≡ is_first g (number_at next) v
read_first g next order wires first plan v l =
    ap (λ (bs : List Bool). bit_at bs v) plan.first_are
    ∙ read_number (is_first g (number_at next)) (size g) v false l

pub inputs_first : (g : OpenGraph) (next order wires : List ℕ) (first : List Bool) →
    IsOpenGraph g → IsPlan g next order wires first → (v : ℕ) → v < g.inputs →
    bit_at first v ≡ true
inputs_first g next order wires first valid plan v l =
    let few = valid.inputs in
    read_first g next order wires first plan v (omega arith)
    ∙ input_first g (number_at next) plan.layer plan.flow v l

-- ---- the whole

map-same : (f h : ℕ → ℕ) (vs : List ℕ) (n : ℕ) → All (λ v. v < n) vs →
    ((v : ℕ) → v < n → f v ≡ h v) → map f vs ≡ map h vs
map-same f h [] n all same = refl
map-same f h (v ∷ vs) n all same =
    ap₂ (λ (k : ℕ) (ks : List ℕ). k ∷ ks) (same v (All-head (λ w. w < n) v vs all))
    (map-same f h vs n (All-tail (λ w. w < n) v vs all) same)

pub planned_circuit : (half : ℕ) (g : OpenGraph) (next order wires : List ℕ) (first : List Bool)
    {out : List ℕ} {begun gated whole : Circuit} → IsOpenGraph g →
    IsPlan g next order wires first →
    begun ≡ record {
      names = map (name_at g) (numbers_where (bit_at first) (size g));
      inputs = g.inputs;
      outputs = [];
      gates = [];
    } →
    gated ≡ with_gates begun (gates_of half g (number_at next) order) →
    out ≡ map (number_at wires) g.outputs → whole ≡ record gated { outputs = out } →
    whole ≡ planned half g (number_at next) order
planned_circuit half g next order wires first {out} {begun} {gated} {whole} valid plan b k outs w =
    w
    ∙ ap (λ (c : Circuit). record c { outputs = out })
    (k ∙ ap (λ (c : Circuit). with_gates c (gates_of half g (number_at next) order)) b)
    ∙ ap₂ (λ (names : List (List ℕ)) (os : List ℕ). record {
      names = names;
      inputs = g.inputs;
      outputs = os;
      gates = gates_of half g (number_at next) order;
    })
    (ap (map (name_at g)) (numbers_where-same (bit_at first) (is_first g (number_at next)) (size g)
    (read_first g next order wires first plan)))
    (outs ∙ map-same (number_at wires) (wire_of g (number_at next)) g.outputs (size g)
    valid.outputs.below
    (λ v l. ap (λ (ws : List ℕ). number_at ws v) plan.wires_are
    ∙ read_number (wire_of g (number_at next)) (size g) v 0 l))

pub planned_is : (half : ℕ) (g : OpenGraph) (f : FlowRows) (next order : List ℕ) →
    IsCausalFlowOf g f → next ≡ map (next_in f.rows) (numbers_from 0 (size g)) →
    order ≡ measuring_order g (layer_in f.rows) (depth_of g (layer_in f.rows)) →
    planned half g (number_at next) order
    ≡ extracted_circuit half g (next_in f.rows) (layer_in f.rows)
unfolding extracted_circuit
planned_is half g f next order flow e o =
    ap₂ (λ (n : ℕ → ℕ) (vs : List ℕ). planned half g n vs) (nexts_are g f flow next e) o

pub zero_branch_of : (half : ℕ) → 0 < half → (g : OpenGraph) (f : FlowRows) → IsOpenGraph g →
    IsCausalFlowOf g f →
    HasZeroBranch half g (extracted_circuit half g (next_in f.rows) (layer_in f.rows))
zero_branch_of half positive g f valid flow =
    let next : ℕ → ℕ = next_in f.rows in
    let layer : ℕ → ℕ = layer_in f.rows in
    let causal = causal_rows g f flow in
    record {
      valid = extracted_valid g next layer valid causal half;
      gates = gates_are_edges g next layer valid causal half;
      scale = extracted_scale g next layer valid causal half;
      same = extracted_keeps_table (ring half) (ring_laws half positive) g valid next layer causal;
    }
