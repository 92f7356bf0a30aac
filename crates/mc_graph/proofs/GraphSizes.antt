-- How many edges and fixed corrections an open graph has at most.
use Rattle.std.proofs.Common.{◌≡◌, ℕ, zero, suc, ◌+◌, ◌-◌, ◌*◌, ◌<◌, ◌≤◌, Bool, true, false, cond}
use Rattle.std.proofs.Common.{not, List, [], ◌∷◌, ◌++◌, length, map, ◌∙◌, ap, length-append}
use Rattle.std.proofs.Common.{arith, inl, inr}
use Rattle.std.specs.Prelude.{flat_map}
use Rattle.std.specs.List.{AllByRecursion}
use Rattle.std.proofs.lemmas.List.{length-map}
use Rattle.std.proofs.lemmas.List.Elements.{recursion_from_All}
use Rattle.std.proofs.lemmas.Nat.{mul-le}
use Rattle.std.proofs.Math.Nat.{mul-le-mul_right}
use Rattle.mc_model.specs.Bits.{Bits}
use Rattle.mc_model.specs.Numbers.{numbers_from, numbers_where}
use Rattle.mc_model.specs.Signals.{one_signal}
use Rattle.mc_model.specs.Pattern.{Command, Ent, FixX, FixZ}
use Rattle.mc_model.specs.Translation.{preparations}
use Rattle.mc_model.specs.Graph.{Edge, OpenGraph, size, EdgesRise, IsBehind}
use Rattle.mc_model.specs.Graph.{IsOpenGraph, entanglings, graph_state, bare_measurement, fixed_at}
use Rattle.mc_model.specs.Graph.{corrections_at, fixed_corrections, zero_pattern, is_output}
use Rattle.mc_model.proofs.PreparationLemmas.{length-preparations}
use Rattle.mc_model.proofs.NumberLists.{length-numbers_from, numbers_where-last}
use Rattle.mc_graph.proofs.ListedAll.{all-weaker}

pub at_most_one : {A : Type 0} (b : Bool) (a : A) → length (cond b (a ∷ []) []) ≤ 1
at_most_one true a = omega arith
at_most_one false a = omega arith

pub few_where : (p : Bits) (n : ℕ) → length (numbers_where p n) ≤ n
few_where p zero = omega arith
few_where p (suc n) =
    let old = few_where p n in
    let all = ap length (numbers_where-last p n) ∙ length-append (numbers_where p n) _ in
    let last = at_most_one (p n) n in
    omega arith

-- ---- edges, numbered in rising order

edge_number : ℕ → Edge → ℕ
edge_number n e = e.one * n + e.other

pub next_row : (a n : ℕ) → suc a * n ≡ a * n + n
next_row a n = omega arith

number_rises : (n : ℕ) (e f : Edge) → e.other < n → IsBehind e f →
    edge_number n e < edge_number n f
unfolding edge_number
number_rises n e f lt (inl l) =
    let row = mul-le-mul_right {m = suc e.one} {n = f.one} n (omega arith) in
    let next = next_row e.one n in
    omega arith
number_rises n e f lt (inr h) =
    let row : e.one * n ≡ f.one * n = ap (λ (k : ℕ). k * n) h.0 in
    let more = h.1 in
    omega arith

few_from : (n from : ℕ) (es : List Edge) → EdgesRise n es → from ≤ n * n →
    AllByRecursion (λ e. from ≤ edge_number n e) es → length es + from ≤ n * n
unfolding edge_number
few_from n from [] rise le all = omega arith
few_from n from (e ∷ es) rise le all =
    let less = rise.0 in
    let high = rise.1 in
    let row = mul-le-mul_right {m = suc e.one} {n = n} n (omega arith) in
    let next = next_row e.one n in
    let low = all.0 in
    let rest =
    few_from n (suc (edge_number n e)) es rise.3 (omega arith)
    (all-weaker (IsBehind e) (λ f. suc (edge_number n e) ≤ edge_number n f)
    (λ f b. number_rises n e f high b) es (recursion_from_All (IsBehind e) es rise.2)) in
    omega arith

pub few_edges : (n : ℕ) (es : List Edge) → EdgesRise n es → length es ≤ n * n
few_edges n es rise =
    let all = few_from n 0 es rise (omega arith) (every es) in omega arith
  where
    every : (es : List Edge) → AllByRecursion (λ e. 0 ≤ edge_number n e) es
    every [] = tt
    every (e ∷ es) = (omega arith, every es)

-- ---- commands

pub few_fixes : (g : OpenGraph) (qs : List ℕ) →
    length (flat_map (corrections_at g) qs) ≤ 2 * length qs
few_fixes g [] = omega arith
few_fixes g (q ∷ qs) =
    let x : List Command = cond (fixed_at g q).x (FixX q one_signal ∷ []) [] in
    let z : List Command = cond (fixed_at g q).z (FixZ q one_signal ∷ []) [] in
    let all = length-append (x ++ z) (flat_map (corrections_at g) qs) in
    let both = length-append x z in
    let few_x = at_most_one (fixed_at g q).x (FixX q one_signal) in
    let few_z = at_most_one (fixed_at g q).z (FixZ q one_signal) in
    let old = few_fixes g qs in
    omega arith

pub zero_pattern_fits : (g : OpenGraph) → IsOpenGraph g →
    length (zero_pattern g).commands ≤ 262144
unfolding zero_pattern fixed_corrections
zero_pattern_fits g valid =
    let n : ℕ = size g in
    let few = valid.names.few in
    let rising : List ℕ = numbers_where (λ v. not (is_output g v)) n in
    let early : List Command = preparations g.inputs (n - g.inputs) in
    let bare : List Command = map (bare_measurement g) rising in
    let fixes : List Command = flat_map (corrections_at g) (numbers_from 0 n) in
    let all = length-append (graph_state g) (bare ++ fixes) in
    let behind = length-append bare fixes in
    let state = length-append early (entanglings g.edges) in
    let one = length-preparations g.inputs (n - g.inputs) in
    let two = length-map g.edges (λ e. Ent e.one e.other) in
    let edges = few_edges n g.edges valid.edges in
    let square = mul-le n n 256 256 few few in
    let three = length-map rising (bare_measurement g) in
    let most = few_where (λ v. not (is_output g v)) n in
    let last = few_fixes g (numbers_from 0 n) in
    let numbers = length-numbers_from 0 n in
    omega arith
