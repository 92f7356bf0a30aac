-- The graph of a pattern, vertex by vertex; it is an open graph.
use Rattle.std.proofs.Common.{◌≡◌, ℕ, zero, suc, ◌+◌, ◌<◌, Bool, true, false, cond, not, map}
use Rattle.std.proofs.Common.{length, List, [], ◌∷◌, Some, None, refl, sym, ◌∙◌, ap, arith}
use Rattle.std.specs.Prelude.{Option, nat_eq, slice_get, unwrap_or, option_map, is_none}
use Rattle.std.proofs.lemmas.Bool.{cases_Bool}
use Rattle.std.proofs.lemmas.List.{length-map}
use Rattle.std.proofs.lemmas.Option.{slice_get-map}
use mathlib.Core.Logic.{inl, inr}
use Rattle.mc_model.specs.Numbers.{numbers_from, numbers_where}
use Rattle.mc_model.specs.Pattern.{Command, Prep, Ent, Meas, FixX, FixZ, Pattern}
use Rattle.mc_model.specs.Valid.{measured, IsValidPattern}
use Rattle.mc_model.specs.StandardForm.{is_edge}
use Rattle.mc_model.specs.Graph.{IsOpenGraph, Fixed, not_fixed, base_angle, fixed_at, is_output}
use Rattle.mc_model.specs.Graph.{angle_in, constants_at, turned_angle, graph_of}
use Rattle.mc_model.proofs.BitLemmas.{not_not}
use Rattle.mc_model.proofs.NumberLists.{length-numbers_from, numbers_where-same, member_once}
use Rattle.mc_graph.proofs.RisingEdges.{pairs_rise}

-- ---- lists over the numbers below a bound

nth_number : (k n q : ℕ) → q < n → slice_get (numbers_from k n) q ≡ Some (k + q)
nth_number k zero q l = absurd (omega arith)
nth_number k (suc n) zero l = let e : k ≡ k + 0 = omega arith in ap Some e
nth_number k (suc n) (suc q) l =
    let e : suc k + q ≡ k + suc q = omega arith in nth_number (suc k) n q (omega arith) ∙ ap Some e

listed_at : {A : Type 0} (h : ℕ → A) (n q : ℕ) (d : A) → q < n →
    unwrap_or (slice_get (map h (numbers_from 0 n)) q) d ≡ h q
listed_at h n q d l =
    let e : 0 + q ≡ q = omega arith in
    ap (λ (o : Option _). unwrap_or o d)
    (slice_get-map h (numbers_from 0 n) q ∙ ap (option_map h) (nth_number 0 n q l))
    ∙ ap h e

listed_length : {A : Type 0} (h : ℕ → A) (n : ℕ) → length (map h (numbers_from 0 n)) ≡ n
listed_length h n = length-map (numbers_from 0 n) h ∙ length-numbers_from 0 n

-- ---- vertices

pub angle_of_vertex : (half : ℕ) (p : Pattern) (q : ℕ) → q < length p.names →
    base_angle (graph_of half p) q
    ≡ option_map (turned_angle half p.commands q) (angle_in p.commands q)
unfolding graph_of
angle_of_vertex half p q l =
    listed_at (λ k. option_map (turned_angle half p.commands k) (angle_in p.commands k))
    (length p.names) q None l

pub fixed_of_vertex : (half : ℕ) (p : Pattern) (q : ℕ) → q < length p.names →
    fixed_at (graph_of half p) q
    ≡ cond (measured p.commands q) not_fixed (constants_at p.commands q)
unfolding graph_of
fixed_of_vertex half p q l =
    listed_at (λ k. cond (measured p.commands k) not_fixed (constants_at p.commands k))
    (length p.names) q not_fixed l

-- the qubits that have an angle are those that are measured
pub angle_where_measured : (cs : List Command) (q : ℕ) → is_none (angle_in cs q) ≡ not (measured cs q)
unfolding angle_in measured
angle_where_measured [] q = refl
angle_where_measured (Prep r ∷ cs) q = angle_where_measured cs q
angle_where_measured (Ent r u ∷ cs) q = angle_where_measured cs q
angle_where_measured (Meas r a s t ∷ cs) q = elim (cases_Bool (nat_eq q r)) [
  | inl e ↦ rw e
  | inr e ↦ rw e (angle_where_measured cs q)
]
angle_where_measured (FixX r s ∷ cs) q = angle_where_measured cs q
angle_where_measured (FixZ r s ∷ cs) q = angle_where_measured cs q

none_mapped : (f : ℕ → ℕ) (o : Option ℕ) → is_none (option_map f o) ≡ is_none o
none_mapped f None = refl
none_mapped f (Some a) = refl

no_angle : (half : ℕ) (p : Pattern) (q : ℕ) → q < length p.names →
    is_none (base_angle (graph_of half p) q) ≡ not (measured p.commands q)
no_angle half p q l =
    ap is_none (angle_of_vertex half p q l)
    ∙ none_mapped (turned_angle half p.commands q) (angle_in p.commands q)
    ∙ angle_where_measured p.commands q

-- the outputs are the qubits that are not measured
pub output_vertex : (half : ℕ) (p : Pattern) → IsValidPattern p → (q : ℕ) → q < length p.names →
    is_output (graph_of half p) q ≡ not (measured p.commands q)
unfolding graph_of
output_vertex half p v q l =
    member_once p.outputs q (not (measured p.commands q)) (v.outputs.once q l)

-- the vertices that are no outputs are the qubits that are measured
pub measured_vertices : (half : ℕ) (p : Pattern) → IsValidPattern p →
    numbers_where (λ q. not (is_output (graph_of half p) q)) (length p.names)
    ≡ numbers_where (measured p.commands) (length p.names)
measured_vertices half p v =
    numbers_where-same (λ q. not (is_output (graph_of half p) q)) (measured p.commands)
    (length p.names) (λ q l.
    ap not (output_vertex half p v q l) ∙ not_not (measured p.commands q))

pub graph_is_open : (half : ℕ) (p : Pattern) → IsValidPattern p → IsOpenGraph (graph_of half p)
unfolding graph_of
graph_is_open half p v =
    let n : ℕ = length p.names in
    record {
      names = v.names;
      inputs = let e = v.qubits in omega arith;
      edges = pairs_rise n (is_edge p.commands) n;
      angles = listed_length _ n;
      outputs = record {
        below = v.outputs.below;
        once = λ q l.
            v.outputs.once q l ∙ ap (λ (b : Bool). cond b 1 0) (sym (no_angle half p q l));
      };
      fixed = listed_length _ n;
      fixed_outputs = λ q l e.
          fixed_of_vertex half p q l
          ∙ gone (measured p.commands q) (constants_at p.commands q)
          (sym (output_vertex half p v q l) ∙ e);
    }
  where
    gone : (b : Bool) (c : Fixed) → not b ≡ false → cond b not_fixed c ≡ not_fixed
    gone true c e = refl
    gone false c e = absurd (cc e)
