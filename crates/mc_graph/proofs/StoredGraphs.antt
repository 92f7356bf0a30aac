-- A graph by its rows, where the rows are those of links.
use Rattle.std.proofs.Common.{◌≡◌, ℕ, ◌<◌, Bool, true, false, ◌&&◌, ◌||◌, map, length, List, []}
use Rattle.std.proofs.Common.{◌∷◌, refl, sym, ◌∙◌, ap, ap₂, arith, slice_index_or}
use Rattle.std.specs.Prelude.{nat_eq}
use Rattle.std.proofs.lemmas.List.{length-map}
use Rattle.std.proofs.lemmas.Bool.{eqb-true, and_parts, cases_eq, lt-ltb, false_from_ne_true}
use mathlib.Core.Logic.{inl, inr}
use Rattle.mc_model.specs.Bits.{◌⊻◌}
use Rattle.mc_model.specs.Names.{Name}
use Rattle.mc_model.specs.Numbers.{numbers_from, numbers_where, is_member, pairs_below}
use Rattle.mc_model.specs.Graph.{Edge, edge, joins, EdgesRise, OpenGraph, size}
use Rattle.mc_model.proofs.NumberLists.{numbers_where-same, length-numbers_from}
use Rattle.mc_graph.specs.declared.label.Label.{Label}
use Rattle.mc_graph.specs.Links.{linked, AreLinks}
use Rattle.mc_graph.specs.Graphs.{graph_by, edges_of, IsGraph, IsStored}
use Rattle.mc_graph.specs.Building.{graph_so_far, with_outputs}
use Rattle.mc_graph.proofs.ListedNumbers.{member-where}
use Rattle.mc_graph.proofs.RisingEdges.{pairs_rise}
use Rattle.mc_graph.proofs.PairLists.{pairs_below-same}
use Rattle.mc_graph.proofs.BuiltGraphs.{joins_linked}
use Rattle.mc_graph.proofs.MappedReads.{read_numbered}

-- ---- no edge joins a vertex to itself

not_both : (v a b : ℕ) → a < b → nat_eq v a && nat_eq v b ≡ false
not_both v a b l = false_from_ne_true (nat_eq v a && nat_eq v b) (λ e.
    let parts = and_parts (nat_eq v a) (nat_eq v b) e in
    let p = eqb-true v a parts.0 in
    let q = eqb-true v b parts.1 in
    absurd (omega arith))

no_pair : (p q : Bool) → p && q ≡ false → (p && q) || (q && p) ≡ false
no_pair p q e = grind arith

pub no_loop : (n : ℕ) (es : List Edge) (v : ℕ) → EdgesRise n es → joins es v v ≡ false
unfolding joins
no_loop n [] v rise = refl
no_loop n (e ∷ es) v rise =
    ap₂ (λ (a b : Bool). a ⊻ b)
    (no_pair (nat_eq v e.one) (nat_eq v e.other) (not_both v e.one e.other rise.0))
    (no_loop n es v rise.3)

-- ---- rows

-- the rows of links between so many vertices
abbrev pub rows_of : List Bool → ℕ → List (List ℕ)
rows_of links n = map (λ v. numbers_where (linked links v) n) (numbers_from 0 n)

row_at : (links : List Bool) (n v : ℕ) → v < n →
    slice_index_or (rows_of links n) v [] ≡ numbers_where (linked links v) n
row_at links n v l = read_numbered (λ w. numbers_where (linked links w) n) n v [] l

and_true : (b : Bool) → true && b ≡ b
and_true b = refl

row_member : (links : List Bool) (n i j : ℕ) → i < n → j < n →
    is_member (slice_index_or (rows_of links n) i []) j ≡ linked links i j
row_member links n i j li lj =
    ap (λ (row : List ℕ). is_member row j) (row_at links n i li)
    ∙ member-where (linked links i) n j
    ∙ ap (λ (b : Bool). b && linked links i j) (lt-ltb j n lj)

pub rows_edges : (links : List Bool) (n : ℕ) →
    edges_of (rows_of links n) n ≡ pairs_below edge (linked links) n n
rows_edges links n =
    pairs_below-same edge (λ v w. is_member (slice_index_or (rows_of links n) v []) w)
    (linked links) n (λ i j l m. row_member links n i j (omega arith) m)

-- a row is that of the neighbours
row_joined : (links : List Bool) (n v k : ℕ) → AreLinks links → v < n → k < n →
    linked links v k ≡ joins (pairs_below edge (linked links) n n) v k
row_joined links n v k are lv lk = elim (cases_eq v k) [
  | inl e ↦
      ap (linked links v) (sym e) ∙ are.apart v
      ∙ sym (ap (joins (pairs_below edge (linked links) n n) v) (sym e)
      ∙ no_loop n _ v (pairs_rise n (linked links) n))
  | inr ne ↦ sym (joins_linked links n v k are lv lk ne)
]

pub graph_rows : {half : ℕ} (names : List Name) (inputs : ℕ) (links : List Bool)
    (labels : List (Label half)) (outputs : List ℕ) →
    graph_by names inputs outputs (rows_of links (length names)) labels
    ≡ with_outputs (graph_so_far names inputs links labels) outputs
graph_rows names inputs links labels outputs =
    ap (λ (es : List Edge). record (with_outputs (graph_so_far names inputs links labels) outputs)
    { edges = es }) (rows_edges links (length names))

-- a graph whose edges are the links
pub stored_by : (half : ℕ) (g : OpenGraph) (links : List Bool) → AreLinks links →
    g.edges ≡ pairs_below edge (linked links) (size g) (size g) → IsGraph half g →
    IsStored half g (rows_of links (size g))
stored_by half g links are edges valid =
    let n : ℕ = size g in
    record {
      graph = valid;
      long = length-map (numbers_from 0 n) (λ v. numbers_where (linked links v) n)
          ∙ length-numbers_from 0 n;
      each = λ v l.
          row_at links n v l
          ∙ numbers_where-same (linked links v) (joins g.edges v) n (λ k m.
          row_joined links n v k are l m ∙ ap (λ (es : List Edge). joins es v k) (sym edges));
    }

pub stored_rows : (half : ℕ) (names : List Name) (inputs : ℕ) (links : List Bool)
    (labels : List (Label half)) (outputs : List ℕ) → AreLinks links →
    IsGraph half (with_outputs (graph_so_far names inputs links labels) outputs) →
    IsStored half (with_outputs (graph_so_far names inputs links labels) outputs)
    (rows_of links (length names))
stored_rows half names inputs links labels outputs are valid =
    stored_by half (with_outputs (graph_so_far names inputs links labels) outputs) links are refl valid
