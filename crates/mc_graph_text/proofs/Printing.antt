-- The canonical text, part by part.
use Rattle.std.proofs.Common.{◌≡◌, ℕ, zero, suc, ◌+◌, ◌-◌, ◌<◌, ◌≤◌, Bool}
use Rattle.std.proofs.Common.{true, false, ◌&&◌, ◌||◌}
use Rattle.std.proofs.Common.{cond, List, [], ◌∷◌, ◌++◌, length, map, take, drop, get_or, codes}
use Rattle.std.proofs.Common.{refl, sym, ap, ap₂, ◌∙◌, append_assoc, arith, inl, inr}
use Rattle.std.specs.Prelude.{filter, nat_lt}
use Rattle.std.specs.List.{flat_map, list_any}
use Rattle.std.proofs.lemmas.Bool.{cases_eq}
use Rattle.std.proofs.lemmas.Grind.{flat_map-append}
use Rattle.std.proofs.lemmas.List.{append-nil, map-append, take_more, get_or-drop, length-drop}
use Rattle.std.proofs.lemmas.List.Elements.{filter-append}
use Rattle.std.proofs.lemmas.List.Folds.{list_any-append}
use Rattle.std.proofs.lemmas.Option.{unwrap_or-slice_get}
use Rattle.mc_lex.specs.declared.kind.Kind.TheVariants as kind
use Rattle.mc_model.specs.Names.{Name}
use Rattle.mc_model.specs.Numbers.{numbers_from, numbers_where, pairs_at, pairs_below}
use Rattle.mc_model.specs.Graph.{OpenGraph, Edge, EdgesRise, edge, size, joins, base_angle}
use Rattle.mc_model.specs.Graph.{fixed_at}
use Rattle.mc_model.proofs.NumberLists.{numbers_below-last, numbers_where-last}
use Rattle.mc_text.specs.Headers.{header_words}
use Rattle.mc_write.specs.Text.{Line, line_text, text_of}
use Rattle.mc_write.specs.Named.{name_at}
use Rattle.mc_graph_text.specs.Rows.{edges_to}
use Rattle.mc_graph_text.specs.Canonical.{vertex_line, edge_line, angle_lines, fixed_lines}
use Rattle.mc_graph_text.specs.Canonical.{graph_version, graph_text}
use Rattle.mc_graph_text.proofs.RisingPairs.{pairs_joined}

-- ---- numbers from 0 on

pub numbers_more : (n : ℕ) → numbers_from 0 (n + 1) ≡ numbers_from 0 n ++ (n ∷ [])
numbers_more n = let e : n + 1 ≡ suc n = omega arith in rw e (numbers_below-last n)

pub none_more : (p : ℕ → Bool) (n : ℕ) → list_any p (numbers_from 0 n) ≡ false → p n ≡ false →
    list_any p (numbers_from 0 (n + 1)) ≡ false
none_more p n none e =
    ap (list_any p) (numbers_more n)
    ∙ list_any-append p (numbers_from 0 n) (n ∷ [])
    ∙ rw (none, e) refl

or_right : (a b : Bool) → b ≡ true → (a || b) ≡ true
or_right true b e = refl
or_right false b e = e

some_from : (p : ℕ → Bool) (q n v : ℕ) → q ≤ v → v < q + n → p v ≡ true →
    list_any p (numbers_from q n) ≡ true
some_from p q zero v le lt e = absurd (omega arith)
some_from p q (suc n) v le lt e = elim (cases_eq q v) [
  | inl same ↦ rw (same, e) refl
  | inr ne ↦
      or_right (p q) (list_any p (numbers_from (suc q) n))
      (some_from p (suc q) n v (omega arith) (omega arith) e)
]

pub some_there : (p : ℕ → Bool) (n v : ℕ) → v < n → p v ≡ true →
    list_any p (numbers_from 0 n) ≡ true
some_there p n v lt e = some_from p 0 n v (omega arith) (omega arith) e

pub either_x : (a b : Bool) → a ≡ true → (a || b) ≡ true
either_x a b e = rw e refl

pub either_z : (a b : Bool) → b ≡ true → (a || b) ≡ true
either_z a b e = or_right a b e

-- ---- lines behind lines

pub behind_lines : (start text new : List ℕ) (before here : List Line) →
    text ≡ start ++ text_of before → new ≡ text ++ text_of here →
    new ≡ start ++ text_of (before ++ here)
behind_lines start text new before here e f =
    f ∙ ap (λ t. t ++ text_of here) e
    ∙ append_assoc start (text_of before) (text_of here)
    ∙ ap (λ t. start ++ t) (sym (flat_map-append line_text before here))

pub one_line : (words : Line) → text_of (words ∷ []) ≡ line_text words
one_line words = append-nil (line_text words)

-- the lines of one number more
pub lines_more : (start text new : List ℕ) (lines : ℕ → List Line) (n : ℕ) →
    text ≡ start ++ text_of (flat_map lines (numbers_from 0 n)) → new ≡ text ++ text_of (lines n) →
    new ≡ start ++ text_of (flat_map lines (numbers_from 0 (n + 1)))
lines_more start text new lines n e f =
    let before : List Line = flat_map lines (numbers_from 0 n) in
    let more : flat_map lines (numbers_from 0 (n + 1)) ≡ before ++ lines n =
    ap (flat_map lines) (numbers_more n)
    ∙ flat_map-append lines (numbers_from 0 n) (n ∷ [])
    ∙ ap (λ ls. before ++ ls) (append-nil (lines n)) in
    behind_lines start text new before (lines n) e f ∙ ap (λ ls. start ++ text_of ls) (sym more)

-- ---- vertices

name_between : (names : List Name) (from n : ℕ) → from ≤ n →
    get_or (drop from names) (n - from) [] ≡ name_at names n
name_between names from n le =
    let e : from + (n - from) ≡ n = omega arith in
    get_or-drop from names (n - from) [] ∙ rw e (sym (unwrap_or-slice_get names n []))

pub vertices_more : (start text new : List ℕ) (names : List Name) (from n : ℕ) → from ≤ n →
    n < length names →
    text ≡ start ++ text_of (map vertex_line (take (n - from) (drop from names))) →
    new ≡ text ++ line_text (vertex_line (name_at names n)) →
    new ≡ start ++ text_of (map vertex_line (take (n + 1 - from) (drop from names)))
vertices_more start text new names from n le lt e f =
    let before = take (n - from) (drop from names) in
    let next : n + 1 - from ≡ n - from + 1 = omega arith in
    let room : n - from < length (drop from names) = rw (length-drop from names) (omega arith) in
    let more : take (n + 1 - from) (drop from names) ≡ before ++ name_at names n ∷ [] =
    ap (λ k. take k (drop from names)) next
    ∙ take_more (drop from names) (n - from) [] room
    ∙ ap (λ name. before ++ name ∷ []) (name_between names from n le) in
    let here = vertex_line (name_at names n) ∷ [] in
    behind_lines start text new (map vertex_line before) here e
    (f ∙ ap (λ t. text ++ t) (sym (one_line (vertex_line (name_at names n)))))
    ∙ ap (λ ls. start ++ text_of ls)
    (sym (ap (map vertex_line) more ∙ map-append vertex_line before (name_at names n ∷ [])))

-- ---- edges

-- one more of the list
edges_to-append : (v : ℕ) (ws us : List ℕ) →
    edges_to v (ws ++ us) ≡ edges_to v ws ++ edges_to v us
edges_to-append v ws us =
    ap (map (edge v)) (filter-append (nat_lt v) ws us)
    ∙ map-append (edge v) (filter (nat_lt v) ws) (filter (nat_lt v) us)

one_up : (v w : ℕ) (b : Bool) →
    edges_to v (cond b (w ∷ []) []) ≡ cond (nat_lt v w && b) (edge v w ∷ []) []
one_up v w true = by_test (nat_lt v w)
  where
    by_test : (t : Bool) →
        map (edge v) (cond t (w ∷ []) []) ≡ cond (t && true) (edge v w ∷ []) []
    by_test true = refl
    by_test false = refl
one_up v w false = by_test (nat_lt v w)
  where
    by_test : (t : Bool) → [] ≡ cond (t && false) (edge v w ∷ []) []
    by_test true = refl
    by_test false = refl

-- the edges of a vertex to those above it that pass the test
pub edges_to-where : (p : ℕ → ℕ → Bool) (v n : ℕ) →
    edges_to v (numbers_where (p v) n) ≡ pairs_at edge p v n
unfolding pairs_at
edges_to-where p v zero = refl
edges_to-where p v (suc n) =
    ap (edges_to v) (numbers_where-last (p v) n)
    ∙ edges_to-append v (numbers_where (p v) n) (cond (p v n) (n ∷ []) [])
    ∙ ap₂ (λ (a b : List Edge). a ++ b) (edges_to-where p v n) (one_up v n (p v n))

pub rows_more : (start text new : List ℕ) (names : List Name) (p : ℕ → ℕ → Bool) (n v : ℕ) →
    text ≡ start ++ text_of (map (edge_line names) (pairs_below edge p n v)) →
    new ≡ text ++ text_of (map (edge_line names) (edges_to v (numbers_where (p v) n))) →
    new ≡ start ++ text_of (map (edge_line names) (pairs_below edge p n (v + 1)))
unfolding pairs_below
rows_more start text new names p n v e f =
    let next : v + 1 ≡ suc v = omega arith in
    let line : Edge → Line = edge_line names in
    let row : List Edge = edges_to v (numbers_where (p v) n) in
    let all : pairs_below edge p n (v + 1) ≡ pairs_below edge p n v ++ row =
    ap (pairs_below edge p n) next
    ∙ ap (λ es. pairs_below edge p n v ++ es) (sym (edges_to-where p v n)) in
    behind_lines start text new (map line (pairs_below edge p n v)) (map line row) e f
    ∙ ap (λ ls. start ++ text_of ls)
    (sym (ap (map line) all ∙ map-append line (pairs_below edge p n v) row))

pub no_rows : (start : List ℕ) (names : List Name) (p : ℕ → ℕ → Bool) (n : ℕ) →
    start ≡ start ++ text_of (map (edge_line names) (pairs_below edge p n 0))
unfolding pairs_below
no_rows start names p n = sym (append-nil start)

pub all_rows : (start text : List ℕ) (names : List Name) (n v : ℕ) (es : List Edge) →
    EdgesRise n es → v ≡ n →
    text ≡ start ++ text_of (map (edge_line names) (pairs_below edge (joins es) n v)) →
    text ≡ start ++ text_of (map (edge_line names) es)
all_rows start text names n v es rise same e =
    e ∙ ap (λ (ds : List Edge). start ++ text_of (map (edge_line names) ds))
    (ap (pairs_below edge (joins es) n) same ∙ pairs_joined n es rise)

-- ---- the whole

-- what is written, part by part
pub record IsPrinted (half : ℕ) (g : OpenGraph) (headed with_inputs with_vertices with_edges
    with_angles with_outputs with_fixed whole : List ℕ) : Type 0 where
  pub header : headed ≡ line_text (header_words kind.Graph (graph_version g) half)
  pub inputs : with_inputs ≡ headed ++ line_text (codes "in" ∷ take g.inputs g.names)
  pub vertices : with_vertices ≡ with_inputs ++ text_of (map vertex_line (drop g.inputs g.names))
  pub edges : with_edges ≡ with_vertices ++ text_of (map (edge_line g.names) g.edges)
  pub angles : with_angles ≡ with_edges ++ text_of
      (flat_map (λ v. angle_lines g.names v (base_angle g v)) (numbers_from 0 (size g)))
  pub outputs : with_outputs
      ≡ with_angles ++ line_text (codes "out" ∷ map (name_at g.names) g.outputs)
  pub fixed : with_fixed ≡ with_outputs ++ text_of
      (flat_map (λ v. fixed_lines g.names v (fixed_at g v)) (numbers_from 0 (size g)))
  pub end : whole ≡ with_fixed ++ line_text (codes "end" ∷ [])

regroup : (a b c d e f g h : List ℕ) → (((((((a ++ b) ++ c) ++ d) ++ e) ++ f) ++ g) ++ h)
    ≡ a ++ (b ++ (c ++ (d ++ (e ++ (f ++ (g ++ h))))))
regroup a b c d e f g h = simp append_assoc

-- lists of lines between single ones
text_parts : (header inputs out end : Line) (vertices edges angles fixed : List Line) →
    text_of (header ∷ inputs ∷ (vertices ++ (edges ++ (angles ++ out ∷ (fixed ++ end ∷ [])))))
    ≡ line_text header
    ++ (line_text inputs
    ++ (text_of vertices
    ++ (text_of edges ++ (text_of angles ++ (line_text out ++ (text_of fixed ++ line_text end))))))
text_parts header inputs out end vertices edges angles fixed =
    let last = flat_map-append line_text fixed (end ∷ []) in
    let third = flat_map-append line_text angles (out ∷ (fixed ++ end ∷ [])) in
    let second = flat_map-append line_text edges (angles ++ out ∷ (fixed ++ end ∷ [])) in
    let first =
    flat_map-append line_text vertices (edges ++ (angles ++ out ∷ (fixed ++ end ∷ []))) in
    rw (first, second, third, last, append-nil (line_text end)) refl

pub printed : (half : ℕ) (g : OpenGraph) (headed with_inputs with_vertices with_edges with_angles
    with_outputs with_fixed whole : List ℕ) →
    IsPrinted half g headed with_inputs with_vertices with_edges with_angles with_outputs with_fixed
    whole → whole ≡ graph_text half g
printed half g headed with_inputs with_vertices with_edges with_angles with_outputs with_fixed whole
    h =
    let vertices = map vertex_line (drop g.inputs g.names) in
    let edges = map (edge_line g.names) g.edges in
    let numbers = numbers_from 0 (size g) in
    let angles = flat_map (λ v. angle_lines g.names v (base_angle g v)) numbers in
    let fixed = flat_map (λ v. fixed_lines g.names v (fixed_at g v)) numbers in
    let header = header_words kind.Graph (graph_version g) half in
    let ins = codes "in" ∷ take g.inputs g.names in
    let out = codes "out" ∷ map (name_at g.names) g.outputs in
    let end = codes "end" ∷ [] in
    rw (h.end, h.fixed, h.outputs, h.angles, h.edges, h.vertices, h.inputs, h.header)
    (regroup (line_text header) (line_text ins) (text_of vertices) (text_of edges) (text_of angles)
    (line_text out) (text_of fixed) (line_text end)
    ∙ sym (text_parts header ins out end vertices edges angles fixed))
