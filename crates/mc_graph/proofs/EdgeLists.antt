-- The edges of a graph are those of each vertex to the vertices of higher number.
use Rattle.std.proofs.Common.{◌≡◌, ℕ, zero, suc, ◌+◌, ◌≤◌, count_by}
use Rattle.std.proofs.Common.{length-append, Bool, true, false, cond, ◌&&◌, map, List}
use Rattle.std.proofs.Common.{[], ◌∷◌, ◌++◌, length, refl, sym, ◌∙◌, ap, ap₂, append-nil, arith}
use Rattle.std.specs.Prelude.{nat_lt, filter, flat_map, slice_index_or}
use Rattle.std.proofs.lemmas.List.{map-append, length-map}
use Rattle.std.proofs.lemmas.List.Sums.{sum_by-cons, count_by-le-length}
use Rattle.std.proofs.lemmas.List.Elements.{filter-append}
use Rattle.std.proofs.lemmas.List.Concat.{flat_map-append}
use Rattle.std.proofs.lemmas.Bool.{lt-ltb}
use mathlib.Core.Path.{fun_ext}
use Rattle.mc_model.specs.Numbers.{numbers_from, numbers_where, is_member, pairs_at, pairs_below}
use Rattle.mc_model.specs.Pattern.{Command, Ent}
use Rattle.mc_model.specs.Graph.{OpenGraph, size, Edge, edge, joins, entanglings, IsOpenGraph}
use Rattle.mc_model.proofs.NumberLists.{numbers_where-last, numbers_below-last}
use Rattle.mc_graph.specs.Neighbours.{neighbours, edges_up}
use Rattle.mc_graph.specs.Graphs.{edges_of, IsStored}
use Rattle.mc_graph.proofs.ListedNumbers.{member-where}
use Rattle.mc_graph.proofs.PairLists.{pairs_below-same}
use Rattle.mc_graph.proofs.GraphSizes.{few_where}

one_pair : (v w : ℕ) (a b : Bool) → nat_lt v w ≡ b →
    map (edge v) (filter (nat_lt v) (cond a (w ∷ []) [])) ≡ cond (b && a) (edge v w ∷ []) []
one_pair v w true true e = rw e refl
one_pair v w true false e = rw e refl
one_pair v w false true e = refl
one_pair v w false false e = refl

row_up : (p : ℕ → ℕ → Bool) (v n : ℕ) →
    pairs_at edge p v n ≡ map (edge v) (filter (nat_lt v) (numbers_where (p v) n))
unfolding pairs_at
row_up p v zero = refl
row_up p v (suc n) =
    let old : List ℕ = numbers_where (p v) n in
    let one : List ℕ = cond (p v n) (n ∷ []) [] in
    sym (ap (λ (xs : List ℕ). map (edge v) (filter (nat_lt v) xs)) (numbers_where-last (p v) n)
    ∙ ap (map (edge v)) (filter-append (nat_lt v) old one)
    ∙ map-append (edge v) (filter (nat_lt v) old) (filter (nat_lt v) one)
    ∙ ap₂ (λ (es fs : List Edge). es ++ fs) (sym (row_up p v n))
    (one_pair v n (p v n) (nat_lt v n) refl))

rows_up : (p : ℕ → ℕ → Bool) (n m : ℕ) →
    pairs_below edge p n m ≡ flat_map (λ v. pairs_at edge p v n) (numbers_from 0 m)
unfolding pairs_below
rows_up p n zero = refl
rows_up p n (suc m) =
    let row : ℕ → List Edge = λ v. pairs_at edge p v n in
    ap (λ (es : List Edge). es ++ row m) (rows_up p n m)
    ∙ ap (λ (es : List Edge). flat_map row (numbers_from 0 m) ++ es) (sym (append-nil (row m)))
    ∙ sym (flat_map-append row (numbers_from 0 m) (m ∷ []))
    ∙ ap (flat_map row) (sym (numbers_below-last m))

-- the edges of a graph that is kept by its rows
pub edges_by_rows : (half : ℕ) (g : OpenGraph) (rows : List (List ℕ)) → IsStored half g rows →
    g.edges ≡ edges_of rows (size g) →
    flat_map (edges_up g) (numbers_from 0 (size g)) ≡ g.edges
edges_by_rows half g rows stored edges =
    let n : ℕ = size g in
    let row : ℕ → ℕ → Bool = λ v w. is_member (slice_index_or rows v []) w in
    let same : pairs_below edge row n n ≡ pairs_below edge (joins g.edges) n n =
    pairs_below-same edge row (joins g.edges) n (λ i j l m.
    ap (λ (ws : List ℕ). is_member ws j) (stored.each i (omega arith))
    ∙ member-where (joins g.edges i) n j
    ∙ ap (λ (b : Bool). b && joins g.edges i j) (lt-ltb j n m)) in
    sym (edges ∙ same ∙ rows_up (joins g.edges) n n
    ∙ ap (λ (f : ℕ → List Edge). flat_map f (numbers_from 0 n))
    (fun_ext (λ v. row_up (joins g.edges) v n)))

-- as commands
pub entanglings_up : (g : OpenGraph) (vs : List ℕ) →
    flat_map (λ v. entanglings (edges_up g v)) vs ≡ entanglings (flat_map (edges_up g) vs)
entanglings_up g [] = refl
entanglings_up g (v ∷ vs) =
    ap (λ (cs : List Command). entanglings (edges_up g v) ++ cs) (entanglings_up g vs)
    ∙ sym (map-append (λ e. Ent e.one e.other) (edges_up g v) (flat_map (edges_up g) vs))

-- ---- how many edges there are

length-filter : (p : ℕ → Bool) (xs : List ℕ) → length (filter p xs) ≡ count_by p xs
length-filter p [] = refl
length-filter p (x ∷ xs) =
    by (p x) (filter p xs)
    ∙ ap (λ (n : ℕ). cond (p x) 1 0 + n) (length-filter p xs)
    ∙ sym (sum_by-cons (λ y. cond (p y) 1 0) x xs)
  where
    by : (b : Bool) (ys : List ℕ) → length (cond b (x ∷ ys) ys) ≡ cond b 1 0 + length ys
    by true ys = omega arith
    by false ys = omega arith

pub count_up : (g : OpenGraph) (v : ℕ) →
    length (edges_up g v) ≡ count_by (nat_lt v) (neighbours g v)
count_up g v =
    length-map (filter (nat_lt v) (neighbours g v)) (edge v)
    ∙ length-filter (nat_lt v) (neighbours g v)

-- one more vertex
pub count_more : (g : OpenGraph) (v count n : ℕ) →
    count ≡ length (flat_map (edges_up g) (numbers_from 0 v)) →
    n ≡ count_by (nat_lt v) (neighbours g v) →
    count + n ≡ length (flat_map (edges_up g) (numbers_from 0 (v + 1)))
count_more g v count n e f =
    let more : v + 1 ≡ suc v = omega arith in
    let old : List Edge = flat_map (edges_up g) (numbers_from 0 v) in
    ap₂ (λ (a b : ℕ). a + b) e (f ∙ sym (count_up g v))
    ∙ sym (length-append old (edges_up g v))
    ∙ ap length (sym (ap (λ (k : ℕ). flat_map (edges_up g) (numbers_from 0 k)) more
    ∙ ap (flat_map (edges_up g)) (numbers_below-last v)
    ∙ flat_map-append (edges_up g) (numbers_from 0 v) (v ∷ [])
    ∙ ap (λ (es : List Edge). old ++ es) (append-nil (edges_up g v))))

-- a vertex has at most as many neighbours as there are vertices
pub few_neighbours : (g : OpenGraph) (v : ℕ) → IsOpenGraph g → length (neighbours g v) ≤ 256
few_neighbours g v valid =
    let most = few_where (joins g.edges v) (size g) in
    let few = valid.names.few in
    omega arith

pub count_within : (v : ℕ) (ws : List ℕ) → length ws ≤ 256 → count_by (nat_lt v) ws ≤ 256
count_within v ws few = let most = count_by-le-length (nat_lt v) ws in omega arith
