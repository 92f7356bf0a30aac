-- What a builder of graphs keeps at each call.
use Rattle.std.proofs.Common.{get_or, ◌≡◌, ◌≢◌, ℕ, zero, suc, ◌*◌, ◌<◌, ◌≤◌, Bool, true, false}
use Rattle.std.proofs.Common.{not, ◌||◌, map, replicate, length, List, [], ◌∷◌, ◌++◌, Some, None, refl}
use Rattle.std.proofs.Common.{sym, ◌∙◌, ap, ap₂, arith, set}
use Rattle.std.specs.Prelude.{Option, nat_eq, nat_lt, slice_get, unwrap_or, IsTrue, if◌then◌else◌}
use Rattle.std.proofs.lemmas.List.{map-append, length-append, length-replicate, map-set, length-set}
use Rattle.std.proofs.lemmas.Bool.{cases_Bool, true≢false, false_from_ne_true, or_parts, ltb-true}
use Rattle.std.proofs.lemmas.Bool.{lt-ltb, eq-eqb, ne_eqb}
use mathlib.Core.Logic.{inl, inr}
use Rattle.mc_model.specs.Bits.{◌⊻◌, same_pair}
use Rattle.mc_model.specs.Names.{Name, AreNames}
use Rattle.mc_model.specs.Steps.{is_permitted}
use Rattle.mc_model.specs.Numbers.{pairs_below}
use Rattle.mc_model.specs.Graph.{Edge, edge, joins, EdgesRise, OpenGraph, size, fixed_at, Fixed}
use Rattle.mc_model.specs.Graph.{not_fixed}
use Rattle.mc_model.proofs.PairLemmas.{joins-pairs, pair_ends}
use Rattle.std.proofs.Math.Seq.{map-set_same}
use Rattle.std.proofs.lemmas.Option.{unwrap_or-slice_get}
use Rattle.mc_graph.proofs.MappedReads.{read_mapped}
use Rattle.mc_graph.specs.declared.fixed.Fixed as kept
use Rattle.mc_graph.specs.declared.label.Label.{Label}
use Rattle.mc_graph.specs.Graphs.{plain_fixed}
use Rattle.mc_graph.specs.Links.{linked, AreLinks}
use Rattle.mc_graph.specs.Building.{IsBuilt, graph_so_far, begun, with_inputs, with_vertex}
use Rattle.mc_graph.specs.Building.{with_edge, with_angle, with_fixed}
use Rattle.mc_pattern.specs.Rules.{is_stranger}
use Rattle.mc_graph.specs.Rules.{edge_rule}
use Rattle.mc_graph.proofs.RisingEdges.{pairs_rise}
use Rattle.mc_graph.proofs.PairLists.{pairs_below-same, pairs_below-more, pairs_below-none}

-- a vertex without an angle and fixed corrections
abbrev pub blank : {half : ℕ} → Label half
blank = record { angle = None; fixed = record { x = false; z = false } }

-- ---- the inputs

map-replicate : {A B : Type 0} (f : A → B) (n : ℕ) (x : A) →
    map f (replicate n x) ≡ replicate n (f x)
map-replicate f zero x = refl
map-replicate f (suc n) x = ap (λ (ys : List _). f x ∷ ys) (map-replicate f n x)

pub begun_is : (half : ℕ) (names : List Name) (links : List Bool) →
    ((v w : ℕ) → linked links v w ≡ false) →
    graph_so_far {half = half} names (length names) links (replicate (length names) blank)
    ≡ begun names
begun_is half names links none =
    let n : ℕ = length names in
    rw (
      pairs_below-none edge (linked links) n n none,
      map-replicate (λ (l : Label half). l.angle) n blank,
      map-replicate (λ (l : Label half). plain_fixed l.fixed) n blank,
    ) refl

no_angles : ℕ → List (Option ℕ)
no_angles n = replicate n None

no_base : (n v a : ℕ) → unwrap_or (slice_get (no_angles n) v) None ≡ Some a → ⊥
unfolding no_angles
no_base zero v a e = absurd (cc e)
no_base (suc n) zero a e = absurd (cc e)
no_base (suc n) (suc v) a e = no_base n v a e

pub built_start : (half : ℕ) (names : List Name) (links : List Bool) → AreNames names →
    IsTrue (is_permitted half) → ((v w : ℕ) → linked links v w ≡ false) → AreLinks links →
    IsBuilt half (begun names) links
unfolding no_angles
built_start half names links valid permitted none are = record {
  begun = record {
    names = valid;
    inputs = omega arith;
    edges = tt;
    angles = length-replicate (length names) None;
    fixed = length-replicate (length names) not_fixed;
    outputs = refl;
    within = λ v a e. absurd (no_base (length names) v a e);
    permitted = permitted;
  };
  either = are;
  vertices = λ v w e. absurd (true≢false (sym e ∙ none v w));
}

-- ---- the inputs

pub built_inputs : (half : ℕ) (g : OpenGraph) (links : List Bool) (count : ℕ) →
    IsBuilt half g links → count ≤ size g → IsBuilt half (with_inputs g count) links
built_inputs half g links count h few = record {
  begun = record {
    names = h.begun.names;
    inputs = few;
    edges = h.begun.edges;
    angles = h.begun.angles;
    fixed = h.begun.fixed;
    outputs = h.begun.outputs;
    within = h.begun.within;
    permitted = h.begun.permitted;
  };
  either = h.either;
  vertices = h.vertices;
}

-- ---- a vertex

pub vertex_is : (half : ℕ) (names : List Name) (inputs : ℕ) (links : List Bool)
    (labels : List (Label half)) (name : Name) →
    IsBuilt half (graph_so_far names inputs links labels) links →
    graph_so_far (names ++ (name ∷ [])) inputs links (labels ++ (blank ∷ []))
    ≡ with_vertex (graph_so_far names inputs links labels) name
vertex_is half names inputs links labels name h =
    let n : ℕ = length names in
    let longer : length (names ++ (name ∷ [])) ≡ suc n = length-append names (name ∷ []) ∙ omega arith in
    let apart : (i : ℕ) → linked links i n ≡ false = λ i.
    false_from_ne_true (linked links i n) (λ e.
    let l = h.vertices n i (h.either.either n i ∙ e) in absurd (omega arith)) in
    rw (
      longer,
      pairs_below-more edge (linked links) n apart,
      map-append (λ (l : Label half). l.angle) labels (blank ∷ []),
      map-append (λ (l : Label half). plain_fixed l.fixed) labels (blank ∷ []),
    ) refl

more_angles : (angles : List (Option ℕ)) (v a : ℕ) →
    unwrap_or (slice_get (angles ++ (None ∷ [])) v) None ≡ Some a →
    unwrap_or (slice_get angles v) None ≡ Some a
more_angles [] zero a e = absurd (cc e)
more_angles [] (suc v) a e = absurd (cc e)
more_angles (x ∷ xs) zero a e = e
more_angles (x ∷ xs) (suc v) a e = more_angles xs v a e

rise_more : (n : ℕ) (es : List Edge) → EdgesRise n es → EdgesRise (suc n) es
rise_more n [] rise = tt
rise_more n (e ∷ es) rise =
    let l = rise.1 in (rise.0, omega arith, rise.2, rise_more n es rise.3)

pub built_vertex : (half : ℕ) (g : OpenGraph) (links : List Bool) (name : Name) →
    IsBuilt half g links → AreNames (g.names ++ (name ∷ [])) → IsBuilt half (with_vertex g name) links
built_vertex half g links name h valid =
    let longer : length (g.names ++ (name ∷ [])) ≡ suc (size g) =
    length-append g.names (name ∷ []) ∙ omega arith in
    let low = h.begun.inputs in
    record {
      begun = record {
        names = valid;
        inputs = omega arith;
        edges = rw longer (rise_more (size g) g.edges h.begun.edges);
        angles = length-append g.angles (None ∷ []) ∙ (let e = h.begun.angles in omega arith);
        fixed = length-append g.fixed (not_fixed ∷ []) ∙ (let e = h.begun.fixed in omega arith);
        outputs = h.begun.outputs;
        within = λ v a e. h.begun.within v a (more_angles g.angles v a e);
        permitted = h.begun.permitted;
      };
      either = h.either;
      vertices = λ v w e. let l = h.vertices v w e in omega arith;
    }

-- ---- an edge

pub joins_linked : (links : List Bool) (n v w : ℕ) → AreLinks links → v < n → w < n → v ≢ w →
    joins (pairs_below edge (linked links) n n) v w ≡ linked links v w
joins_linked links n v w are lv lw ne = joins-pairs (linked links) are.either n v w lv lw ne

xor_or : (s l : Bool) → (s ≡ true → l ≡ false) → s ⊻ l ≡ (l || s)
xor_or true l h = rw (h refl) refl
xor_or false true h = refl
xor_or false false h = refl

pub edge_is : {half : ℕ} (names : List Name) (inputs : ℕ) (links links' : List Bool)
    (labels : List (Label half)) (a b : ℕ) → AreLinks links →
    linked links a b ≡ false →
    ((i j : ℕ) → linked links' i j ≡ same_pair i j a b ⊻ linked links i j) →
    graph_so_far names inputs links' labels
    ≡ with_edge (graph_so_far names inputs links labels) a b
edge_is names inputs links links' labels a b are new toggled =
    let n : ℕ = length names in
    let edges : List Edge = pairs_below edge (linked links) n n in
    ap (λ (es : List Edge). record (graph_so_far names inputs links labels) { edges = es })
    (pairs_below-same edge (linked links') (λ v w. joins edges v w || same_pair v w a b) n
    (λ i j l m.
    toggled i j
    ∙ xor_or (same_pair i j a b) (linked links i j) (λ s. elim (pair_ends i j a b s) [
      | inl same ↦ ap₂ (linked links) same.0 same.1 ∙ new
      | inr same ↦ ap₂ (linked links) same.0 same.1 ∙ are.either b a ∙ new
    ])
    ∙ ap (λ (t : Bool). t || same_pair i j a b)
    (sym (joins_linked links n i j are (omega arith) m (omega arith)))))

pub built_edge : (half : ℕ) (g : OpenGraph) (links links' : List Bool) (a b : ℕ) →
    IsBuilt half g links → a < size g → b < size g →
    ((i j : ℕ) → linked links' i j ≡ same_pair i j a b ⊻ linked links i j) → AreLinks links' →
    IsBuilt half (with_edge g a b) links'
built_edge half g links links' a b h la lb toggled are = record {
  begun = record {
    names = h.begun.names;
    inputs = h.begun.inputs;
    edges = pairs_rise (size g) _ (size g);
    angles = h.begun.angles;
    fixed = h.begun.fixed;
    outputs = h.begun.outputs;
    within = h.begun.within;
    permitted = h.begun.permitted;
  };
  either = are;
  vertices = λ v w e. elim (cases_Bool (same_pair v w a b)) [
    | inl s ↦ elim (pair_ends v w a b s) [
      | inl same ↦ let p = same.0 in omega arith
      | inr same ↦ let p = same.0 in omega arith
    ]
    | inr s ↦
        h.vertices v w (ap (λ (t : Bool). t ⊻ linked links v w) (sym s) ∙ sym (toggled v w) ∙ e)
  ];
}

-- ---- an angle, and fixed corrections

other_angles : (half : ℕ) (angles : List (Option ℕ)) (v angle w a : ℕ) → angle < 2 * half →
    ((u b : ℕ) → unwrap_or (slice_get angles u) None ≡ Some b → b < 2 * half) →
    unwrap_or (slice_get (set angles v (Some angle)) w) None ≡ Some a → a < 2 * half
other_angles half [] v angle w a l h e = h w a e
other_angles half (x ∷ xs) zero angle zero a l h e = let same : angle ≡ a = cc e in omega arith
other_angles half (x ∷ xs) zero angle (suc w) a l h e = h (suc w) a e
other_angles half (x ∷ xs) (suc v) angle zero a l h e = h 0 a e
other_angles half (x ∷ xs) (suc v) angle (suc w) a l h e =
    other_angles half xs v angle w a l (λ u b. h (suc u) b) e

pub built_angle : (half : ℕ) (g : OpenGraph) (links : List Bool) (v angle : ℕ) →
    IsBuilt half g links → angle < 2 * half → IsBuilt half (with_angle g v angle) links
built_angle half g links v angle h l = record {
  begun = record {
    names = h.begun.names;
    inputs = h.begun.inputs;
    edges = h.begun.edges;
    angles = length-set g.angles v (Some angle) ∙ h.begun.angles;
    fixed = h.begun.fixed;
    outputs = h.begun.outputs;
    within = λ w a e. other_angles half g.angles v angle w a l h.begun.within e;
    permitted = h.begun.permitted;
  };
  either = h.either;
  vertices = h.vertices;
}

pub built_fixed : (half : ℕ) (g : OpenGraph) (links : List Bool) (v : ℕ) (fixed : Fixed) →
    IsBuilt half g links → IsBuilt half (with_fixed g v fixed) links
built_fixed half g links v fixed h = record {
  begun = record {
    names = h.begun.names;
    inputs = h.begun.inputs;
    edges = h.begun.edges;
    angles = h.begun.angles;
    fixed = length-set g.fixed v fixed ∙ h.begun.fixed;
    outputs = h.begun.outputs;
    within = h.begun.within;
    permitted = h.begun.permitted;
  };
  either = h.either;
  vertices = h.vertices;
}

-- ---- the rules

pub same_edge : (half : ℕ) (names : List Name) (inputs : ℕ) (links : List Bool)
    (labels : List (Label half)) (a b : ℕ) →
    IsBuilt half (graph_so_far names inputs links labels) links →
    a < length names → b < length names → a ≢ b →
    joins (graph_so_far names inputs links labels).edges a b ≡ linked links a b
same_edge half names inputs links labels a b h la lb ne =
    joins_linked links (length names) a b h.either la lb ne

rule_parts : (a b c : Bool) →
    ◌≡◌ {A = Option ℕ}
    (if a then Some 1 else (if b then Some 2 else (if c then Some 3 else None))) None →
    (a ≡ false) × (b ≡ false) × (c ≡ false)
rule_parts true b c e = absurd (cc e)
rule_parts false true c e = absurd (cc e)
rule_parts false false true e = absurd (cc e)
rule_parts false false false e = (refl, refl, refl)

-- an edge that breaks no rule
pub record IsNewEdge (g : OpenGraph) (a b : ℕ) : Type 0 where
  pub one : a < size g
  pub other : b < size g
  pub apart : a ≢ b
  pub new : joins g.edges a b ≡ false

not_false : (b : Bool) → not b ≡ false → b ≡ true
not_false true e = refl
not_false false e = absurd (true≢false e)

pub new_edge : (g : OpenGraph) (a b : ℕ) → edge_rule g a b ≡ None → IsNewEdge g a b
new_edge g a b e =
    let parts = rule_parts (is_stranger (size g) a || is_stranger (size g) b) (nat_eq a b)
    (joins g.edges a b) e in
    let inside = or_parts (is_stranger (size g) a) (is_stranger (size g) b) parts.0 in
    record {
      one = ltb-true a (size g) (not_false (nat_lt a (size g)) inside.0);
      other = ltb-true b (size g) (not_false (nat_lt b (size g)) inside.1);
      apart = λ s. absurd (true≢false (sym (eq-eqb a b s) ∙ parts.1));
      new = parts.2;
    }

pub edge_there : (g : OpenGraph) (a b : ℕ) → a < size g → b < size g → a ≢ b →
    joins g.edges a b ≡ true → Some 3 ≡ edge_rule g a b
edge_there g a b la lb ne e =
    rw (lt-ltb a (size g) la, lt-ltb b (size g) lb, ne_eqb a b ne, e) refl

pub edge_missing : (g : OpenGraph) (a b : ℕ) → a < size g → b < size g → a ≢ b →
    joins g.edges a b ≡ false → None ≡ edge_rule g a b
edge_missing g a b la lb ne e =
    rw (lt-ltb a (size g) la, lt-ltb b (size g) lb, ne_eqb a b ne, e) refl

-- a vertex that breaks no rule of its own
pub within_rule : (n v : ℕ) (k : ℕ) (b : Bool) →
    ◌≡◌ {A = Option ℕ} (if is_stranger n v then Some 1 else (if b then Some k else None)) None →
    v < n
within_rule n v k b e = ltb-true v n (first_part (nat_lt v n) e)
  where
    first_part : (t : Bool) →
        ◌≡◌ {A = Option ℕ} (if not t then Some 1 else (if b then Some k else None)) None → t ≡ true
    first_part true e = refl
    first_part false e = absurd (cc e)

-- ---- labels that are changed

module _ {half : ℕ} (names : List Name) (inputs : ℕ) (links : List Bool)
    (labels : List (Label half)) (v : ℕ) (l : Label half) (read : l ≡ get_or labels v l) where
  pub angle_is : (angle : ℕ) →
      graph_so_far names inputs links
      (set labels v (record { angle = Some angle; fixed = l.fixed }))
      ≡ with_angle (graph_so_far names inputs links labels) v angle
  angle_is angle =
      ap₂ (λ (angles : List (Option ℕ)) (fs : List Fixed). record (graph_so_far names inputs links labels)
      { angles = angles; fixed = fs })
      (map-set (λ (k : Label half). k.angle) labels v _)
      (map-set_same (λ (k : Label half). plain_fixed k.fixed) labels v _ l
      (ap (λ (k : Label half). plain_fixed k.fixed) read))

  pub fixed_is : (f : kept.Fixed) →
      graph_so_far names inputs links (set labels v (record { angle = l.angle; fixed = f }))
      ≡ with_fixed (graph_so_far names inputs links labels) v (plain_fixed f)
  fixed_is f =
      ap₂ (λ (angles : List (Option ℕ)) (fs : List Fixed). record (graph_so_far names inputs links labels)
      { angles = angles; fixed = fs })
      (map-set_same (λ (k : Label half). k.angle) labels v _ l (ap (λ (k : Label half). k.angle) read))
      (map-set (λ (k : Label half). plain_fixed k.fixed) labels v _)

  pub fixed_read : v < length labels →
      fixed_at (graph_so_far names inputs links labels) v ≡ plain_fixed l.fixed
  fixed_read within =
      unwrap_or-slice_get (map (λ (k : Label half). plain_fixed k.fixed) labels) v not_fixed
      ∙ read_mapped (λ (k : Label half). plain_fixed k.fixed) labels v l not_fixed within read
