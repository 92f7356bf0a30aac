-- The edges of a graph in order are those of each vertex in turn to its neighbours of higher number.
use Rattle.std.proofs.Common.{◌≡◌, ℕ, zero, suc, ◌+◌, ◌-◌, ◌<◌, ◌≤◌, Bool, true, false, cond, ◌&&◌}
use Rattle.std.proofs.Common.{◌||◌, map, List, [], ◌∷◌, ◌++◌, refl, sym, ◌∙◌, ap, ap₂, arith}
use Rattle.std.specs.Prelude.{nat_eq, nat_lt, filter, flat_map}
use Rattle.std.specs.List.{AllByRecursion}
use Rattle.std.proofs.lemmas.Bool.{eq-eqb, cases_eq, cases_Bool, and_parts, ltb-true}
use Rattle.std.proofs.lemmas.Bool.{false_from_ne_true, false≢true, lt-ltb}
use Rattle.std.proofs.lemmas.List.Elements.{recursion_from_All}
use mathlib.Core.Logic.{inl, inr}
use Rattle.mc_model.specs.Bits.{◌⊻◌, Bits, same_pair}
use Rattle.mc_model.specs.Numbers.{numbers_from, numbers_where}
use Rattle.mc_model.specs.Graph.{Edge, edge, OpenGraph, size, joins, IsBehind, EdgesRise}
use Rattle.mc_model.specs.Graph.{IsOpenGraph}
use Rattle.mc_model.proofs.PairLemmas.{pair_ends}
use Rattle.mc_graph.specs.Neighbours.{edges_up}
use Rattle.mc_make.proofs.MeasuringOrder.{all-weaker}
use Rattle.mc_extract.proofs.Rounds.{filter-filter}

-- ---- numbers that pass a test

pub filter-same : (p q : Bits) (i m : ℕ) → ((k : ℕ) → i ≤ k → k < i + m → p k ≡ q k) →
    filter p (numbers_from i m) ≡ filter q (numbers_from i m)
filter-same p q i zero h = refl
filter-same p q i (suc m) h =
    ap₂ (λ (b : Bool) (ks : List ℕ). cond b (i ∷ ks) ks) (h i (omega arith) (omega arith))
    (filter-same p q (suc i) m (λ k low high. h k (omega arith) (omega arith)))

filter-none : (p : Bits) (i m : ℕ) → ((k : ℕ) → i ≤ k → k < i + m → p k ≡ false) →
    filter p (numbers_from i m) ≡ []
filter-none p i zero h = refl
filter-none p i (suc m) h =
    ap₂ (λ (b : Bool) (ks : List ℕ). cond b (i ∷ ks) ks) (h i (omega arith) (omega arith))
    (filter-none p (suc i) m (λ k low high. h k (omega arith) (omega arith)))

-- one more number, below all others that pass
filter-first : (p q : Bits) (b i m : ℕ) → i ≤ b → b < i + m → q b ≡ true →
    ((k : ℕ) → (k ≡ b → ⊥) → q k ≡ p k) → ((k : ℕ) → p k ≡ true → b < k) →
    filter q (numbers_from i m) ≡ b ∷ filter p (numbers_from i m)
filter-first p q b i zero low high here same above = absurd (omega arith)
filter-first p q b i (suc m) low high here same above =
    let none : p i ≡ false =
    false_from_ne_true (p i) (λ e. let l = above i e in absurd (omega arith)) in
    elim (cases_eq i b) [
      | inl e ↦
          ap₂ (λ (t : Bool) (ks : List ℕ). cond t (i ∷ ks) ks) (ap q e ∙ here)
          (filter-same q p (suc i) m (λ k l h. same k (λ d. absurd (omega arith))))
          ∙ ap₂ (λ (k : ℕ) (t : Bool).
          k ∷ cond t (i ∷ filter p (numbers_from (suc i) m)) (filter p (numbers_from (suc i) m))) e
          (sym none)
      | inr ne ↦
          ap₂ (λ (t : Bool) (ks : List ℕ). cond t (i ∷ ks) ks) (same i ne ∙ none)
          (filter-first p q b (suc i) m (omega arith) (omega arith) here same above)
          ∙ ap (λ (t : Bool).
          b ∷ cond t (i ∷ filter p (numbers_from (suc i) m)) (filter p (numbers_from (suc i) m)))
          (sym none)
    ]

-- ---- the edges of one vertex

-- to a higher number, by a list of edges
abbrev up : List Edge → ℕ → Bits
up es v w = joins es v w && nat_lt v w

abbrev row_up : ℕ → List Edge → ℕ → List Edge
row_up n es v = map (edge v) (filter (nat_lt v) (numbers_where (joins es v) n))

row_is : (n : ℕ) (es : List Edge) (v : ℕ) →
    row_up n es v ≡ map (edge v) (numbers_where (up es v) n)
row_is n es v = ap (map (edge v)) (filter-filter (joins es v) (nat_lt v) (numbers_from 0 n))

-- edges from `q` on join no lower number to a higher one
low_none : (n : ℕ) (es : List Edge) (q v w : ℕ) → EdgesRise n es →
    AllByRecursion (λ e. q ≤ e.one) es → v < q → v < w → joins es v w ≡ false
unfolding joins
low_none n [] q v w rise from l m = refl
low_none n (e ∷ es) q v w rise from l m =
    let low = from.0 in
    let apart = rise.0 in
    ap₂ (λ (a b : Bool). a ⊻ b)
    (false_from_ne_true (same_pair v w e.one e.other) (λ s.
    elim (pair_ends v w e.one e.other s) [
      | inl h ↦ let x = h.0 in absurd (omega arith)
      | inr h ↦ let x = h.0 in let y = h.1 in absurd (omega arith)
    ]))
    (low_none n es q v w rise.3 from.1 l m)

-- the numbers that later edges join to the lower end of an edge are above its higher end
above_other : (n : ℕ) (e : Edge) (es : List Edge) (w : ℕ) → e.one < e.other →
    AllByRecursion (IsBehind e) es → EdgesRise n es → e.one < w → joins es e.one w ≡ true →
    e.other < w
unfolding joins
above_other n e [] w l behind rise m j = absurd (false≢true j)
above_other n e (f ∷ es) w l behind rise m j =
    let apart = rise.0 in
    elim (cases_Bool (same_pair e.one w f.one f.other)) [
      | inl s ↦ elim (pair_ends e.one w f.one f.other s) [
        | inl h ↦
            let x = h.0 in
            let y = h.1 in
            elim (behind.0) [
              | inl less ↦ absurd (omega arith)
              | inr k ↦ let z = k.1 in omega arith
            ]
        | inr h ↦ let x = h.0 in let y = h.1 in absurd (omega arith)
      ]
      | inr s ↦
          above_other n e es w l behind.1 rise.3 m
          (sym (ap (λ (b : Bool). b ⊻ joins es e.one w) s) ∙ j)
    ]

-- ---- one more edge

module _ (n : ℕ) (e : Edge) (es : List Edge) (rise : EdgesRise n (e ∷ es)) where
  behind : AllByRecursion (IsBehind e) es
  behind = recursion_from_All (IsBehind e) es rise.2

  other_row : (v w : ℕ) → e.one < v → up (e ∷ es) v w ≡ up es v w
  unfolding joins
  other_row v w l = elim (cases_Bool (nat_lt v w)) [
    | inl m ↦
        let less = ltb-true v w m in
        let apart = rise.0 in
        ap (λ (b : Bool). (b ⊻ joins es v w) && nat_lt v w)
        (false_from_ne_true (same_pair v w e.one e.other) (λ s.
        elim (pair_ends v w e.one e.other s) [
          | inl h ↦ let x = h.0 in absurd (omega arith)
          | inr h ↦ let x = h.0 in let y = h.1 in absurd (omega arith)
        ]))
    | inr m ↦
        ap (λ (b : Bool). (same_pair v w e.one e.other ⊻ joins es v w) && b) m
        ∙ none (same_pair v w e.one e.other ⊻ joins es v w) (joins es v w)
        ∙ ap (λ (b : Bool). joins es v w && b) (sym m)
  ]
    where
      none : (a b : Bool) → a && false ≡ b && false
      none a b = grind arith

  later_rows : (v : ℕ) → e.one < v → row_up n (e ∷ es) v ≡ row_up n es v
  later_rows v l =
      row_is n (e ∷ es) v
      ∙ ap (map (edge v))
      (filter-same (up (e ∷ es) v) (up es v) 0 n (λ w low high. other_row v w l))
      ∙ sym (row_is n es v)

  own_row : row_up n (e ∷ es) e.one ≡ e ∷ row_up n es e.one
  unfolding joins
  own_row =
      let apart = rise.0 in
      let high = rise.1 in
      row_is n (e ∷ es) e.one
      ∙ ap (map (edge e.one))
      (filter-first (up es e.one) (up (e ∷ es) e.one) e.other 0 n (omega arith) (omega arith)
      here same above)
      ∙ ap (λ (fs : List Edge). e ∷ fs) (sym (row_is n es e.one))
    where
      above : (w : ℕ) → up es e.one w ≡ true → e.other < w
      above w j =
          let parts = and_parts (joins es e.one w) (nat_lt e.one w) j in
          above_other n e es w rise.0 behind rise.3 (ltb-true e.one w parts.1) parts.0

      none_yet : joins es e.one e.other ≡ false
      none_yet = false_from_ne_true (joins es e.one e.other) (λ j.
          let l = above_other n e es e.other rise.0 behind rise.3 rise.0 j in absurd (omega arith))

      here : up (e ∷ es) e.one e.other ≡ true
      here =
          ap₂ (λ (a b : Bool). a && b)
          (ap₂ (λ (a b : Bool). a ⊻ b)
          (ap₂ (λ (a b : Bool). a && b || (nat_eq e.one e.other && nat_eq e.other e.one))
          (eq-eqb e.one e.one refl) (eq-eqb e.other e.other refl)) none_yet)
          (lt-ltb e.one e.other rise.0)

      same : (w : ℕ) → (w ≡ e.other → ⊥) → up (e ∷ es) e.one w ≡ up es e.one w
      same w ne =
          let apart = rise.0 in
          ap (λ (b : Bool). (b ⊻ joins es e.one w) && nat_lt e.one w)
          (false_from_ne_true (same_pair e.one w e.one e.other) (λ s.
          elim (pair_ends e.one w e.one e.other s) [
            | inl h ↦ absurd (ne (h.1))
            | inr h ↦ let x = h.0 in absurd (omega arith)
          ]))

  earlier_rows : (q v : ℕ) → v < q → AllByRecursion (λ f. q ≤ f.one) (e ∷ es) →
      row_up n (e ∷ es) v ≡ []
  earlier_rows q v l from =
      row_is n (e ∷ es) v
      ∙ ap (map (edge v)) (filter-none (up (e ∷ es) v) 0 n (λ w low high. by w (nat_lt v w) refl))
    where
      nought : (b : Bool) → b && false ≡ false
      nought b = grind arith

      by : (w : ℕ) (b : Bool) → nat_lt v w ≡ b → joins (e ∷ es) v w && nat_lt v w ≡ false
      by w true m =
          ap (λ (b : Bool). b && nat_lt v w)
          (low_none n (e ∷ es) q v w rise from l (ltb-true v w m))
      by w false m = ap (λ (b : Bool). joins (e ∷ es) v w && b) m ∙ nought (joins (e ∷ es) v w)

-- ---- all edges

flat_map-same : (f h : ℕ → List Edge) (q m : ℕ) → ((v : ℕ) → q ≤ v → f v ≡ h v) →
    flat_map f (numbers_from q m) ≡ flat_map h (numbers_from q m)
flat_map-same f h q zero same = refl
flat_map-same f h q (suc m) same =
    ap₂ (λ (es fs : List Edge). es ++ fs) (same q (omega arith))
    (flat_map-same f h (suc q) m (λ v l. same v (omega arith)))

no_edges : (n q m : ℕ) → flat_map (row_up n []) (numbers_from q m) ≡ []
unfolding joins
no_edges n q zero = refl
no_edges n q (suc m) =
    ap₂ (λ (es fs : List Edge). es ++ fs)
    (row_is n [] q ∙ ap (map (edge q)) (filter-none (up [] q) 0 n (λ w low high. refl)))
    (no_edges n (suc q) m)

rows_with : (n : ℕ) (e : Edge) (es : List Edge) → EdgesRise n (e ∷ es) →
    es ≡ flat_map (row_up n es) (numbers_from e.one (n - e.one)) → (q m : ℕ) → q + m ≡ n →
    q ≤ e.one → e ∷ es ≡ flat_map (row_up n (e ∷ es)) (numbers_from q m)
rows_with n e es rise rest q zero whole low =
    let apart = rise.0 in let high = rise.1 in absurd (omega arith)
rows_with n e es rise rest q (suc m) whole low = elim (cases_eq e.one q) [
  | inl s ↦
      let left : n - e.one ≡ suc m = omega arith in
      let more : List Edge = flat_map (row_up n es) (numbers_from (suc e.one) m) in
      ap (λ (fs : List Edge). e ∷ fs)
      (rest ∙ ap (λ (k : ℕ). flat_map (row_up n es) (numbers_from e.one k)) left)
      ∙ ap (λ (fs : List Edge). fs ++ more) (sym (own_row n e es rise))
      ∙ ap (λ (fs : List Edge). row_up n (e ∷ es) e.one ++ fs)
      (flat_map-same (row_up n es) (row_up n (e ∷ es)) (suc e.one) m
      (λ v l. sym (later_rows n e es rise v (omega arith))))
      ∙ ap (λ (k : ℕ). flat_map (row_up n (e ∷ es)) (numbers_from k (suc m))) s
  | inr ne ↦
      rows_with n e es rise rest (suc q) m (omega arith) (omega arith)
      ∙ ap (λ (fs : List Edge). fs ++ flat_map (row_up n (e ∷ es)) (numbers_from (suc q) m))
      (sym (earlier_rows n e es rise (suc q) q (omega arith) (from_there (omega arith))))
]
  where
    from_there : suc q ≤ e.one → AllByRecursion (λ f. suc q ≤ f.one) (e ∷ es)
    from_there l = (
      l,
      all-weaker (IsBehind e) (λ f. suc q ≤ f.one)
          (λ f b. elim b [
            | inl less ↦ omega arith
            | inr k ↦ let same = k.0 in omega arith
          ]) es (behind n e es rise),
    )

rows_from : (n : ℕ) (es : List Edge) → EdgesRise n es → (q m : ℕ) → q + m ≡ n →
    AllByRecursion (λ e. q ≤ e.one) es → es ≡ flat_map (row_up n es) (numbers_from q m)
rows_from n [] rise q m whole from = sym (no_edges n q m)
rows_from n (e ∷ es) rise q m whole from =
    let apart = rise.0 in
    let high = rise.1 in
    rows_with n e es rise
    (rows_from n es rise.3 e.one (n - e.one) (omega arith)
    (all-weaker (IsBehind e) (λ f. e.one ≤ f.one)
    (λ f b. elim b [
      | inl less ↦ omega arith
      | inr k ↦ let same = k.0 in omega arith
    ]) es (behind n e es rise)))
    q m whole from.0

all_from_none : (es : List Edge) → AllByRecursion (λ e. 0 ≤ e.one) es
all_from_none [] = tt
all_from_none (e ∷ es) = (omega arith, all_from_none es)

pub edges_by_rows : (g : OpenGraph) → IsOpenGraph g →
    g.edges ≡ flat_map (edges_up g) (numbers_from 0 (size g))
edges_by_rows g valid =
    let whole : 0 + size g ≡ size g = omega arith in
    rows_from (size g) g.edges valid.edges 0 (size g) whole (all_from_none g.edges)
