-- The sign of the edges between prepared vertices, and what one more vertex adds to it.
use Rattle.std.proofs.Common.{◌≡◌, ℕ, ◌<◌, Bool, true, false, ◌&&◌, ◌||◌, not, List, [], ◌∷◌, refl}
use Rattle.std.proofs.Common.{sym, ◌∙◌, ap, ap₂, arith}
use Rattle.std.specs.Prelude.{nat_eq}
use Rattle.std.specs.List.{AllByRecursion}
use Rattle.std.proofs.lemmas.Bool.{eq-eqb, ne_eqb, eqb-true, cases_eq, and_parts}
use Rattle.std.proofs.lemmas.Bool.{false_from_ne_true, true≢false, false≢true}
use mathlib.Core.Path.{fun_ext}
use mathlib.Core.Logic.{inl, inr}
use Rattle.mc_model.specs.Bits.{◌⊻◌, Bits, replaced, parity, odd}
use Rattle.mc_model.specs.Numbers.{numbers_where, is_member}
use Rattle.mc_model.specs.Graph.{Edge, OpenGraph, size, joins, odd_neighbourhood, EdgesRise}
use Rattle.mc_model.specs.Graph.{IsOpenGraph}
use Rattle.mc_model.specs.Flow.{IsCausalFlow, single}
use Rattle.mc_model.specs.Made.{is_current}
use Rattle.mc_model.proofs.BitLemmas.{replaced_other, xor_false}
use Rattle.mc_model.proofs.OddSums.{xor_and, odd-same, odd-xor}
use Rattle.mc_model.proofs.Refutation.{odd_of_single, joins_comm}
use Rattle.mc_odd.proofs.NumberSums.{parity-numbers_where}
use Rattle.mc_make.proofs.SetSums.{odd-pick}
use Rattle.mc_make.proofs.GraphStates.{flipped, inside, set_sum, inside_flipped}
use Rattle.mc_make.proofs.MeasuringOrder.{IsWhere, where_all, all-weaker}
use Rattle.mc_extract.proofs.Chains.{corrects_causally}
use Rattle.mc_extract.proofs.Passing.{IsNextToPass, is_born, born_here, born_step, not_current}
use Rattle.mc_extract.proofs.Passing.{current_neighbour}

-- ---- no edge joins a vertex to itself

not_both : (v a b : ℕ) → a < b → nat_eq v a && nat_eq v b ≡ false
not_both v a b l = false_from_ne_true (nat_eq v a && nat_eq v b) (λ e.
    let parts = and_parts (nat_eq v a) (nat_eq v b) e in
    let p = eqb-true v a parts.0 in
    let q = eqb-true v b parts.1 in
    absurd (omega arith))

no_pair : (p q : Bool) → p && q ≡ false → (p && q) || (q && p) ≡ false
no_pair true true e = absurd (true≢false e)
no_pair true false e = refl
no_pair false true e = refl
no_pair false false e = refl

pub no_loop : (n : ℕ) (es : List Edge) (v : ℕ) → EdgesRise n es → joins es v v ≡ false
unfolding joins
no_loop n [] v rise = refl
no_loop n (e ∷ es) v rise =
    ap₂ (λ (a b : Bool). a ⊻ b)
    (no_pair (nat_eq v e.one) (nat_eq v e.other) (not_both v e.one e.other rise.0))
    (no_loop n es v rise.3)

turned_eq : (k j : ℕ) → nat_eq k j ≡ nat_eq j k
turned_eq k j = elim (cases_eq k j) [
  | inl e ↦ eq-eqb k j e ∙ sym (eq-eqb j k (sym e))
  | inr ne ↦ ne_eqb k j ne ∙ sym (ne_eqb j k (λ e. ne (sym e)))
]

inside_single : (n : ℕ) (es : List Edge) (u : ℕ) → EdgesRise n es → inside es (single u) ≡ false
unfolding inside
inside_single n [] u rise = refl
inside_single n (e ∷ es) u rise =
    ap₂ (λ (a b : Bool). a ⊻ b)
    (ap₂ (λ (a b : Bool). a && b) (turned_eq e.one u) (turned_eq e.other u)
    ∙ not_both u e.one e.other rise.0)
    (inside_single n es u rise.3)

-- the sum over the edges looks at vertices alone
pub inside_same : (n : ℕ) (es : List Edge) (x y : Bits) → EdgesRise n es →
    ((k : ℕ) → k < n → x k ≡ y k) → inside es x ≡ inside es y
unfolding inside
inside_same n [] x y rise h = refl
inside_same n (e ∷ es) x y rise h =
    let a = rise.0 in
    let b = rise.1 in
    ap₂ (λ (s t : Bool). s ⊻ t)
    (ap₂ (λ (s t : Bool). s && t) (h e.one (omega arith)) (h e.other b))
    (inside_same n es x y rise.3 h)

-- ---- sums over a list

pub parity_replaced : (qs : List ℕ) (j : ℕ) (c : Bool) (x : Bits) →
    AllByRecursion (λ k. k ≡ j → ⊥) qs → parity qs (replaced x j c) ≡ parity qs x
unfolding parity odd
parity_replaced [] j c x all = refl
parity_replaced (q ∷ qs) j c x all =
    ap₂ (λ (a b : Bool). a ⊻ b) (replaced_other x j c q all.0) (parity_replaced qs j c x all.1)

pub parity_same : (qs : List ℕ) (x y : Bits) → AllByRecursion (λ k. x k ≡ y k) qs →
    parity qs x ≡ parity qs y
unfolding parity odd
parity_same [] x y all = refl
parity_same (q ∷ qs) x y all =
    ap₂ (λ (a b : Bool). a ⊻ b) all.0 (parity_same qs x y all.1)

-- ---- prepared vertices

-- the setting of the prepared vertices, and 0 elsewhere
abbrev pub shown : OpenGraph → (ℕ → ℕ) → List ℕ → Bits → Bits
shown g next done x = λ k. is_born g next done k && x k

-- the current vertices that an edge joins to the next of the vertex that was just passed
abbrev pub joined_now : OpenGraph → (ℕ → ℕ) → List ℕ → ℕ → Bits
joined_now g next done i = λ k. joins g.edges (next i) k && is_current g next (i ∷ done) k

abbrev pub neighbours_now : OpenGraph → (ℕ → ℕ) → List ℕ → ℕ → List ℕ
neighbours_now g next done i = numbers_where (joined_now g next done i) (size g)

and_first : (j b x : Bool) → j && (b && x) ≡ (j && b) && x
and_first j b x = grind arith

and_true : (x : Bool) → x ≡ (x && true) ⊻ false
and_true x = grind arith

no_more : (p x : Bool) → p && x ≡ (x && false) ⊻ (p && x)
no_more p x = grind arith

-- the term of a vertex: `e` tells whether it is the one that was just passed
one_term : (j b x e c : Bool) → (e ≡ true → (j ≡ true) × (b ≡ true) × (c ≡ false)) →
    (e ≡ false → j && b ≡ (j && c)) → j && (b && x) ≡ (x && e) ⊻ ((j && c) && x)
one_term j b x true c h k = let t = h refl in rw (t.0, t.1, t.2) (and_true x)
one_term j b x false c h k =
    and_first j b x ∙ ap (λ (t : Bool). t && x) (k refl) ∙ no_more (j && c) x

module _ (g : OpenGraph) (next layer : ℕ → ℕ) (valid : IsOpenGraph g)
    (flow : IsCausalFlow g next layer) (done : List ℕ) (i : ℕ) (at : IsNextToPass g layer done i)
  where
    -- another neighbour of the next vertex is current just if it was prepared
    pub same_neighbours : (k : ℕ) → k < size g → (b : Bool) → joins g.edges (next i) k ≡ b →
        nat_eq k i ≡ false → b && is_born g next done k ≡ (b && is_current g next (i ∷ done) k)
    same_neighbours k l false j ne = refl
    same_neighbours k l true j ne =
        sym (current_neighbour g next layer flow done i at k l
        (λ e. true≢false (sym (eq-eqb k i e) ∙ ne))
        (λ e. false≢true (sym (no_loop (size g) g.edges (next i) valid.edges)
        ∙ ap (joins g.edges (next i)) (sym e) ∙ j))
        j)

    term_of : (x : Bits) (k : ℕ) → k < size g →
        odd_neighbourhood g (single (next i)) k && shown g next done x k
        ≡ (x k && nat_eq k i) ⊻ (joined_now g next done i k && x k)
    term_of x k l =
        let c = corrects_causally g next layer flow i at.vertex at.no_output in
        ap (λ (b : Bool). b && shown g next done x k)
        (odd_of_single g (next i) k c.vertex ∙ joins_comm g.edges k (next i))
        ∙ one_term (joins g.edges (next i) k) (is_born g next done k) (x k) (nat_eq k i)
        (is_current g next (i ∷ done) k)
        (λ e.
        let s = eqb-true k i e in (
          ap (joins g.edges (next i)) s ∙ c.neighbour,
          ap (is_born g next done) s ∙ born_here g next layer flow done i at,
          ap (is_current g next (i ∷ done)) s ∙ not_current g next layer flow done i at,
        ))
        (same_neighbours k l (joins g.edges (next i) k) refl)

    sum_of : (x : Bits) →
        set_sum (size g) (odd_neighbourhood g (single (next i))) (shown g next done x)
        ≡ x i ⊻ parity (neighbours_now g next done i) x
    unfolding set_sum
    sum_of x =
        let p : Bits = joined_now g next done i in
        odd-same (size g) (λ k. odd_neighbourhood g (single (next i)) k && shown g next done x k)
        (λ k. (x k && nat_eq k i) ⊻ (p k && x k)) (term_of x)
        ∙ odd-xor (size g) (λ k. x k && nat_eq k i) (λ k. p k && x k)
        ∙ ap₂ (λ (a b : Bool). a ⊻ b) (odd-pick (size g) i x at.vertex)
        (sym (parity-numbers_where p (size g) x))

    one_more_shown : (x : Bits) →
        shown g next (i ∷ done) x ≡ flipped (single (next i)) (x (next i)) (shown g next done x)
    one_more_shown x = fun_ext λ k.
        ap (λ (b : Bool). b && x k) (born_step g next layer flow done i at k)
        ∙ xor_and (is_born g next done k) (nat_eq k (next i)) (x k)
        ∙ ap (λ (b : Bool). shown g next done x k ⊻ b) (elim (cases_eq k (next i)) [
          | inl e ↦ ap (λ (j : ℕ). nat_eq k (next i) && x j) e
          | inr ne ↦ rw (ne_eqb k (next i) ne)
        ])

    -- the sign of the edges, when one more vertex was passed
    pub edges_step : (x : Bits) →
        inside g.edges (shown g next (i ∷ done) x)
        ≡ inside g.edges (shown g next done x)
        ⊻ ((x i ⊻ parity (neighbours_now g next done i) x) && x (next i))
    edges_step x =
        let z : Bits = shown g next done x in
        ap (inside g.edges) (one_more_shown x)
        ∙ inside_flipped g (single (next i)) z (x (next i)) valid.edges
        ∙ ap₂ (λ (a b : Bool). inside g.edges z ⊻ ((a && x (next i)) ⊻ (b && x (next i))))
        (sum_of x)
        (inside_single (size g) g.edges (next i) valid.edges)
        ∙ ap (λ (b : Bool). inside g.edges z ⊻ b) (xor_false _)

    -- no vertex that was passed is among the neighbours now
    pub passed_apart : (j : ℕ) → is_member (i ∷ done) j ≡ true →
        AllByRecursion (λ k. k ≡ j → ⊥) (neighbours_now g next done i)
    passed_apart j m =
        all-weaker (IsWhere (joined_now g next done i) 0 (size g)) (λ k. k ≡ j → ⊥)
        (λ k w e.
        let c = and_parts (joins g.edges (next i) k) (is_current g next (i ∷ done) k) w.0 in
        false≢true (sym (ap (λ (b : Bool). not b && is_born g next (i ∷ done) j) m)
        ∙ ap (is_current g next (i ∷ done)) (sym e) ∙ c.1))
        (neighbours_now g next done i) (where_all (joined_now g next done i) 0 (size g))
