-- A flow of least layers has a bound of its depth, whose sets are the least.
use Rattle.std.specs.Prelude.{◌≡◌, ◌≢◌, ◌⊎◌, ℕ, zero, suc, ◌+◌, ◌<◌, ◌≤◌, Bool, true, false}
use Rattle.std.specs.Prelude.{cond}
use Rattle.std.specs.Prelude.{not, ◌&&◌, ◌||◌, nat_eq, nat_lt, max, fold, map, List, [], ◌∷◌, refl}
use Rattle.std.proofs.Common.{arith, sym, ap, ap₂, subst, ◌∙◌, inl, inr}
use Rattle.std.proofs.lemmas.Bool.{eqb-true, eq-eqb, ne_eqb, lt-ltb, ltb-true, cases_eq, true≢false}
use Rattle.std.proofs.lemmas.Bool.{false≢true}
use Rattle.mc_model.specs.Bits.{Bits, all_zero, odd}
use Rattle.mc_model.specs.Numbers.{numbers_from, is_member}
use Rattle.mc_model.specs.Graph.{OpenGraph, size, is_input, is_output, joins, odd_neighbourhood}
use Rattle.mc_model.specs.Flow.{IsFlow, CorrectsAt, single, depth_of}
use Rattle.mc_model.specs.Choice.{IsLeastLayer, IsLeastSet, SameBelow}
use Rattle.mc_model.specs.Depth.{KeepsAbove}
use Rattle.mc_model.proofs.OddSums.{and_false, odd-same, odd-none}
use Rattle.mc_model.proofs.Refutation.{joins_comm}
use Rattle.mc_model.proofs.DepthBounds.{within_depth, is_from, from_parts, from_both, from_not}
use Rattle.mc_least.specs.Bound.{IsChosenBound}
use Rattle.mc_least.specs.Laws.{ChosenBoundsExist, ChosenBoundsAreUnique}
use Rattle.mc_least.proofs.LeastSets.{least_or_none, least_is_unique}
use Rattle.mc_least.proofs.Systems.{System, Solves, Refutes, dot, solved_or_refuted}

-- ---- the system of a vertex and a layer

-- a vertex, no input, that is measured behind the layer `k`
abbrev is_candidate : OpenGraph → (ℕ → ℕ) → ℕ → Bits
is_candidate g layer k w = not (is_input g w) && not (is_from g layer k w)

abbrev system_at : OpenGraph → (ℕ → ℕ) → ℕ → System
system_at g layer k = record {
  rows = size g;
  column = λ w v. is_from g layer k v && joins g.edges v w;
  is_open = is_candidate g layer k;
}

nots : (a b : Bool) → (not a && not b) ≡ true → (a ≡ false) × (b ≡ false)
nots false false e = (refl, refl)
nots false true e = absurd (false≢true e)
nots true b e = absurd (false≢true e)

both_not : (a b : Bool) → a ≡ false → b ≡ false → (not a && not b) ≡ true
both_not a b e f = ap₂ (λ (a b : Bool). not a && not b) e f

record Case (g : OpenGraph) (sets : ℕ → Bits) (layer : ℕ → ℕ) (k u : ℕ) : Type 0 where
  flow : IsFlow g sets layer
  positive : 1 ≤ k
  above : k < layer u
  vertex : u < size g
  no_output : is_output g u ≡ false

-- ---- a solution lowers the layer

abbrev lowered : (ℕ → ℕ) → ℕ → ℕ → ℕ → ℕ
lowered layer k u v = cond (nat_eq v u) k (layer v)

abbrev put : (ℕ → Bits) → Bits → ℕ → ℕ → Bits
put sets s u v = cond (nat_eq v u) s (sets v)

here : {A : Type 0} (x y : A) (u : ℕ) → cond (nat_eq u u) x y ≡ x
here x y u = ap (λ (b : Bool). cond b x y) (eq-eqb u u refl)

there : {A : Type 0} (x y : A) (v u : ℕ) → v ≢ u → cond (nat_eq v u) x y ≡ y
there x y v u ne = ap (λ (b : Bool). cond b x y) (ne_eqb v u ne)

lowered_at_most : (layer : ℕ → ℕ) (k u v : ℕ) → k < layer u → lowered layer k u v ≤ layer v
lowered_at_most layer k u v low = elim (cases_eq v u) [
  | inl s ↦
      let e = ap (lowered layer k u) s ∙ here k (layer u) u in
      let f = ap layer s in
      omega arith
  | inr ne ↦ let e = there k (layer v) v u ne in omega arith
]

-- what is measured behind the layer has a lesser one
behind : (g : OpenGraph) (sets : ℕ → Bits) (layer : ℕ → ℕ) (k u : ℕ) → Case g sets layer k u →
    (v : ℕ) → v < size g → is_from g layer k v ≡ false → lowered layer k u v < k
behind g sets layer k u c v l e =
    let at = there k (layer v) v u (λ s. other s) in
    elim (from_not g layer k v e) [
      | inl o ↦
          let none = (c.flow).outputs v l o in
          let one = c.positive in
          omega arith
      | inr low ↦ omega arith
    ]
  where
    other : v ≡ u → ⊥
    other s =
        let high = c.above in
        true≢false (sym (from_both g layer k u c.no_output (omega arith))
        ∙ sym (ap (is_from g layer k) s) ∙ e)

solution_corrects : (g : OpenGraph) (sets : ℕ → Bits) (layer : ℕ → ℕ) (k u : ℕ) →
    Case g sets layer k u → (s : Bits) →
    Solves (system_at g layer k) (size g) (λ v. is_from g layer k v && single u v) s →
    CorrectsAt g s (lowered layer k u) u
solution_corrects g sets layer k u c s h = record {
  within = h.below;
  no_input = λ w e. (opened w e).0;
  not_itself = not_at u;
  odd_itself = itself;
  set_later = λ w e.
      let at = here k (layer u) u in
      let low = behind g sets layer k u c w (h.below w e) (opened w e).1 in
      omega arith;
  odd_later = λ w l ne o.
      let at = here k (layer u) u in
      let low = behind g sets layer k u c w l (outside w l ne o) in
      omega arith;
}
  where
    opened : (w : ℕ) → s w ≡ true → (is_input g w ≡ false) × (is_from g layer k w ≡ false)
    opened w e = nots (is_input g w) (is_from g layer k w) (h.open_ones w e)

    from_u : is_from g layer k u ≡ true
    from_u = let high = c.above in from_both g layer k u c.no_output (omega arith)

    not_at : (w : ℕ) → s u ≡ false
    not_at w = by (s u) refl
      where
        by : (b : Bool) → s u ≡ b → s u ≡ false
        by true e = absurd (true≢false (sym from_u ∙ (opened u e).1))
        by false e = e

    -- where a vertex is not measured behind the layer, the sum is its part of the neighbourhood
    sum_from : (v : ℕ) → is_from g layer k v ≡ true →
        odd (size g) (λ w. s w && (is_from g layer k v && joins g.edges v w))
        ≡ odd_neighbourhood g s v
    sum_from v e =
        ap (λ (b : Bool). odd (size g) (λ w. s w && (b && joins g.edges v w))) e

    itself : odd_neighbourhood g s u ≡ true
    itself =
        sym (sum_from u from_u) ∙ h.sums u c.vertex
        ∙ ap₂ (λ (a b : Bool). a && b) from_u (eq-eqb u u refl)

    outside : (v : ℕ) → v < size g → v ≢ u → odd_neighbourhood g s v ≡ true →
        is_from g layer k v ≡ false
    outside v l ne o = by (is_from g layer k v) refl
      where
        by : (b : Bool) → is_from g layer k v ≡ b → is_from g layer k v ≡ false
        by false e = e
        by true e =
            absurd (true≢false (sym o ∙ sym (sum_from v e) ∙ h.sums v l
            ∙ ap₂ (λ (a b : Bool). a && b) e (ne_eqb v u ne)))

-- a set that corrects another vertex still does so
still_corrects : (g : OpenGraph) (s : Bits) (layer : ℕ → ℕ) (k u i : ℕ) → k < layer u → i ≢ u →
    CorrectsAt g s layer i → CorrectsAt g s (lowered layer k u) i
still_corrects g s layer k u i low ne c = record {
  within = c.within;
  no_input = c.no_input;
  not_itself = c.not_itself;
  odd_itself = c.odd_itself;
  set_later = λ w e. lower w (c.set_later w e);
  odd_later = λ w l other o. lower w (c.odd_later w l other o);
}
  where
    lower : (w : ℕ) → layer w < layer i → lowered layer k u w < lowered layer k u i
    lower w h =
        let at = there k (layer i) i u ne in
        let most = lowered_at_most layer k u w low in
        omega arith

-- the flow with the vertex in the layer
lowered_flow : (g : OpenGraph) (sets : ℕ → Bits) (layer : ℕ → ℕ) (k u : ℕ) →
    Case g sets layer k u → (s : Bits) → CorrectsAt g s (lowered layer k u) u →
    IsFlow g (put sets s u) (lowered layer k u)
lowered_flow g sets layer k u c s h = record {
  outputs = λ v l o.
      let at = there k (layer v) v u (λ e. true≢false (sym o ∙ ap (is_output g) e ∙ c.no_output)) in
      let none = (c.flow).outputs v l o in
      omega arith;
  positive = λ v l out. elim (cases_eq v u) [
    | inl e ↦
        let at = ap (lowered layer k u) e ∙ here k (layer u) u in
        let one = c.positive in
        omega arith
    | inr ne ↦
        let at = there k (layer v) v u ne in
        let one = (c.flow).positive v l out in
        omega arith
  ];
  corrects = λ v l out. elim (cases_eq v u) [
    | inl e ↦
        subst (λ (j : ℕ). CorrectsAt g (put sets s u j) (lowered layer k u) j) (sym e)
        (subst (λ (t : Bits). CorrectsAt g t (lowered layer k u) u)
        (sym (here s (sets u) u)) h)
    | inr ne ↦
        subst (λ (t : Bits). CorrectsAt g t (lowered layer k u) v)
        (sym (there s (sets v) v u ne))
        (still_corrects g (sets v) layer k u v c.above ne ((c.flow).corrects v l out))
  ];
}

unsolved : (g : OpenGraph) (sets : ℕ → Bits) (layer : ℕ → ℕ) (k u : ℕ) → Case g sets layer k u →
    IsLeastLayer g u (layer u) → (s : Bits) →
    Solves (system_at g layer k) (size g) (λ v. is_from g layer k v && single u v) s → ⊥
unsolved g sets layer k u c least s h =
    let flow = lowered_flow g sets layer k u c s (solution_corrects g sets layer k u c s h) in
    let low = least.least (put sets s u) (lowered layer k u) flow in
    let at = here k (layer u) u in
    let high = c.above in
    absurd (omega arith)

-- ---- a refutation keeps the vertex above the layer

abbrev kept_part : OpenGraph → (ℕ → ℕ) → ℕ → Bits → Bits
kept_part g layer k y = λ v. y v && is_from g layer k v

both_parts : (a b : Bool) → a && b ≡ true → (a ≡ true) × (b ≡ true)
both_parts true b e = (refl, e)
both_parts false b e = absurd (false≢true e)

and_assoc : (a b c : Bool) → (a && b) && c ≡ a && (b && c)
and_assoc a b c = grind arith

odd_then_held : (g : OpenGraph) (layer : ℕ → ℕ) (k u : ℕ) (y : Bits) → u < size g →
    dot (size g) y (λ v. is_from g layer k v && single u v) ≡ true →
    kept_part g layer k y u ≡ true
odd_then_held g layer k u y l odd_one = by (kept_part g layer k y u) refl
  where
    by : (b : Bool) → kept_part g layer k y u ≡ b → kept_part g layer k y u ≡ true
    by true e = e
    by false e =
        absurd (true≢false (sym odd_one
        ∙ odd-none (size g) (λ v. y v && (is_from g layer k v && single u v)) (λ v i.
        sym (and_assoc (y v) (is_from g layer k v) (single u v)) ∙ none v)))
      where
        none : (v : ℕ) → kept_part g layer k y v && single u v ≡ false
        none v = elim (cases_eq v u) [
          | inl s ↦ ap (λ (b : Bool). b && single u v) (ap (kept_part g layer k y) s ∙ e)
          | inr ne ↦
              ap (λ (b : Bool). kept_part g layer k y v && b) (ne_eqb v u ne)
              ∙ and_false (kept_part g layer k y v)
        ]

refuted_keeps : (g : OpenGraph) (layer : ℕ → ℕ) (k u : ℕ) (y : Bits) → u < size g →
    Refutes (system_at g layer k) (size g) (λ v. is_from g layer k v && single u v) y →
    KeepsAbove g layer k u (kept_part g layer k y)
refuted_keeps g layer k u y l h = record {
  holds = odd_then_held g layer k u y l h.odd_target;
  within = λ v i e. from_parts g layer k v (both_parts (y v) (is_from g layer k v) e).1;
  even = λ w i free outside.
      odd-same (size g) (λ v. kept_part g layer k y v && joins g.edges w v)
      (λ v. y v && (is_from g layer k v && joins g.edges v w))
      (λ v _. and_assoc (y v) (is_from g layer k v) (joins g.edges w v)
      ∙ ap (λ (b : Bool). y v && (is_from g layer k v && b)) (joins_comm g.edges w v))
      ∙ h.even_columns w i
      (both_not (is_input g w) (is_from g layer k w) free (not_from w outside));
}
  where
    not_from : (w : ℕ) → (is_output g w ≡ true) ⊎ (layer w < k) → is_from g layer k w ≡ false
    not_from w outside = by (is_from g layer k w) refl
      where
        by : (b : Bool) → is_from g layer k w ≡ b → is_from g layer k w ≡ false
        by false e = e
        by true e =
            let parts = from_parts g layer k w e in
            elim outside [
              | inl o ↦ absurd (true≢false (sym o ∙ parts.0))
              | inr low ↦ let high = parts.1 in absurd (omega arith)
            ]

-- there is a set that keeps the vertex above the layer
some_set : (g : OpenGraph) (sets : ℕ → Bits) (layer : ℕ → ℕ) (k u : ℕ) → Case g sets layer k u →
    IsLeastLayer g u (layer u) → (y : Bits) × KeepsAbove g layer k u y
some_set g sets layer k u c least =
    elim (solved_or_refuted (system_at g layer k) (size g)
    (λ v. is_from g layer k v && single u v)) [
      | inl solved ↦ absurd (unsolved g sets layer k u c least solved.0 solved.1)
      | inr refuted ↦
          (kept_part g layer k refuted.0, refuted_keeps g layer k u refuted.0 c.vertex refuted.1)
    ]

-- ---- the least of these sets

abbrev Decided : Type 0 → Type 0
Decided P = P ⊎ (P → ⊥)

decided_below : (n : ℕ) (P : ℕ → Type 0) → ((v : ℕ) → Decided (P v)) →
    Decided ((v : ℕ) → v < n → P v)
decided_below zero P d = inl (λ v l. absurd (omega arith))
decided_below (suc n) P d = by (d n) (decided_below n P d)
  where
    by : Decided (P n) → Decided ((v : ℕ) → v < n → P v) → Decided ((v : ℕ) → v < suc n → P v)
    by (inl p) (inl h) =
        inl (λ v l. elim (cases_eq v n) [
          | inl s ↦ subst P (sym s) p
          | inr ne ↦ h v (omega arith)
        ])
    by (inl p) (inr h) = inr (λ f. h (λ v l. f v (omega arith)))
    by (inr p) h = inr (λ f. p (f n (omega arith)))

abbrev IsWithin : OpenGraph → (ℕ → ℕ) → ℕ → Bits → ℕ → Type 0
IsWithin g layer k y v = y v ≡ true → (is_output g v ≡ false) × (k ≤ layer v)

abbrev IsEven : OpenGraph → (ℕ → ℕ) → ℕ → Bits → ℕ → Type 0
IsEven g layer k y w = is_input g w ≡ false →
    (is_output g w ≡ true) ⊎ (layer w < k) → odd_neighbourhood g y w ≡ false

within_decided : (g : OpenGraph) (layer : ℕ → ℕ) (k : ℕ) (y : Bits) (v : ℕ) →
    Decided (IsWithin g layer k y v)
within_decided g layer k y v = by (y v) (is_from g layer k v) refl refl
  where
    by : (b c : Bool) → y v ≡ b → is_from g layer k v ≡ c → Decided (IsWithin g layer k y v)
    by false c e f = inl (λ h. absurd (true≢false (sym h ∙ e)))
    by true true e f = inl (λ h. from_parts g layer k v f)
    by true false e f =
        inr (λ h.
        let parts = h e in
        true≢false (sym (from_both g layer k v parts.0 parts.1) ∙ f))

even_decided : (g : OpenGraph) (layer : ℕ → ℕ) (k : ℕ) (y : Bits) (w : ℕ) →
    Decided (IsEven g layer k y w)
even_decided g layer k y w =
    by (is_input g w) (is_from g layer k w) (odd_neighbourhood g y w) refl refl refl
  where
    by : (a b c : Bool) → is_input g w ≡ a → is_from g layer k w ≡ b →
        odd_neighbourhood g y w ≡ c → Decided (IsEven g layer k y w)
    by a b false e f h = inl (λ free outside. h)
    by true b true e f h = inl (λ free outside. absurd (true≢false (sym e ∙ free)))
    by false true true e f h =
        let parts = from_parts g layer k w f in
        let high = parts.1 in
        inl (λ free outside. elim outside [
          | inl o ↦ absurd (true≢false (sym o ∙ parts.0))
          | inr low ↦ absurd (omega arith)
        ])
    by false false true e f h =
        inr (λ all. true≢false (sym h ∙ all e (from_not g layer k w f)))

keeps_decided : (g : OpenGraph) (layer : ℕ → ℕ) (k u : ℕ) (y : Bits) →
    Decided (KeepsAbove g layer k u y)
keeps_decided g layer k u y =
    by (y u) refl
    (decided_below (size g) (IsWithin g layer k y) (within_decided g layer k y))
    (decided_below (size g) (IsEven g layer k y) (even_decided g layer k y))
  where
    by : (b : Bool) → y u ≡ b → Decided ((v : ℕ) → v < size g → IsWithin g layer k y v) →
        Decided ((w : ℕ) → w < size g → IsEven g layer k y w) →
        Decided (KeepsAbove g layer k u y)
    by true e (inl within) (inl even) = inl (record { holds = e; within = within; even = even })
    by true e (inl within) (inr even) = inr (λ h. even h.even)
    by true e (inr within) even = inr (λ h. within h.within)
    by false e within even = inr (λ h. true≢false (sym h.holds ∙ e))

pub keeps_same : (g : OpenGraph) (layer : ℕ → ℕ) (k u : ℕ) → u < size g → (s t : Bits) →
    SameBelow (size g) s t → KeepsAbove g layer k u s → KeepsAbove g layer k u t
keeps_same g layer k u l s t same h = record {
  holds = sym (same u l) ∙ h.holds;
  within = λ v i e. h.within v i (same v i ∙ e);
  even = λ w i free outside.
      odd-same (size g) (λ v. t v && joins g.edges w v) (λ v. s v && joins g.edges w v)
      (λ v j. ap (λ (b : Bool). b && joins g.edges w v) (sym (same v j)))
      ∙ h.even w i free outside;
}

least_set : (g : OpenGraph) (sets : ℕ → Bits) (layer : ℕ → ℕ) (k u : ℕ) → Case g sets layer k u →
    IsLeastLayer g u (layer u) →
    (y : Bits) × IsLeastSet (λ d j. d < j) (size g) (KeepsAbove g layer k u) y
least_set g sets layer k u c least =
    elim (least_or_none (size g) (KeepsAbove g layer k u)
    (record { decided = keeps_decided g layer k u; same = keeps_same g layer k u c.vertex })) [
      | inl found ↦ found
      | inr none ↦ let some = some_set g sets layer k u c least in absurd (none some.0 some.1)
    ]

-- ---- the bound

abbrev is_case : OpenGraph → (ℕ → ℕ) → ℕ → ℕ → Bool
is_case g layer k u =
    nat_lt 0 k && (nat_lt k (layer u) && (nat_lt u (size g) && not (is_output g u)))

case_holds : (g : OpenGraph) (layer : ℕ → ℕ) (k u : ℕ) → 1 ≤ k → k < layer u → u < size g →
    is_output g u ≡ false → is_case g layer k u ≡ true
case_holds g layer k u one low l out =
    ap₂ (λ (a b : Bool). a && b) (lt-ltb 0 k (omega arith))
    (ap₂ (λ (a b : Bool). a && b) (lt-ltb k (layer u) low)
    (ap₂ (λ (a b : Bool). a && not b) (lt-ltb u (size g) l) out))

case_of : (g : OpenGraph) (sets : ℕ → Bits) (layer : ℕ → ℕ) (k u : ℕ) → IsFlow g sets layer →
    is_case g layer k u ≡ true → Case g sets layer k u
case_of g sets layer k u f e =
    let one =
    both_parts (nat_lt 0 k) (nat_lt k (layer u) && (nat_lt u (size g) && not (is_output g u))) e in
    let two =
    both_parts (nat_lt k (layer u)) (nat_lt u (size g) && not (is_output g u)) one.1 in
    let three = both_parts (nat_lt u (size g)) (not (is_output g u)) two.1 in
    record {
      flow = f;
      positive = let h = ltb-true 0 k one.0 in omega arith;
      above = ltb-true k (layer u) two.0;
      vertex = ltb-true u (size g) three.0;
      no_output = not_true (is_output g u) three.1;
    }
  where
    not_true : (b : Bool) → not b ≡ true → b ≡ false
    not_true true e = absurd (true≢false (sym e))
    not_true false e = refl

abbrev Picked : OpenGraph → (ℕ → ℕ) → ℕ → ℕ → Type 0
Picked g layer k u = (y : Bits) × (is_case g layer k u ≡ true →
    IsLeastSet (λ d j. d < j) (size g) (KeepsAbove g layer k u) y)

pick : (g : OpenGraph) (sets : ℕ → Bits) (layer : ℕ → ℕ) → IsFlow g sets layer →
    ((v : ℕ) → v < size g → IsLeastLayer g v (layer v)) → (k u : ℕ) (b : Bool) →
    is_case g layer k u ≡ b → Picked g layer k u
pick g sets layer f least k u false e =
    (all_zero, λ t. absurd (true≢false (sym t ∙ e)))
pick g sets layer f least k u true e =
    let c = case_of g sets layer k u f e in
    let found = least_set g sets layer k u c (least u c.vertex) in
    (found.0, λ t. found.1)

-- ---- the greatest layer is reached

reached_fold : (a : ℕ) (xs : List ℕ) → (fold max a xs ≡ a) ⊎ (is_member xs (fold max a xs) ≡ true)
reached_fold a [] = inl refl
reached_fold a (x ∷ xs) = by (reached_fold (max a x) xs) (max_one a x)
  where
    max_one : (a b : ℕ) → (max a b ≡ a) ⊎ (max a b ≡ b)
    max_one a b = grind arith

    or_later : (b c : Bool) → c ≡ true → b || c ≡ true
    or_later true c e = refl
    or_later false c e = e

    by : (fold max (max a x) xs ≡ max a x) ⊎ (is_member xs (fold max (max a x) xs) ≡ true) →
        (max a x ≡ a) ⊎ (max a x ≡ x) →
        (fold max (max a x) xs ≡ a) ⊎ (is_member (x ∷ xs) (fold max (max a x) xs) ≡ true)
    by (inl e) (inl f) = inl (e ∙ f)
    by (inl e) (inr f) =
        inr (ap (λ (b : Bool). b || is_member xs (fold max (max a x) xs))
        (eq-eqb (fold max (max a x) xs) x (e ∙ f)))
    by (inr e) f =
        inr (or_later (nat_eq (fold max (max a x) xs) x)
        (is_member xs (fold max (max a x) xs)) e)

at_member : (layer : ℕ → ℕ) (q n d : ℕ) → is_member (map layer (numbers_from q n)) d ≡ true →
    (v : ℕ) × (v < q + n) × (layer v ≡ d)
at_member layer q zero d e = absurd (false≢true e)
at_member layer q (suc n) d e = by (nat_eq d (layer q)) refl (at_member layer (suc q) n d)
  where
    by : (b : Bool) → nat_eq d (layer q) ≡ b →
        (is_member (map layer (numbers_from (suc q) n)) d ≡ true →
        (v : ℕ) × (v < suc q + n) × (layer v ≡ d)) →
        (v : ℕ) × (v < q + suc n) × (layer v ≡ d)
    by true t rest = (q, omega arith, sym (eqb-true d (layer q) t))
    by false t rest =
        let found =
        rest (sym (ap (λ (b : Bool). b || is_member (map layer (numbers_from (suc q) n)) d) t)
        ∙ e) in
        let l = found.1 in
        (found.0, omega arith, found.2)

depth_reached : (g : OpenGraph) (sets : ℕ → Bits) (layer : ℕ → ℕ) → IsFlow g sets layer →
    (depth_of g layer ≡ 0)
    ⊎ ((v : ℕ) × (v < size g) × (is_output g v ≡ false) × (layer v ≡ depth_of g layer))
depth_reached g sets layer f =
    elim (reached_fold 0 (map layer (numbers_from 0 (size g)))) [
      | inl e ↦ inl e
      | inr e ↦
          let top = at_member layer 0 (size g) (depth_of g layer) e in
          by top.0 top.1 top.2 (is_output g top.0) refl
    ]
  where
    by : (v : ℕ) → v < 0 + size g → layer v ≡ depth_of g layer → (b : Bool) → is_output g v ≡ b →
        (depth_of g layer ≡ 0)
        ⊎ ((v : ℕ) × (v < size g) × (is_output g v ≡ false) × (layer v ≡ depth_of g layer))
    by v l e true o = inl (sym e ∙ f.outputs v (omega arith) o)
    by v l e false o = inr (v, omega arith, o, e)

pub bound_of_least : (g : OpenGraph) (sets : ℕ → Bits) (layer : ℕ → ℕ) (y : ℕ → ℕ → Bits) →
    IsFlow g sets layer →
    ((k u : ℕ) → 1 ≤ k → k < layer u → u < size g → is_output g u ≡ false →
    IsLeastSet (λ d j. d < j) (size g) (KeepsAbove g layer k u) (y k u)) →
    IsChosenBound g layer y
bound_of_least g sets layer y f least = record {
  bound = record {
    layers = λ v l out. (f.positive v l out, within_depth g layer v l);
    reached = depth_reached g sets layer f;
    holds = λ k u one low l out. (keeps k u one low l out).holds;
    within = λ k u v one low l out i e. (keeps k u one low l out).within v i e;
    even = λ k u w one low l out i free outside.
        (keeps k u one low l out).even w i free outside;
  };
  least = least;
}
  where
    keeps : (k u : ℕ) → 1 ≤ k → k < layer u → u < size g → is_output g u ≡ false →
        KeepsAbove g layer k u (y k u)
    keeps k u one low l out = (least k u one low l out).has

pub bounds_exist : ChosenBoundsExist
bounds_exist g sets layer f least =
    let picked : (k u : ℕ) → Picked g layer k u =
    λ k u. pick g sets layer f least k u (is_case g layer k u) refl in (
      (λ k u. (picked k u).0),
      bound_of_least g sets layer (λ k u. (picked k u).0) f
          (λ k u one low l out. (picked k u).1 (case_holds g layer k u one low l out)),
    )

pub bounds_unique : ChosenBoundsAreUnique
bounds_unique g layer y y' b c k u one low l out =
    least_is_unique (size g) (KeepsAbove g layer k u) (y k u) (y' k u)
    (b.least k u one low l out) (c.least k u one low l out)
