-- A graph has at most one chosen flow and at most one chosen refuter, as rows.
use Rattle.std.proofs.Common.{◌≡◌, ◌≢◌, ◌⊎◌, ℕ, ◌<◌}
use Rattle.std.proofs.Common.{◌≤◌, Bool, true, false, not, cond, ◌||◌}
use Rattle.std.proofs.Common.{List, [], ◌∷◌, map, Option, Some, refl, sym, ap, subst, ◌∙◌}
use Rattle.std.proofs.Common.{inl, inr, arith}
use Rattle.std.specs.Prelude.{nat_eq, count_by, All, option_map, unwrap_or}
use Rattle.std.proofs.lemmas.Bool.{cases_eq, eq-eqb, ne_eqb, true≢false}
use Rattle.std.proofs.lemmas.List.Elements.{All-nil, All-cons, All-head, All-tail}
use Rattle.mc_model.specs.Bits.{Bits}
use Rattle.mc_model.specs.Numbers.{is_member}
use Rattle.mc_model.specs.Signals.{AllAbove, IsRising}
use Rattle.mc_model.specs.Graph.{OpenGraph, size, is_output}
use Rattle.mc_model.specs.Flow.{depth_of, RefutesAt}
use Rattle.mc_model.specs.Choice.{CorrectsAlone, IsChosenFlow, IsLaterCandidate}
use Rattle.mc_model.specs.Choice.{IsLeastSet, IsLess, SameBelow}
use Rattle.mc_model.proofs.NumberLists.{count-first}
use Rattle.mc_graph.specs.RowLists.{row_at}
use Rattle.mc_graph.specs.Flows.{FlowLine, FlowRows, IsChosenFlowOf, RowsRise, StandsBefore}
use Rattle.mc_graph.specs.Flows.{layer_in, set_in, sets_in}
use Rattle.mc_graph.specs.Refuters.{RefuterLine, IsChosenRefuterOf, refuted_in, refuting_in}
use Rattle.mc_top.proofs.OrderedRows.{IsIn, IsOrdered, counted_found, found_in, found_later, in_all}
use Rattle.mc_top.proofs.OrderedRows.{in_found, later_or, member_in, same_members, same_rows}

-- ---- least sets

-- two orders of the same numbers leave no two sets each less than the other
not_both : (is_after is_after' : ℕ → ℕ → Type 0) (n : ℕ) (s t : Bits) →
    ((j k : ℕ) → j < n → k < n → (j ≡ k) ⊎ (is_after j k ⊎ is_after' k j)) →
    IsLess is_after n s t → IsLess is_after' n t s → ⊥
not_both is_after is_after' n s t compare p q =
    by (compare p.last q.last p.vertex q.vertex)
  where
    by : (p.last ≡ q.last) ⊎ (is_after p.last q.last ⊎ is_after' q.last p.last) → ⊥
    by (inl e) = true≢false (sym q.holds ∙ ap s (sym e) ∙ p.lacks)
    by (inr (inl h)) =
        true≢false (sym q.holds ∙ p.same_after q.last q.vertex h ∙ q.lacks)
    by (inr (inr h)) =
        true≢false (sym p.holds ∙ q.same_after p.last p.vertex h ∙ p.lacks)

pub least_once : (is_after is_after' : ℕ → ℕ → Type 0) (n : ℕ) (P Q : Bits → Type 0) (s t : Bits) →
    ((j k : ℕ) → j < n → k < n → (j ≡ k) ⊎ (is_after j k ⊎ is_after' k j)) →
    (P t) → (Q s) → IsLeastSet is_after n P s → IsLeastSet is_after' n Q t → SameBelow n s t
least_once is_after is_after' n P Q s t compare has has' p q =
    by (p.least t has) (q.least s has')
  where
    by : SameBelow n s t ⊎ IsLess is_after n s t → SameBelow n t s ⊎ IsLess is_after' n t s →
        SameBelow n s t
    by (inl same) h = same
    by (inr less) (inl same) = λ k l. sym (same k l)
    by (inr less) (inr more) = absurd (not_both is_after is_after' n s t compare less more)

-- ---- chosen flows

pub same_layers : (g : OpenGraph) (sets sets' : ℕ → Bits) (layer layer' : ℕ → ℕ) →
    IsChosenFlow g sets layer → IsChosenFlow g sets' layer' → (v : ℕ) → v < size g →
    layer v ≡ layer' v
same_layers g sets sets' layer layer' p q v l =
    let a = p.least_layers v l in
    let b = q.least_layers v l in
    let low = a.least b.sets b.layer b.flow in
    let high = b.least a.sets a.layer a.flow in
    let is = a.reached in
    let is' = b.reached in
    omega arith

corrects_too : (g : OpenGraph) (layer layer' : ℕ → ℕ) (u : ℕ) (s : Bits) → u < size g →
    ((v : ℕ) → v < size g → layer v ≡ layer' v) → CorrectsAlone g layer u s →
    CorrectsAlone g layer' u s
corrects_too g layer layer' u s l same h = record {
  within = h.within;
  no_input = h.no_input;
  later = λ k e.
      let here = same k (h.within k e) in let there = same u l in
      let low = h.later k e in omega arith;
  alone = h.alone;
}

later_or_not : (layer layer' : ℕ → ℕ) (j k : ℕ) → layer j ≡ layer' j → layer k ≡ layer' k →
    (j ≡ k) ⊎ (IsLaterCandidate layer j k ⊎ IsLaterCandidate layer' k j)
later_or_not layer layer' j k e f = by (order (layer j) (layer k)) (order j k)
  where
    order : (a b : ℕ) → (a < b) ⊎ ((a ≡ b) ⊎ (b < a))
    order a b = grind arith

    by : (layer j < layer k) ⊎ ((layer j ≡ layer k) ⊎ (layer k < layer j)) →
        (j < k) ⊎ ((j ≡ k) ⊎ (k < j)) →
        (j ≡ k) ⊎ (IsLaterCandidate layer j k ⊎ IsLaterCandidate layer' k j)
    by (inl h) m = inr (inl (inl h))
    by (inr (inr h)) m = inr (inr (inl (omega arith)))
    by (inr (inl h)) (inl m) = inr (inl (inr (h, m)))
    by (inr (inl h)) (inr (inl m)) = inl m
    by (inr (inl h)) (inr (inr m)) = inr (inr (inr (omega arith, m)))

pub same_sets : (g : OpenGraph) (sets sets' : ℕ → Bits) (layer layer' : ℕ → ℕ) →
    IsChosenFlow g sets layer → IsChosenFlow g sets' layer' → (u : ℕ) → u < size g →
    is_output g u ≡ false → SameBelow (size g) (sets u) (sets' u)
same_sets g sets sets' layer layer' p q u l inner =
    let same = same_layers g sets sets' layer layer' p q in
    let a = p.least_sets u l inner in
    let b = q.least_sets u l inner in
    least_once (IsLaterCandidate layer) (IsLaterCandidate layer') (size g)
    (CorrectsAlone g layer u) (CorrectsAlone g layer' u) (sets u) (sets' u)
    (λ j k jn kn. later_or_not layer layer' j k (same j jn) (same k kn))
    (corrects_too g layer' layer u (sets' u) l (λ v vn. sym (same v vn)) b.has)
    (corrects_too g layer layer' u (sets u) l same a.has) a b

-- ---- their rows

abbrev by_row : FlowLine → ℕ
by_row r = r.vertex

pub one_at_most : (b : Bool) (n : ℕ) → n ≡ cond b 1 0 → n ≤ 1
one_at_most true n e = omega arith
one_at_most false n e = omega arith

pub none_where : (out : Bool) (n : ℕ) → n ≡ cond (not out) 1 0 → 1 ≤ n → out ≡ false
none_where false n e some = refl
none_where true n e some = absurd (omega arith)

pub one_where : (out : Bool) (n : ℕ) → out ≡ false → n ≡ cond (not out) 1 0 → 1 ≤ n
one_where false n inner e = omega arith
one_where true n inner e = absurd (true≢false inner)

in_below : {A : Type 0} (vertex : A → ℕ) (n : ℕ) (rows : List A) (x : A) →
    All (λ q. q < n) (map vertex rows) → IsIn x rows → vertex x < n
in_below vertex n [] x below h = absurd h
in_below vertex n (r ∷ rows) x below (inl e) =
    subst (λ (q : ℕ). q < n) (ap vertex (sym e))
    (All-head (λ q. q < n) (vertex r) (map vertex rows) below)
in_below vertex n (r ∷ rows) x below (inr h) =
    in_below vertex n rows x (All-tail (λ q. q < n) (vertex r) (map vertex rows) below) h

-- two sets of numbers below a bound that agree below it
pub same_everywhere : (n : ℕ) (s t : Bits) → ((k : ℕ) → s k ≡ true → k < n) →
    ((k : ℕ) → t k ≡ true → k < n) → SameBelow n s t → (k : ℕ) → s k ≡ t k
same_everywhere n s t within within' same k =
    by (s k) (t k) (within k) (within' k) (same k)
  where
    by : (a b : Bool) → (a ≡ true → k < n) → (b ≡ true → k < n) → (k < n → a ≡ b) → a ≡ b
    by true b h h' e = e (h refl)
    by false true h h' e = e (h' refl)
    by false false h h' e = refl

same_line : (r s : FlowLine) → r.vertex ≡ s.vertex → r.layer ≡ s.layer → r.set ≡ s.set → r ≡ s
same_line r s v l t =
    ap (λ (x : ℕ). record { vertex = x; layer = r.layer; set = r.set }) v
    ∙ ap (λ (x : ℕ). record { vertex = s.vertex; layer = x; set = r.set }) l
    ∙ ap (λ (x : List ℕ). record { vertex = s.vertex; layer = s.layer; set = x }) t

-- each set is listed by rising number
abbrev HasRisingSets : List FlowLine → Type 0
HasRisingSets rows = All (λ (r : FlowLine). IsRising r.set) rows

row_elsewhere : (g : OpenGraph) (f f' : FlowRows) → IsChosenFlowOf g f → IsChosenFlowOf g f' →
    HasRisingSets f.rows → HasRisingSets f'.rows → (x : FlowLine) → IsIn x f.rows → IsIn x f'.rows
row_elsewhere g f f' h h' rising rising' x inside =
    let v = x.vertex in
    let low = in_below by_row (size g) f.rows x h.whole.once.below inside in
    let here = h.whole.once.once v low in
    let there = h'.whole.once.once v low in
    let found = in_found by_row f.rows x inside (one_at_most (not (is_output g v)) _ here) in
    let some = (found_in by_row f.rows v x found).2 in
    let inner = none_where (is_output g v) _ here some in
    let other = counted_found by_row f'.rows v (one_where (is_output g v) _ inner there) in
    let y = other.0 in
    let back = found_in by_row f'.rows v y other.1 in
    let layers = same_layers g (sets_in f.rows) (sets_in f'.rows) (layer_in f.rows)
    (layer_in f'.rows) h.flow h'.flow in
    let layer : layer_in f.rows v ≡ x.layer =
    ap (λ (o : Option FlowLine). unwrap_or (option_map (λ s. s.layer) o) 0) found in
    let layer' : layer_in f'.rows v ≡ y.layer =
    ap (λ (o : Option FlowLine). unwrap_or (option_map (λ s. s.layer) o) 0) other.1 in
    let set : set_in f.rows v ≡ x.set =
    ap (λ (o : Option FlowLine). unwrap_or (option_map (λ s. s.set) o) []) found in
    let set' : set_in f'.rows v ≡ y.set =
    ap (λ (o : Option FlowLine). unwrap_or (option_map (λ s. s.set) o) []) other.1 in
    let members = same_everywhere (size g) (sets_in f.rows v) (sets_in f'.rows v)
    (h.flow.least_sets v low inner).has.within (h'.flow.least_sets v low inner).has.within
    (same_sets g (sets_in f.rows) (sets_in f'.rows) (layer_in f.rows) (layer_in f'.rows) h.flow
    h'.flow v low inner) in
    let sets : x.set ≡ y.set =
    same_members x.set y.set (in_all (λ r. IsRising r.set) x f.rows rising inside)
    (in_all (λ r. IsRising r.set) y f'.rows rising' back.0)
    (λ k. ap (λ (s : List ℕ). is_member s k) (sym set) ∙ members k
    ∙ ap (λ (s : List ℕ). is_member s k) set') in
    let same : x ≡ y =
    same_line x y back.1 (sym layer ∙ layers v low ∙ layer') sets in
    subst (λ (z : FlowLine). IsIn z f'.rows) (sym same) back.0

rows_ordered : (rows : List FlowLine) → RowsRise rows → IsOrdered StandsBefore rows
rows_ordered [] h = tt
rows_ordered (r ∷ rows) h = (h.0, rows_ordered rows h.1)

before_one_way : (r s : FlowLine) → StandsBefore r s → StandsBefore s r → ⊥
before_one_way r s (inl a) (inl b) = omega arith
before_one_way r s (inl a) (inr (b, c)) = omega arith
before_one_way r s (inr (a, c)) (inl b) = omega arith
before_one_way r s (inr (a, c)) (inr (b, d)) = omega arith

-- the chosen flow is one, its rows too
pub one_chosen_flow : (g : OpenGraph) (f f' : FlowRows) → IsChosenFlowOf g f →
    IsChosenFlowOf g f' → HasRisingSets f.rows → HasRisingSets f'.rows → f ≡ f'
one_chosen_flow g f f' h h' rising rising' =
    let rows = same_rows StandsBefore f.rows f'.rows before_one_way
    (rows_ordered f.rows h.order) (rows_ordered f'.rows h'.order)
    (row_elsewhere g f f' h h' rising rising') (row_elsewhere g f' f h' h rising' rising) in
    let depth : f.depth ≡ f'.depth =
    sym h.whole.reached
    ∙ ap (λ (rs : List FlowLine). depth_of g (layer_in rs)) rows ∙ h'.whole.reached in
    ap (λ (x : ℕ). record { depth = x; rows = f.rows }) depth
    ∙ ap (λ (x : List FlowLine). record { depth = f'.depth; rows = x }) rows

-- ---- chosen refuters

abbrev of_row : RefuterLine → ℕ
of_row r = r.vertex

abbrev set_of : List RefuterLine → ℕ → List ℕ
set_of rows v = unwrap_or (option_map (λ r. r.set) (row_at of_row rows v)) []

has_found : (rows : List RefuterLine) (v : ℕ) → refuted_in rows v ≡ true →
    (r : RefuterLine) × (row_at of_row rows v ≡ Some r)
has_found [] v e = absurd (cc e)
has_found (s ∷ rows) v e = elim (cases_eq v s.vertex) [
  | inl same ↦ (s, rw (eq-eqb v s.vertex same) refl)
  | inr ne ↦
      let later = has_found rows v (rw (ne_eqb v s.vertex ne) at e) in
      (later.0, found_later of_row s rows v later.0 ne later.1)
]

found_has : (rows : List RefuterLine) (v : ℕ) (r : RefuterLine) →
    row_at of_row rows v ≡ Some r → refuted_in rows v ≡ true
found_has [] v r e = absurd (cc e)
found_has (s ∷ rows) v r e = elim (cases_eq v s.vertex) [
  | inl same ↦ ap (λ (b : Bool). b || refuted_in rows v) (eq-eqb v s.vertex same)
  | inr ne ↦
      later_or (nat_eq v s.vertex) (refuted_in rows v)
      (found_has rows v r (rw (ne_eqb v s.vertex ne) at e))
]

none_above : (q : ℕ) (s : List ℕ) → AllAbove q s → count_by (nat_eq q) s ≡ 0
none_above q [] h = refl
none_above q (p ∷ s) h =
    let c = count-first q p s in
    let less = h.0 in
    let none : cond {A = ℕ} (nat_eq q p) 1 0 ≡ 0 =
    ap (λ (b : Bool). cond b 1 0) (ne_eqb q p (λ e. absurd (omega arith))) in
    let later = none_above q s h.1 in
    omega arith

rising_once : (s : List ℕ) (v : ℕ) → IsRising s → count_by (nat_eq v) s ≤ 1
rising_once [] v h = omega arith
rising_once (q ∷ s) v h =
    let c = count-first v q s in
    elim (cases_eq v q) [
      | inl same ↦
          let none : count_by (nat_eq v) s ≡ 0 =
          ap (λ (k : ℕ). count_by (nat_eq k) s) same ∙ none_above q s h.0 in
          let one : cond {A = ℕ} (nat_eq v q) 1 0 ≡ 1 =
          ap (λ (b : Bool). cond b 1 0) (eq-eqb v q same) in
          omega arith
      | inr ne ↦
          let none : cond {A = ℕ} (nat_eq v q) 1 0 ≡ 0 =
          ap (λ (b : Bool). cond b 1 0) (ne_eqb v q ne) in
          let later = rising_once s v h.1 in
          omega arith
    ]

refutes_too : (g : OpenGraph) (B C s : Bits) (u : ℕ) → SameBelow (size g) B C →
    RefutesAt g B s u → RefutesAt g C s u
refutes_too g B C s u same h = record {
  holds = h.holds;
  within = λ v l e. sym (same v l) ∙ h.within v l e;
  even = λ w l inner out. h.even w l inner (same w l ∙ out);
}

pub member_below : (n : ℕ) (s : List ℕ) → All (λ k. k < n) s → (k : ℕ) → is_member s k ≡ true → k < n
member_below n s all k e = in_all (λ (k : ℕ). k < n) k s all (member_in s k e)

same_refuter_line : (r s : RefuterLine) → r.vertex ≡ s.vertex → r.set ≡ s.set → r ≡ s
same_refuter_line r s v t =
    ap (λ (x : ℕ). record { vertex = x; set = r.set }) v
    ∙ ap (λ (x : List ℕ). record { vertex = s.vertex; set = x }) t

abbrev HaveRisingSets : List RefuterLine → Type 0
HaveRisingSets rows = All (λ (r : RefuterLine). IsRising r.set) rows

same_refuted : (g : OpenGraph) (rows rows' : List RefuterLine) → IsChosenRefuterOf g rows →
    IsChosenRefuterOf g rows' → SameBelow (size g) (refuted_in rows) (refuted_in rows')
same_refuted g rows rows' h h' v l =
    by (refuted_in rows v) (refuted_in rows' v)
    (λ e. h'.refuter.greatest (refuted_in rows) (refuting_in rows) h.refuter.refuter v l e)
    (λ e. h.refuter.greatest (refuted_in rows') (refuting_in rows') h'.refuter.refuter v l e)
  where
    by : (a b : Bool) → (a ≡ true → b ≡ true) → (b ≡ true → a ≡ true) → a ≡ b
    by true b to from = sym (to refl)
    by false true to from = from refl
    by false false to from = refl

pub below_or_above : (j k : ℕ) → (j ≡ k) ⊎ ((j < k) ⊎ (k < j))
below_or_above j k = grind arith

refuter_elsewhere : (g : OpenGraph) (rows rows' : List RefuterLine) → IsChosenRefuterOf g rows →
    IsChosenRefuterOf g rows' → HaveRisingSets rows → HaveRisingSets rows' →
    (x : RefuterLine) → IsIn x rows → IsIn x rows'
refuter_elsewhere g rows rows' h h' rising rising' x inside =
    let v = x.vertex in
    let low = in_all (λ (r : RefuterLine). r.vertex < size g) x rows h.lines.vertices inside in
    let found = in_found of_row rows x inside (rising_once (map of_row rows) v h.order) in
    let same = same_refuted g rows rows' h h' in
    let has = found_has rows v x found in
    let has' = sym (same v low) ∙ has in
    let other = has_found rows' v has' in
    let y = other.0 in
    let back = found_in of_row rows' v y other.1 in
    let set : set_of rows v ≡ x.set =
    ap (λ (o : Option RefuterLine). unwrap_or (option_map (λ s. s.set) o) []) found in
    let set' : set_of rows' v ≡ y.set =
    ap (λ (o : Option RefuterLine). unwrap_or (option_map (λ s. s.set) o) []) other.1 in
    let a = h.refuter.least v low has in
    let b = h'.refuter.least v low has' in
    let below = least_once (λ j k. j < k) (λ j k. j < k) (size g)
    (λ s. RefutesAt g (refuted_in rows) s v) (λ s. RefutesAt g (refuted_in rows') s v)
    (refuting_in rows v) (refuting_in rows' v) (λ j k jn kn. below_or_above j k)
    (refutes_too g (refuted_in rows') (refuted_in rows) (refuting_in rows' v) v
    (λ w l. sym (same w l)) b.has)
    (refutes_too g (refuted_in rows) (refuted_in rows') (refuting_in rows v) v same a.has) a b in
    let within = member_below (size g) x.set
    (in_all (λ (r : RefuterLine). All (λ k. k < size g) r.set) x rows h.lines.members inside) in
    let within' = member_below (size g) y.set
    (in_all (λ (r : RefuterLine). All (λ k. k < size g) r.set) y rows' h'.lines.members back.0) in
    let members = same_everywhere (size g) (is_member x.set) (is_member y.set) within within'
    (λ k l. ap (λ (s : List ℕ). is_member s k) (sym set) ∙ below k l
    ∙ ap (λ (s : List ℕ). is_member s k) set') in
    let sets : x.set ≡ y.set =
    same_members x.set y.set
    (in_all (λ (r : RefuterLine). IsRising r.set) x rows rising inside)
    (in_all (λ (r : RefuterLine). IsRising r.set) y rows' rising' back.0) members in
    let whole : x ≡ y = same_refuter_line x y back.1 sets in
    subst (λ (z : RefuterLine). IsIn z rows') (sym whole) back.0

abbrev Below : RefuterLine → RefuterLine → Type 0
Below r s = r.vertex < s.vertex

all_below : (r : RefuterLine) (rows : List RefuterLine) → AllAbove r.vertex (map of_row rows) →
    All (Below r) rows
all_below r [] h = All-nil (Below r)
all_below r (s ∷ rows) h = All-cons (Below r) s rows h.0 (all_below r rows h.1)

refuters_ordered : (rows : List RefuterLine) → IsRising (map of_row rows) → IsOrdered Below rows
refuters_ordered [] h = tt
refuters_ordered (r ∷ rows) h = (all_below r rows h.0, refuters_ordered rows h.1)

-- the chosen refuter is one, its rows too
pub one_chosen_refuter : (g : OpenGraph) (rows rows' : List RefuterLine) →
    IsChosenRefuterOf g rows → IsChosenRefuterOf g rows' → HaveRisingSets rows →
    HaveRisingSets rows' → rows ≡ rows'
one_chosen_refuter g rows rows' h h' rising rising' =
    same_rows Below rows rows' (λ r s a b. omega arith)
    (refuters_ordered rows h.order) (refuters_ordered rows' h'.order)
    (refuter_elsewhere g rows rows' h h' rising rising')
    (refuter_elsewhere g rows' rows h' h rising' rising)
