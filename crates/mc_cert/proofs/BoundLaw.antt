-- The rules of a bound's rows are broken nowhere exactly where the rows are a bound.
use Rattle.std.proofs.Common.{◌≡◌, ℕ, ◌+◌, ◌-◌, ◌<◌, ◌≤◌, Bool, true, false, ◌&&◌, ◌||◌, cond}
use Rattle.std.proofs.Common.{not}
use Rattle.std.proofs.Common.{List, [], ◌∷◌, map, length, refl, sym, ◌∙◌, ap, ap₂, subst, arith}
use Rattle.std.specs.Prelude.{◌⊎◌, nat_eq, nat_lt, nat_le, find, option_map, unwrap_or, All, Option}
use Rattle.std.specs.Prelude.{Some, None}
use Rattle.std.specs.List.{list_any, AllByRecursion, IsDistinct}
use mathlib.Core.Logic.{inl, inr}
use Rattle.std.proofs.lemmas.Bool.{eqb-true, eq-eqb, ne_eqb, lt-ltb, le-ltb, ltb-true, leb-false}
use Rattle.std.proofs.lemmas.Bool.{lt-leb, cases_eq, cases_lt, and_parts, or_parts, or_from}
use Rattle.std.proofs.lemmas.Bool.{true≢false, false≢true}
use Rattle.std.proofs.lemmas.Option.{none-some}
use Rattle.std.proofs.lemmas.List.Elements.{All-from_recursion, recursion_from_All}
use Rattle.mc_model.specs.Bits.{Bits}
use Rattle.mc_model.specs.Numbers.{numbers_from, is_member, ListsOnce}
use Rattle.mc_model.specs.Graph.{OpenGraph, size, is_input, is_output, odd_neighbourhood}
use Rattle.mc_model.specs.Depth.{KeepsAbove, IsDepthBound}
use Rattle.mc_model.proofs.DepthBounds.{bounds_hold}
use Rattle.mc_model.proofs.NumberLists.{member_once}
use Rattle.mc_cert.specs.BoundRecords.{LayerRow, BoundRow}
use Rattle.mc_cert.specs.Rules.{least_broken, first_broken, before_first}
use Rattle.mc_graph.specs.RowLists.{row_at, has_row, HaveOwnVertices}
use Rattle.mc_cert.specs.BoundRules.{stated_in, is_for, keeping_in, AreBoundRows, layer_rules}
use Rattle.mc_cert.specs.BoundRules.{lacks_layer, has_layer, all_layers_rules, is_behind}
use Rattle.mc_cert.specs.BoundRules.{odd_behind, keeping_rules, lacks_set, lacks_sets}
use Rattle.mc_cert.specs.BoundRules.{bound_end_rules, keeping_lines, bound_lines, IsAsked}
use Rattle.mc_cert.specs.BoundRules.{IsBoundOf, AreApart}
use Rattle.mc_cert.specs.Laws.{BoundRulesAreExact, BoundRowsHold}
use Rattle.mc_cert.proofs.ListTests.{not_true, not_false, not_number, no_number, not_number_from}
use Rattle.mc_cert.proofs.ListTests.{none_from}
use Rattle.mc_cert.proofs.RowLemmas.{all_with, all_by, map_of_all, member_holds, no_member}
use Rattle.mc_cert.proofs.RowLemmas.{none_member, found_row, found_none, has_found, own_rows}
use Rattle.mc_cert.proofs.RowLemmas.{listed_has_row, count_of_distinct, eqb_swap}
use Rattle.mc_cert.proofs.FlowLaw.{kept_layer, one_passes}
use Rattle.mc_cert.proofs.RuleLemmas.{BreaksNone, all_kept, none_broken, all_lines, no_lines}
use Rattle.mc_cert.proofs.RuleLemmas.{split_lines, join_lines, split_before, join_before}

abbrev key : LayerRow → ℕ
key r = r.vertex

abbrev stated_at : Option LayerRow → ℕ
stated_at o = unwrap_or (option_map (λ r. r.layer) o) 0

abbrev set_at : Option BoundRow → Bits
set_at o = is_member (unwrap_or (option_map (λ r. r.set) o) [])

-- what the parts of a bound keep
record Parts (g : OpenGraph) (d : ℕ) (layers : List LayerRow) (rows : List BoundRow) : Type 0
  where
    each_layer : AllByRecursion (BreaksNone (layer_rules g d)) layers
    all_layers : least_broken (all_layers_rules g d layers) ≡ None
    each_row : AllByRecursion (BreaksNone (keeping_rules g d layers)) rows
    end : least_broken (bound_end_rules g d layers rows) ≡ None

parts_of : (g : OpenGraph) (d : ℕ) (layers : List LayerRow) (rows : List BoundRow) →
    first_broken 1 (bound_lines g d layers rows) ≡ None → Parts g d layers rows
parts_of g d layers rows e =
    let one =
    split_lines (layer_rules g d)
    (before_first (all_layers_rules g d layers) (keeping_lines g d layers rows)) 1 layers e in
    let two =
    split_before (all_layers_rules g d layers) (length layers + 1) (keeping_lines g d layers rows)
    one.1 in
    let three =
    all_lines (keeping_rules g d layers) (bound_end_rules g d layers rows) (length layers + 1)
    rows two.1 in
    record { each_layer = one.0; all_layers = two.0; each_row = three.0; end = three.1 }

parts_suffice : (g : OpenGraph) (d : ℕ) (layers : List LayerRow) (rows : List BoundRow) →
    Parts g d layers rows → first_broken 1 (bound_lines g d layers rows) ≡ None
parts_suffice g d layers rows p =
    join_lines (layer_rules g d)
    (before_first (all_layers_rules g d layers) (keeping_lines g d layers rows)) 1 layers
    p.each_layer
    (join_before (all_layers_rules g d layers) (length layers + 1) (keeping_lines g d layers rows)
    p.all_layers
    (no_lines (keeping_rules g d layers) (bound_end_rules g d layers rows) (length layers + 1) rows
    p.each_row p.end))

-- ---- rows that are kept are a bound

record KeepsLayer (g : OpenGraph) (d : ℕ) (layers : List LayerRow) (r : LayerRow) : Type 0 where
  vertex : r.vertex < size g
  own : row_at key layers r.vertex ≡ Some r
  no_output : is_output g r.vertex ≡ false
  bounds : (1 ≤ r.layer) × (r.layer ≤ d)

abbrev FitsIn : OpenGraph → LayerRow → Type 0
FitsIn g r = r.vertex < size g

abbrev IsOwn : List LayerRow → LayerRow → Type 0
IsOwn layers r = row_at key layers r.vertex ≡ Some r

layers_kept : (g : OpenGraph) (d : ℕ) (layers : List LayerRow) →
    All (λ r. r.vertex < size g) layers → HaveOwnVertices key layers →
    AllByRecursion (BreaksNone (layer_rules g d)) layers →
    AllByRecursion (KeepsLayer g d layers) layers
layers_kept g d layers fit own e =
    all_with (λ r. FitsIn g r × IsOwn layers r) (BreaksNone (layer_rules g d))
    (KeepsLayer g d layers)
    (λ r f b.
    let k = all_kept (layer_rules g d r) b in
    record { vertex = f.0; own = f.1; no_output = k.0; bounds = kept_layer d r.layer k.1.0 })
    layers
    (all_with (FitsIn g) (IsOwn layers) (λ r. FitsIn g r × IsOwn layers r) (λ r l m. (l, m)) layers
    (recursion_from_All (FitsIn g) layers fit) (own_rows key layers own))
    e

record Kept (g : OpenGraph) (d : ℕ) (layers : List LayerRow) : Type 0 where
  all : AllByRecursion (KeepsLayer g d layers) layers
  own : HaveOwnVertices key layers
  covered : list_any (lacks_layer g layers) (numbers_from 0 (size g)) ≡ false
  reached : not (nat_eq d 0 || has_layer layers d) ≡ false

has_row_of : (g : OpenGraph) (d : ℕ) (layers : List LayerRow) → Kept g d layers → (v : ℕ) →
    v < size g → is_output g v ≡ false → has_row key layers v ≡ true
has_row_of g d layers a v l out =
    one_passes (is_output g v) (has_row key layers v)
    (not_number (lacks_layer g layers) (size g) a.covered v l) out

outputs_have_none : (g : OpenGraph) (d : ℕ) (layers : List LayerRow) → Kept g d layers → (v : ℕ) →
    is_output g v ≡ true → has_row key layers v ≡ false
outputs_have_none g d layers a v o = by (has_row key layers v) refl
  where
    by : (b : Bool) → has_row key layers v ≡ b → has_row key layers v ≡ false
    by false e = e
    by true e =
        let f = found_row (KeepsLayer g d layers) (λ r. nat_eq v r.vertex) layers a.all e in
        let k : KeepsLayer g d layers f.0 = f.2 in
        absurd (true≢false (sym o ∙ ap (is_output g) (eqb-true v (f.0).vertex f.3) ∙ k.no_output))

layer_bounds : (g : OpenGraph) (d : ℕ) (layers : List LayerRow) → Kept g d layers → (v : ℕ) →
    v < size g → is_output g v ≡ false → (1 ≤ stated_in layers v) × (stated_in layers v ≤ d)
layer_bounds g d layers a v l out =
    let f =
    found_row (KeepsLayer g d layers) (λ r. nat_eq v r.vertex) layers a.all
    (has_row_of g d layers a v l out) in
    let k : KeepsLayer g d layers f.0 = f.2 in
    let low = k.bounds.0 in
    let high = k.bounds.1 in
    let e = ap stated_at f.1 in
    (omega arith, omega arith)

depth_reached : (g : OpenGraph) (d : ℕ) (layers : List LayerRow) → Kept g d layers →
    (d ≡ 0) ⊎ ((v : ℕ) × (v < size g) × (is_output g v ≡ false) × (stated_in layers v ≡ d))
depth_reached g d layers a =
    by (nat_eq d 0) refl (not_false (nat_eq d 0 || has_layer layers d) a.reached)
  where
    by : (b : Bool) → nat_eq d 0 ≡ b → nat_eq d 0 || has_layer layers d ≡ true →
        (d ≡ 0) ⊎ ((v : ℕ) × (v < size g) × (is_output g v ≡ false) × (stated_in layers v ≡ d))
    by true e h = inl (eqb-true d 0 e)
    by false e h =
        let f =
        found_row (KeepsLayer g d layers) (λ r. nat_eq d r.layer) layers a.all
        (sym (ap (λ (b : Bool). b || has_layer layers d) e) ∙ h) in
        let r : LayerRow = f.0 in
        let k : KeepsLayer g d layers r = f.2 in
        inr (r.vertex, k.vertex, k.no_output, ap stated_at k.own ∙ sym (eqb-true d r.layer f.3))

once_of : (g : OpenGraph) (d : ℕ) (layers : List LayerRow) → Kept g d layers →
    ListsOnce (size g) (λ v. not (is_output g v)) (map key layers)
once_of g d layers a = record {
  below =
      All-from_recursion (λ q. q < size g) (map key layers)
      (map_of_all (λ q. q < size g) key layers
      (all_by (KeepsLayer g d layers) (FitsIn g) (λ r k. k.vertex) layers a.all));
  once = λ v l.
      count_of_distinct (map key layers) v a.own
      ∙ ap (λ (b : Bool). cond b 1 0)
      (listed_has_row key layers v ∙ has_or_not v l (is_output g v) refl);
}
  where
    has_or_not : (v : ℕ) → v < size g → (b : Bool) → is_output g v ≡ b →
        has_row key layers v ≡ not (is_output g v)
    has_or_not v l true o = outputs_have_none g d layers a v o ∙ sym (ap not o)
    has_or_not v l false o = has_row_of g d layers a v l o ∙ sym (ap not o)

record KeepsRow (g : OpenGraph) (layers : List LayerRow) (r : BoundRow) : Type 0 where
  asked : IsAsked g layers r
  keeps : KeepsAbove g (stated_in layers) r.k r.vertex (is_member r.set)

not_behind : (g : OpenGraph) (layers : List LayerRow) (k v : ℕ) → is_behind g layers k v ≡ false →
    (is_output g v ≡ false) × (k ≤ stated_in layers v)
not_behind g layers k v e =
    let parts = or_parts (is_output g v) (nat_lt (stated_in layers v) k) e in (
      parts.0,
      elim (cases_lt (stated_in layers v) k) [
        | inl l ↦ absurd (true≢false (sym (lt-ltb (stated_in layers v) k l) ∙ parts.1))
        | inr l ↦ l
      ],
    )

behind_where : (g : OpenGraph) (layers : List LayerRow) (k v : ℕ) →
    (is_output g v ≡ true) ⊎ (stated_in layers v < k) → is_behind g layers k v ≡ true
behind_where g layers k v (inl o) = ap (λ (b : Bool). b || nat_lt (stated_in layers v) k) o
behind_where g layers k v (inr l) =
    or_second (is_output g v) (nat_lt (stated_in layers v) k) (lt-ltb (stated_in layers v) k l)
  where
    or_second : (a b : Bool) → b ≡ true → a || b ≡ true
    or_second true b e = refl
    or_second false b e = e

even_of : (a b c : Bool) → (not a && b && c) ≡ false → a ≡ false → b ≡ true → c ≡ false
even_of a b c e f h = grind arith

row_kept : (g : OpenGraph) (d : ℕ) (layers : List LayerRow) (r : BoundRow) →
    BreaksNone (keeping_rules g d layers) r → KeepsRow g layers r
row_kept g d layers r e =
    let k = all_kept (keeping_rules g d layers r) e in
    let parts = or_parts (is_output g r.vertex) (nat_le (stated_in layers r.vertex) r.k) k.1.0 in
    record {
      asked = record {
        positive = positive (or_parts (nat_eq r.k 0) (nat_le d r.k) k.0).0;
        above = leb-false (stated_in layers r.vertex) r.k parts.1;
        no_output = parts.0;
      };
      keeps = record {
        holds = not_false (is_member r.set r.vertex) k.1.1.0;
        within = λ v l m.
            not_behind g layers r.k v
            (no_member (is_behind g layers r.k) r.set k.1.1.1.0 v m);
        even = λ w l free outside.
            even_of (is_input g w) (is_behind g layers r.k w)
            (odd_neighbourhood g (is_member r.set) w)
            (not_number (odd_behind g layers r.k r.set) (size g) k.1.1.1.1.0 w l) free
            (behind_where g layers r.k w outside);
      };
    }
  where
    positive : nat_eq r.k 0 ≡ false → 1 ≤ r.k
    positive f = elim (cases_eq r.k 0) [
      | inl s ↦ absurd (true≢false (sym (eq-eqb r.k 0 s) ∙ f))
      | inr ne ↦ omega arith
    ]

-- the row that is asked for
row_for : (g : OpenGraph) (d : ℕ) (layers : List LayerRow) (rows : List BoundRow) →
    Kept g d layers → AllByRecursion (KeepsRow g layers) rows →
    list_any (lacks_sets g layers rows) (numbers_from 1 (d - 1)) ≡ false → (k u : ℕ) → 1 ≤ k →
    k < stated_in layers u → u < size g → is_output g u ≡ false →
    KeepsAbove g (stated_in layers) k u (keeping_in rows k u)
row_for g d layers rows a all covered k u one low l out =
    let bounds = layer_bounds g d layers a u l out in
    let high = bounds.1 in
    let here =
    not_number (lacks_set layers rows k) (size g)
    (not_number_from (lacks_sets g layers rows) 1 (d - 1) covered k one (omega arith)) u l in
    let some =
    has_one (nat_lt k (stated_in layers u)) (list_any (is_for k u) rows) here
    (lt-ltb k (stated_in layers u) low) in
    let f = found_row (KeepsRow g layers) (is_for k u) rows all some in
    let r : BoundRow = f.0 in
    let row : KeepsRow g layers r = f.2 in
    let same = and_parts (nat_eq k r.k) (nat_eq u r.vertex) f.3 in
    subst (λ (s : Bits). KeepsAbove g (stated_in layers) k u s) (sym (ap set_at f.1))
    (subst (λ (j : ℕ). KeepsAbove g (stated_in layers) j u (is_member r.set))
    (sym (eqb-true k r.k same.0))
    (subst (λ (j : ℕ). KeepsAbove g (stated_in layers) r.k j (is_member r.set))
    (sym (eqb-true u r.vertex same.1)) row.keeps))
  where
    has_one : (a b : Bool) → (a && not b) ≡ false → a ≡ true → b ≡ true
    has_one a b e f = grind arith

bound_is_kept : (g : OpenGraph) (d : ℕ) (layers : List LayerRow) (rows : List BoundRow) →
    All (λ r. r.vertex < size g) layers → HaveOwnVertices key layers →
    first_broken 1 (bound_lines g d layers rows) ≡ None → IsBoundOf g d layers rows
bound_is_kept g d layers rows fit own e =
    let p = parts_of g d layers rows e in
    let together = all_kept (all_layers_rules g d layers) p.all_layers in
    let end = all_kept (bound_end_rules g d layers rows) p.end in
    let a : Kept g d layers = record {
      all = layers_kept g d layers fit own p.each_layer;
      own = own;
      covered = together.0;
      reached = together.1.0;
    } in
    let all : AllByRecursion (KeepsRow g layers) rows =
    all_by (BreaksNone (keeping_rules g d layers)) (KeepsRow g layers) (row_kept g d layers) rows
    p.each_row in
    record {
      bound = record {
        layers = layer_bounds g d layers a;
        reached = depth_reached g d layers a;
        holds = λ k u one low l out.
            (row_for g d layers rows a all end.0 k u one low l out).holds;
        within = λ k u v one low l out.
            (row_for g d layers rows a all end.0 k u one low l out).within v;
        even = λ k u w one low l out.
            (row_for g d layers rows a all end.0 k u one low l out).even w;
      };
      once = once_of g d layers a;
      asked =
          All-from_recursion (IsAsked g layers) rows
          (all_by (KeepsRow g layers) (IsAsked g layers) (λ r k. k.asked) rows all);
    }

pub bound_rows_hold : BoundRowsHold
bound_rows_hold g d layers rows fit own e sets layer f =
    let b = bound_is_kept g d layers rows fit own e in
    (bounds_hold g d (stated_in layers) (keeping_in rows) b.bound sets layer f).1

-- ---- a bound breaks no rule

record IsGiven (g : OpenGraph) (d : ℕ) (layers : List LayerRow) (rows : List BoundRow) : Type 0
  where
    fit : All (λ r. r.vertex < size g) layers
    own : HaveOwnVertices key layers
    members : AreBoundRows g rows
    apart : AreApart rows
    given : IsBoundOf g d layers rows

row_or_output : (g : OpenGraph) (d : ℕ) (layers : List LayerRow) (rows : List BoundRow) →
    IsGiven g d layers rows → (v : ℕ) → v < size g → has_row key layers v ≡ not (is_output g v)
row_or_output g d layers rows a v l =
    let b = a.given in
    sym (listed_has_row key layers v)
    ∙ member_once (map key layers) v (not (is_output g v)) (b.once.once v l)

layer_breaks_none : (g : OpenGraph) (d : ℕ) (layers : List LayerRow) (rows : List BoundRow) →
    IsGiven g d layers rows → (r : LayerRow) → FitsIn g r → IsOwn layers r →
    BreaksNone (layer_rules g d) r
layer_breaks_none g d layers rows a r l e =
    let b = a.given in
    let out : is_output g r.vertex ≡ false =
    not_true (is_output g r.vertex)
    (sym (row_or_output g d layers rows a r.vertex l)
    ∙ has_found (λ s. nat_eq r.vertex s.vertex) layers r e) in
    let bounds = (b.bound).layers r.vertex l out in
    let low = bounds.0 in
    let high = bounds.1 in
    let same : stated_in layers r.vertex ≡ r.layer = ap stated_at e in
    none_broken (layer_rules g d r) (
      out,
      (
        or_from (nat_eq r.layer 0) (nat_lt d r.layer)
            (ne_eqb r.layer 0 (λ s. absurd (omega arith))) (le-ltb d r.layer (omega arith)),
        tt,
      ),
    )

has_other : {A : Type 0} (p q : A → Bool) (xs : List A) (x : A) → find p xs ≡ Some x →
    q x ≡ true → list_any q xs ≡ true
has_other p q [] x e t = absurd (none-some x e)
has_other p q (y ∷ ys) x e t = by (p y) refl (has_other p q ys x)
  where
    or_first : (a b : Bool) → a ≡ true → a || b ≡ true
    or_first a b f = ap (λ (c : Bool). c || b) f

    or_second : (a b : Bool) → b ≡ true → a || b ≡ true
    or_second true b f = refl
    or_second false b f = f

    by : (b : Bool) → p y ≡ b → (find p ys ≡ Some x → q x ≡ true → list_any q ys ≡ true) →
        q y || list_any q ys ≡ true
    by true f rest =
        let first : Some y ≡ Some x = sym (ap (λ (b : Bool). cond b (Some y) (find p ys)) f) ∙ e in
        or_first (q y) (list_any q ys)
        (ap (λ (o : Option _). unwrap_or (option_map q o) true) first ∙ t)
    by false f rest =
        or_second (q y) (list_any q ys)
        (rest (sym (ap (λ (b : Bool). cond b (Some y) (find p ys)) f) ∙ e) t)

layers_suffice : (g : OpenGraph) (d : ℕ) (layers : List LayerRow) (rows : List BoundRow) →
    IsGiven g d layers rows → least_broken (all_layers_rules g d layers) ≡ None
layers_suffice g d layers rows a =
    let b = a.given in
    none_broken (all_layers_rules g d layers) (
      sym (no_number (lacks_layer g layers) (size g)
          (λ v l. one_or_other (is_output g v) (has_row key layers v)
          (row_or_output g d layers rows a v l))),
      (
        ap not (elim (b.bound).reached [
          | inl none ↦ ap (λ (c : Bool). c || has_layer layers d) (eq-eqb d 0 none)
          | inr top ↦ or_second (nat_eq d 0) (has_layer layers d) (reached top.0 top.1 top.2 top.3)
        ]),
        tt,
      ),
    )
  where
    one_or_other : (a b : Bool) → b ≡ not a → (not a && not b) ≡ false
    one_or_other true b e = refl
    one_or_other false b e = ap not e

    or_second : (a b : Bool) → b ≡ true → a || b ≡ true
    or_second true b f = refl
    or_second false b f = f

    reached : (v : ℕ) → v < size g → is_output g v ≡ false → stated_in layers v ≡ d →
        has_layer layers d ≡ true
    reached v l out e =
        let f =
        found_row (FitsIn g) (λ r. nat_eq v r.vertex) layers
        (recursion_from_All (FitsIn g) layers a.fit)
        (row_or_output g d layers rows a v l ∙ ap not out) in
        let r : LayerRow = f.0 in
        has_other (λ r. nat_eq v r.vertex) (λ r. nat_eq d r.layer) layers r f.1
        (eq-eqb d r.layer (sym e ∙ ap stated_at f.1))

is_for_itself : (r : BoundRow) → is_for r.k r.vertex r ≡ true
is_for_itself r =
    ap₂ (λ (a b : Bool). a && b) (eq-eqb r.k r.k refl) (eq-eqb r.vertex r.vertex refl)

is_for_swap : (r s : BoundRow) → is_for r.k r.vertex s ≡ is_for s.k s.vertex r
is_for_swap r s =
    ap₂ (λ (a b : Bool). a && b) (eqb_swap r.k s.k) (eqb_swap r.vertex s.vertex)

-- each row is the first for its layer and vertex
own_for : (rows : List BoundRow) → AreApart rows →
    AllByRecursion (λ r. find (is_for r.k r.vertex) rows ≡ Some r) rows
unfolding IsDistinct
own_for [] d = tt
own_for (r ∷ rs) d = (
  ap (λ (b : Bool). cond b (Some r) (find (is_for r.k r.vertex) rs)) (is_for_itself r),
  all_with (λ s. find (is_for s.k s.vertex) rs ≡ Some s) (λ s. is_for r.k r.vertex s ≡ false)
      (λ s. find (is_for s.k s.vertex) (r ∷ rs) ≡ Some s)
      (λ s e f.
      ap (λ (b : Bool). cond b (Some r) (find (is_for s.k s.vertex) rs)) (is_for_swap s r ∙ f) ∙ e)
      rs (own_for rs d.1) d.0,
)

even_unless : (a b c : Bool) → (a ≡ false → b ≡ true → c ≡ false) → (not a && b && c) ≡ false
even_unless true b c h = refl
even_unless false false c h = refl
even_unless false true c h = h refl refl

behind_by : (g : OpenGraph) (layers : List LayerRow) (k v : ℕ) → is_behind g layers k v ≡ true →
    (is_output g v ≡ true) ⊎ (stated_in layers v < k)
behind_by g layers k v e = by (is_output g v) refl
  where
    by : (b : Bool) → is_output g v ≡ b → (is_output g v ≡ true) ⊎ (stated_in layers v < k)
    by true o = inl o
    by false o =
        inr (ltb-true (stated_in layers v) k
        (sym (ap (λ (b : Bool). b || nat_lt (stated_in layers v) k) o) ∙ e))

abbrev IsBoundRow : OpenGraph → BoundRow → Type 0
IsBoundRow g r = (r.vertex < size g) × All (λ k. k < size g) r.set

row_breaks_none : (g : OpenGraph) (d : ℕ) (layers : List LayerRow) (rows : List BoundRow) →
    IsGiven g d layers rows → (r : BoundRow) → IsBoundRow g r × IsAsked g layers r →
    find (is_for r.k r.vertex) rows ≡ Some r → BreaksNone (keeping_rules g d layers) r
row_breaks_none g d layers rows a r fit e =
    let b : IsDepthBound g d (stated_in layers) (keeping_in rows) = (a.given).bound in
    let l : r.vertex < size g = (fit.0).0 in
    let members : All (λ k. k < size g) r.set = (fit.0).1 in
    let asked : IsAsked g layers r = fit.1 in
    let one = asked.positive in
    let low = asked.above in
    let bounds = b.layers r.vertex l asked.no_output in
    let high = bounds.1 in
    let same : keeping_in rows r.k r.vertex ≡ is_member r.set = ap set_at e in
    let c : KeepsAbove g (stated_in layers) r.k r.vertex (is_member r.set) =
    subst (λ (s : Bits). KeepsAbove g (stated_in layers) r.k r.vertex s) same
    (record {
      holds = b.holds r.k r.vertex one low l asked.no_output;
      within = λ v. b.within r.k r.vertex v one low l asked.no_output;
      even = λ w. b.even r.k r.vertex w one low l asked.no_output;
    }) in
    none_broken (keeping_rules g d layers r) (
      or_from (nat_eq r.k 0) (nat_le d r.k)
          (ne_eqb r.k 0 (λ s. absurd (omega arith))) (lt-leb d r.k (omega arith)),
      (
        or_from (is_output g r.vertex) (nat_le (stated_in layers r.vertex) r.k)
            asked.no_output (lt-leb (stated_in layers r.vertex) r.k low),
        (
          ap not c.holds,
          (
            none_member (is_behind g layers r.k) r.set
                (λ v m.
                let parts =
                c.within v
                (member_holds (λ k. k < size g) r.set v
                (recursion_from_All (λ k. k < size g) r.set members) m)
                m in
                or_from (is_output g v) (nat_lt (stated_in layers v) r.k) parts.0
                (le-ltb (stated_in layers v) r.k parts.1)),
            (
              sym (no_number (odd_behind g layers r.k r.set) (size g)
                  (λ w i. even_unless (is_input g w) (is_behind g layers r.k w)
                  (odd_neighbourhood g (is_member r.set) w)
                  (λ free behind. c.even w i free (behind_by g layers r.k w behind)))),
              tt,
            ),
          ),
        ),
      ),
    )

ends_well : (g : OpenGraph) (d : ℕ) (layers : List LayerRow) (rows : List BoundRow) →
    IsGiven g d layers rows → least_broken (bound_end_rules g d layers rows) ≡ None
ends_well g d layers rows a =
    none_broken (bound_end_rules g d layers rows) (
      none_from (lacks_sets g layers rows) 1 (d - 1)
          (λ k one high. sym (no_number (lacks_set layers rows k) (size g)
          (λ u l. by k one u l (nat_lt k (stated_in layers u)) (list_any (is_for k u) rows)
          refl refl))),
      tt,
    )
  where
    no_output : (u : ℕ) → u < size g → 1 ≤ stated_in layers u → (b : Bool) →
        is_output g u ≡ b → is_output g u ≡ false
    no_output u l low false o = o
    no_output u l low true o =
        let none =
        ap stated_at (found_none (λ r. nat_eq u r.vertex) layers
        (row_or_output g d layers rows a u l ∙ ap not o)) in
        absurd (omega arith)

    by : (k : ℕ) → 1 ≤ k → (u : ℕ) → u < size g → (b c : Bool) →
        nat_lt k (stated_in layers u) ≡ b → list_any (is_for k u) rows ≡ c →
        lacks_set layers rows k u ≡ false
    by k one u l false c e f =
        ap (λ (b : Bool). b && not (list_any (is_for k u) rows)) e
    by k one u l true true e f =
        ap₂ (λ (b c : Bool). b && not c) e f
    by k one u l true false e f =
        let low = ltb-true k (stated_in layers u) e in
        let b : IsDepthBound g d (stated_in layers) (keeping_in rows) = (a.given).bound in
        absurd (false≢true
        (sym (ap (λ (o : Option BoundRow). set_at o u) (found_none (is_for k u) rows f))
        ∙ b.holds k u one low l (no_output u l (omega arith) (is_output g u) refl)))

kept_is_bound : (g : OpenGraph) (d : ℕ) (layers : List LayerRow) (rows : List BoundRow) →
    IsGiven g d layers rows → first_broken 1 (bound_lines g d layers rows) ≡ None
kept_is_bound g d layers rows a =
    let members = a.members in
    let b = a.given in
    parts_suffice g d layers rows (record {
      each_layer =
          all_with (FitsIn g) (IsOwn layers) (BreaksNone (layer_rules g d))
          (layer_breaks_none g d layers rows a) layers
          (recursion_from_All (FitsIn g) layers a.fit) (own_rows key layers a.own);
      all_layers = layers_suffice g d layers rows a;
      each_row =
          all_with (λ r. IsBoundRow g r × IsAsked g layers r)
          (λ r. find (is_for r.k r.vertex) rows ≡ Some r)
          (BreaksNone (keeping_rules g d layers)) (row_breaks_none g d layers rows a) rows
          (all_with (IsBoundRow g) (IsAsked g layers) (λ r. IsBoundRow g r × IsAsked g layers r)
          (λ r p q. (p, q)) rows
          (all_with (λ r. r.vertex < size g) (λ r. All (λ k. k < size g) r.set) (IsBoundRow g)
          (λ r p q. (p, q)) rows
          (recursion_from_All (λ r. r.vertex < size g) rows members.vertices)
          (recursion_from_All (λ r. All (λ k. k < size g) r.set) rows members.members))
          (recursion_from_All (IsAsked g layers) rows b.asked))
          (own_for rows a.apart);
      end = ends_well g d layers rows a;
    })

pub bound_rules_exact : BoundRulesAreExact
bound_rules_exact g d layers rows fit own members apart = (
  bound_is_kept g d layers rows fit own,
  λ given.
      kept_is_bound g d layers rows
      (record { fit = fit; own = own; members = members; apart = apart; given = given }),
)
