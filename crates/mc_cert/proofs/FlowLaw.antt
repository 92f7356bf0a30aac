-- The rules of a flow's rows are broken nowhere exactly where the rows are a flow.
use Rattle.std.proofs.Common.{◌≡◌, ◌≢◌, ℕ, ◌<◌, ◌≤◌, Bool, true, false, ◌&&◌, ◌||◌, cond, not}
use Rattle.std.proofs.Common.{List}
use Rattle.std.proofs.Common.{[], map, refl, sym, ◌∙◌, ap, subst, arith}
use Rattle.std.specs.Prelude.{nat_eq, nat_lt, option_map, unwrap_or, All, Option, Some, None}
use Rattle.std.specs.List.{list_any, AllByRecursion}
use mathlib.Core.Logic.{inl, inr}
use Rattle.std.proofs.lemmas.Bool.{eqb-true, eq-eqb, ne_eqb, lt-ltb, le-ltb, cases_eq, cases_lt}
use Rattle.std.proofs.lemmas.Bool.{or_parts, or_from, true≢false}
use Rattle.std.proofs.lemmas.Option.{none-some}
use Rattle.std.proofs.lemmas.List.Elements.{All-from_recursion, recursion_from_All}
use Rattle.mc_model.specs.Bits.{Bits}
use Rattle.mc_model.specs.Numbers.{numbers_from, is_member, ListsOnce}
use Rattle.mc_model.specs.Graph.{OpenGraph, size, is_input, is_output, odd_neighbourhood}
use Rattle.mc_model.specs.Flow.{IsFlow, CorrectsAt, depth_of}
use Rattle.mc_model.proofs.NumberLists.{member_once}
use Rattle.mc_graph.specs.Flows.{FlowLine}
use Rattle.mc_cert.specs.Rules.{first_broken}
use Rattle.mc_graph.specs.RowLists.{row_at, has_row, HaveOwnVertices}
use Rattle.mc_graph.specs.Flows.{vertices_of, layer_in, sets_in, AreFlowLines}
use Rattle.mc_cert.specs.FlowRules.{has_lower_row}
use Rattle.mc_cert.specs.FlowRules.{is_later, is_too_early, odd_early, flow_rules, lacks_row}
use Rattle.mc_graph.specs.Flows.{IsFlowOf}
use Rattle.mc_cert.specs.FlowRules.{greatest_layer, flow_end_rules, flow_lines}
use Rattle.mc_cert.specs.Laws.{FlowRulesAreExact}
use Rattle.mc_cert.proofs.ListTests.{not_true, not_false, not_number, no_number}
use Rattle.mc_cert.proofs.RowLemmas.{FoundRow, all_with, all_by, all_of_map, map_of_all}
use Rattle.mc_cert.proofs.RowLemmas.{member_holds, no_member, none_member, found_row, found_none}
use Rattle.mc_cert.proofs.RowLemmas.{has_found, test_of_row, own_rows, listed_has_row}
use Rattle.mc_cert.proofs.RowLemmas.{count_of_distinct, fold_greatest, fold_least, all_numbers}
use Rattle.mc_cert.proofs.RowLemmas.{number_holds}
use Rattle.mc_cert.proofs.RuleLemmas.{BreaksNone, all_kept, none_broken, all_lines, no_lines}

abbrev key : FlowLine → ℕ
key r = r.vertex

-- what a row keeps
record Keeps (g : OpenGraph) (depth : ℕ) (rows : List FlowLine) (r : FlowLine) : Type 0 where
  vertex : r.vertex < size g
  members : All (λ k. k < size g) r.set
  no_output : is_output g r.vertex ≡ false
  positive : 1 ≤ r.layer
  within : r.layer ≤ depth
  no_input : list_any (is_input g) r.set ≡ false
  not_itself : is_member r.set r.vertex ≡ false
  odd_itself : odd_neighbourhood g (is_member r.set) r.vertex ≡ true
  set_later : list_any (is_too_early g rows r) r.set ≡ false
  odd_later : list_any (odd_early g rows r) (numbers_from 0 (size g)) ≡ false

pub kept_layer : (depth k : ℕ) → (nat_eq k 0 || nat_lt depth k) ≡ false → (1 ≤ k) × (k ≤ depth)
kept_layer depth k e =
    let parts = or_parts (nat_eq k 0) (nat_lt depth k) e in
    (positive parts.0, within parts.1)
  where
    positive : nat_eq k 0 ≡ false → 1 ≤ k
    positive f = elim (cases_eq k 0) [
      | inl s ↦ absurd (true≢false (sym (eq-eqb k 0 s) ∙ f))
      | inr ne ↦ omega arith
    ]

    within : nat_lt depth k ≡ false → k ≤ depth
    within f = elim (cases_lt depth k) [
      | inl l ↦ absurd (true≢false (sym (lt-ltb depth k l) ∙ f))
      | inr l ↦ l
    ]

keeps : (g : OpenGraph) (depth : ℕ) (rows : List FlowLine) (r : FlowLine) → r.vertex < size g →
    All (λ k. k < size g) r.set → BreaksNone (flow_rules g depth rows) r → Keeps g depth rows r
keeps g depth rows r l m e =
    let k = all_kept (flow_rules g depth rows r) e in
    let bounds = kept_layer depth r.layer k.1.0 in
    record {
      vertex = l;
      members = m;
      no_output = k.0;
      positive = bounds.0;
      within = bounds.1;
      no_input = k.1.1.0;
      not_itself = k.1.1.1.0;
      odd_itself =
          not_false (odd_neighbourhood g (is_member r.set) r.vertex) k.1.1.1.1.0;
      set_later = k.1.1.1.1.1.0;
      odd_later = k.1.1.1.1.1.1.0;
    }

-- ---- rows that are kept are a flow

-- one of two tests passes
pub one_passes : (a b : Bool) → (not a && not b) ≡ false → a ≡ false → b ≡ true
one_passes a b e f = grind arith

abbrev layer_at : Option FlowLine → ℕ
layer_at o = unwrap_or (option_map (λ r. r.layer) o) 0

lower_layer : (o : Option FlowLine) (k : ℕ) →
    unwrap_or (option_map (λ r. nat_lt r.layer k) o) false ≡ true → layer_at o < k
lower_layer None k e = absurd (true≢false (sym e))
lower_layer (Some r) k e = elim (cases_lt r.layer k) [
  | inl l ↦ l
  | inr l ↦ absurd (true≢false (sym e ∙ le-ltb r.layer k l))
]

record AllKept (g : OpenGraph) (depth : ℕ) (rows : List FlowLine) : Type 0 where
  all : AllByRecursion (Keeps g depth rows) rows
  own : HaveOwnVertices key rows
  covered : list_any (lacks_row g rows) (numbers_from 0 (size g)) ≡ false

has_row_of : (g : OpenGraph) (depth : ℕ) (rows : List FlowLine) → AllKept g depth rows → (v : ℕ) →
    v < size g → is_output g v ≡ false → has_row key rows v ≡ true
has_row_of g depth rows a v l out =
    one_passes (is_output g v) (has_row key rows v)
    (not_number (lacks_row g rows) (size g) a.covered v l) out

outputs_have_none : (g : OpenGraph) (depth : ℕ) (rows : List FlowLine) → AllKept g depth rows →
    (v : ℕ) → is_output g v ≡ true → has_row key rows v ≡ false
outputs_have_none g depth rows a v o = by (has_row key rows v) refl
  where
    by : (b : Bool) → has_row key rows v ≡ b → has_row key rows v ≡ false
    by false e = e
    by true e =
        let f = found_row (Keeps g depth rows) (λ r. nat_eq v r.vertex) rows a.all e in
        let k : Keeps g depth rows f.0 = f.2 in
        absurd (true≢false (sym o ∙ ap (is_output g) (eqb-true v (f.0).vertex f.3) ∙ k.no_output))

output_layer : (g : OpenGraph) (depth : ℕ) (rows : List FlowLine) → AllKept g depth rows →
    (v : ℕ) → is_output g v ≡ true → layer_in rows v ≡ 0
output_layer g depth rows a v o =
    ap layer_at (found_none (λ r. nat_eq v r.vertex) rows (outputs_have_none g depth rows a v o))

later_is_lower : (g : OpenGraph) (depth : ℕ) (rows : List FlowLine) → AllKept g depth rows →
    (k v : ℕ) → 1 ≤ k → is_later g rows k v ≡ true → layer_in rows v < k
later_is_lower g depth rows a k v positive e = by (is_output g v) refl
  where
    by : (b : Bool) → is_output g v ≡ b → layer_in rows v < k
    by true o = let none = output_layer g depth rows a v o in omega arith
    by false o =
        lower_layer (row_at key rows v) k
        (sym (test_of_row key (λ r. nat_lt r.layer k) rows v a.own)
        ∙ sym (ap (λ (b : Bool). b || has_lower_row rows k v) o) ∙ e)

corrects_row : (g : OpenGraph) (depth : ℕ) (rows : List FlowLine) → AllKept g depth rows →
    (r : FlowLine) → Keeps g depth rows r → layer_in rows r.vertex ≡ r.layer →
    CorrectsAt g (is_member r.set) (layer_in rows) r.vertex
corrects_row g depth rows a r k same = record {
  within = λ j m.
      member_holds (λ j. j < size g) r.set j
      (recursion_from_All (λ j. j < size g) r.set k.members) m;
  no_input = no_member (is_input g) r.set k.no_input;
  not_itself = k.not_itself;
  odd_itself = k.odd_itself;
  set_later = λ j m.
      lower j
      (λ s. true≢false (sym m ∙ ap (is_member r.set) s ∙ k.not_itself))
      (no_member (is_too_early g rows r) r.set k.set_later j m);
  odd_later = λ j l ne o.
      lower j ne
      (sym (ap (λ (b : Bool). b && is_too_early g rows r j) o)
      ∙ not_number (odd_early g rows r) (size g) k.odd_later j l);
}
  where
    lower : (j : ℕ) → j ≢ r.vertex → is_too_early g rows r j ≡ false →
        layer_in rows j < layer_in rows r.vertex
    lower j ne e =
        let low =
        later_is_lower g depth rows a r.layer j k.positive
        (one_passes (nat_eq j r.vertex) (is_later g rows r.layer j) e (ne_eqb j r.vertex ne)) in
        omega arith

abbrev set_at : Option FlowLine → Bits
set_at o = is_member (unwrap_or (option_map (λ r. r.set) o) [])

flow_of : (g : OpenGraph) (depth : ℕ) (rows : List FlowLine) → AllKept g depth rows →
    IsFlow g (sets_in rows) (layer_in rows)
flow_of g depth rows a = record {
  outputs = λ v l o. output_layer g depth rows a v o;
  positive = λ v l out.
      let f = found v l out in
      let k : Keeps g depth rows f.0 = f.2 in
      let low = k.positive in
      let e = ap layer_at f.1 in
      omega arith;
  corrects = λ v l out.
      let f = found v l out in
      let r : FlowLine = f.0 in
      let same : v ≡ r.vertex = eqb-true v r.vertex f.3 in
      let at : row_at key rows v ≡ Some r = f.1 in
      subst (λ (s : Bits). CorrectsAt g s (layer_in rows) v) (sym (ap set_at at))
      (subst (λ (j : ℕ). CorrectsAt g (is_member r.set) (layer_in rows) j) (sym same)
      (corrects_row g depth rows a r f.2 (ap (layer_in rows) (sym same) ∙ ap layer_at at)));
}
  where
    found : (v : ℕ) → v < size g → is_output g v ≡ false →
        FoundRow (Keeps g depth rows) (λ r. nat_eq v r.vertex) rows
    found v l out =
        found_row (Keeps g depth rows) (λ r. nat_eq v r.vertex) rows a.all
        (has_row_of g depth rows a v l out)

once_of : (g : OpenGraph) (depth : ℕ) (rows : List FlowLine) → AllKept g depth rows →
    ListsOnce (size g) (λ v. not (is_output g v)) (vertices_of rows)
once_of g depth rows a = record {
  below =
      All-from_recursion (λ q. q < size g) (vertices_of rows)
      (map_of_all (λ q. q < size g) key rows
      (all_by (Keeps g depth rows) (λ r. r.vertex < size g) (λ r k. k.vertex) rows a.all));
  once = λ v l.
      count_of_distinct (vertices_of rows) v a.own
      ∙ ap (λ (b : Bool). cond b 1 0)
      (listed_has_row key rows v ∙ has_or_not v l (is_output g v) refl);
}
  where
    has_or_not : (v : ℕ) → v < size g → (b : Bool) → is_output g v ≡ b →
        has_row key rows v ≡ not (is_output g v)
    has_or_not v l true o =
        outputs_have_none g depth rows a v o ∙ sym (ap not o)
    has_or_not v l false o = has_row_of g depth rows a v l o ∙ sym (ap not o)

-- ---- the depth

abbrev FitsIn : OpenGraph → FlowLine → Type 0
FitsIn g r = r.vertex < size g

depth_of_rows : (g : OpenGraph) (rows : List FlowLine) → AllByRecursion (FitsIn g) rows →
    HaveOwnVertices key rows → depth_of g (layer_in rows) ≡ greatest_layer rows
depth_of_rows g rows fits own =
    let above =
    fold_least 0 (greatest_layer rows) (map (layer_in rows) (numbers_from 0 (size g)))
    (omega arith)
    (all_numbers (λ k. k ≤ greatest_layer rows) (layer_in rows) (size g)
    (λ v l. low v (has_row key rows v) refl)) in
    let below =
    fold_least 0 (depth_of g (layer_in rows)) (map (λ r. r.layer) rows) (omega arith)
    (map_of_all (λ k. k ≤ depth_of g (layer_in rows)) (λ r. r.layer) rows
    (all_with (FitsIn g) (λ r. row_at key rows r.vertex ≡ Some r)
    (λ r. r.layer ≤ depth_of g (layer_in rows)) reached rows fits (own_rows key rows own))) in
    omega arith
  where
    low : (v : ℕ) (b : Bool) → has_row key rows v ≡ b → layer_in rows v ≤ greatest_layer rows
    low v true e =
        let f =
        found_row (λ r. r.layer ≤ greatest_layer rows) (λ r. nat_eq v r.vertex) rows
        (all_of_map (λ k. k ≤ greatest_layer rows) (λ r. r.layer) rows
        (fold_greatest 0 (map (λ r. r.layer) rows))) e in
        let same = ap layer_at f.1 in
        let h = f.2 in
        omega arith
    low v false e =
        let none = ap layer_at (found_none (λ r. nat_eq v r.vertex) rows e) in omega arith

    reached : (r : FlowLine) → FitsIn g r → row_at key rows r.vertex ≡ Some r →
        r.layer ≤ depth_of g (layer_in rows)
    reached r l e =
        let same = ap layer_at e in
        let h =
        number_holds (λ k. k ≤ depth_of g (layer_in rows)) (layer_in rows) (size g) r.vertex
        (fold_greatest 0 (map (layer_in rows) (numbers_from 0 (size g)))) l in
        omega arith

pub flow_is_kept : (g : OpenGraph) (depth : ℕ) (rows : List FlowLine) → AreFlowLines g rows →
    HaveOwnVertices key rows → first_broken 1 (flow_lines g depth rows) ≡ None →
    IsFlowOf g (record { depth = depth; rows = rows })
flow_is_kept g depth rows fit own e =
    let lines = all_lines (flow_rules g depth rows) (flow_end_rules g depth rows) 1 rows e in
    let end = all_kept (flow_end_rules g depth rows) lines.1 in
    let vertices = recursion_from_All (FitsIn g) rows fit.vertices in
    let members = recursion_from_All (λ r. All (λ k. k < size g) r.set) rows fit.members in
    let a : AllKept g depth rows = record {
      all =
          all_with (λ r. FitsIn g r × All (λ k. k < size g) r.set)
          (BreaksNone (flow_rules g depth rows)) (Keeps g depth rows)
          (λ r f b. keeps g depth rows r f.0 f.1 b) rows
          (all_with (FitsIn g) (λ r. All (λ k. k < size g) r.set)
          (λ r. FitsIn g r × All (λ k. k < size g) r.set) (λ r l m. (l, m)) rows vertices members)
          lines.0;
      own = own;
      covered = end.0;
    } in
    record {
      flow = flow_of g depth rows a;
      whole = record {
        once = once_of g depth rows a;
        reached =
            depth_of_rows g rows vertices own
            ∙ sym (eqb-true depth (greatest_layer rows)
            (not_false (nat_eq depth (greatest_layer rows)) end.1.0));
      };
    }

-- ---- a flow breaks no rule

lower_row : (o : Option FlowLine) (r : FlowLine) (k : ℕ) → o ≡ Some r → layer_at o < k →
    unwrap_or (option_map (λ r. nat_lt r.layer k) o) false ≡ true
lower_row None r k e l = absurd (none-some r e)
lower_row (Some s) r k e l = lt-ltb s.layer k l

record IsGiven (g : OpenGraph) (depth : ℕ) (rows : List FlowLine) : Type 0 where
  fit : AreFlowLines g rows
  own : HaveOwnVertices key rows
  given : IsFlowOf g (record { depth = depth; rows = rows })

row_or_output : (g : OpenGraph) (depth : ℕ) (rows : List FlowLine) → IsGiven g depth rows →
    (v : ℕ) → v < size g → has_row key rows v ≡ not (is_output g v)
row_or_output g depth rows a v l =
    let flow = a.given in
    sym (listed_has_row key rows v)
    ∙ member_once (vertices_of rows) v (not (is_output g v)) (flow.whole.once.once v l)

is_later_where : (g : OpenGraph) (depth : ℕ) (rows : List FlowLine) → IsGiven g depth rows →
    (k v : ℕ) → v < size g → layer_in rows v < k → is_later g rows k v ≡ true
is_later_where g depth rows a k v l low = by (is_output g v) refl
  where
    by : (b : Bool) → is_output g v ≡ b → is_later g rows k v ≡ true
    by true o = ap (λ (b : Bool). b || has_lower_row rows k v) o
    by false o =
        let vertices = recursion_from_All (FitsIn g) rows (a.fit).vertices in
        let f =
        found_row (FitsIn g) (λ r. nat_eq v r.vertex) rows vertices
        (row_or_output g depth rows a v l ∙ ap not o) in
        ap (λ (b : Bool). b || has_lower_row rows k v) o
        ∙ test_of_row key (λ r. nat_lt r.layer k) rows v a.own
        ∙ lower_row (row_at key rows v) f.0 k f.1 low

neither : (a b : Bool) → b ≡ true → (not a && not b) ≡ false
neither a b e = grind arith

and_none : (a b : Bool) → (a ≡ true → b ≡ false) → a && b ≡ false
and_none true b h = h refl
and_none false b h = refl

same_is_not_early : (g : OpenGraph) (rows : List FlowLine) (r : FlowLine) (v : ℕ) → v ≡ r.vertex →
    is_too_early g rows r v ≡ false
same_is_not_early g rows r v e =
    ap (λ (b : Bool). not b && not (is_later g rows r.layer v)) (eq-eqb v r.vertex e)

breaks_none : (g : OpenGraph) (depth : ℕ) (rows : List FlowLine) → IsGiven g depth rows →
    (r : FlowLine) → FitsIn g r → row_at key rows r.vertex ≡ Some r →
    BreaksNone (flow_rules g depth rows) r
breaks_none g depth rows a r l e =
    let flow = a.given in
    let same : layer_in rows r.vertex ≡ r.layer = ap layer_at e in
    let out : is_output g r.vertex ≡ false =
    not_true (is_output g r.vertex)
    (sym (row_or_output g depth rows a r.vertex l)
    ∙ has_found (λ s. nat_eq r.vertex s.vertex) rows r e) in
    let low : 1 ≤ layer_in rows r.vertex = (flow.flow).positive r.vertex l out in
    let reached = flow.whole.reached in
    let high : layer_in rows r.vertex ≤ depth_of g (layer_in rows) =
    number_holds (λ k. k ≤ depth_of g (layer_in rows)) (layer_in rows) (size g) r.vertex
    (fold_greatest 0 (map (layer_in rows) (numbers_from 0 (size g)))) l in
    let c : CorrectsAt g (is_member r.set) (layer_in rows) r.vertex =
    subst (λ (s : Bits). CorrectsAt g s (layer_in rows) r.vertex) (ap set_at e)
    ((flow.flow).corrects r.vertex l out) in
    none_broken (flow_rules g depth rows r) (
      out,
      (
        or_from (nat_eq r.layer 0) (nat_lt depth r.layer)
            (ne_eqb r.layer 0 (λ s. absurd (omega arith))) (le-ltb depth r.layer (omega arith)),
        (
          none_member (is_input g) r.set c.no_input,
          (
            c.not_itself,
            (
              ap not c.odd_itself,
              (
                none_member (is_too_early g rows r) r.set
                    (λ k m. in_time k (c.within k m) (c.set_later k m)),
                (
                  sym (no_number (odd_early g rows r) (size g)
                      (λ k h. and_none (odd_neighbourhood g (is_member r.set) k)
                      (is_too_early g rows r k)
                      (λ o. odd_in_time k h (λ ne. c.odd_later k h ne o)))),
                  tt,
                ),
              ),
            ),
          ),
        ),
      ),
    )
  where
    in_time : (k : ℕ) → k < size g → layer_in rows k < layer_in rows r.vertex →
        is_too_early g rows r k ≡ false
    in_time k h low =
        let same : layer_in rows r.vertex ≡ r.layer = ap layer_at e in
        neither (nat_eq k r.vertex) (is_later g rows r.layer k)
        (is_later_where g depth rows a r.layer k h (omega arith))

    odd_in_time : (k : ℕ) → k < size g →
        (k ≢ r.vertex → layer_in rows k < layer_in rows r.vertex) →
        is_too_early g rows r k ≡ false
    odd_in_time k h later = elim (cases_eq k r.vertex) [
      | inl s ↦ same_is_not_early g rows r k s
      | inr ne ↦ in_time k h (later ne)
    ]

ends_well : (g : OpenGraph) (depth : ℕ) (rows : List FlowLine) → IsGiven g depth rows →
    BreaksNone (flow_end_rules g depth) rows
ends_well g depth rows a =
    let vertices = recursion_from_All (FitsIn g) rows (a.fit).vertices in
    let flow = a.given in
    none_broken (flow_end_rules g depth rows) (
      sym (no_number (lacks_row g rows) (size g)
          (λ v l. one_or_other (is_output g v) (has_row key rows v)
          (row_or_output g depth rows a v l))),
      (
        ap not (eq-eqb depth (greatest_layer rows)
            (sym flow.whole.reached ∙ depth_of_rows g rows vertices a.own)),
        tt,
      ),
    )
  where
    one_or_other : (a b : Bool) → b ≡ not a → (not a && not b) ≡ false
    one_or_other true b e = refl
    one_or_other false b e = ap not e

pub kept_is_flow : (g : OpenGraph) (depth : ℕ) (rows : List FlowLine) → AreFlowLines g rows →
    HaveOwnVertices key rows → IsFlowOf g (record { depth = depth; rows = rows }) →
    first_broken 1 (flow_lines g depth rows) ≡ None
kept_is_flow g depth rows fit own given =
    let a : IsGiven g depth rows = record { fit = fit; own = own; given = given } in
    no_lines (flow_rules g depth rows) (flow_end_rules g depth rows) 1 rows
    (all_with (FitsIn g) (λ r. row_at key rows r.vertex ≡ Some r)
    (BreaksNone (flow_rules g depth rows)) (breaks_none g depth rows a) rows
    (recursion_from_All (FitsIn g) rows fit.vertices) (own_rows key rows own))
    (ends_well g depth rows a)

pub flow_rules_exact : FlowRulesAreExact
flow_rules_exact g f fit own =
    (flow_is_kept g f.depth f.rows fit own, kept_is_flow g f.depth f.rows fit own)
