-- The rules of a refuter's rows are broken nowhere exactly where the rows are a refuter.
use Rattle.std.proofs.Common.{◌≡◌, ℕ, suc, ◌<◌, Bool, true, false, ◌&&◌, ◌||◌, not, List, [], ◌∷◌}
use Rattle.std.proofs.Common.{length, refl, sym, ◌∙◌, ap, subst, arith}
use Rattle.std.specs.Prelude.{nat_eq, option_map, unwrap_or, All, Option, Some, None}
use Rattle.std.specs.List.{AllByRecursion}
use Rattle.std.proofs.lemmas.Bool.{eqb-true, eq-eqb, ne_eqb, true≢false, false≢true}
use Rattle.std.proofs.lemmas.List.Elements.{recursion_from_All}
use Rattle.mc_model.specs.Bits.{Bits}
use Rattle.mc_model.specs.Numbers.{is_member}
use Rattle.mc_model.specs.Graph.{OpenGraph, size, is_input, is_output, odd_neighbourhood}
use Rattle.mc_model.specs.Flow.{RefutesAt}
use Rattle.mc_graph.specs.Refuters.{RefuterLine}
use Rattle.mc_cert.specs.Rules.{first_broken}
use Rattle.mc_graph.specs.RowLists.{row_at, HaveOwnVertices}
use Rattle.mc_graph.specs.Refuters.{refuted_in, AreRefuterLines}
use Rattle.mc_cert.specs.RefuterRules.{odd_outside, refuter_rules}
use Rattle.mc_graph.specs.Refuters.{IsRefuterOf}
use Rattle.mc_cert.specs.RefuterRules.{refuter_end_rules, refuter_lines}
use Rattle.mc_cert.specs.Laws.{RefuterRulesAreExact}
use Rattle.mc_cert.proofs.ListTests.{not_false, not_number, no_number}
use Rattle.mc_cert.proofs.RowLemmas.{FoundRow, all_with, member_holds, no_member, none_member}
use Rattle.mc_cert.proofs.RowLemmas.{found_row, has_found, own_rows}
use Rattle.mc_cert.proofs.RuleLemmas.{BreaksNone, all_kept, none_broken, all_lines, no_lines}

abbrev key : RefuterLine → ℕ
key r = r.vertex

abbrev set_at : Option RefuterLine → Bits
set_at o = is_member (unwrap_or (option_map (λ r. r.set) o) [])

abbrev IsRow : OpenGraph → RefuterLine → Type 0
IsRow g r = (r.vertex < size g) × All (λ k. k < size g) r.set

rows_fit : (g : OpenGraph) (rows : List RefuterLine) → AreRefuterLines g rows →
    AllByRecursion (IsRow g) rows
rows_fit g rows fit =
    all_with (λ r. r.vertex < size g) (λ r. All (λ k. k < size g) r.set) (IsRow g)
    (λ r l m. (l, m)) rows
    (recursion_from_All (λ r. r.vertex < size g) rows fit.vertices)
    (recursion_from_All (λ r. All (λ k. k < size g) r.set) rows fit.members)

-- ---- rows that are kept are a refuter

even_where : (a b c : Bool) → (not a && not b && c) ≡ false → a ≡ false → b ≡ false → c ≡ false
even_where a b c e f h = grind arith

record RowRefutes (g : OpenGraph) (B : Bits) (r : RefuterLine) : Type 0 where
  vertex : r.vertex < size g
  no_output : is_output g r.vertex ≡ false
  refutes : RefutesAt g B (is_member r.set) r.vertex

row_refutes : (g : OpenGraph) (rows : List RefuterLine) (r : RefuterLine) → IsRow g r →
    BreaksNone (refuter_rules g rows) r → RowRefutes g (refuted_in rows) r
row_refutes g rows r fit e =
    let k = all_kept (refuter_rules g rows r) e in
    record {
      vertex = fit.0;
      no_output = k.0;
      refutes = record {
        holds = not_false (is_member r.set r.vertex) k.1.0;
        within = λ v l m.
            not_false (refuted_in rows v)
            (no_member (λ v. not (refuted_in rows v)) r.set k.1.1.0 v m);
        even = λ w l free outside.
            even_where (is_input g w) (refuted_in rows w)
            (odd_neighbourhood g (is_member r.set) w)
            (not_number (odd_outside g (refuted_in rows) r.set) (size g) k.1.1.1.0 w l)
            free outside;
      };
    }

some_row : (g : OpenGraph) (rows : List RefuterLine) → nat_eq (length rows) 0 ≡ false →
    AllByRecursion (IsRow g) rows →
    (u : ℕ) × (u < size g) × (refuted_in rows u ≡ true)
some_row g [] e fit = absurd (true≢false e)
some_row g (r ∷ rs) e fit = (
  r.vertex,
  (fit.0).0,
  ap (λ (b : Bool). b || refuted_in rs r.vertex) (eq-eqb r.vertex r.vertex refl),
)

refuter_of : (g : OpenGraph) (rows : List RefuterLine) → nat_eq (length rows) 0 ≡ false →
    AllByRecursion (IsRow g) rows → AllByRecursion (RowRefutes g (refuted_in rows)) rows →
    IsRefuterOf g rows
refuter_of g rows some fit all = record {
  uncorrected = record {
    some = some_row g rows some fit;
    no_output = λ u l b.
        let f = found u b in
        let k : RowRefutes g (refuted_in rows) f.0 = f.2 in
        ap (is_output g) (eqb-true u (f.0).vertex f.3) ∙ k.no_output;
  };
  refutes = λ u l b.
      let f = found u b in
      let r : RefuterLine = f.0 in
      let k : RowRefutes g (refuted_in rows) r = f.2 in
      let at : row_at key rows u ≡ Some r = f.1 in
      subst (λ (s : Bits). RefutesAt g (refuted_in rows) s u) (sym (ap set_at at))
      (subst (λ (j : ℕ). RefutesAt g (refuted_in rows) (is_member r.set) j)
      (sym (eqb-true u r.vertex f.3)) k.refutes);
}
  where
    found : (u : ℕ) → refuted_in rows u ≡ true →
        FoundRow (RowRefutes g (refuted_in rows)) (λ r. nat_eq u r.vertex) rows
    found u b =
        found_row (RowRefutes g (refuted_in rows)) (λ r. nat_eq u r.vertex) rows all b

pub refuter_is_kept : (g : OpenGraph) (rows : List RefuterLine) → AreRefuterLines g rows →
    first_broken 1 (refuter_lines g rows) ≡ None → IsRefuterOf g rows
refuter_is_kept g rows fit e =
    let lines = all_lines (refuter_rules g rows) (refuter_end_rules rows) 1 rows e in
    let end = all_kept (refuter_end_rules rows) lines.1 in
    refuter_of g rows end.0 (rows_fit g rows fit)
    (all_with (IsRow g) (BreaksNone (refuter_rules g rows)) (RowRefutes g (refuted_in rows))
    (row_refutes g rows) rows (rows_fit g rows fit) lines.0)

-- ---- a refuter breaks no rule

none_of_three : (a b c : Bool) → (a ≡ false → b ≡ false → c ≡ false) →
    (not a && not b && c) ≡ false
none_of_three true b c h = refl
none_of_three false true c h = refl
none_of_three false false c h = h refl refl

breaks_none : (g : OpenGraph) (rows : List RefuterLine) → IsRefuterOf g rows →
    (r : RefuterLine) → IsRow g r → row_at key rows r.vertex ≡ Some r →
    BreaksNone (refuter_rules g rows) r
breaks_none g rows given r fit e =
    let here : refuted_in rows r.vertex ≡ true =
    has_found (λ s. nat_eq r.vertex s.vertex) rows r e in
    let c : RefutesAt g (refuted_in rows) (is_member r.set) r.vertex =
    subst (λ (s : Bits). RefutesAt g (refuted_in rows) s r.vertex) (ap set_at e)
    (given.refutes r.vertex fit.0 here) in
    none_broken (refuter_rules g rows r) (
      (given.uncorrected).no_output r.vertex fit.0 here,
      (
        ap not c.holds,
        (
          none_member (λ v. not (refuted_in rows v)) r.set
              (λ v m. ap not (c.within v
              (member_holds (λ k. k < size g) r.set v
              (recursion_from_All (λ k. k < size g) r.set fit.1) m) m)),
          (
            sym (no_number (odd_outside g (refuted_in rows) r.set) (size g)
                (λ w l. none_of_three (is_input g w) (refuted_in rows w)
                (odd_neighbourhood g (is_member r.set) w) (c.even w l))),
            tt,
          ),
        ),
      ),
    )

has_rows : (rows : List RefuterLine) (u : ℕ) → refuted_in rows u ≡ true →
    nat_eq (length rows) 0 ≡ false
has_rows [] u e = absurd (false≢true e)
has_rows (r ∷ rs) u e = ne_eqb (suc (length rs)) 0 (λ s. absurd (omega arith))

pub kept_is_refuter : (g : OpenGraph) (rows : List RefuterLine) → AreRefuterLines g rows →
    HaveOwnVertices key rows → IsRefuterOf g rows → first_broken 1 (refuter_lines g rows) ≡ None
kept_is_refuter g rows fit own given =
    let some = (given.uncorrected).some in
    no_lines (refuter_rules g rows) (refuter_end_rules rows) 1 rows
    (all_with (IsRow g) (λ r. row_at key rows r.vertex ≡ Some r)
    (BreaksNone (refuter_rules g rows)) (breaks_none g rows given) rows
    (rows_fit g rows fit) (own_rows key rows own))
    (none_broken (refuter_end_rules rows) (has_rows rows some.0 some.2, tt))

pub refuter_rules_exact : RefuterRulesAreExact
refuter_rules_exact g rows fit own =
    (refuter_is_kept g rows fit, kept_is_refuter g rows fit own)
