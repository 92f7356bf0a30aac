-- The rules of a stuck set are broken nowhere exactly where the set is one.
use Rattle.std.proofs.Common.{◌≡◌, ℕ, suc, ◌<◌, Bool, true, false, ◌&&◌, ◌||◌, not, List, [], ◌∷◌}
use Rattle.std.proofs.Common.{length, refl, sym, ◌∙◌, ap, arith}
use Rattle.std.specs.Prelude.{nat_eq, All, count_by, Option, None}
use Rattle.std.specs.List.{AllByRecursion}
use Rattle.std.proofs.lemmas.Bool.{eqb-true, eq-eqb, ne_eqb, true≢false, false≢true}
use Rattle.std.proofs.lemmas.List.Elements.{recursion_from_All}
use Rattle.mc_model.specs.Numbers.{is_member}
use Rattle.mc_model.specs.Graph.{OpenGraph, size, is_input, is_output}
use Rattle.mc_model.specs.Flow.{IsStuckSet}
use Rattle.mc_cert.specs.Rules.{breach_or, first_broken}
use Rattle.mc_graph.specs.Neighbours.{neighbours}
use Rattle.mc_cert.specs.StuckRules.{has_one_inside, stuck_rules, stuck_lines}
use Rattle.mc_cert.specs.Laws.{StuckRulesAreExact}
use Rattle.mc_cert.proofs.ListTests.{not_number, no_number}
use Rattle.mc_cert.proofs.RowLemmas.{member_holds, no_member, none_member}
use Rattle.mc_cert.proofs.RuleLemmas.{all_kept, none_broken, one_line}
use Rattle.mc_cert.proofs.OnlyNeighbours.{only_is_one, one_is_only}

some_member : (g : OpenGraph) (set : List ℕ) → nat_eq (length set) 0 ≡ false →
    AllByRecursion (λ v. v < size g) set → (u : ℕ) × (u < size g) × (is_member set u ≡ true)
some_member g [] e below = absurd (true≢false e)
some_member g (v ∷ vs) e below =
    (v, below.0, ap (λ (b : Bool). b || is_member vs v) (eq-eqb v v refl))

has_members : (set : List ℕ) (u : ℕ) → is_member set u ≡ true → nat_eq (length set) 0 ≡ false
has_members [] u e = absurd (false≢true e)
has_members (v ∷ vs) u e = ne_eqb (suc (length vs)) 0 (λ s. absurd (omega arith))

not_one : (a b c : Bool) → (not a && not b && c) ≡ false → a ≡ false → b ≡ false → c ≡ false
not_one a b c e f h = grind arith

none_of_three : (a b c : Bool) → (a ≡ false → b ≡ false → c ≡ false) →
    (not a && not b && c) ≡ false
none_of_three true b c h = refl
none_of_three false true c h = refl
none_of_three false false c h = h refl refl

pub stuck_is_kept : (g : OpenGraph) (set : List ℕ) → All (λ v. v < size g) set →
    first_broken 1 (stuck_lines g set) ≡ None → IsStuckSet g (is_member set)
stuck_is_kept g set below e =
    let k = all_kept (stuck_rules g set) (one_line 1 (stuck_rules g set) e) in
    record {
      uncorrected = record {
        some = some_member g set k.0 (recursion_from_All (λ v. v < size g) set below);
        no_output = λ u l m. no_member (is_output g) set k.1.0 u m;
      };
      none = λ w u l free outside only.
          true≢false (sym (eq-eqb (count_by (is_member set) (neighbours g w)) 1
          (only_is_one g (is_member set) w u only))
          ∙ not_one (is_input g w) (is_member set w)
          (nat_eq (count_by (is_member set) (neighbours g w)) 1)
          (not_number (has_one_inside g (is_member set)) (size g) k.1.1.0 w l) free outside);
    }

pub kept_is_stuck : (g : OpenGraph) (set : List ℕ) → All (λ v. v < size g) set →
    IsStuckSet g (is_member set) → first_broken 1 (stuck_lines g set) ≡ None
unfolding first_broken
kept_is_stuck g set below s =
    let some = (s.uncorrected).some in
    ap (λ (o : Option ℕ). breach_or 1 o None)
    (none_broken (stuck_rules g set) (
      has_members set some.0 some.2,
      (
        none_member (is_output g) set
            (λ v m. (s.uncorrected).no_output v
            (member_holds (λ v. v < size g) set v
            (recursion_from_All (λ v. v < size g) set below) m) m),
        (
          sym (no_number (has_one_inside g (is_member set)) (size g)
              (λ w l. none_of_three (is_input g w) (is_member set w)
              (nat_eq (count_by (is_member set) (neighbours g w)) 1)
              (λ free outside.
              not_counted w l free outside
              (nat_eq (count_by (is_member set) (neighbours g w)) 1) refl))),
          tt,
        ),
      ),
    ))
  where
    not_counted : (w : ℕ) → w < size g → is_input g w ≡ false → is_member set w ≡ false →
        (b : Bool) → nat_eq (count_by (is_member set) (neighbours g w)) 1 ≡ b →
        nat_eq (count_by (is_member set) (neighbours g w)) 1 ≡ false
    not_counted w l free outside false e = e
    not_counted w l free outside true e =
        let one =
        one_is_only g (is_member set) w
        (eqb-true (count_by (is_member set) (neighbours g w)) 1 e) in
        absurd (s.none w one.0 l free outside one.1)

pub stuck_rules_exact : StuckRulesAreExact
stuck_rules_exact g set below = (stuck_is_kept g set below, kept_is_stuck g set below)
