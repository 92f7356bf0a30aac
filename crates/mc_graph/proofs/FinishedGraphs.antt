-- Outputs that break no rule make an open graph.
use Rattle.std.proofs.Common.{◌≡◌, ℕ, Bool, true, false, not, ◌&&◌, ◌||◌, List, Some, None, refl}
use Rattle.std.proofs.Common.{sym, ◌∙◌, ap, ap₂}
use Rattle.std.specs.Prelude.{Option, is_none, is_some, if◌then◌else◌, cond}
use Rattle.std.specs.List.{list_any}
use Rattle.std.proofs.lemmas.Bool.{or_parts, true≢false, false≢true}
use Rattle.mc_model.specs.Numbers.{numbers_from, ListsOnce}
use Rattle.mc_model.specs.Graph.{OpenGraph, size, base_angle, Fixed, not_fixed, fixed_at}
use Rattle.mc_model.proofs.NumberLists.{member_once}
use Rattle.mc_pattern.specs.Rules.{is_stranger, is_twice, is_undone}
use Rattle.mc_pattern.specs.Rules.{is_missing as is_missing_qubit}
use Rattle.mc_pattern.proofs.RuleLaws.{lists_by}
use Rattle.mc_pattern.proofs.Members.{number_fails}
use Rattle.mc_graph.specs.Rules.{has_angle, is_missing, is_fixed_inside, output_rule}
use Rattle.mc_graph.specs.Graphs.{IsGraph}
use Rattle.mc_graph.specs.Building.{IsBegun, with_outputs}

-- no rule is broken
record AllKept (a b c d e : Bool) : Type 0 where
  first : a ≡ false
  second : b ≡ false
  third : c ≡ false
  fourth : d ≡ false
  fifth : e ≡ false

abbrev five_rules : Bool → Bool → Bool → Bool → Bool → Option ℕ
five_rules a b c d e =
    if a then Some 1 else (if b then Some 4 else (if c then Some 5
    else (if d then Some 6 else (if e then Some 8 else None))))

kept_all : (a b c d e : Bool) → five_rules a b c d e ≡ None → AllKept a b c d e
kept_all true b c d e h = absurd (cc h)
kept_all false true c d e h = absurd (cc h)
kept_all false false true d e h = absurd (cc h)
kept_all false false false true e h = absurd (cc h)
kept_all false false false false true h = absurd (cc h)
kept_all false false false false false h =
    record { first = refl; second = refl; third = refl; fourth = refl; fifth = refl }

abbrev four_rules : Bool → Bool → Bool → Bool → Option ℕ
four_rules a b c d =
    if a then Some 5 else (if b then Some 6 else (if c then Some 7 else (if d then Some 8 else None)))

four_kept : (a b c d : Bool) → a ≡ false → b ≡ false → c ≡ false → d ≡ false →
    four_rules a b c d ≡ None
four_kept a b c d p q r s = rw (p, q, r, s) refl

none_or_some : (o : Option ℕ) → is_none o ≡ not (is_some o)
none_or_some None = refl
none_or_some (Some a) = refl

no_fixed : (f : Fixed) → (f.x || f.z) ≡ false → f ≡ not_fixed
no_fixed f e =
    let parts = or_parts f.x f.z e in
    ap₂ (λ (x z : Bool). record { x = x; z = z }) parts.0 parts.1

inside_fixed : (a b : Bool) → a ≡ true → a && b ≡ false → b ≡ false
inside_fixed true b e h = h
inside_fixed false b e h = absurd (false≢true e)

pub finished : (half : ℕ) (g : OpenGraph) (vs : List ℕ) → IsBegun half g →
    output_rule g vs ≡ None → IsGraph half (with_outputs g vs)
finished half g vs h unbroken =
    let kept =
    kept_all (list_any (is_stranger (size g)) vs) (list_any (has_angle g) vs)
    (list_any (is_twice vs) vs) (list_any (is_missing g vs) (numbers_from 0 (size g)))
    (list_any (is_fixed_inside g) (numbers_from 0 (size g))) unbroken in
    let once : ListsOnce (size g) (is_undone (has_angle g)) vs =
    lists_by (size g) (has_angle g) vs
    (four_kept (list_any (is_stranger (size g)) vs) (list_any (has_angle g) vs)
    (list_any (is_twice vs) vs) (list_any (is_missing_qubit (has_angle g) vs) (numbers_from 0 (size g)))
    kept.first kept.second kept.third kept.fourth) in
    record {
      open_graph = record {
        names = h.names;
        inputs = h.inputs;
        edges = h.edges;
        angles = h.angles;
        outputs = record {
          below = once.below;
          once = λ v l.
              once.once v l
              ∙ ap (λ (b : Bool). cond {A = ℕ} b 1 0) (sym (none_or_some (base_angle g v)));
        };
        fixed = h.fixed;
        fixed_outputs = λ v l out.
            let member = member_once vs v (not (has_angle g v)) (once.once v l) in
            no_fixed (fixed_at g v)
            (inside_fixed (has_angle g v) _ (not_not_true (has_angle g v) (sym member ∙ out))
            (number_fails (is_fixed_inside g) (size g) v kept.fifth l));
      };
      angles = h.within;
      permitted = h.permitted;
    }
  where
    not_not_true : (b : Bool) → not b ≡ false → b ≡ true
    not_not_true true e = refl
    not_not_true false e = absurd (true≢false e)
