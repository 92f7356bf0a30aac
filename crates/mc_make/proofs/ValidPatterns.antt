-- The patterns of flows are valid.
use Rattle.std.proofs.Common.{◌≡◌, ℕ, ◌<◌, Bool, true, false}
use Rattle.std.proofs.Common.{◌&&◌}
use Rattle.std.proofs.Common.{◌||◌, not, map, List, [], ◌∷◌, ◌++◌, refl, sym, ◌∙◌, ap, ap₂}
use Rattle.std.proofs.Common.{append_assoc, arith}
use Rattle.std.specs.Prelude.{nat_eq, flat_map}
use Rattle.std.specs.List.{AllByRecursion}
use Rattle.std.proofs.lemmas.Bool.{eq-eqb, and_parts, not-true, cases_eq, cases_Bool}
use Rattle.std.proofs.lemmas.Bool.{true≢false}
use mathlib.Core.Path.{subst}
use mathlib.Core.Logic.{inl, inr}
use Rattle.mc_model.specs.Numbers.{numbers_where, is_member}
use Rattle.mc_model.specs.Bits.{Bits, all_zero, replaced}
use Rattle.mc_model.specs.Signals.{Signal, signal_of}
use Rattle.mc_model.specs.Pattern.{Command, FixX, FixZ}
use Rattle.mc_model.specs.Valid.{measured}
use Rattle.mc_model.specs.Valid.{IsValidPattern}
use Rattle.mc_model.specs.Graph.{OpenGraph, size, is_output, odd_neighbourhood}
use Rattle.mc_model.specs.Graph.{IsOpenGraph}
use Rattle.mc_model.specs.Flow.{IsFlow, depth_of}
use Rattle.mc_model.specs.Made.{measuring_order, corrected_measurement, flow_pattern}
use Rattle.mc_model.proofs.BitLemmas.{replaced_same, replaced_other}
use Rattle.mc_model.proofs.ValidLemmas.{measured-append}
use Rattle.mc_model.proofs.NumberLists.{member_once}
use Rattle.mc_make.proofs.MeasuringOrder.{IsLater, IsOrder, IsWhere, where_all, all-weaker}
use Rattle.mc_make.proofs.MeasuringOrder.{measured_in_order}
use Rattle.mc_make.proofs.OrderLists.{order_once}
use Rattle.mc_graph.proofs.FollowingCommands.{IsThere, IsIn, Follows, patterned}

-- ---- measurements and corrections

follows_xs : (n : ℕ) (done : Bits) (s : Signal) (qs : List ℕ) (rest : List Command) →
    IsIn done s → AllByRecursion (IsThere n done) qs → Follows n done rest →
    Follows n done (map (λ k. FixX k s) qs ++ rest)
follows_xs n done s [] rest i all f = f
follows_xs n done s (q ∷ qs) rest i all f = (all.0, i, follows_xs n done s qs rest i all.1 f)

follows_zs : (n : ℕ) (done : Bits) (s : Signal) (qs : List ℕ) (rest : List Command) →
    IsIn done s → AllByRecursion (IsThere n done) qs → Follows n done rest →
    Follows n done (map (λ k. FixZ k s) qs ++ rest)
follows_zs n done s [] rest i all f = f
follows_zs n done s (q ∷ qs) rest i all f = (all.0, i, follows_zs n done s qs rest i all.1 f)

-- each measured vertex is before the listed one
abbrev IsBefore : (ℕ → ℕ) → Bits → ℕ → Type 0
IsBefore layer done j = (k : ℕ) → done k ≡ true → IsLater layer k j

not_yet : (layer : ℕ → ℕ) (done : Bits) (i k : ℕ) → IsBefore layer done i → layer k < layer i →
    replaced done i true k ≡ false
not_yet layer done i k before low = elim (cases_eq k i) [
  | inl e ↦ (let f : layer k ≡ layer i = ap layer e in absurd (omega arith))
  | inr ne ↦ replaced_other done i true k ne ∙ (elim (cases_Bool (done k)) [
    | inl d ↦ (let h = (before k d).0 in absurd (omega arith))
    | inr d ↦ d
  ])
]

before_more : (layer : ℕ → ℕ) (done : Bits) (i : ℕ) (js : List ℕ) →
    AllByRecursion (IsLater layer i) js → AllByRecursion (IsBefore layer done) js →
    AllByRecursion (IsBefore layer (replaced done i true)) js
before_more layer done i [] later before = tt
before_more layer done i (j ∷ js) later before = (
  λ k d. elim (cases_eq k i) [
    | inl e ↦ subst (λ (m : ℕ). IsLater layer m j) (sym e) later.0
    | inr ne ↦ before.0 k (sym (replaced_other done i true k ne) ∙ d)
  ],
  before_more layer done i js later.1 before.1,
)

follows_flow : (g : OpenGraph) (sets : ℕ → Bits) (layer : ℕ → ℕ) (flow : IsFlow g sets layer)
    (done : Bits) (is : List ℕ) → IsOrder g layer is → AllByRecursion (IsBefore layer done) is →
    Follows (size g) done (flat_map (λ i. corrected_measurement g (sets i) i) is)
unfolding corrected_measurement
follows_flow g sets layer flow done [] order before = tt
follows_flow g sets layer flow done (i ∷ is) order before =
    let at = flow.corrects i order.0.vertex order.0.no_output in
    let n : ℕ = size g in
    let now : Bits = replaced done i true in
    let odds : Bits = λ k. odd_neighbourhood g (sets i) k && not (nat_eq k i) in
    let xs : List Command = map (λ k. FixX k (signal_of i)) (numbers_where (sets i) n) in
    let zs : List Command = map (λ k. FixZ k (signal_of i)) (numbers_where odds n) in
    let rest : List Command = flat_map (λ j. corrected_measurement g (sets j) j) is in
    let own : IsIn now (signal_of i) = ((tt, tt), (replaced_same done i true, tt)) in
    let behind : Follows n now rest =
    follows_flow g sets layer flow now is order.2 (before_more layer done i is order.1 before.1) in
    let in_xs : AllByRecursion (IsThere n now) (numbers_where (sets i) n) =
    all-weaker (IsWhere (sets i) 0 n) (IsThere n now)
    (λ k w. let high = w.2 in
    (omega arith, not_yet layer done i k before.0 (at.set_later k w.0)))
    (numbers_where (sets i) n) (where_all (sets i) 0 n) in
    let in_zs : AllByRecursion (IsThere n now) (numbers_where odds n) =
    all-weaker (IsWhere odds 0 n) (IsThere n now)
    (λ k w. let high = w.2 in
    let l : k < n = omega arith in
    let parts = and_parts (odd_neighbourhood g (sets i) k) (not (nat_eq k i)) w.0 in
    (l, not_yet layer done i k before.0 (at.odd_later k l (other k i parts.1) parts.0)))
    (numbers_where odds n) (where_all odds 0 n) in (
      (order.0.vertex, new_one done layer i before.0),
      (tt, tt),
      (tt, tt),
      subst (Follows n now) (sym (append_assoc xs zs rest))
          (follows_xs n now (signal_of i) (numbers_where (sets i) n) (zs ++ rest) own in_xs
          (follows_zs n now (signal_of i) (numbers_where odds n) rest own in_zs behind)),
    )
  where
    other : (k i : ℕ) → not (nat_eq k i) ≡ true → k ≡ i → ⊥
    other k i e d = true≢false (sym (eq-eqb k i d) ∙ not-true (nat_eq k i) e)

    new_one : (done : Bits) (layer : ℕ → ℕ) (i : ℕ) → IsBefore layer done i → done i ≡ false
    new_one done layer i before = elim (cases_Bool (done i)) [
      | inl d ↦ absurd ((before i d).1 refl)
      | inr d ↦ d
    ]

measured-xs : (s : Signal) (qs : List ℕ) (k : ℕ) → measured (map (λ q. FixX q s) qs) k ≡ false
unfolding measured
measured-xs s [] k = refl
measured-xs s (q ∷ qs) k = measured-xs s qs k

measured-zs : (s : Signal) (qs : List ℕ) (k : ℕ) → measured (map (λ q. FixZ q s) qs) k ≡ false
unfolding measured
measured-zs s [] k = refl
measured-zs s (q ∷ qs) k = measured-zs s qs k

measured-flow : (g : OpenGraph) (sets : ℕ → Bits) (is : List ℕ) (k : ℕ) →
    measured (flat_map (λ i. corrected_measurement g (sets i) i) is) k ≡ is_member is k
unfolding corrected_measurement measured
measured-flow g sets [] k = refl
measured-flow g sets (i ∷ is) k =
    let n : ℕ = size g in
    let odds : Bits = λ j. odd_neighbourhood g (sets i) j && not (nat_eq j i) in
    let xs : List Command = map (λ j. FixX j (signal_of i)) (numbers_where (sets i) n) in
    let zs : List Command = map (λ j. FixZ j (signal_of i)) (numbers_where odds n) in
    let rest : List Command = flat_map (λ j. corrected_measurement g (sets j) j) is in
    ap (λ (b : Bool). nat_eq k i || b)
    (measured-append (xs ++ zs) rest k
    ∙ ap₂ (λ (a b : Bool). a || b)
    (measured-append xs zs k
    ∙ ap₂ (λ (a b : Bool). a || b) (measured-xs (signal_of i) (numbers_where (sets i) n) k)
    (measured-zs (signal_of i) (numbers_where odds n) k))
    (measured-flow g sets is k))

pub flow_patterns_valid : (g : OpenGraph) (sets : ℕ → Bits) (layer : ℕ → ℕ) → IsOpenGraph g →
    IsFlow g sets layer → IsValidPattern (flow_pattern g sets layer)
unfolding flow_pattern
flow_patterns_valid g sets layer valid flow =
    let order : List ℕ = measuring_order g layer (depth_of g layer) in
    let in_order = measured_in_order g layer (depth_of g layer) in
    patterned g (flat_map (λ i. corrected_measurement g (sets i) i) order) valid
    (follows_flow g sets layer flow all_zero order in_order (nothing_before layer order))
    (λ k l.
    measured-flow g sets order k
    ∙ member_once order k (not (is_output g k)) (order_once g sets layer flow k l))
  where
    nothing_before : (layer : ℕ → ℕ) (js : List ℕ) → AllByRecursion (IsBefore layer all_zero) js
    nothing_before layer [] = tt
    nothing_before layer (j ∷ js) =
        (λ k d. absurd (true≢false (sym d)), nothing_before layer js)
