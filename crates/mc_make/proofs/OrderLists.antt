-- The order of measuring has each vertex that is no output once, and falls.
use Rattle.std.proofs.Common.{◌≡◌, ℕ, zero, suc, ◌+◌, ◌<◌, ◌≤◌, Bool, true, false, cond, ◌&&◌}
use Rattle.std.proofs.Common.{◌||◌}
use Rattle.std.proofs.Common.{not, List, [], ◌∷◌, ◌++◌, refl, sym, ◌∙◌, ap, ap₂}
use Rattle.std.specs.Prelude.{nat_eq, nat_lt, count_by}
use Rattle.std.specs.List.{AllByRecursion}
use Rattle.std.proofs.lemmas.Bool.{lt-ltb}
use Rattle.std.proofs.lemmas.List.Elements.{All-from_recursion}
use mathlib.Core.Path.{subst}
use Rattle.mc_model.specs.Bits.{Bits}
use Rattle.mc_model.specs.Numbers.{numbers_where, ListsOnce}
use Rattle.mc_model.specs.Graph.{OpenGraph, size, is_output}
use Rattle.mc_model.specs.Flow.{IsFlow, depth_of}
use Rattle.mc_model.specs.Made.{measuring_order}
use Rattle.mc_make.specs.Laws.{IsFallingOrder}
use Rattle.mc_model.proofs.NumberLists.{count-append, count-where}
use Rattle.mc_make.proofs.MeasuringOrder.{IsOrder, measured_in_order, is_upto, upto_none, upto_step}
use Rattle.mc_make.proofs.MeasuringOrder.{upto_apart, upto_all}

one_of_two : (l a b : Bool) → (a ≡ true → b ≡ true → ⊥) →
    cond (l && a) 1 0 + cond (l && b) 1 0 ≡ cond (l && (a || b)) 1 0
one_of_two false a b h = refl
one_of_two true true true h = absurd (h refl refl)
one_of_two true true false h = refl
one_of_two true false true h = refl
one_of_two true false false h = refl

and_none : (l b : Bool) → b ≡ false → ◌≡◌ {A = ℕ} (cond (l && b) 1 0) 0
and_none true b e = ap (λ (c : Bool). cond c 1 0) e
and_none false b e = refl

count-order : (g : OpenGraph) (layer : ℕ → ℕ) (k q : ℕ) →
    count_by (nat_eq q) (measuring_order g layer k)
    ≡ cond (nat_lt q (size g) && is_upto g layer k q) 1 0
unfolding measuring_order
count-order g layer zero q =
    sym (and_none (nat_lt q (size g)) (is_upto g layer 0 q) (upto_none g layer q))
count-order g layer (suc k) q =
    let p : Bits = λ v. not (is_output g v) && nat_eq (layer v) (suc k) in
    let l : Bool = nat_lt q (size g) in
    count-append q (numbers_where p (size g)) (measuring_order g layer k)
    ∙ ap₂ (λ (a b : ℕ). a + b) (count-where p (size g) q) (count-order g layer k q)
    ∙ one_of_two l (p q) (is_upto g layer k q) (upto_apart g layer k q)
    ∙ ap (λ (b : Bool). cond (l && b) 1 0) (upto_step g layer k q)

order_below : (g : OpenGraph) (layer : ℕ → ℕ) (is : List ℕ) → IsOrder g layer is →
    AllByRecursion (λ q. q < size g) is
order_below g layer [] order = tt
order_below g layer (i ∷ is) order = (order.0.vertex, order_below g layer is order.2)

falls_at : (g : OpenGraph) (layer : ℕ → ℕ) (before behind : List ℕ) (i j : ℕ) →
    IsOrder g layer (before ++ (i ∷ j ∷ behind)) → layer j ≤ layer i
falls_at g layer [] behind i j order = (order.1.0).0
falls_at g layer (b ∷ before) behind i j order = falls_at g layer before behind i j order.2

-- the vertices of layers up to `k`, each once
pub upto_once : (g : OpenGraph) (layer : ℕ → ℕ) (k : ℕ) →
    ListsOnce (size g) (is_upto g layer k) (measuring_order g layer k)
upto_once g layer k =
    let order : List ℕ = measuring_order g layer k in
    record {
      below =
          All-from_recursion (λ q. q < size g) order
          (order_below g layer order (measured_in_order g layer k));
      once = λ q l.
          count-order g layer k q
          ∙ ap (λ (b : Bool). cond (b && is_upto g layer k q) 1 0) (lt-ltb q (size g) l);
    }

pub order_once : (g : OpenGraph) (sets : ℕ → Bits) (layer : ℕ → ℕ) → IsFlow g sets layer →
    (q : ℕ) → q < size g →
    count_by (nat_eq q) (measuring_order g layer (depth_of g layer))
    ≡ cond (not (is_output g q)) 1 0
order_once g sets layer flow q l =
    (upto_once g layer (depth_of g layer)).once q l
    ∙ ap (λ (b : Bool). cond b 1 0) (upto_all g sets layer flow q l)

pub order_falls : (g : OpenGraph) (sets : ℕ → Bits) (layer : ℕ → ℕ) → IsFlow g sets layer →
    IsFallingOrder g layer (measuring_order g layer (depth_of g layer))
order_falls g sets layer flow =
    let order : List ℕ = measuring_order g layer (depth_of g layer) in
    let in_order = measured_in_order g layer (depth_of g layer) in
    record {
      each_once = record {
        below = (upto_once g layer (depth_of g layer)).below;
        once = order_once g sets layer flow;
      };
      falling = λ before behind i j e.
          falls_at g layer before behind i j (subst (IsOrder g layer) e in_order);
    }
