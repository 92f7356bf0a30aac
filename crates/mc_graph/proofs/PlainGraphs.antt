-- Where no signal has the constant, graphs have the base angles and no fixed corrections.
use Rattle.std.proofs.Common.{◌≡◌, ℕ, zero, suc, ◌+◌, ◌*◌, ◌%◌, ◌<◌, ◌≤◌, Bool, true, false, cond}
use Rattle.std.proofs.Common.{◌||◌, map, length, replicate, List, [], ◌∷◌, ◌++◌, Some, None, refl}
use Rattle.std.proofs.Common.{◌∙◌, ap, ap₂, arith}
use Rattle.std.specs.Prelude.{Option, nat_eq, option_map, flat_map}
use Rattle.std.specs.List.{list_any}
use Rattle.std.proofs.Math.Nat.{mod-eq_of_lt}
use Rattle.std.proofs.lemmas.Bool.{cases_Bool, or_parts}
use Rattle.std.proofs.lemmas.List.Folds.{list_any-append}
use mathlib.Core.Path.{fun_ext}
use mathlib.Core.Logic.{inl, inr}
use Rattle.mc_model.specs.Bits.{◌⊻◌}
use Rattle.mc_model.specs.Numbers.{numbers_from, pairs_below}
use Rattle.mc_model.specs.Signals.{Signal, one_signal}
use Rattle.mc_model.specs.Pattern.{Command, Prep, Ent, Meas, FixX, FixZ, has_constant}
use Rattle.mc_model.specs.Phase.{measured_angle}
use Rattle.mc_model.specs.Valid.{measured}
use Rattle.mc_model.specs.StandardForm.{where_same, sum_over_places, x_part, x_sum, first_part}
use Rattle.mc_model.specs.StandardForm.{second_part, first_sum, second_sum, is_edge}
use Rattle.mc_model.specs.Graph.{OpenGraph, size, Fixed, not_fixed, fixed_at, edge, angle_in}
use Rattle.mc_model.specs.Graph.{constants_at, turned_angle, graph_of, where_fixed, corrections_at}
use Rattle.mc_model.specs.Graph.{fixed_corrections}
use Rattle.mc_graph.specs.Laws.{GraphsWithoutConstants}
use Rattle.mc_graph.proofs.PatternGraphs.{fixed_of_vertex}

-- ---- the closed sums have no constant

where_plain : (q r : ℕ) (s : Signal) → s.constant ≡ false → (where_same q r s).constant ≡ false
where_plain q r s e = elim (cases_Bool (nat_eq q r)) [ inl f ↦ rw f e | inr f ↦ rw f refl ]

sum_plain : (part : List Command → Command → Signal) →
    ((before : List Command) (c : Command) → list_any has_constant before ≡ false →
    has_constant c ≡ false → (part before c).constant ≡ false) →
    (before cs : List Command) → list_any has_constant before ≡ false →
    list_any has_constant cs ≡ false → (sum_over_places part before cs).constant ≡ false
unfolding sum_over_places
sum_plain part h before [] before_none none = refl
sum_plain part h before (c ∷ cs) before_none none =
    let parts = or_parts (has_constant c) (list_any has_constant cs) none in
    ap₂ (λ (a b : Bool). a ⊻ b) (h before c before_none parts.0)
    (sum_plain part h (before ++ (c ∷ [])) cs
    (list_any-append has_constant before (c ∷ [])
    ∙ ap₂ (λ (a b : Bool). a || (b || false)) before_none parts.0)
    parts.1)

x_plain : (q : ℕ) (before : List Command) (c : Command) → list_any has_constant before ≡ false →
    has_constant c ≡ false → (x_part q before c).constant ≡ false
unfolding x_part
x_plain q before (Prep r) n e = refl
x_plain q before (Ent r u) n e = refl
x_plain q before (Meas r a s t) n e = refl
x_plain q before (FixX r s) n e = where_plain q r s e
x_plain q before (FixZ r s) n e = refl

first_plain : (q : ℕ) (before : List Command) (c : Command) →
    list_any has_constant before ≡ false → has_constant c ≡ false →
    (first_part q before c).constant ≡ false
unfolding first_part
first_plain q before (Prep r) n e = refl
first_plain q before (Ent r u) n e = refl
first_plain q before (Meas r a s t) n e =
    where_plain q r s (or_parts s.constant t.constant e).0
first_plain q before (FixX r s) n e = where_plain q r s e
first_plain q before (FixZ r s) n e = refl

second_plain : (q : ℕ) (before : List Command) (c : Command) →
    list_any has_constant before ≡ false → has_constant c ≡ false →
    (second_part q before c).constant ≡ false
unfolding second_part x_sum
second_plain q before (Prep r) n e = refl
second_plain q before (Ent r u) n e =
    ap₂ (λ (a b : Bool). a ⊻ b)
    (where_plain q r (sum_over_places (x_part u) [] before)
    (sum_plain (x_part u) (x_plain u) [] before refl n))
    (where_plain q u (sum_over_places (x_part r) [] before)
    (sum_plain (x_part r) (x_plain r) [] before refl n))
second_plain q before (Meas r a s t) n e =
    where_plain q r t (or_parts s.constant t.constant e).1
second_plain q before (FixX r s) n e = refl
second_plain q before (FixZ r s) n e = where_plain q r s e

no_constants : (cs : List Command) (q : ℕ) → list_any has_constant cs ≡ false →
    constants_at cs q ≡ not_fixed
unfolding first_sum second_sum
no_constants cs q none =
    ap₂ (λ (x z : Bool). record { x = x; z = z })
    (sum_plain (first_part q) (first_plain q) [] cs refl none)
    (sum_plain (second_part q) (second_plain q) [] cs refl none)

-- ---- graphs

plain_angle : (half : ℕ) (cs : List Command) (q : ℕ) → list_any has_constant cs ≡ false →
    (o : Option ℕ) → ((a : ℕ) → o ≡ Some a → a < 2 * half) →
    option_map (turned_angle half cs q) o ≡ o
plain_angle half cs q none None low = refl
plain_angle half cs q none (Some a) low =
    let e : a + 0 ≡ a = omega arith in
    ap Some (ap (λ (c : Fixed). measured_angle half a c.x c.z % (2 * half)) (no_constants cs q none)
    ∙ ap (λ (b : ℕ). b % (2 * half)) e
    ∙ mod-eq_of_lt (low a refl))

listed_same : {A : Type 0} (a : A) (k n : ℕ) → map (λ q. a) (numbers_from k n) ≡ replicate n a
listed_same a k zero = refl
listed_same a k (suc n) = ap (λ (xs : List _). a ∷ xs) (listed_same a (suc k) n)

either_off : (b : Bool) (c : Fixed) → c ≡ not_fixed → cond b not_fixed c ≡ not_fixed
either_off true c e = refl
either_off false c e = e

none_fixed : (g : OpenGraph) (k n : ℕ) → k + n ≤ size g →
    ((v : ℕ) → v < size g → fixed_at g v ≡ not_fixed) →
    flat_map (corrections_at g) (numbers_from k n) ≡ []
none_fixed g k zero l off = refl
none_fixed g k (suc n) l off =
    ap₂ (λ (c : Fixed) (ds : List Command).
    where_fixed c (FixX k one_signal ∷ []) (FixZ k one_signal ∷ []) ++ ds)
    (off k (omega arith)) (none_fixed g (suc k) n (omega arith) off)

pub without_constants : GraphsWithoutConstants
unfolding graph_of fixed_corrections
without_constants half p none =
    let cs : List Command = p.commands in
    let n : ℕ = length p.names in
    let whole : 0 + n ≤ n = omega arith in
    let off : (λ q. cond (measured cs q) not_fixed (constants_at cs q)) ≡ (λ q. not_fixed) =
    fun_ext λ q. either_off (measured cs q) (constants_at cs q) (no_constants cs q none) in
    record {
      plain = λ low.
          ap₂ (λ (h : ℕ → Option ℕ) (fs : List Fixed). record {
            names = p.names;
            inputs = p.inputs;
            outputs = p.outputs;
            edges = pairs_below edge (is_edge cs) n n;
            angles = map h (numbers_from 0 n);
            fixed = fs;
          })
          (fun_ext λ q. plain_angle half cs q none (angle_in cs q) (low q))
          (ap (λ (h : ℕ → Fixed). map h (numbers_from 0 n)) off ∙ listed_same not_fixed 0 n);
      uncorrected =
          none_fixed (graph_of half p) 0 n whole (λ v l.
          fixed_of_vertex half p v l
          ∙ either_off (measured cs v) (constants_at cs v) (no_constants cs v none));
    }
