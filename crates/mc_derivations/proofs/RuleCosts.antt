-- What each rule does to the sums over pairs of commands.
use Rattle.std.proofs.Common.{◌≡◌, ◌⊎◌, ℕ, ◌+◌, ◌<◌, ◌≤◌, Bool, true, false, cond, ◌||◌, List, []}
use Rattle.std.proofs.Common.{◌∷◌, length, refl, sym, ap, ap₂, arith}
use Rattle.std.specs.Prelude.{nat_eq, nat_lt}
use Rattle.std.proofs.lemmas.Bool.{eq-eqb, ne_eqb, lt-ltb, le-ltb, ltb-true, false≢true, cases_Bool}
use mathlib.Core.Logic.{inl, inr}
use Rattle.mc_model.specs.Signals.{Signal, no_signal, signal_sum}
use Rattle.mc_model.specs.Pattern.{Command, Prep, Ent, Meas, FixX, FixZ}
use Rattle.mc_model.specs.Alike.{Disjoint}
use Rattle.mc_model.specs.Derivation.{Rule, XE, ZE, XM, ZM, Swap, Join, EE, Cancel, XZ, Turn}
use Rattle.mc_model.specs.Derivation.{DropEmpty, Rewrites, x_first, x_second, z_first, z_second}
use Rattle.mc_model.specs.Derivation.{x_measured, z_measured, swapped, x_joined, z_joined}
use Rattle.mc_model.specs.Derivation.{edges_exchanged, same_cancelled, turned_cancelled, x_behind_z}
use Rattle.mc_model.specs.Derivation.{z_behind_x, turned, x_dropped, z_dropped, part, one_if}
use Rattle.mc_model.specs.Derivation.{is_wrong, turned_edges, pair_before, wrong_pairs}
use Rattle.mc_model.specs.Derivation.{count_wrong}
use Rattle.mc_model.proofs.WrongPairs.{wrong_one_way, wrong_stays}
use Rattle.mc_derivations.specs.Useful.{IsUseful}
use Rattle.mc_derivations.specs.Effort.{meets, cost, sum_from, pair_sum}
use Rattle.mc_derivations.proofs.PairSums.{sum_to, Lightens}

one_if_most : (b : Bool) → one_if b ≤ 1
one_if_most true = omega arith
one_if_most false = omega arith

at_most_all : (all : Bool) (n : ℕ) → n ≤ 1 → cond all n 0 + 0 ≤ one_if all
at_most_all true n h = omega arith
at_most_all false n h = omega arith

-- ---- one command beside another

-- a `Z` meets nothing
z_behind : (all : Bool) (most : ℕ) (e : Command) (j : ℕ) (s : Signal) →
    cost all most e (FixZ j s) ≤ one_if all
z_behind all most (Prep q) j s = at_most_all all 0 (omega arith)
z_behind all most (Ent q r) j s = at_most_all all 0 (omega arith)
z_behind all most (Meas q a u v) j s = at_most_all all 0 (omega arith)
z_behind all most (FixX q u) j s =
    at_most_all all (one_if (pair_before j 1 q 0) + 0)
    (let h = one_if_most (pair_before j 1 q 0) in omega arith)
z_behind all most (FixZ q u) j s =
    at_most_all all (one_if (pair_before j 1 q 1) + 0)
    (let h = one_if_most (pair_before j 1 q 1) in omega arith)

z_before : (all : Bool) (most j : ℕ) (s : Signal) (e : Command) →
    cost all most (FixZ j s) e ≤ one_if all
z_before all most j s (Prep q) = at_most_all all 1 (omega arith)
z_before all most j s (Ent q r) = at_most_all all 1 (omega arith)
z_before all most j s (Meas q a u v) = at_most_all all 1 (omega arith)
z_before all most j s (FixX q u) =
    at_most_all all (one_if (pair_before q 0 j 1) + 0)
    (let h = one_if_most (pair_before q 0 j 1) in omega arith)
z_before all most j s (FixZ q u) =
    at_most_all all (one_if (pair_before q 1 j 1) + 0)
    (let h = one_if_most (pair_before q 1 j 1) in omega arith)

-- the signals do not matter
x_behind : (all : Bool) (most : ℕ) (e : Command) (i : ℕ) (s t : Signal) →
    cost all most e (FixX i s) ≡ cost all most e (FixX i t)
x_behind all most (Prep q) i s t = refl
x_behind all most (Ent q r) i s t = refl
x_behind all most (Meas q a u v) i s t = refl
x_behind all most (FixX q u) i s t = refl
x_behind all most (FixZ q u) i s t = refl

x_before : (all : Bool) (most i : ℕ) (s t : Signal) (e : Command) →
    cost all most (FixX i s) e ≡ cost all most (FixX i t) e
x_before all most i s t (Prep q) = refl
x_before all most i s t (Ent q r) = refl
x_before all most i s t (Meas q a u v) = refl
x_before all most i s t (FixX q u) = refl
x_before all most i s t (FixZ q u) = refl

z_behind_same : (all : Bool) (most : ℕ) (e : Command) (i : ℕ) (s t : Signal) →
    cost all most e (FixZ i s) ≡ cost all most e (FixZ i t)
z_behind_same all most (Prep q) i s t = refl
z_behind_same all most (Ent q r) i s t = refl
z_behind_same all most (Meas q a u v) i s t = refl
z_behind_same all most (FixX q u) i s t = refl
z_behind_same all most (FixZ q u) i s t = refl

z_before_same : (all : Bool) (most i : ℕ) (s t : Signal) (e : Command) →
    cost all most (FixZ i s) e ≡ cost all most (FixZ i t) e
z_before_same all most i s t (Prep q) = refl
z_before_same all most i s t (Ent q r) = refl
z_before_same all most i s t (Meas q a u v) = refl
z_before_same all most i s t (FixX q u) = refl
z_before_same all most i s t (FixZ q u) = refl

m_behind : (all : Bool) (most : ℕ) (e : Command) (i a : ℕ) (s t u v : Signal) →
    cost all most e (Meas i a s t) ≡ cost all most e (Meas i a u v)
m_behind all most (Prep q) i a s t u v = refl
m_behind all most (Ent q r) i a s t u v = refl
m_behind all most (Meas q b x y) i a s t u v = refl
m_behind all most (FixX q x) i a s t u v = refl
m_behind all most (FixZ q x) i a s t u v = refl

m_before : (all : Bool) (most i a : ℕ) (s t u v : Signal) (e : Command) →
    cost all most (Meas i a s t) e ≡ cost all most (Meas i a u v) e
m_before all most i a s t u v (Prep q) = refl
m_before all most i a s t u v (Ent q r) = refl
m_before all most i a s t u v (Meas q b x y) = refl
m_before all most i a s t u v (FixX q x) = refl
m_before all most i a s t u v (FixZ q x) = refl

-- nor does the order of the operands of an entangling
or_turned : (a b : Bool) → a || b ≡ b || a
or_turned a b = grind arith

meets_turned : (e : Command) (i j : ℕ) → meets e (Ent i j) ≡ meets e (Ent j i)
meets_turned (Prep q) i j = refl
meets_turned (Ent q r) i j = refl
meets_turned (Meas q a s t) i j = refl
meets_turned (FixX q s) i j = or_turned (nat_eq q i) (nat_eq q j)
meets_turned (FixZ q s) i j = refl

wrong_turned : (e : Command) (i j : ℕ) →
    one_if (is_wrong e (Ent i j)) ≡ one_if (is_wrong e (Ent j i))
unfolding wrong_pairs count_wrong
wrong_turned e i j = let h = wrong_stays i j (e ∷ []) [] in omega arith

turned_wrong : (e : Command) (i j : ℕ) →
    one_if (is_wrong (Ent i j) e) ≡ one_if (is_wrong (Ent j i) e)
unfolding wrong_pairs count_wrong
turned_wrong e i j = let h = wrong_stays i j [] (e ∷ []) in omega arith

e_behind : (all : Bool) (most : ℕ) (e : Command) (i j : ℕ) →
    cost all most e (Ent i j) ≡ cost all most e (Ent j i)
e_behind all most e i j =
    ap₂ (λ (n : ℕ) (m : Bool). cond all (n + one_if (nat_lt 1 (part e))) 0 + cond m most 0)
    (wrong_turned e i j) (meets_turned e i j)

e_before : (all : Bool) (most i j : ℕ) (e : Command) →
    cost all most (Ent i j) e ≡ cost all most (Ent j i) e
e_before all most i j e =
    ap (λ (n : ℕ). cond all (n + one_if (nat_lt (part e) 1)) 0 + 0)
    (turned_wrong e i j)

-- ---- the commands of a rule beside another

-- whether the rule adds a command, where all uses count
abbrev pub adds : Bool → Rule → Bool
adds all XE = all
adds all rule = false

pub exchange_lightens : (f : Command → Command → ℕ) (c d : Command) →
    Lightens f false (c ∷ d ∷ []) (d ∷ c ∷ [])
unfolding sum_from sum_to
exchange_lightens f c d = record { behind = λ e. omega arith; before = λ e. omega arith }

loss_lightens : (f : Command → Command → ℕ) (old : List Command) → Lightens f false old []
unfolding sum_from sum_to
loss_lightens f old = record { behind = λ e. omega arith; before = λ e. omega arith }

-- a new correction behind an exchange
added_lightens : (all : Bool) (most : ℕ) (c d : Command) (j : ℕ) (s : Signal) →
    Lightens (cost all most) all (c ∷ d ∷ []) (d ∷ c ∷ FixZ j s ∷ [])
unfolding sum_from sum_to
added_lightens all most c d j s = record {
  behind = λ e. let h = z_behind all most e j s in omega arith;
  before = λ e. let h = z_before all most j s e in omega arith;
}

-- a command becomes one of its kind, or two become one like the second
like_lightens : (f : Command → Command → ℕ) (c x : Command) →
    ((e : Command) → f e x ≡ f e c) → ((e : Command) → f x e ≡ f c e) →
    Lightens f false (c ∷ []) (x ∷ [])
unfolding sum_from sum_to
like_lightens f c x h k = record {
  behind = λ e. let a = h e in omega arith;
  before = λ e. let a = k e in omega arith;
}

merged_lightens : (f : Command → Command → ℕ) (c d x : Command) →
    ((e : Command) → f e x ≡ f e d) → ((e : Command) → f x e ≡ f d e) →
    Lightens f false (c ∷ d ∷ []) (x ∷ [])
unfolding sum_from sum_to
merged_lightens f c d x h k = record {
  behind = λ e. let a = h e in omega arith;
  before = λ e. let a = k e in omega arith;
}

pub rule_lightens : (all : Bool) (most : ℕ) (rule : Rule) (old new : List Command) →
    Rewrites rule old new → Lightens (cost all most) (adds all rule) old new
rule_lightens all most XE _ _ (x_first {i} {j} {s}) =
    added_lightens all most (FixX i s) (Ent i j) j s
rule_lightens all most XE _ _ (x_second {i} {j} {s}) =
    added_lightens all most (FixX i s) (Ent j i) j s
rule_lightens all most ZE _ _ (z_first {i} {j} {s}) =
    exchange_lightens (cost all most) (FixZ i s) (Ent i j)
rule_lightens all most ZE _ _ (z_second {i} {j} {s}) =
    exchange_lightens (cost all most) (FixZ i s) (Ent j i)
rule_lightens all most XM _ _ (x_measured {i} {a} {r} {s} {t}) =
    merged_lightens (cost all most) (FixX i r) (Meas i a s t) (Meas i a (signal_sum s r) t)
    (λ e. m_behind all most e i a (signal_sum s r) t s t)
    (λ e. m_before all most i a (signal_sum s r) t s t e)
rule_lightens all most ZM _ _ (z_measured {i} {a} {r} {s} {t}) =
    merged_lightens (cost all most) (FixZ i r) (Meas i a s t) (Meas i a s (signal_sum t r))
    (λ e. m_behind all most e i a s (signal_sum t r) s t)
    (λ e. m_before all most i a s (signal_sum t r) s t e)
rule_lightens all most Swap _ _ (swapped {c} {d} apart unused) =
    exchange_lightens (cost all most) c d
rule_lightens all most Join _ _ (x_joined {i} {s} {t}) =
    merged_lightens (cost all most) (FixX i s) (FixX i t) (FixX i (signal_sum s t))
    (λ e. x_behind all most e i (signal_sum s t) t)
    (λ e. x_before all most i (signal_sum s t) t e)
rule_lightens all most Join _ _ (z_joined {i} {s} {t}) =
    merged_lightens (cost all most) (FixZ i s) (FixZ i t) (FixZ i (signal_sum s t))
    (λ e. z_behind_same all most e i (signal_sum s t) t)
    (λ e. z_before_same all most i (signal_sum s t) t e)
rule_lightens all most EE _ _ (edges_exchanged {i} {j} {q} {r}) =
    exchange_lightens (cost all most) (Ent i j) (Ent q r)
rule_lightens all most Cancel _ _ (same_cancelled {i} {j}) =
    loss_lightens (cost all most) (Ent i j ∷ Ent i j ∷ [])
rule_lightens all most Cancel _ _ (turned_cancelled {i} {j}) =
    loss_lightens (cost all most) (Ent i j ∷ Ent j i ∷ [])
rule_lightens all most XZ _ _ (x_behind_z {i} {s} {t}) =
    exchange_lightens (cost all most) (FixX i s) (FixZ i t)
rule_lightens all most XZ _ _ (z_behind_x {i} {s} {t}) =
    exchange_lightens (cost all most) (FixZ i s) (FixX i t)
rule_lightens all most Turn _ _ (turned {i} {j}) =
    like_lightens (cost all most) (Ent i j) (Ent j i)
    (λ e. e_behind all most e j i) (λ e. e_before all most j i e)
rule_lightens all most DropEmpty _ _ (x_dropped {i}) =
    loss_lightens (cost all most) (FixX i no_signal ∷ [])
rule_lightens all most DropEmpty _ _ (z_dropped {i}) =
    loss_lightens (cost all most) (FixZ i no_signal ∷ [])

-- ---- the commands of a rule among themselves

-- an `X` and an entangling of its qubit
x_meets_first : (all : Bool) (most i j : ℕ) (s : Signal) →
    cost all most (FixX i s) (Ent i j) ≡ one_if all + most
x_meets_first all most i j s = rw (eq-eqb i i refl) (here all most)
  where
    here : (all : Bool) (most : ℕ) → cond all (0 + 1) 0 + most ≡ one_if all + most
    here true most = omega arith
    here false most = omega arith

x_meets_second : (all : Bool) (most i j : ℕ) (s : Signal) →
    cost all most (FixX i s) (Ent j i) ≡ one_if all + most
x_meets_second all most i j s =
    let e = e_behind all most (FixX i s) j i in
    let h = x_meets_first all most i j s in omega arith

-- what the commands of the rule are worth by themselves
abbrev pub worth : Bool → ℕ → List Command → ℕ
worth all most cs = length cs + pair_sum (cost all most) cs

-- an `X` that is disjoint from an entangling does not meet it
apart_meets : (c d : Command) → Disjoint c d → meets d c ≡ false
apart_meets (Prep q) (FixX i s) h = refl
apart_meets (Ent q r) (FixX i s) h =
    ap₂ (λ (a b : Bool). a || b) (ne_eqb i q (λ e. h.0 (sym e))) (ne_eqb i r (λ e. h.1 (sym e)))
apart_meets (Meas q a s t) (FixX i u) h = refl
apart_meets (FixX q s) (FixX i u) h = refl
apart_meets (FixZ q s) (FixX i u) h = refl
apart_meets c (Prep i) h = refl
apart_meets c (Ent i j) h = refl
apart_meets c (Meas i a s t) h = refl
apart_meets c (FixZ i s) h = refl

pub rule_room : (rule : Rule) (old new : List Command) → Rewrites rule old new →
    worth false 1 new ≤ worth false 1 old
unfolding pair_sum sum_from
rule_room XE _ _ (x_first {i} {j} {s}) =
    let h = x_meets_first false 1 i j s in omega arith
rule_room XE _ _ (x_second {i} {j} {s}) =
    let h = x_meets_second false 1 i j s in omega arith
rule_room ZE _ _ (z_first {i} {j} {s}) = omega arith
rule_room ZE _ _ (z_second {i} {j} {s}) = omega arith
rule_room XM _ _ (x_measured {i} {a} {r} {s} {t}) = omega arith
rule_room ZM _ _ (z_measured {i} {a} {r} {s} {t}) = omega arith
rule_room Swap _ _ (swapped {c} {d} apart unused) =
    let h : cost false 1 d c ≡ 0 =
    ap (λ (b : Bool). 0 + cond b 1 0) (apart_meets c d apart) in omega arith
rule_room Join _ _ (x_joined {i} {s} {t}) = omega arith
rule_room Join _ _ (z_joined {i} {s} {t}) = omega arith
rule_room EE _ _ (edges_exchanged {i} {j} {q} {r}) = omega arith
rule_room Cancel _ _ (same_cancelled {i} {j}) = omega arith
rule_room Cancel _ _ (turned_cancelled {i} {j}) = omega arith
rule_room XZ _ _ (x_behind_z {i} {s} {t}) = omega arith
rule_room XZ _ _ (z_behind_x {i} {s} {t}) = omega arith
rule_room Turn _ _ (turned {i} {j}) = omega arith
rule_room DropEmpty _ _ (x_dropped {i}) = omega arith
rule_room DropEmpty _ _ (z_dropped {i}) = omega arith

meets_part : (c d : Command) → meets c d ≡ true → part d < part c
meets_part (FixX i s) (Ent q r) h = omega arith
meets_part c d h = absurd (false≢true h)

pub wrong_part : (c d : Command) → is_wrong c d ≡ true → part c ≡ part d
wrong_part (Ent i j) (Ent q r) h = refl
wrong_part (FixX q s) (FixX r t) h = refl
wrong_part (FixX q s) (FixZ r t) h = refl
wrong_part (FixZ q s) (FixX r t) h = refl
wrong_part (FixZ q s) (FixZ r t) h = refl
wrong_part c d h = absurd (false≢true h)

-- a pair in the right order costs nothing
pub right_free : (all : Bool) (most : ℕ) (c d : Command) → is_wrong c d ≡ false →
    part c ≤ part d → cost all most c d ≡ 0
right_free all most c d w h = elim (cases_Bool (meets c d)) [
  | inl m ↦ let g = meets_part c d m in absurd (omega arith)
  | inr m ↦ nothing all (is_wrong c d) (nat_lt (part d) (part c)) (meets c d) w
      (le-ltb (part d) (part c) h) m
]
  where
    nothing : (all a b m : Bool) → a ≡ false → b ≡ false → m ≡ false →
        cond all (one_if a + one_if b) 0 + cond m most 0 ≡ 0
    nothing true false false false x y z = refl
    nothing false false false false x y z = refl
    nothing all true b m x y z = absurd (false≢true (sym x))
    nothing all false true m x y z = absurd (false≢true (sym y))
    nothing all false false true x y z = absurd (false≢true (sym z))

-- a pair that is to be exchanged costs something, and nothing in the other order
exchange_cost : (most : ℕ) (c d : Command) → (part d < part c) ⊎ (is_wrong c d ≡ true) →
    cost true most d c < cost true most c d
exchange_cost most c d (inl h) =
    let free = right_free true most d c (elim (cases_Bool (is_wrong d c)) [
      | inl w ↦ let e = wrong_part d c w in absurd (omega arith)
      | inr w ↦ w
    ]) (omega arith) in
    let some : 1 ≤ cost true most c d =
    rw (lt-ltb (part d) (part c) h) (omega arith) in omega arith
exchange_cost most c d (inr w) =
    let same = wrong_part c d w in
    let free = right_free true most d c (wrong_one_way c d w) (omega arith) in
    let some : 1 ≤ cost true most c d = rw (w) (omega arith) in omega arith

-- useful commands are worth less behind the use, even where each of the `n` commands beside them
-- costs one more
pub rule_effort : (most n : ℕ) (rule : Rule) (old new : List Command) → Rewrites rule old new →
    IsUseful old new → n + length old ≤ most →
    worth true most new + turned_edges new + cond (adds true rule) n 0
    < worth true most old + turned_edges old
unfolding pair_sum sum_from turned_edges
rule_effort most n XE _ _ (x_first {i} {j} {s}) u h =
    let a = x_meets_first true most i j s in
    let b = z_behind true most (FixX i s) j s in omega arith
rule_effort most n XE _ _ (x_second {i} {j} {s}) u h =
    let a = x_meets_second true most i j s in
    let b = z_behind true most (FixX i s) j s in omega arith
rule_effort most n ZE _ _ (z_first {i} {j} {s}) u h = omega arith
rule_effort most n ZE _ _ (z_second {i} {j} {s}) u h = omega arith
rule_effort most n XM _ _ (x_measured {i} {a} {r} {s} {t}) u h = omega arith
rule_effort most n ZM _ _ (z_measured {i} {a} {r} {s} {t}) u h = omega arith
rule_effort most n Swap _ _ (swapped {c} {d} apart unused) u h =
    let a = exchange_cost most c d u in omega arith
rule_effort most n Join _ _ (x_joined {i} {s} {t}) u h = omega arith
rule_effort most n Join _ _ (z_joined {i} {s} {t}) u h = omega arith
rule_effort most n EE _ _ (edges_exchanged {i} {j} {q} {r}) u h =
    let a = exchange_cost most (Ent i j) (Ent q r) u in omega arith
rule_effort most n Cancel _ _ (same_cancelled {i} {j}) u h = omega arith
rule_effort most n Cancel _ _ (turned_cancelled {i} {j}) u h = omega arith
rule_effort most n XZ _ _ (x_behind_z {i} {s} {t}) u h =
    let a = exchange_cost most (FixX i s) (FixZ i t) u in omega arith
rule_effort most n XZ _ _ (z_behind_x {i} {s} {t}) u h =
    let a = exchange_cost most (FixZ i s) (FixX i t) u in omega arith
rule_effort most n Turn _ _ (turned {i} {j}) u h =
    let less = ltb-true j i u in
    let a : one_if (nat_lt j i) ≡ 1 = ap one_if u in
    let b : one_if (nat_lt i j) ≡ 0 = ap one_if (le-ltb i j (omega arith)) in omega arith
rule_effort most n DropEmpty _ _ (x_dropped {i}) u h = omega arith
rule_effort most n DropEmpty _ _ (z_dropped {i}) u h = omega arith
