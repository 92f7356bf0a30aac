-- A settled valid list is its own standard form.
use Rattle.std.proofs.Common.{◌≡◌, ℕ, zero, suc, ◌+◌, ◌<◌, ◌≤◌, Bool, true, false, cond, ◌&&◌, List}
use Rattle.std.proofs.Common.{[], ◌∷◌, ◌++◌, refl, sym, ◌∙◌, ap, ap₂, arith}
use Rattle.std.specs.Prelude.{nat_eq, nat_lt, ⊤}
use Rattle.std.proofs.lemmas.Bool.{cases_eq, cases_order, cases_Bool, lt-ltb, le-ltb, ltb-true}
use Rattle.std.proofs.lemmas.Bool.{eqb-true, eq-eqb, ne_eqb, and_parts, or_cases, or_parts}
use Rattle.std.proofs.lemmas.Bool.{false≢true}
use mathlib.Core.Logic.{inl, inr}
use mathlib.Core.Path.{subst}
use Rattle.mc_model.specs.Bits.{◌⊻◌, Bits, parity}
use Rattle.mc_model.specs.Signals.{Signal, no_signal, signal_sum, value, IsRising, Signals}
use Rattle.mc_model.specs.Signals.{is_empty}
use Rattle.mc_model.specs.Pattern.{Command, Prep, Ent, Meas, FixX, FixZ}
use Rattle.mc_model.proofs.SignalLemmas.{reset, value-sum, toggled_all_rising}
use Rattle.mc_rules.specs.OnePass.{joined, handed}
use Rattle.mc_rules.proofs.Stripped.{stripped}
use Rattle.mc_model.specs.Valid.{prepared, measured, IsValid}
use Rattle.mc_model.specs.StandardForm.{is_edge, fix_x, fix_z, corrections_below, measurements_with}
use Rattle.mc_model.specs.StandardForm.{preparations_of, first_sum, second_sum, standard_commands}
use Rattle.mc_model.specs.Numbers.{pairs_below}
use Rattle.mc_model.specs.Derivation.{part, pair_before, lower, higher}
use Rattle.mc_model.proofs.BitLemmas.{xor_false}
use Rattle.mc_model.proofs.ValidInPlace.{AllMiss, InPlace, valid_in_place}
use Rattle.mc_model.proofs.SignalValues.{same_signals}
use Rattle.mc_rules.proofs.PlaceSums.{total, first_bit, second_bit, x_bit, onward, second_total}
use Rattle.mc_rules.proofs.PlaceSums.{value-first_sum, value-second_sum}
use Rattle.mc_rules.proofs.RunningSums.{measurements_of, first_rising, second_rising}
use Rattle.mc_rules.proofs.StandardAlike.{measured_form}
use Rattle.mc_rules.proofs.RulesKeepForm.{onward_none}
use Rattle.mc_rules.specs.Settled.{Follows, IsSettled}
use Rattle.mc_rules.proofs.SettledEdges.{edges_where, IsAfter, AllAfter, EdgesRise, settled_edges}

-- the parts of the list are at least `k`
abbrev pub AtLeast : ℕ → List Command → Type 0
AtLeast k [] = ⊤
AtLeast k (c ∷ cs) = (k ≤ part c) × AtLeast k cs

follows_part : (c d : Command) → Follows c d → part c ≤ part d
follows_part (Ent i j) (Prep q) f = absurd f
follows_part (Meas i a s t) (Prep q) f = absurd f
follows_part (Meas i a s t) (Ent q r) f = absurd f
follows_part (FixX i s) (Prep q) f = absurd f
follows_part (FixX i s) (Ent q r) f = absurd f
follows_part (FixX i s) (Meas q b u v) f = absurd f
follows_part (FixZ i s) (Prep q) f = absurd f
follows_part (FixZ i s) (Ent q r) f = absurd f
follows_part (FixZ i s) (Meas q b u v) f = absurd f
follows_part c d f = omega arith

least_weaker : (k l : ℕ) (cs : List Command) → k ≤ l → AtLeast l cs → AtLeast k cs
least_weaker k l [] h a = tt
least_weaker k l (c ∷ cs) h a = (let b = a.0 in omega arith, least_weaker k l cs h a.1)

settled_least : (c : Command) (cs : List Command) → IsSettled (c ∷ cs) → AtLeast (part c) cs
settled_least c [] s = tt
settled_least c (d ∷ ds) s =
    let h = follows_part c d s.1 in
    (h, least_weaker (part c) (part d) ds h (settled_least d ds s.2))

-- entanglings
least_after : (i j : ℕ) (cs : List Command) → AtLeast 2 cs → AllAfter i j cs
least_after i j [] a = tt
least_after i j (Prep q ∷ cs) a = let h = a.0 in absurd (omega arith)
least_after i j (Ent q r ∷ cs) a = let h = a.0 in absurd (omega arith)
least_after i j (Meas q b s t ∷ cs) a = least_after i j cs a.1
least_after i j (FixX q s ∷ cs) a = least_after i j cs a.1
least_after i j (FixZ q s ∷ cs) a = least_after i j cs a.1

after_trans : (a b q r i j : ℕ) → IsAfter a b q r → IsAfter q r i j → IsAfter a b i j
after_trans a b q r i j (inl h) (inl k) = inl (omega arith)
after_trans a b q r i j (inl h) (inr k) = inl (let e = k.0 in omega arith)
after_trans a b q r i j (inr h) (inl k) = inl (let e = h.0 in omega arith)
after_trans a b q r i j (inr h) (inr k) =
    inr (k.0 ∙ h.0, (let e = h.1 in let f = k.1 in omega arith))

after_all : (i j q r : ℕ) (cs : List Command) → IsAfter q r i j → AllAfter q r cs → AllAfter i j cs
after_all i j q r [] h a = tt
after_all i j q r (Prep k ∷ cs) h a = after_all i j q r cs h a
after_all i j q r (Ent k l ∷ cs) h a = (after_trans k l q r i j a.0 h, after_all i j q r cs h a.1)
after_all i j q r (Meas k b s t ∷ cs) h a = after_all i j q r cs h a
after_all i j q r (FixX k s ∷ cs) h a = after_all i j q r cs h a
after_all i j q r (FixZ k s ∷ cs) h a = after_all i j q r cs h a

pair_after : (a b c d : ℕ) → pair_before a b c d ≡ true → IsAfter c d a b
pair_after a b c d h = elim (or_cases (nat_lt a c) (nat_eq a c && nat_lt b d) h) [
  | inl l ↦ inl (ltb-true a c l)
  | inr m ↦ (let parts = and_parts (nat_eq a c) (nat_lt b d) m in
      inr (eqb-true a c parts.0, ltb-true b d parts.1))
]

order_pair : (i j q r : ℕ) → i < j → q < r →
    pair_before (lower i j) (higher i j) (lower q r) (higher q r) ≡ true → IsAfter q r i j
order_pair i j q r h k e =
    pair_after i j q r (sym (rw (le-ltb j i (omega arith), le-ltb r q (omega arith)) refl) ∙ e)

first_after : (i j : ℕ) (cs : List Command) → IsSettled (Ent i j ∷ cs) → EdgesRise cs →
    AllAfter i j cs
first_after i j [] s rise = tt
first_after i j (Prep q ∷ ds) s rise = absurd s.1
first_after i j (Ent q r ∷ ds) s rise =
    let h : IsAfter q r i j = order_pair i j q r s.0 s.2.0 s.1 in (h, after_all i j q r ds h rise.1)
first_after i j (Meas q a u v ∷ ds) s rise =
    least_after i j ds (settled_least (Meas q a u v) ds s.2)
first_after i j (FixX q u ∷ ds) s rise =
    least_after i j ds (least_weaker 2 3 ds (omega arith) (settled_least (FixX q u) ds s.2))
first_after i j (FixZ q u ∷ ds) s rise =
    least_after i j ds (least_weaker 2 3 ds (omega arith) (settled_least (FixZ q u) ds s.2))

edges_rise : (cs : List Command) → IsSettled cs → EdgesRise cs
edges_rise [] s = tt
edges_rise (Prep q ∷ cs) s = edges_rise cs s.2
edges_rise (Ent i j ∷ cs) s = (s.0, first_after i j cs s (edges_rise cs s.2), edges_rise cs s.2)
edges_rise (Meas q a u v ∷ cs) s = edges_rise cs s.2
edges_rise (FixX q u ∷ cs) s = edges_rise cs s.2
edges_rise (FixZ q u ∷ cs) s = edges_rise cs s.2

-- corrections
abbrev pub BehindX : ℕ → List Command → Type 0
BehindX q [] = ⊤
BehindX q (Prep r ∷ cs) = BehindX q cs
BehindX q (Ent r u ∷ cs) = BehindX q cs
BehindX q (Meas r a s t ∷ cs) = BehindX q cs
BehindX q (FixX r s ∷ cs) = (q < r) × BehindX q cs
BehindX q (FixZ r s ∷ cs) = (q ≤ r) × BehindX q cs

abbrev pub BehindZ : ℕ → List Command → Type 0
BehindZ q [] = ⊤
BehindZ q (Prep r ∷ cs) = BehindZ q cs
BehindZ q (Ent r u ∷ cs) = BehindZ q cs
BehindZ q (Meas r a s t ∷ cs) = BehindZ q cs
BehindZ q (FixX r s ∷ cs) = (q < r) × BehindZ q cs
BehindZ q (FixZ r s ∷ cs) = (q < r) × BehindZ q cs

abbrev pub FixesRise : List Command → Type 0
FixesRise [] = ⊤
FixesRise (Prep r ∷ cs) = FixesRise cs
FixesRise (Ent r u ∷ cs) = FixesRise cs
FixesRise (Meas r a s t ∷ cs) = FixesRise cs
FixesRise (FixX q s ∷ cs) = (is_empty s ≡ false) × BehindX q cs × FixesRise cs
FixesRise (FixZ q s ∷ cs) = (is_empty s ≡ false) × BehindZ q cs × FixesRise cs

x_from_x : (q r : ℕ) (cs : List Command) → q ≤ r → BehindX r cs → BehindX q cs
x_from_x q r [] h b = tt
x_from_x q r (Prep k ∷ cs) h b = x_from_x q r cs h b
x_from_x q r (Ent k l ∷ cs) h b = x_from_x q r cs h b
x_from_x q r (Meas k a s t ∷ cs) h b = x_from_x q r cs h b
x_from_x q r (FixX k s ∷ cs) h b = (let e = b.0 in omega arith, x_from_x q r cs h b.1)
x_from_x q r (FixZ k s ∷ cs) h b = (let e = b.0 in omega arith, x_from_x q r cs h b.1)

x_from_z : (q r : ℕ) (cs : List Command) → q ≤ r → BehindZ r cs → BehindX q cs
x_from_z q r [] h b = tt
x_from_z q r (Prep k ∷ cs) h b = x_from_z q r cs h b
x_from_z q r (Ent k l ∷ cs) h b = x_from_z q r cs h b
x_from_z q r (Meas k a s t ∷ cs) h b = x_from_z q r cs h b
x_from_z q r (FixX k s ∷ cs) h b = (let e = b.0 in omega arith, x_from_z q r cs h b.1)
x_from_z q r (FixZ k s ∷ cs) h b = (let e = b.0 in omega arith, x_from_z q r cs h b.1)

z_from_x : (q r : ℕ) (cs : List Command) → q < r → BehindX r cs → BehindZ q cs
z_from_x q r [] h b = tt
z_from_x q r (Prep k ∷ cs) h b = z_from_x q r cs h b
z_from_x q r (Ent k l ∷ cs) h b = z_from_x q r cs h b
z_from_x q r (Meas k a s t ∷ cs) h b = z_from_x q r cs h b
z_from_x q r (FixX k s ∷ cs) h b = (let e = b.0 in omega arith, z_from_x q r cs h b.1)
z_from_x q r (FixZ k s ∷ cs) h b = (let e = b.0 in omega arith, z_from_x q r cs h b.1)

z_from_z : (q r : ℕ) (cs : List Command) → q < r → BehindZ r cs → BehindZ q cs
z_from_z q r cs h b = z_from_x q r cs h (x_from_z r r cs (omega arith) b)

first_x : (q : ℕ) (u : Signal) (cs : List Command) → IsSettled (FixX q u ∷ cs) → FixesRise cs →
    BehindX q cs
first_x q u [] s rise = tt
first_x q u (Prep r ∷ ds) s rise = absurd s.1
first_x q u (Ent r k ∷ ds) s rise = absurd s.1
first_x q u (Meas r a v w ∷ ds) s rise = absurd s.1
first_x q u (FixX r v ∷ ds) s rise = (s.1, x_from_x q r ds (let h = s.1 in omega arith) rise.1)
first_x q u (FixZ r v ∷ ds) s rise = (s.1, x_from_z q r ds s.1 rise.1)

first_z : (q : ℕ) (u : Signal) (cs : List Command) → IsSettled (FixZ q u ∷ cs) → FixesRise cs →
    BehindZ q cs
first_z q u [] s rise = tt
first_z q u (Prep r ∷ ds) s rise = absurd s.1
first_z q u (Ent r k ∷ ds) s rise = absurd s.1
first_z q u (Meas r a v w ∷ ds) s rise = absurd s.1
first_z q u (FixX r v ∷ ds) s rise = (s.1, z_from_x q r ds s.1 rise.1)
first_z q u (FixZ r v ∷ ds) s rise = (s.1, z_from_z q r ds s.1 rise.1)

fixes_rise : (cs : List Command) → IsSettled cs → FixesRise cs
fixes_rise [] s = tt
fixes_rise (Prep q ∷ cs) s = fixes_rise cs s.2
fixes_rise (Ent i j ∷ cs) s = fixes_rise cs s.2
fixes_rise (Meas q a u v ∷ cs) s = fixes_rise cs s.2
fixes_rise (FixX q u ∷ cs) s = (s.0, first_x q u cs s (fixes_rise cs s.2), fixes_rise cs s.2)
fixes_rise (FixZ q u ∷ cs) s = (s.0, first_z q u cs s (fixes_rise cs s.2), fixes_rise cs s.2)

-- the corrections whose qubits pass the test
fixes_where : (ℕ → Bool) → List Command → List Command
fixes_where p [] = []
fixes_where p (Prep q ∷ cs) = fixes_where p cs
fixes_where p (Ent i j ∷ cs) = fixes_where p cs
fixes_where p (Meas q a s t ∷ cs) = fixes_where p cs
fixes_where p (FixX q s ∷ cs) = cond (p q) (FixX q s ∷ fixes_where p cs) (fixes_where p cs)
fixes_where p (FixZ q s ∷ cs) = cond (p q) (FixZ q s ∷ fixes_where p cs) (fixes_where p cs)

-- the signals of the first `X k` and `Z k`
x_of : ℕ → List Command → Signal
x_of k [] = no_signal
x_of k (Prep q ∷ cs) = x_of k cs
x_of k (Ent i j ∷ cs) = x_of k cs
x_of k (Meas q a s t ∷ cs) = x_of k cs
x_of k (FixX q s ∷ cs) = cond (nat_eq k q) s (x_of k cs)
x_of k (FixZ q s ∷ cs) = x_of k cs

z_of : ℕ → List Command → Signal
z_of k [] = no_signal
z_of k (Prep q ∷ cs) = z_of k cs
z_of k (Ent i j ∷ cs) = z_of k cs
z_of k (Meas q a s t ∷ cs) = z_of k cs
z_of k (FixX q s ∷ cs) = z_of k cs
z_of k (FixZ q s ∷ cs) = cond (nat_eq k q) s (z_of k cs)

x_none : (k : ℕ) (cs : List Command) → BehindX k cs → x_of k cs ≡ no_signal
unfolding x_of
x_none k [] b = refl
x_none k (Prep q ∷ cs) b = x_none k cs b
x_none k (Ent i j ∷ cs) b = x_none k cs b
x_none k (Meas q a s t ∷ cs) b = x_none k cs b
x_none k (FixX q s ∷ cs) b = let h = b.0 in
    rw (ne_eqb k q (λ e. absurd (omega arith))) (x_none k cs b.1)
x_none k (FixZ q s ∷ cs) b = x_none k cs b.1

z_none : (k : ℕ) (cs : List Command) → BehindZ k cs → z_of k cs ≡ no_signal
unfolding z_of
z_none k [] b = refl
z_none k (Prep q ∷ cs) b = z_none k cs b
z_none k (Ent i j ∷ cs) b = z_none k cs b
z_none k (Meas q a s t ∷ cs) b = z_none k cs b
z_none k (FixX q s ∷ cs) b = z_none k cs b.1
z_none k (FixZ q s ∷ cs) b = let h = b.0 in
    rw (ne_eqb k q (λ e. absurd (omega arith))) (z_none k cs b.1)

one_z : (k : ℕ) (s u : Signal) → u ≡ no_signal → is_empty s ≡ false →
    fix_x k u ++ fix_z k s ≡ FixZ k s ∷ []
one_z k s u e f = ap (λ (v : Signal). fix_x k v ++ fix_z k s) e
    ∙ ap (λ (b : Bool). cond b [] (FixZ k s ∷ [])) f

block_where : (k : ℕ) (cs : List Command) → FixesRise cs →
    fixes_where (λ q. nat_eq q k) cs ≡ fix_x k (x_of k cs) ++ fix_z k (z_of k cs)
unfolding fixes_where x_of z_of
block_where k [] rise = refl
block_where k (Prep q ∷ cs) rise = block_where k cs rise
block_where k (Ent i j ∷ cs) rise = block_where k cs rise
block_where k (Meas q a s t ∷ cs) rise = block_where k cs rise
block_where k (FixX q s ∷ cs) rise = elim (cases_eq q k) [
  | inl e ↦
      let b : BehindX k cs = subst (λ (i : ℕ). BehindX i cs) e rise.1 in
      let rest : fixes_where (λ q. nat_eq q k) cs ≡ fix_z k (z_of k cs) =
      block_where k cs rise.2
      ∙ ap (λ (u : Signal). fix_x k u ++ fix_z k (z_of k cs)) (x_none k cs b) in
      rw (eq-eqb k q (sym e), eq-eqb q k e, rise.0)
      (ap₂ (λ (i : ℕ) (xs : List Command). FixX i s ∷ xs) e rest)
  | inr ne ↦ rw (ne_eqb q k ne, ne_eqb k q (λ e. ne (sym e))) (block_where k cs rise.2)
]
block_where k (FixZ q s ∷ cs) rise = elim (cases_eq q k) [
  | inl e ↦
      let b : BehindZ k cs = subst (λ (i : ℕ). BehindZ i cs) e rise.1 in
      let no_x : x_of k cs ≡ no_signal = x_none k cs (x_from_z k k cs (omega arith) b) in
      let rest : fixes_where (λ q. nat_eq q k) cs ≡ [] =
      block_where k cs rise.2
      ∙ ap₂ (λ (u v : Signal). fix_x k u ++ fix_z k v) no_x (z_none k cs b) in
      rw (eq-eqb k q (sym e), eq-eqb q k e)
      (ap₂ (λ (i : ℕ) (xs : List Command). FixZ i s ∷ xs) e rest
      ∙ sym (one_z k s (x_of k cs) no_x rise.0))
  | inr ne ↦ rw (ne_eqb q k ne, ne_eqb k q (λ e. ne (sym e))) (block_where k cs rise.2)
]

fixes_none : (m k : ℕ) (cs : List Command) → m ≤ k → BehindX k cs →
    fixes_where (λ q. nat_lt q m) cs ≡ []
unfolding fixes_where
fixes_none m k [] h b = refl
fixes_none m k (Prep q ∷ cs) h b = fixes_none m k cs h b
fixes_none m k (Ent i j ∷ cs) h b = fixes_none m k cs h b
fixes_none m k (Meas q a s t ∷ cs) h b = fixes_none m k cs h b
fixes_none m k (FixX q s ∷ cs) h b = let g = b.0 in
    rw (le-ltb q m (omega arith)) (fixes_none m k cs h b.1)
fixes_none m k (FixZ q s ∷ cs) h b = let g = b.0 in
    rw (le-ltb q m (omega arith)) (fixes_none m k cs h b.1)

fix_head : (m q : ℕ) (c : Command) (cs : List Command) → BehindX q cs →
    fixes_where (λ k. nat_lt k (suc m)) cs
    ≡ fixes_where (λ k. nat_lt k m) cs ++ fixes_where (λ k. nat_eq k m) cs →
    cond (nat_lt q (suc m)) (c ∷ fixes_where (λ k. nat_lt k (suc m)) cs)
    (fixes_where (λ k. nat_lt k (suc m)) cs)
    ≡ cond (nat_lt q m) (c ∷ fixes_where (λ k. nat_lt k m) cs) (fixes_where (λ k. nat_lt k m) cs)
    ++ cond (nat_eq q m) (c ∷ fixes_where (λ k. nat_eq k m) cs) (fixes_where (λ k. nat_eq k m) cs)
fix_head m q c cs b rest = elim (cases_order q m) [
  | inl e ↦
      let none : fixes_where (λ k. nat_lt k m) cs ≡ [] = fixes_none m q cs (omega arith) b in
      rw (lt-ltb q (suc m) (omega arith), le-ltb q m (omega arith), eq-eqb q m e)
      (ap (λ (xs : List Command). c ∷ xs)
      (rest ∙ ap (λ (xs : List Command). xs ++ fixes_where (λ k. nat_eq k m) cs) none)
      ∙ sym (ap (λ (xs : List Command). xs ++ (c ∷ fixes_where (λ k. nat_eq k m) cs)) none))
  | inr side ↦ elim side [
    | inl l ↦ rw (
      lt-ltb q (suc m) (omega arith),
      lt-ltb q m l,
      ne_eqb q m (λ e. absurd (omega arith)),
    ) (ap (λ (xs : List Command). c ∷ xs) rest)
    | inr g ↦ rw (
      le-ltb q (suc m) (omega arith),
      le-ltb q m (omega arith),
      ne_eqb q m (λ e. absurd (omega arith)),
    ) rest
  ]
]

fixes_split : (m : ℕ) (cs : List Command) → FixesRise cs →
    fixes_where (λ k. nat_lt k (suc m)) cs
    ≡ fixes_where (λ k. nat_lt k m) cs ++ fixes_where (λ k. nat_eq k m) cs
unfolding fixes_where
fixes_split m [] rise = refl
fixes_split m (Prep q ∷ cs) rise = fixes_split m cs rise
fixes_split m (Ent i j ∷ cs) rise = fixes_split m cs rise
fixes_split m (Meas q a s t ∷ cs) rise = fixes_split m cs rise
fixes_split m (FixX q s ∷ cs) rise = fix_head m q (FixX q s) cs rise.1 (fixes_split m cs rise.2)
fixes_split m (FixZ q s ∷ cs) rise =
    fix_head m q (FixZ q s) cs (x_from_z q q cs (omega arith) rise.1) (fixes_split m cs rise.2)

-- the sums of a settled list
none_value : (o : Bits) → value no_signal o ≡ false
unfolding value parity
none_value o = refl

x_rising : (n k : ℕ) (cs : List Command) → InPlace n cs → IsRising (x_of k cs).members
unfolding x_of
x_rising n k [] p = tt
x_rising n k (Prep q ∷ cs) p = x_rising n k cs p.2
x_rising n k (Ent i j ∷ cs) p = x_rising n k cs p.2
x_rising n k (Meas q a s t ∷ cs) p = x_rising n k cs p.2
x_rising n k (FixX q s ∷ cs) p =
    elim (cases_Bool (nat_eq k q)) [ inl e ↦ rw e p.0.1 | inr e ↦ rw e (x_rising n k cs p.2) ]
x_rising n k (FixZ q s ∷ cs) p = x_rising n k cs p.2

z_rising : (n k : ℕ) (cs : List Command) → InPlace n cs → IsRising (z_of k cs).members
unfolding z_of
z_rising n k [] p = tt
z_rising n k (Prep q ∷ cs) p = z_rising n k cs p.2
z_rising n k (Ent i j ∷ cs) p = z_rising n k cs p.2
z_rising n k (Meas q a s t ∷ cs) p = z_rising n k cs p.2
z_rising n k (FixX q s ∷ cs) p = z_rising n k cs p.2
z_rising n k (FixZ q s ∷ cs) p =
    elim (cases_Bool (nat_eq k q)) [ inl e ↦ rw e p.0.1 | inr e ↦ rw e (z_rising n k cs p.2) ]

total_first : (o : Bits) (k : ℕ) (cs : List Command) → FixesRise cs → measured cs k ≡ false →
    total (first_bit o k) cs ≡ value (x_of k cs) o
unfolding total first_bit x_of measured
total_first o k [] rise m = sym (none_value o)
total_first o k (Prep q ∷ cs) rise m = total_first o k cs rise m
total_first o k (Ent i j ∷ cs) rise m = total_first o k cs rise m
total_first o k (Meas q a s t ∷ cs) rise m =
    let parts = or_parts (nat_eq k q) (measured cs k) m in
    ap (λ (b : Bool). (b && value s o) ⊻ total (first_bit o k) cs) parts.0
    ∙ total_first o k cs rise parts.1
total_first o k (FixX q s ∷ cs) rise m = elim (cases_eq k q) [
  | inl e ↦
      let b : BehindX k cs = subst (λ (i : ℕ). BehindX i cs) (sym e) rise.1 in
      let rest : total (first_bit o k) cs ≡ false = total_first o k cs rise.2 m
      ∙ ap (λ (u : Signal). value u o) (x_none k cs b) ∙ none_value o in
      rw (eq-eqb k q e, rest) (xor_false (value s o))
  | inr ne ↦ rw (ne_eqb k q ne) (total_first o k cs rise.2 m)
]
total_first o k (FixZ q s ∷ cs) rise m = total_first o k cs rise.2 m

-- where corrections alone are left
total_last : (o : Bits) (k : ℕ) (px : Bits) (cs : List Command) → FixesRise cs → AtLeast 3 cs →
    second_total o k px cs ≡ value (z_of k cs) o
unfolding second_total second_bit z_of
total_last o k px [] rise a = sym (none_value o)
total_last o k px (Prep q ∷ cs) rise a = let h = a.0 in absurd (omega arith)
total_last o k px (Ent i j ∷ cs) rise a = let h = a.0 in absurd (omega arith)
total_last o k px (Meas q b s t ∷ cs) rise a = let h = a.0 in absurd (omega arith)
total_last o k px (FixX q s ∷ cs) rise a = total_last o k (onward o px (FixX q s)) cs rise.2 a.1
total_last o k px (FixZ q s ∷ cs) rise a = elim (cases_eq k q) [
  | inl e ↦
      let b : BehindZ k cs = subst (λ (i : ℕ). BehindZ i cs) (sym e) rise.1 in
      let rest : second_total o k (onward o px (FixZ q s)) cs ≡ false =
      total_last o k (onward o px (FixZ q s)) cs rise.2 a.1
      ∙ ap (λ (u : Signal). value u o) (z_none k cs b) ∙ none_value o in
      rw (eq-eqb k q e, rest) (xor_false (value s o))
  | inr ne ↦ rw (ne_eqb k q ne) (total_last o k (onward o px (FixZ q s)) cs rise.2 a.1)
]

stays_none : (o : Bits) (c : Command) → ((k : ℕ) → x_bit o k c ≡ false) →
    onward o (λ k. false) c ≡ (λ k. false)
stays_none o c h = onward_none o (λ k. false) c h

edge_none : (a b : Bool) → (a && false) ⊻ (b && false) ≡ false
edge_none a b = grind arith

last_z : (o : Bits) (k q : ℕ) (u : Signal) (cs : List Command) → IsSettled (FixZ q u ∷ cs) →
    second_total o k (λ i. false) (FixZ q u ∷ cs) ≡ value (z_of k (FixZ q u ∷ cs)) o
last_z o k q u cs s =
    total_last o k (λ i. false) (FixZ q u ∷ cs) (fixes_rise (FixZ q u ∷ cs) s)
    (omega arith, settled_least (FixZ q u) cs s)

total_second : (o : Bits) (k : ℕ) (cs : List Command) → IsSettled cs → measured cs k ≡ false →
    second_total o k (λ i. false) cs ≡ value (z_of k cs) o
unfolding second_total second_bit z_of measured x_bit
total_second o k [] s m = sym (none_value o)
total_second o k (Prep q ∷ cs) s m =
    ap (λ (p : Bits). second_total o k p cs) (stays_none o (Prep q) (λ i. refl))
    ∙ total_second o k cs s.2 m
total_second o k (Ent i j ∷ cs) s m =
    ap (λ (b : Bool). b ⊻ second_total o k (onward o (λ i. false) (Ent i j)) cs)
    (edge_none (nat_eq k i) (nat_eq k j))
    ∙ ap (λ (p : Bits). second_total o k p cs) (stays_none o (Ent i j) (λ l. refl))
    ∙ total_second o k cs s.2 m
total_second o k (Meas q a u v ∷ cs) s m =
    let parts = or_parts (nat_eq k q) (measured cs k) m in
    ap (λ (b : Bool). (b && value v o) ⊻ second_total o k (onward o (λ i. false) (Meas q a u v)) cs)
    parts.0
    ∙ ap (λ (p : Bits). second_total o k p cs) (stays_none o (Meas q a u v) (λ l. refl))
    ∙ total_second o k cs s.2 parts.1
total_second o k (FixX q u ∷ cs) s m =
    total_last o k (onward o (λ i. false) (FixX q u)) cs (fixes_rise cs s.2)
    (settled_least (FixX q u) cs s)
total_second o k (FixZ q u ∷ cs) s m = last_z o k q u cs s

first_same : (n k : ℕ) (cs : List Command) → InPlace n cs → IsSettled cs → measured cs k ≡ false →
    first_sum cs k ≡ x_of k cs
first_same n k cs p s m =
    same_signals (first_sum cs k) (x_of k cs) (first_rising cs k) (x_rising n k cs p) (λ o.
    value-first_sum o k cs ∙ total_first o k cs (fixes_rise cs s) m)

second_same : (n k : ℕ) (cs : List Command) → InPlace n cs → IsSettled cs → measured cs k ≡ false →
    second_sum cs k ≡ z_of k cs
second_same n k cs p s m =
    same_signals (second_sum cs k) (z_of k cs) (second_rising cs k) (z_rising n k cs p) (λ o.
    value-second_sum o k cs ∙ total_second o k cs s m)

-- no correction on a measured qubit
missed_fixes : (k : ℕ) (cs : List Command) → AllMiss k cs → fixes_where (λ q. nat_eq q k) cs ≡ []
unfolding fixes_where
missed_fixes k [] m = refl
missed_fixes k (Prep q ∷ cs) m = missed_fixes k cs m.1
missed_fixes k (Ent i j ∷ cs) m = missed_fixes k cs m.1
missed_fixes k (Meas q a s t ∷ cs) m = missed_fixes k cs m.1
missed_fixes k (FixX q s ∷ cs) m = rw (ne_eqb q k (λ e. m.0 (sym e))) (missed_fixes k cs m.1)
missed_fixes k (FixZ q s ∷ cs) m = rw (ne_eqb q k (λ e. m.0 (sym e))) (missed_fixes k cs m.1)

least_unmeasured : (k : ℕ) (cs : List Command) → AtLeast 3 cs → measured cs k ≡ false
unfolding measured
least_unmeasured k [] a = refl
least_unmeasured k (Prep q ∷ cs) a = least_unmeasured k cs a.1
least_unmeasured k (Ent i j ∷ cs) a = least_unmeasured k cs a.1
least_unmeasured k (Meas q b s t ∷ cs) a = let h = a.0 in absurd (omega arith)
least_unmeasured k (FixX q s ∷ cs) a = least_unmeasured k cs a.1
least_unmeasured k (FixZ q s ∷ cs) a = least_unmeasured k cs a.1

gone_fixes : (n k : ℕ) (cs : List Command) → InPlace n cs → IsSettled cs → measured cs k ≡ true →
    fixes_where (λ q. nat_eq q k) cs ≡ []
unfolding fixes_where measured
gone_fixes n k [] p s m = refl
gone_fixes n k (Prep q ∷ cs) p s m = gone_fixes n k cs p.2 s.2 m
gone_fixes n k (Ent i j ∷ cs) p s m = gone_fixes n k cs p.2 s.2 m
gone_fixes n k (Meas q a u v ∷ cs) p s m = elim (or_cases (nat_eq k q) (measured cs k) m) [
  | inl e ↦ missed_fixes k cs (subst (λ (i : ℕ). AllMiss i cs) (sym (eqb-true k q e)) p.1)
  | inr e ↦ gone_fixes n k cs p.2 s.2 e
]
gone_fixes n k (FixX q u ∷ cs) p s m =
    absurd (false≢true (sym (least_unmeasured k cs (settled_least (FixX q u) cs s)) ∙ m))
gone_fixes n k (FixZ q u ∷ cs) p s m =
    absurd (false≢true (sym (least_unmeasured k cs (settled_least (FixZ q u) cs s)) ∙ m))

block_same : (n k : ℕ) (cs : List Command) → InPlace n cs → IsSettled cs →
    fixes_where (λ q. nat_eq q k) cs
    ≡ cond (measured cs k) [] (fix_x k (first_sum cs k) ++ fix_z k (second_sum cs k))
block_same n k cs p s = elim (cases_Bool (measured cs k)) [
  | inl e ↦ rw e (gone_fixes n k cs p s e)
  | inr e ↦ rw e (block_where k cs (fixes_rise cs s)
      ∙ ap₂ (λ (u v : Signal). fix_x k u ++ fix_z k v) (sym (first_same n k cs p s e))
      (sym (second_same n k cs p s e)))
]

no_fixes : (cs : List Command) → fixes_where (λ k. nat_lt k 0) cs ≡ []
unfolding fixes_where
no_fixes [] = refl
no_fixes (Prep q ∷ cs) = no_fixes cs
no_fixes (Ent i j ∷ cs) = no_fixes cs
no_fixes (Meas q a s t ∷ cs) = no_fixes cs
no_fixes (FixX q s ∷ cs) = rw (le-ltb q 0 (omega arith)) (no_fixes cs)
no_fixes (FixZ q s ∷ cs) = rw (le-ltb q 0 (omega arith)) (no_fixes cs)

fixes_below : (n m : ℕ) (cs : List Command) → InPlace n cs → IsSettled cs →
    fixes_where (λ k. nat_lt k m) cs
    ≡ corrections_below (measured cs) (first_sum cs) (second_sum cs) m
unfolding corrections_below
fixes_below n zero cs p s = no_fixes cs
fixes_below n (suc m) cs p s =
    fixes_split m cs (fixes_rise cs s)
    ∙ ap₂ (λ (xs ys : List Command). xs ++ ys) (fixes_below n m cs p s) (block_same n m cs p s)

all_fixes : (n : ℕ) (cs : List Command) → InPlace n cs →
    fixes_where (λ k. true) cs ≡ fixes_where (λ k. nat_lt k n) cs
unfolding fixes_where
all_fixes n [] p = refl
all_fixes n (Prep q ∷ cs) p = all_fixes n cs p.2
all_fixes n (Ent i j ∷ cs) p = all_fixes n cs p.2
all_fixes n (Meas q a s t ∷ cs) p = all_fixes n cs p.2
all_fixes n (FixX q s ∷ cs) p =
    rw (lt-ltb q n p.0.0) (ap (λ (xs : List Command). FixX q s ∷ xs) (all_fixes n cs p.2))
all_fixes n (FixZ q s ∷ cs) p =
    rw (lt-ltb q n p.0.0) (ap (λ (xs : List Command). FixZ q s ∷ xs) (all_fixes n cs p.2))

-- measurements
abbrev pub IsNone : Signals → Type 0
IsNone xs = (q : ℕ) → xs q ≡ no_signal

sum_none : (s u : Signal) → IsRising s.members → u ≡ no_signal → signal_sum s u ≡ s
sum_none s u r e = ap (signal_sum s) e
    ∙ same_signals (signal_sum s no_signal) s (toggled_all_rising s.members [] tt) r (λ o.
    value-sum s no_signal o ∙ ap (λ (b : Bool). value s o ⊻ b) (none_value o)
    ∙ xor_false (value s o))

reset_none : (xs : Signals) (i : ℕ) → IsNone xs → IsNone (reset xs i no_signal)
reset_none xs i h k = elim (cases_Bool (nat_eq k i)) [ inl e ↦ rw e | inr e ↦ rw e (h k) ]

joined_none : (xs : Signals) (i : ℕ) (s : Signal) → IsNone xs → s ≡ no_signal →
    IsNone (joined xs i s)
joined_none xs i s h e k = elim (cases_Bool (nat_eq k i)) [
  | inl f ↦ rw f (ap₂ signal_sum (h i) e ∙ sum_none no_signal no_signal tt refl)
  | inr f ↦ rw f (h k)
]

least_none : (xs zs : Signals) (cs : List Command) → AtLeast 3 cs →
    measurements_of (stripped xs zs cs) ≡ measurements_of cs
unfolding measurements_of stripped
least_none xs zs [] a = refl
least_none xs zs (Prep q ∷ cs) a = let h = a.0 in absurd (omega arith)
least_none xs zs (Ent i j ∷ cs) a = let h = a.0 in absurd (omega arith)
least_none xs zs (Meas q b s t ∷ cs) a = let h = a.0 in absurd (omega arith)
least_none xs zs (FixX q s ∷ cs) a = least_none (joined xs q s) zs cs a.1
least_none xs zs (FixZ q s ∷ cs) a = least_none xs (joined zs q s) cs a.1

settled_measures : (n : ℕ) (xs zs : Signals) (cs : List Command) → InPlace n cs → IsSettled cs →
    IsNone xs → IsNone zs →
    measurements_of (stripped xs zs cs) ≡ measurements_of cs
unfolding measurements_of stripped
settled_measures n xs zs [] p s hx hz = refl
settled_measures n xs zs (Prep q ∷ cs) p s hx hz = settled_measures n xs zs cs p.2 s.2 hx hz
settled_measures n xs zs (Ent i j ∷ cs) p s hx hz =
    settled_measures n xs (handed xs zs i j) cs p.2 s.2 hx
    (joined_none (joined zs i (xs j)) j (xs i) (joined_none zs i (xs j) hz (hx j)) (hx i))
settled_measures n xs zs (Meas i a u v ∷ cs) p s hx hz =
    ap₂ (λ (c : Command) (rest : List Command). c ∷ rest)
    (ap₂ (λ (b c : Signal). Meas i a b c) (sum_none u (xs i) p.0.1 (hx i))
    (sum_none v (zs i) p.0.2 (hz i)))
    (settled_measures n (reset xs i no_signal) (reset zs i no_signal) cs p.2 s.2
    (reset_none xs i hx) (reset_none zs i hz))
settled_measures n xs zs (FixX q u ∷ cs) p s hx hz =
    least_none (joined xs q u) zs cs (settled_least (FixX q u) cs s)
settled_measures n xs zs (FixZ q u ∷ cs) p s hx hz =
    least_none xs (joined zs q u) cs (settled_least (FixZ q u) cs s)

-- the four parts
no_preps : (cs : List Command) → AtLeast 1 cs → preparations_of cs ≡ []
unfolding preparations_of
no_preps [] a = refl
no_preps (Prep q ∷ cs) a = let h = a.0 in absurd (omega arith)
no_preps (Ent i j ∷ cs) a = no_preps cs a.1
no_preps (Meas q b s t ∷ cs) a = no_preps cs a.1
no_preps (FixX q s ∷ cs) a = no_preps cs a.1
no_preps (FixZ q s ∷ cs) a = no_preps cs a.1

no_edges : (cs : List Command) → AtLeast 2 cs → edges_where (λ a b. true) cs ≡ []
unfolding edges_where
no_edges [] a = refl
no_edges (Prep q ∷ cs) a = no_edges cs a.1
no_edges (Ent i j ∷ cs) a = let h = a.0 in absurd (omega arith)
no_edges (Meas q b s t ∷ cs) a = no_edges cs a.1
no_edges (FixX q s ∷ cs) a = no_edges cs a.1
no_edges (FixZ q s ∷ cs) a = no_edges cs a.1

no_measures : (cs : List Command) → AtLeast 3 cs → measurements_of cs ≡ []
unfolding measurements_of
no_measures [] a = refl
no_measures (Prep q ∷ cs) a = no_measures cs a.1
no_measures (Ent i j ∷ cs) a = no_measures cs a.1
no_measures (Meas q b s t ∷ cs) a = let h = a.0 in absurd (omega arith)
no_measures (FixX q s ∷ cs) a = no_measures cs a.1
no_measures (FixZ q s ∷ cs) a = no_measures cs a.1

last_part : (cs : List Command) (c : Command) → AtLeast 3 cs →
    cs ≡ preparations_of cs ++
    (edges_where (λ a b. true) cs ++ (measurements_of cs ++ fixes_where (λ k. true) cs)) →
    c ∷ cs ≡ preparations_of cs ++
    (edges_where (λ a b. true) cs ++ (measurements_of cs ++ (c ∷ fixes_where (λ k. true) cs)))
last_part cs c a rest =
    let p = no_preps cs (least_weaker 1 3 cs (omega arith) a) in
    let e = no_edges cs (least_weaker 2 3 cs (omega arith) a) in
    let m = no_measures cs a in
    let fs : List Command = fixes_where (λ k. true) cs in
    let tail : (ys : List Command) →
    preparations_of cs ++ (edges_where (λ a b. true) cs ++ (measurements_of cs ++ ys)) ≡ ys =
    λ ys.
    ap₂ (λ (xs zs : List Command). xs ++ (zs ++ (measurements_of cs ++ ys))) p e
    ∙ ap (λ (xs : List Command). xs ++ ys) m in
    ap (λ (xs : List Command). c ∷ xs) (rest ∙ tail fs) ∙ sym (tail (c ∷ fs))

split_settled : (cs : List Command) → IsSettled cs →
    cs ≡ preparations_of cs ++
    (edges_where (λ a b. true) cs ++ (measurements_of cs ++ fixes_where (λ k. true) cs))
unfolding preparations_of edges_where measurements_of fixes_where
split_settled [] s = refl
split_settled (Prep q ∷ cs) s = ap (λ (xs : List Command). Prep q ∷ xs) (split_settled cs s.2)
split_settled (Ent i j ∷ cs) s =
    let a : AtLeast 1 cs = settled_least (Ent i j) cs s in
    let rest = split_settled cs s.2 in
    ap (λ (xs : List Command). Ent i j ∷ xs)
    (rest ∙ ap (λ (xs : List Command). xs ++
    (edges_where (λ a b. true) cs ++
    (measurements_of cs ++ fixes_where (λ k. true) cs))) (no_preps cs a))
    ∙ sym (ap (λ (xs : List Command). xs ++
    (Ent i j ∷ (edges_where (λ a b. true) cs ++
    (measurements_of cs ++ fixes_where (λ k. true) cs)))) (no_preps cs a))
split_settled (Meas q b u v ∷ cs) s =
    let a : AtLeast 2 cs = settled_least (Meas q b u v) cs s in
    let c : AtLeast 1 cs = least_weaker 1 2 cs (omega arith) a in
    let rest = split_settled cs s.2 in
    ap (λ (xs : List Command). Meas q b u v ∷ xs)
    (rest ∙ ap₂ (λ (xs ys : List Command). xs ++
    (ys ++ (measurements_of cs ++ fixes_where (λ k. true) cs))) (no_preps cs c) (no_edges cs a))
    ∙ sym (ap₂ (λ (xs ys : List Command). xs ++
    (ys ++ (Meas q b u v ∷ (measurements_of cs ++ fixes_where (λ k. true) cs)))) (no_preps cs
    c) (no_edges cs a))
split_settled (FixX q u ∷ cs) s =
    last_part cs (FixX q u) (settled_least (FixX q u) cs s) (split_settled cs s.2)
split_settled (FixZ q u ∷ cs) s =
    last_part cs (FixZ q u) (settled_least (FixZ q u) cs s) (split_settled cs s.2)

-- a settled valid list is its own standard form
pub settled_is_standard : (inputs : ℕ) (cs : List Command) → IsValid inputs cs → IsSettled cs →
    standard_commands inputs cs ≡ cs
unfolding standard_commands
settled_is_standard inputs cs v s =
    let n : ℕ = inputs + prepared cs in
    let p : InPlace n cs = valid_in_place inputs n [] cs v (omega arith) in
    let edges : edges_where (λ a b. true) cs ≡ pairs_below Ent (is_edge cs) n n =
    settled_edges n cs p (edges_rise cs s) in
    let measures : measurements_of cs ≡ measurements_with (first_sum cs) (second_sum cs) cs =
    sym (settled_measures n (λ q. no_signal) (λ q. no_signal) cs p s (λ q. refl) (λ q. refl))
    ∙ measured_form n cs p in
    let fixes : fixes_where (λ k. true) cs
    ≡ corrections_below (measured cs) (first_sum cs) (second_sum cs) n = all_fixes n cs p
    ∙ fixes_below n n cs p s in
    sym (split_settled cs s ∙ ap (λ (xs : List Command). preparations_of cs ++ xs)
    (ap₂ (λ (xs ys : List Command). xs ++ ys) edges
    (ap₂ (λ (xs ys : List Command). xs ++ ys) measures fixes)))
