-- In a settled list each command precedes all behind it, so that its pairs cost nothing; and what a
-- new command behind it costs.
use Rattle.std.proofs.Common.{◌≡◌, ◌⊎◌, ℕ, ◌+◌, ◌*◌, ◌<◌, ◌≤◌, Bool, true, false, cond, ◌||◌}
use Rattle.std.proofs.Common.{◌&&◌}
use Rattle.std.proofs.Common.{List, [], ◌∷◌, ◌++◌, length, refl, sym, ◌∙◌, ap, ap₂, arith}
use Rattle.std.specs.Prelude.{nat_eq, nat_lt, ⊤}
use Rattle.std.proofs.lemmas.Bool.{eq-eqb, ne_eqb, eqb-true, lt-ltb, le-ltb, ltb-true, false≢true}
use Rattle.std.proofs.lemmas.Bool.{cases_Bool, cases_lt, cases_eq, or_cases, or_left, or_right}
use Rattle.std.proofs.lemmas.Bool.{and_parts}
use mathlib.Core.Logic.{inl, inr}
use Rattle.mc_model.specs.Signals.{Signal}
use Rattle.mc_model.specs.Pattern.{Command, Prep, Ent, Meas, FixX, FixZ}
use Rattle.mc_model.specs.Derivation.{part, one_if, is_wrong, is_turned, turned_edges, pair_before}
use Rattle.mc_model.specs.Derivation.{lower, higher}
use Rattle.mc_rules.specs.Settled.{IsTidy, Follows, IsSettled}
use Rattle.mc_derivations.specs.Effort.{meets, cost, sum_from, pair_sum, room, effort}
use Rattle.mc_derivations.proofs.PairSums.{sum_to, pairs-append, between_one}
use Rattle.mc_derivations.proofs.RuleCosts.{right_free, wrong_part}
use Rattle.mc_derivations.proofs.StepCosts.{length-append, turned-append}

-- ---- the order within a part

abbrev pub first_key : Command → ℕ
first_key (Prep q) = 0
first_key (Ent i j) = lower i j
first_key (Meas q a s t) = 0
first_key (FixX q s) = q
first_key (FixZ q s) = q

abbrev pub second_key : Command → ℕ
second_key (Prep q) = 0
second_key (Ent i j) = higher i j
second_key (Meas q a s t) = 0
second_key (FixX q s) = 0
second_key (FixZ q s) = 1

-- entanglings and corrections have an order
abbrev pub IsKeyed : ℕ → Type 0
IsKeyed p = (p ≡ 0 → ⊥) × (p ≡ 2 → ⊥)

abbrev pub key_before : Command → Command → Bool
key_before c d = pair_before (first_key c) (second_key c) (first_key d) (second_key d)

-- the first command may stand anywhere before the second in a settled list
pub record Precedes (c d : Command) : Type 0 where
  pub parts : part c ≤ part d
  pub keys : part c ≡ part d → IsKeyed (part c) → key_before c d ≡ true

by_first : (a b c d : ℕ) → a < c → pair_before a b c d ≡ true
by_first a b c d h = or_left (nat_lt a c) (nat_eq a c && nat_lt b d) (lt-ltb a c h)

by_second : (a b c d : ℕ) → a ≡ c → b < d → pair_before a b c d ≡ true
by_second a b c d e h =
    or_right (nat_lt a c) (nat_eq a c && nat_lt b d)
    (ap₂ (λ (x y : Bool). x && y) (eq-eqb a c e) (lt-ltb b d h))

by_pair : (a b c d : ℕ) → pair_before a b c d ≡ true → (a < c) ⊎ ((a ≡ c) × (b < d))
by_pair a b c d h = elim (or_cases (nat_lt a c) (nat_eq a c && nat_lt b d) h) [
  | inl l ↦ inl (ltb-true a c l)
  | inr m ↦
      let both = and_parts (nat_eq a c) (nat_lt b d) m in
      inr (eqb-true a c both.0, ltb-true b d both.1)
]

pair_trans : (a b c d e f : ℕ) → pair_before a b c d ≡ true → pair_before c d e f ≡ true →
    pair_before a b e f ≡ true
pair_trans a b c d e f h k = elim (by_pair a b c d h) [
  | inl x ↦ elim (by_pair c d e f k) [
    | inl y ↦ by_first a b e f (omega arith)
    | inr y ↦ by_first a b e f (let z = y.0 in omega arith)
  ]
  | inr x ↦ elim (by_pair c d e f k) [
    | inl y ↦ by_first a b e f (let z = x.0 in omega arith)
    | inr y ↦ by_second a b e f (x.0 ∙ y.0) (let z = x.1 in let w = y.1 in omega arith)
  ]
]

not_both : (a b c d : ℕ) → pair_before a b c d ≡ true → pair_before c d a b ≡ true → ⊥
not_both a b c d h k = elim (by_pair a b c d h) [
  | inl x ↦ elim (by_pair c d a b k) [
    | inl y ↦ absurd (omega arith)
    | inr y ↦ let z = y.0 in absurd (omega arith)
  ]
  | inr x ↦ elim (by_pair c d a b k) [
    | inl y ↦ let z = x.0 in absurd (omega arith)
    | inr y ↦ let z = x.1 in let w = y.1 in absurd (omega arith)
  ]
]

follows_precedes : (c d : Command) → Follows c d → Precedes c d
follows_precedes (Prep q) d h =
    record { parts = omega arith; keys = λ e k. absurd (k.0 refl) }
follows_precedes (Ent i j) (Prep q) h = absurd h
follows_precedes (Ent i j) (Ent q r) h = record { parts = omega arith; keys = λ e k. h }
follows_precedes (Ent i j) (Meas q a s t) h =
    record { parts = omega arith; keys = λ e k. absurd (omega arith) }
follows_precedes (Ent i j) (FixX q s) h =
    record { parts = omega arith; keys = λ e k. absurd (omega arith) }
follows_precedes (Ent i j) (FixZ q s) h =
    record { parts = omega arith; keys = λ e k. absurd (omega arith) }
follows_precedes (Meas i a s t) (Prep q) h = absurd h
follows_precedes (Meas i a s t) (Ent q r) h = absurd h
follows_precedes (Meas i a s t) (Meas q b u v) h =
    record { parts = omega arith; keys = λ e k. absurd (k.1 refl) }
follows_precedes (Meas i a s t) (FixX q u) h =
    record { parts = omega arith; keys = λ e k. absurd (k.1 refl) }
follows_precedes (Meas i a s t) (FixZ q u) h =
    record { parts = omega arith; keys = λ e k. absurd (k.1 refl) }
follows_precedes (FixX i s) (Prep q) h = absurd h
follows_precedes (FixX i s) (Ent q r) h = absurd h
follows_precedes (FixX i s) (Meas q b u v) h = absurd h
follows_precedes (FixX i s) (FixX q t) h =
    record { parts = omega arith; keys = λ e k. by_first i 0 q 0 h }
follows_precedes (FixX i s) (FixZ q t) h =
    record {
      parts = omega arith;
      keys = λ e k. elim (cases_eq i q) [
        | inl same ↦ by_second i 0 q 1 same (omega arith)
        | inr other ↦ by_first i 0 q 1 (less i q h other)
      ];
    }
  where
    less : (a b : ℕ) → a ≤ b → (a ≡ b → ⊥) → a < b
    less a b h n = elim (cases_lt a b) [
      | inl l ↦ l
      | inr g ↦ absurd (n (omega arith))
    ]
follows_precedes (FixZ i s) (Prep q) h = absurd h
follows_precedes (FixZ i s) (Ent q r) h = absurd h
follows_precedes (FixZ i s) (Meas q b u v) h = absurd h
follows_precedes (FixZ i s) (FixX q t) h =
    record { parts = omega arith; keys = λ e k. by_first i 1 q 0 h }
follows_precedes (FixZ i s) (FixZ q t) h =
    record { parts = omega arith; keys = λ e k. by_first i 1 q 1 h }

precedes_trans : (c d e : Command) → Precedes c d → Precedes d e → Precedes c e
precedes_trans c d e h k = record {
  parts = let a = h.parts in let b = k.parts in omega arith;
  keys = λ same keyed.
      let a = h.parts in
      let b = k.parts in
      let first : part c ≡ part d = omega arith in
      let second : part d ≡ part e = omega arith in
      pair_trans _ _ (first_key d) (second_key d) _ _ (h.keys first keyed)
      (k.keys second (λ z. keyed.0 (first ∙ z), λ z. keyed.1 (first ∙ z)));
}

-- all commands of the list come behind
abbrev pub PrecedesAll : Command → List Command → Type 0
PrecedesAll c [] = ⊤
PrecedesAll c (d ∷ ds) = Precedes c d × PrecedesAll c ds

all_behind : (c d : Command) (ds : List Command) → Precedes c d → PrecedesAll d ds →
    PrecedesAll c ds
all_behind c d [] h k = tt
all_behind c d (e ∷ es) h k = (precedes_trans c d e h k.0, all_behind c d es h k.1)

pub settled_precedes : (c : Command) (cs : List Command) → IsSettled (c ∷ cs) → PrecedesAll c cs
settled_precedes c [] s = tt
settled_precedes c (d ∷ ds) s =
    let h = follows_precedes c d s.1 in
    (h, all_behind c d ds h (settled_precedes d ds s.2))

-- ---- a settled list costs nothing

wrong_keyed : (c d : Command) → is_wrong c d ≡ true → IsKeyed (part c) × (key_before d c ≡ true)
wrong_keyed (Ent i j) (Ent q r) h = ((λ e. absurd (omega arith), λ e. absurd (omega arith)), h)
wrong_keyed (FixX q s) (FixX r t) h = ((λ e. absurd (omega arith), λ e. absurd (omega arith)), h)
wrong_keyed (FixX q s) (FixZ r t) h = ((λ e. absurd (omega arith), λ e. absurd (omega arith)), h)
wrong_keyed (FixZ q s) (FixX r t) h = ((λ e. absurd (omega arith), λ e. absurd (omega arith)), h)
wrong_keyed (FixZ q s) (FixZ r t) h = ((λ e. absurd (omega arith), λ e. absurd (omega arith)), h)
wrong_keyed c d h = absurd (false≢true h)

precedes_free : (all : Bool) (most : ℕ) (c d : Command) → Precedes c d → cost all most c d ≡ 0
precedes_free all most c d p = right_free all most c d (elim (cases_Bool (is_wrong c d)) [
  | inl w ↦
      let k = wrong_keyed c d w in
      absurd (not_both (first_key d) (second_key d) (first_key c) (second_key c) k.1
      (p.keys (wrong_part c d w) k.0))
  | inr w ↦ w
]) p.parts

from_free : (all : Bool) (most : ℕ) (c : Command) (ds : List Command) → PrecedesAll c ds →
    sum_from (cost all most) c ds ≡ 0
unfolding sum_from
from_free all most c [] h = refl
from_free all most c (d ∷ ds) h =
    let a = precedes_free all most c d h.0 in
    let b = from_free all most c ds h.1 in omega arith

pub settled_free : (all : Bool) (most : ℕ) (cs : List Command) → IsSettled cs →
    pair_sum (cost all most) cs ≡ 0
unfolding pair_sum
settled_free all most [] s = refl
settled_free all most (c ∷ cs) s =
    let a = from_free all most c cs (settled_precedes c cs s) in
    let b = settled_free all most cs s.2 in omega arith

tidy_turned : (c : Command) → IsTidy c → is_turned c ≡ false
tidy_turned (Ent i j) h = le-ltb j i (omega arith)
tidy_turned (Prep q) h = refl
tidy_turned (Meas q a s t) h = refl
tidy_turned (FixX q s) h = refl
tidy_turned (FixZ q s) h = refl

settled_turned : (cs : List Command) → IsSettled cs → turned_edges cs ≡ 0
unfolding turned_edges
settled_turned [] s = refl
settled_turned (c ∷ cs) s =
    let a = ap one_if (tidy_turned c s.0) in
    let b = settled_turned cs s.2 in omega arith

-- ---- a new command behind a settled list

-- the command is an `X` on the qubit
abbrev pub is_x_on : ℕ → Command → Bool
is_x_on q (FixX i s) = nat_eq i q
is_x_on q c = false

unfoldable pub x_costs : ℕ → ℕ → List Command → ℕ
x_costs most q [] = 0
x_costs most q (c ∷ cs) = cond (is_x_on q c) most 0 + x_costs most q cs

-- behind an `X` in a settled list no other stands on its qubit
x_later : (most q : ℕ) (c d : Command) → is_x_on q c ≡ true → Precedes c d →
    cond (is_x_on q d) most 0 ≡ 0
x_later most q (FixX j s) (FixX k t) x p = elim (cases_eq k q) [
  | inl e ↦ absurd (same j k (eqb-true j q x ∙ sym e) (p.keys refl sorted))
  | inr n ↦ ap (λ (b : Bool). cond b most 0) (ne_eqb k q n)
]
  where
    sorted : IsKeyed 3
    sorted = (λ z. absurd (omega arith), λ z. absurd (omega arith))

    same : (j k : ℕ) → j ≡ k → pair_before j 0 k 0 ≡ true → ⊥
    same j k e h = elim (by_pair j 0 k 0 h) [
      | inl l ↦ absurd (omega arith)
      | inr b ↦ let m = b.1 in absurd (omega arith)
    ]
x_later most q (FixX j s) (Prep k) x p = refl
x_later most q (FixX j s) (Ent k l) x p = refl
x_later most q (FixX j s) (Meas k a u v) x p = refl
x_later most q (FixX j s) (FixZ k t) x p = refl
x_later most q c d x p = absurd (false≢true x)

x_none : (most q : ℕ) (c : Command) (ds : List Command) → is_x_on q c ≡ true →
    PrecedesAll c ds → x_costs most q ds ≡ 0
unfolding x_costs
x_none most q c [] x h = refl
x_none most q c (d ∷ ds) x h =
    let a = x_later most q c d x h.0 in
    let b = x_none most q c ds x h.1 in omega arith

x_once : (most q : ℕ) (cs : List Command) → IsSettled cs → x_costs most q cs ≤ most
unfolding x_costs
x_once most q [] s = omega arith
x_once most q (c ∷ cs) s = elim (cases_Bool (is_x_on q c)) [
  | inl x ↦
      let a = x_none most q c cs x (settled_precedes c cs s) in
      let b = ap (λ (t : Bool). cond t most 0) x in omega arith
  | inr x ↦
      let a = x_once most q cs s.2 in
      let b = ap (λ (t : Bool). cond t most 0) x in omega arith
]

-- wrong, or of a later part, but not both
one_cause : (c d : Command) → one_if (is_wrong c d) + one_if (nat_lt (part d) (part c)) ≤ 1
one_cause c d = elim (cases_Bool (is_wrong c d)) [
  | inl w ↦
      let same = wrong_part c d w in
      let a = ap one_if w in
      let b = ap one_if (le-ltb (part d) (part c) (omega arith)) in omega arith
  | inr w ↦
      let a = ap one_if w in
      let b = one_most (nat_lt (part d) (part c)) in omega arith
]
  where
    one_most : (b : Bool) → one_if b ≤ 1
    one_most true = omega arith
    one_most false = omega arith

either_cost : (a b : Bool) (most : ℕ) → cond (a || b) most 0 ≤ cond a most 0 + cond b most 0
either_cost true true most = omega arith
either_cost true false most = omega arith
either_cost false b most = omega arith

-- the qubits of an entangling; twice one that is none for other commands
meets_costs : (most : ℕ) (c d : Command) (q r : ℕ) →
    ((i : ℕ) (s : Signal) → cond (meets (FixX i s) d) most 0
    ≤ cond (nat_eq i q) most 0 + cond (nat_eq i r) most 0) →
    cond (meets c d) most 0 ≤ cond (is_x_on q c) most 0 + cond (is_x_on r c) most 0
meets_costs most (FixX i s) d q r h = h i s
meets_costs most (Prep k) d q r h = omega arith
meets_costs most (Ent k l) d q r h = omega arith
meets_costs most (Meas k a u v) d q r h = omega arith
meets_costs most (FixZ k s) d q r h = omega arith

-- two qubits that hold all that the command meets
pub record MeetsTwo (most : ℕ) (d : Command) : Type 0 where
  pub one : ℕ
  pub two : ℕ
  pub all : (i : ℕ) (s : Signal) → cond (meets (FixX i s) d) most 0
      ≤ cond (nat_eq i one) most 0 + cond (nat_eq i two) most 0

meets_two : (most : ℕ) (d : Command) → MeetsTwo most d
meets_two most (Ent q r) = record {
  one = q;
  two = r;
  all = λ i s. either_cost (nat_eq i q) (nat_eq i r) most;
}
meets_two most (Prep q) = record { one = q; two = q; all = λ i s. omega arith }
meets_two most (Meas q a u v) = record { one = q; two = q; all = λ i s. omega arith }
meets_two most (FixX q t) = record { one = q; two = q; all = λ i s. omega arith }
meets_two most (FixZ q t) = record { one = q; two = q; all = λ i s. omega arith }

to_new : (all : Bool) (most : ℕ) (cs : List Command) (d : Command) (m : MeetsTwo most d) →
    sum_to (cost all most) cs d
    ≤ cond all (length cs) 0 + x_costs most m.one cs + x_costs most m.two cs
unfolding sum_to x_costs
to_new all most [] d m = omega arith
to_new true most (c ∷ cs) d m =
    let a = one_cause c d in
    let b = meets_costs most c d m.one m.two m.all in
    let h = to_new true most cs d m in omega arith
to_new false most (c ∷ cs) d m =
    let b = meets_costs most c d m.one m.two m.all in
    let h = to_new false most cs d m in omega arith

new_pairs : (all : Bool) (most : ℕ) (cs : List Command) (d : Command) → IsSettled cs →
    pair_sum (cost all most) (cs ++ (d ∷ [])) ≤ cond all (length cs) 0 + most + most
unfolding pair_sum sum_from
new_pairs all most cs d s =
    let m = meets_two most d in
    let a = pairs-append (cost all most) cs (d ∷ []) in
    let b = settled_free all most cs s in
    let c = between_one (cost all most) cs d in
    let e = to_new all most cs d m in
    let f = x_once most m.one cs s in
    let g = x_once most m.two cs s in omega arith

-- a new command makes room for two corrections
pub new_room : (cs : List Command) (d : Command) → IsSettled cs →
    room (cs ++ (d ∷ [])) ≤ length cs + 3
unfolding room
new_room cs d s =
    let a = new_pairs false 1 cs d s in
    let b = length-append cs (d ∷ []) in omega arith

-- and for so much effort
pub new_effort : (most : ℕ) (cs : List Command) (d : Command) → IsSettled cs →
    effort most (cs ++ (d ∷ [])) ≤ 2 * length cs + 2 + 2 * most
unfolding effort turned_edges
new_effort most cs d s =
    let a = new_pairs true most cs d s in
    let b = length-append cs (d ∷ []) in
    let c = turned-append cs (d ∷ []) in
    let e = settled_turned cs s in
    let f = one_most (is_turned d) in omega arith
  where
    one_most : (b : Bool) → one_if b ≤ 1
    one_most true = omega arith
    one_most false = omega arith
