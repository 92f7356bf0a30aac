-- Either a use of a rule improves a valid list, or the list is settled: its parts are in order, and
-- within them nothing is left to do.
use Rattle.std.proofs.Common.{◌≡◌, ℕ, ◌+◌, ◌<◌, ◌≤◌, Bool, true, false, not, ◌&&◌, ◌||◌}
use Rattle.std.proofs.Common.{◌⊎◌, List}
use Rattle.std.proofs.Common.{[], ◌∷◌, ◌++◌, map, refl, sym, ◌∙◌, ap, ap₂, arith, append_assoc}
use Rattle.std.specs.Prelude.{nat_eq, nat_lt}
use Rattle.std.proofs.lemmas.Bool.{cases_lt, cases_order, cases_Bool, lt-ltb, le-ltb, ltb-false}
use Rattle.std.proofs.lemmas.Bool.{eq-eqb, or_parts, or_left, false≢true}
use mathlib.Core.Path.{subst}
use mathlib.Core.Logic.{inl, inr}
use Rattle.mc_model.specs.Signals.{Signal, no_signal, signal_sum, is_nil, is_empty}
use Rattle.mc_model.specs.Pattern.{Command, Prep, Ent, Meas, FixX, FixZ}
use Rattle.mc_model.specs.Valid.{IsValid}
use Rattle.mc_model.specs.Derivation.{Rule, Join, Cancel, DropEmpty, Rewrites, same_cancelled}
use Rattle.mc_model.specs.Derivation.{turned_cancelled, x_joined, z_joined, x_dropped, z_dropped}
use Rattle.mc_model.specs.Derivation.{part, one_if, has_later, out_of_order, pair_before, lower}
use Rattle.mc_model.specs.Derivation.{higher}
use Rattle.mc_rules.specs.Improves.{Improves}
use Rattle.mc_rules.specs.Settled.{IsTidy, Follows, FirstFollows, IsSettled}
use Rattle.mc_rules.proofs.RankFalls.{has-append, order-append}
use Rattle.mc_rules.proofs.FirstOutOfOrder.{map-append, move_improves, none_later}
use Rattle.mc_rules.proofs.ImprovedInOrder.{exchange_improves, turn_improves, shorten_improves}
use Rattle.mc_rules.proofs.ImprovedInOrder.{Shortens, join_x_shortens, join_z_shortens}
use Rattle.mc_rules.proofs.ImprovedInOrder.{cancel_shortens, drop_x_shortens, drop_z_shortens}

later_more : (p q : ℕ) (xs : List ℕ) → p ≤ q → has_later p xs ≡ false → has_later q xs ≡ false
unfolding has_later
later_more p q [] h e = refl
later_more p q (x ∷ xs) h e =
    let parts = or_parts (nat_lt p x) (has_later p xs) e in
    let le = ltb-false p x parts.0 in
    ap₂ (λ (a b : Bool). a || b) (le-ltb q x (omega arith)) (later_more p q xs h parts.1)

one_more : (xs : List ℕ) (p : ℕ) → out_of_order [] xs ≡ 0 → has_later p xs ≡ false →
    out_of_order [] (xs ++ (p ∷ [])) ≡ 0
unfolding out_of_order
one_more xs p z e = order-append [] xs (p ∷ []) ∙ ap₂ (λ (a : ℕ) (t : Bool). a + (one_if t + 0)) z e
    ∙ nought
  where
    nought : 0 + (0 + 0) ≡ 0
    nought = omega arith

pub next_order : (front : List Command) (c d : Command) →
    out_of_order [] (map part (front ++ (c ∷ []))) ≡ 0 → part c ≤ part d →
    out_of_order [] (map part ((front ++ (c ∷ [])) ++ (d ∷ []))) ≡ 0
unfolding has_later
next_order front c d z h =
    let ps : List ℕ = map part front in
    let e : map part (front ++ (c ∷ [])) ≡ ps ++ (part c ∷ []) = map-append front (c ∷ []) in
    let z2 : out_of_order [] (ps ++ (part c ∷ [])) ≡ 0 = sym (ap (out_of_order []) e) ∙ z in
    let none : has_later (part d) (ps ++ (part c ∷ [])) ≡ false =
    has-append (part d) ps (part c ∷ [])
    ∙ ap₂ (λ (a b : Bool). a || (b || false))
    (later_more (part c) (part d) ps h (none_later ps (part c) z2)) (le-ltb (part d) (part c) h)
    in
    ap (out_of_order [])
    (map-append (front ++ (c ∷ [])) (d ∷ []) ∙ ap (λ (xs : List ℕ). xs ++ (part d ∷ [])) e)
    ∙ one_more (ps ++ (part c ∷ [])) (part d) z2 none

-- the parts are in order, or the first command out of order moves
pub in_order_or_improves : (inputs : ℕ) (front : List Command) (c : Command) (cs : List Command) →
    IsValid inputs (front ++ (c ∷ cs)) →
    out_of_order [] (map part (front ++ (c ∷ []))) ≡ 0 →
    Improves inputs (front ++ (c ∷ cs)) ⊎ (out_of_order [] (map part (front ++ (c ∷ cs))) ≡ 0)
in_order_or_improves inputs front c [] v z = inr z
in_order_or_improves inputs front c (d ∷ ds) v z = elim (cases_lt (part d) (part c)) [
  | inl h ↦ inl (move_improves inputs front c d ds v z h)
  | inr g ↦
      subst (λ (xs : List Command). Improves inputs xs ⊎ (out_of_order [] (map part xs) ≡ 0))
      (append_assoc front (c ∷ []) (d ∷ ds))
      (in_order_or_improves inputs (front ++ (c ∷ [])) d ds
      (subst (IsValid inputs) (sym (append_assoc front (c ∷ []) (d ∷ ds))) v)
      (next_order front c d z g))
]

-- one pair of numbers, or an order between two pairs
pub same_ends : (i j q r : ℕ) → lower i j ≡ lower q r → higher i j ≡ higher q r →
    ((i ≡ q) × (j ≡ r)) ⊎ ((i ≡ r) × (j ≡ q))
same_ends i j q r a b = elim (cases_lt j i) [
  | inl h ↦ elim (cases_lt r q) [
    | inl g ↦ inl (
      sym (high_turned i j h) ∙ b ∙ high_turned q r g,
      sym (low_turned i j h) ∙ a
          ∙ low_turned q r g,
    )
    | inr g ↦ inr (
      sym (high_turned i j h) ∙ b ∙ high_straight q r g,
      sym (low_turned i j h) ∙ a
          ∙ low_straight q r g,
    )
  ]
  | inr h ↦ elim (cases_lt r q) [
    | inl g ↦ inr (
      sym (low_straight i j h) ∙ a ∙ low_turned q r g,
      sym (high_straight i j h) ∙ b
          ∙ high_turned q r g,
    )
    | inr g ↦ inl (
      sym (low_straight i j h) ∙ a ∙ low_straight q r g,
      sym (high_straight i j h) ∙ b
          ∙ high_straight q r g,
    )
  ]
]
  where
    low_turned : (i j : ℕ) → j < i → lower i j ≡ j
    low_turned i j h = rw (lt-ltb j i h)

    high_turned : (i j : ℕ) → j < i → higher i j ≡ i
    high_turned i j h = rw (lt-ltb j i h)

    low_straight : (i j : ℕ) → i ≤ j → lower i j ≡ i
    low_straight i j h = rw (le-ltb j i h)

    high_straight : (i j : ℕ) → i ≤ j → higher i j ≡ j
    high_straight i j h = rw (le-ltb j i h)

pub before_by : (a b c d : ℕ) → (a < c) ⊎ ((a ≡ c) × (b < d)) → pair_before a b c d ≡ true
before_by a b c d (inl h) = or_left (nat_lt a c) (nat_eq a c && nat_lt b d) (lt-ltb a c h)
before_by a b c d (inr (e, h)) = rw (eq-eqb a c e, lt-ltb b d h) (or_true (nat_lt a c))
  where
    or_true : (t : Bool) → t || true ≡ true
    or_true true = refl
    or_true false = refl

-- the front of a list in order is in order
pub front_order : (before : List Command) (c : Command) (cs : List Command) →
    out_of_order [] (map part (before ++ (c ∷ cs))) ≡ 0 →
    out_of_order [] (map part (before ++ (c ∷ []))) ≡ 0
front_order before c cs z =
    let whole : (before ++ (c ∷ [])) ++ cs ≡ before ++ (c ∷ cs) = append_assoc before (c ∷ []) cs in
    let split = order-append [] (map part (before ++ (c ∷ []))) (map part cs) in
    let e : map part (before ++ (c ∷ cs)) ≡ map part (before ++ (c ∷ [])) ++ map part cs =
    sym (ap (map part) whole) ∙ map-append (before ++ (c ∷ [])) cs in
    let z2 : out_of_order [] (map part (before ++ (c ∷ [])) ++ map part cs) ≡ 0 =
    sym (ap (out_of_order []) e) ∙ z in omega arith

shorten_two : (inputs : ℕ) (before : List Command) (c d e : Command) (new behind : List Command)
    (rule : Rule) → d ≡ e → Rewrites rule (c ∷ e ∷ []) new → Shortens (c ∷ e ∷ []) new →
    IsValid inputs (before ++ (c ∷ d ∷ behind)) →
    out_of_order [] (map part (before ++ (c ∷ d ∷ behind))) ≡ 0 →
    Improves inputs (before ++ (c ∷ d ∷ behind))
shorten_two inputs before c d e new behind rule same r s v z =
    shorten_improves inputs rule before (c ∷ d ∷ []) new behind
    (subst (λ (x : Command). Rewrites rule (c ∷ x ∷ []) new) (sym same) r) v z
    (subst (λ (x : Command). Shortens (c ∷ x ∷ []) new) (sym same) s)

-- two neighbours of one part
edges_follow : (inputs : ℕ) (before : List Command) (i j q r : ℕ) (behind : List Command) →
    IsValid inputs (before ++ (Ent i j ∷ Ent q r ∷ behind)) →
    out_of_order [] (map part (before ++ (Ent i j ∷ Ent q r ∷ behind))) ≡ 0 →
    Improves inputs (before ++ (Ent i j ∷ Ent q r ∷ behind))
    ⊎ (pair_before (lower i j) (higher i j) (lower q r) (higher q r) ≡ true)
edges_follow inputs before i j q r behind v z = elim (cases_order (lower i j) (lower q r)) [
  | inl e ↦ elim (cases_order (higher i j) (higher q r)) [
    | inl f ↦ elim (same_ends i j q r e f) [
      | inl both ↦ inl
          (shorten_two inputs before (Ent i j) (Ent q r) (Ent i j) [] behind Cancel
          (ap₂ (λ (a b : ℕ). Ent a b) (sym both.0) (sym both.1)) same_cancelled
          (cancel_shortens i j i j) v z)
      | inr both ↦ inl
          (shorten_two inputs before (Ent i j) (Ent q r) (Ent j i) [] behind Cancel
          (ap₂ (λ (a b : ℕ). Ent a b) (sym both.1) (sym both.0)) turned_cancelled
          (cancel_shortens i j j i) v z)
    ]
    | inr side ↦ elim side [
      | inl l ↦ inr (before_by (lower i j) (higher i j) (lower q r) (higher q r) (inr (e, l)))
      | inr g ↦ inl (exchange_improves inputs before (Ent i j) (Ent q r) behind v z
          (before_by (lower q r) (higher q r) (lower i j) (higher i j) (inr (sym e, g))))
    ]
  ]
  | inr side ↦ elim side [
    | inl l ↦ inr (before_by (lower i j) (higher i j) (lower q r) (higher q r) (inl l))
    | inr g ↦ inl (exchange_improves inputs before (Ent i j) (Ent q r) behind v z
        (before_by (lower q r) (higher q r) (lower i j) (higher i j) (inl g)))
  ]
]

pub follows_or_improves : (inputs : ℕ) (before : List Command) (c d : Command)
    (behind : List Command) → IsValid inputs (before ++ (c ∷ d ∷ behind)) →
    out_of_order [] (map part (before ++ (c ∷ d ∷ behind))) ≡ 0 →
    Improves inputs (before ++ (c ∷ d ∷ behind)) ⊎ Follows c d
follows_or_improves inputs before (Prep q) d behind v z = inr tt
follows_or_improves inputs before (Ent i j) (Prep q) behind v z =
    inl (move_improves inputs before (Ent i j) (Prep q) behind v
    (front_order before (Ent i j) (Prep q ∷ behind) z) (omega arith))
follows_or_improves inputs before (Ent i j) (Ent q r) behind v z =
    edges_follow inputs before i j q r behind v z
follows_or_improves inputs before (Ent i j) (Meas q a s t) behind v z = inr tt
follows_or_improves inputs before (Ent i j) (FixX q s) behind v z = inr tt
follows_or_improves inputs before (Ent i j) (FixZ q s) behind v z = inr tt
follows_or_improves inputs before (Meas i a s t) (Prep q) behind v z =
    inl (move_improves inputs before (Meas i a s t) (Prep q) behind v
    (front_order before (Meas i a s t) (Prep q ∷ behind) z) (omega arith))
follows_or_improves inputs before (Meas i a s t) (Ent q r) behind v z =
    inl (move_improves inputs before (Meas i a s t) (Ent q r) behind v
    (front_order before (Meas i a s t) (Ent q r ∷ behind) z) (omega arith))
follows_or_improves inputs before (Meas i a s t) (Meas q b u w) behind v z = inr tt
follows_or_improves inputs before (Meas i a s t) (FixX q u) behind v z = inr tt
follows_or_improves inputs before (Meas i a s t) (FixZ q u) behind v z = inr tt
follows_or_improves inputs before (FixX i s) (Prep q) behind v z =
    inl (move_improves inputs before (FixX i s) (Prep q) behind v
    (front_order before (FixX i s) (Prep q ∷ behind) z) (omega arith))
follows_or_improves inputs before (FixX i s) (Ent q r) behind v z =
    inl (move_improves inputs before (FixX i s) (Ent q r) behind v
    (front_order before (FixX i s) (Ent q r ∷ behind) z) (omega arith))
follows_or_improves inputs before (FixX i s) (Meas q a u w) behind v z =
    inl (move_improves inputs before (FixX i s) (Meas q a u w) behind v
    (front_order before (FixX i s) (Meas q a u w ∷ behind) z) (omega arith))
follows_or_improves inputs before (FixX i s) (FixX q t) behind v z = elim (cases_order i q) [
  | inl e ↦ inl (shorten_two inputs before (FixX i s) (FixX q t) (FixX i t)
      (FixX i (signal_sum s t) ∷ []) behind Join (ap (λ (a : ℕ). FixX a t) (sym e)) x_joined
      (join_x_shortens i s t) v z)
  | inr side ↦ elim side [
    | inl l ↦ inr l
    | inr g ↦ inl (exchange_improves inputs before (FixX i s) (FixX q t) behind v z
        (before_by q 0 i 0 (inl g)))
  ]
]
follows_or_improves inputs before (FixX i s) (FixZ q t) behind v z = elim (cases_lt q i) [
  | inl g ↦ inl (exchange_improves inputs before (FixX i s) (FixZ q t) behind v z
      (before_by q 1 i 0 (inl g)))
  | inr l ↦ inr l
]
follows_or_improves inputs before (FixZ i s) (Prep q) behind v z =
    inl (move_improves inputs before (FixZ i s) (Prep q) behind v
    (front_order before (FixZ i s) (Prep q ∷ behind) z) (omega arith))
follows_or_improves inputs before (FixZ i s) (Ent q r) behind v z =
    inl (move_improves inputs before (FixZ i s) (Ent q r) behind v
    (front_order before (FixZ i s) (Ent q r ∷ behind) z) (omega arith))
follows_or_improves inputs before (FixZ i s) (Meas q a u w) behind v z =
    inl (move_improves inputs before (FixZ i s) (Meas q a u w) behind v
    (front_order before (FixZ i s) (Meas q a u w ∷ behind) z) (omega arith))
follows_or_improves inputs before (FixZ i s) (FixX q t) behind v z = elim (cases_order i q) [
  | inl e ↦ inl (exchange_improves inputs before (FixZ i s) (FixX q t) behind v z
      (before_by q 0 i 1 (inr (sym e, omega arith))))
  | inr side ↦ elim side [
    | inl l ↦ inr l
    | inr g ↦ inl (exchange_improves inputs before (FixZ i s) (FixX q t) behind v z
        (before_by q 0 i 1 (inl g)))
  ]
]
follows_or_improves inputs before (FixZ i s) (FixZ q t) behind v z = elim (cases_order i q) [
  | inl e ↦ inl (shorten_two inputs before (FixZ i s) (FixZ q t) (FixZ i t)
      (FixZ i (signal_sum s t) ∷ []) behind Join (ap (λ (a : ℕ). FixZ a t) (sym e)) z_joined
      (join_z_shortens i s t) v z)
  | inr side ↦ elim side [
    | inl l ↦ inr l
    | inr g ↦ inl (exchange_improves inputs before (FixZ i s) (FixZ q t) behind v z
        (before_by q 1 i 1 (inl g)))
  ]
]

pub none_in : (s : Signal) → is_empty s ≡ true → s ≡ no_signal
none_in s e = parts_none s.members s.constant e
  where
    parts_none : (ms : List ℕ) (c : Bool) → (is_nil ms && not c) ≡ true →
        record { members = ms; constant = c } ≡ no_signal
    parts_none [] false e = refl
    parts_none [] true e = absurd (false≢true e)
    parts_none (q ∷ qs) c e = absurd (false≢true e)

pub tidy_or_improves : (inputs : ℕ) (before : List Command) (c : Command) (behind : List Command) →
    IsValid inputs (before ++ (c ∷ behind)) →
    out_of_order [] (map part (before ++ (c ∷ behind))) ≡ 0 →
    Improves inputs (before ++ (c ∷ behind)) ⊎ IsTidy c
tidy_or_improves inputs before (Prep q) behind v z = inr tt
tidy_or_improves inputs before (Meas q a s t) behind v z = inr tt
tidy_or_improves inputs before (Ent i j) behind v z = elim (cases_order i j) [
  | inl e ↦ absurd ((v.at before (Ent i j) behind refl).2 e)
  | inr side ↦ elim side
      [ inl l ↦ inr l | inr g ↦ inl (turn_improves inputs before i j behind v z g) ]
]
tidy_or_improves inputs before (FixX q s) behind v z = elim (cases_Bool (is_empty s)) [
  | inr e ↦ inr e
  | inl e ↦ inl (shorten_improves inputs DropEmpty before (FixX q s ∷ []) [] behind
      (subst (λ (x : Signal). Rewrites DropEmpty (FixX q x ∷ []) []) (sym (none_in s e)) x_dropped)
      v z (drop_x_shortens q s))
]
tidy_or_improves inputs before (FixZ q s) behind v z = elim (cases_Bool (is_empty s)) [
  | inr e ↦ inr e
  | inl e ↦ inl (shorten_improves inputs DropEmpty before (FixZ q s ∷ []) [] behind
      (subst (λ (x : Signal). Rewrites DropEmpty (FixZ q x ∷ []) []) (sym (none_in s e)) z_dropped)
      v z (drop_z_shortens q s))
]

first_or_improves : (inputs : ℕ) (before : List Command) (c : Command) (behind : List Command) →
    IsValid inputs (before ++ (c ∷ behind)) →
    out_of_order [] (map part (before ++ (c ∷ behind))) ≡ 0 →
    Improves inputs (before ++ (c ∷ behind)) ⊎ FirstFollows c behind
first_or_improves inputs before c [] v z = inr tt
first_or_improves inputs before c (d ∷ ds) v z = follows_or_improves inputs before c d ds v z

pub settles_from : (inputs : ℕ) (before cs : List Command) → IsValid inputs (before ++ cs) →
    out_of_order [] (map part (before ++ cs)) ≡ 0 →
    Improves inputs (before ++ cs) ⊎ IsSettled cs
settles_from inputs before [] v z = inr tt
settles_from inputs before (c ∷ cs) v z = elim (tidy_or_improves inputs before c cs v z) [
  | inl w ↦ inl w
  | inr tidy ↦ elim (first_or_improves inputs before c cs v z) [
    | inl w ↦ inl w
    | inr next ↦
        let e : (before ++ (c ∷ [])) ++ cs ≡ before ++ (c ∷ cs) = append_assoc before (c ∷ []) cs in
        elim (settles_from inputs (before ++ (c ∷ [])) cs (subst (IsValid inputs) (sym e) v)
        (ap (λ (xs : List Command). out_of_order [] (map part xs)) e ∙ z)) [
          | inl w ↦ inl (subst (Improves inputs) e w)
          | inr rest ↦ inr (tidy, next, rest)
        ]
  ]
]

-- a valid list is improved by a use of a rule, or is settled
pub improves_or_settled : (inputs : ℕ) (cs : List Command) → IsValid inputs cs →
    Improves inputs cs ⊎ IsSettled cs
unfolding out_of_order has_later
improves_or_settled inputs [] v = inr tt
improves_or_settled inputs (c ∷ cs) v = elim (in_order_or_improves inputs [] c cs v (omega arith)) [
  | inl w ↦ inl w
  | inr z ↦ settles_from inputs [] (c ∷ cs) v z
]
