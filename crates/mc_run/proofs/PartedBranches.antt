-- Branches that part at a measurement.
use Rattle.std.proofs.Common.{◌≡◌, ℕ, zero, suc, ◌+◌, ◌-◌, ◌*◌, ◌/◌, ◌%◌, ◌^◌, ◌<◌}
use Rattle.std.proofs.Common.{◌≤◌, Bool, true}
use Rattle.std.proofs.Common.{false, cond, ◌||◌, ℤ, List, [], ◌∷◌, ◌++◌, length, map, take, drop}
use Rattle.std.proofs.Common.{slice_index_or, refl, sym, subst, ap, ap₂, ◌∙◌, arith, append_assoc}
use Rattle.std.proofs.Common.{length-append}
use Rattle.std.specs.Prelude.{nat_eq, count_by, All, set}
use Rattle.std.proofs.lemmas.List.Elements.{All-head, All-tail}
use Rattle.std.proofs.Math.Nat.{pow-suc}
use Rattle.std.proofs.lemmas.Nat.{pow_pos, mul-add-lt}
use Rattle.std.proofs.lemmas.Bool.{eq-eqb, cases_eq, cases_lt}
use Rattle.std.proofs.lemmas.List.{get_or-append-add, get_or_append_left, take_all, set-set}
use Rattle.std.proofs.lemmas.List.Sums.{sum_by-cons}
use mathlib.Core.Logic.{inl, inr}
use Rattle.mc_model.specs.Bits.{◌⊻◌, parity, Bits, all_zero, replaced, bits_of}
use Rattle.mc_model.specs.Signals.{Signal, value}
use Rattle.mc_model.specs.Phase.{negated, measured_angle}
use Rattle.mc_model.specs.Pattern.{Command, Prep, Ent, Meas, FixX, FixZ, Pattern, measured_order}
use Rattle.mc_model.specs.Valid.{AllDone, FitsBehind, IsValid, IsValidPattern, measured}
use Rattle.mc_model.specs.Amplitude.{Amps, after, placed}
use Rattle.mc_model.proofs.BitLemmas.{replaced_same, replaced_other, replaced_swap}
use Rattle.mc_model.proofs.ValidLemmas.{next_measured, measured-append}
use Rattle.mc_run.specs.Exact.{Exact, phases}
use Rattle.mc_run.specs.Settings.{is_odd, spelled, weight, place_spelled}
use Rattle.mc_run.specs.Sources.{entry, half_where, IsStepped}
use Rattle.mc_run.specs.Gates.{command_step, live_behind, IsLiving}
use Rattle.mc_run.specs.Reports.{outcomes_of}
use Rattle.mc_run.specs.Branches.{CommandsLeft, over, branch_outcomes, AreColumns}
use Rattle.mc_run.specs.declared.step.Step.{Step}
use Rattle.mc_run.specs.declared.step.Step.TheVariants as steps
use Rattle.mc_run.proofs.Turns.{Obeys}
use Rattle.mc_run.proofs.MeasuringOrder.{order_none, order_listed, order_long}
use Rattle.mc_run.proofs.CommandsLeft.{command_next, commands_over}
use Rattle.mc_run.proofs.Pairs.{whole_div, below_width}
use Rattle.mc_run.proofs.Outputs.{spelled_setting, spelled_below}

-- ---- outcomes that agree where it matters

parity_agrees : (m o p : Bits) (qs : List ℕ) → ((q : ℕ) → m q ≡ true → o q ≡ p q) →
    AllDone m qs → parity qs o ≡ parity qs p
unfolding parity
parity_agrees m o p [] h d = refl
parity_agrees m o p (q ∷ qs) h d =
    ap₂ (λ a b. a ⊻ b) (h q d.0) (parity_agrees m o p qs h d.1)

value_agrees : (m o p : Bits) (s : Signal) → ((q : ℕ) → m q ≡ true → o q ≡ p q) →
    AllDone m s.members → value s o ≡ value s p
unfolding value
value_agrees m o p s h d = ap (λ b. s.constant ⊻ b) (parity_agrees m o p s.members h d)

step_agrees : (half inputs : ℕ) (live : List ℕ) (before : List Command) (c : Command) (o p : Bits) →
    FitsBehind inputs before c → ((q : ℕ) → measured before q ≡ true → o q ≡ p q) →
    ((q : ℕ) → measured (before ++ (c ∷ [])) q ≡ true → o q ≡ p q) →
    command_step half live o c ≡ command_step half live p c
step_agrees half inputs live before (Prep q) o p fits h k = refl
step_agrees half inputs live before (Ent q r) o p fits h k = refl
step_agrees half inputs live before (FixX q s) o p fits h k =
    ap (steps.X (weight live q)) (value_agrees (measured before) o p s h fits.1.is_done)
step_agrees half inputs live before (FixZ q s) o p fits h k =
    ap (steps.Z (weight live q)) (value_agrees (measured before) o p s h fits.1.is_done)
step_agrees half inputs live before (Meas q a s t) o p fits h k =
    let own : o q ≡ p q =
    k q (ap (λ f. f q) (next_measured before q a s t) ∙ replaced_same (measured before) q true) in
    ap₂ (λ b c. steps.Meas (weight live q)
    (negated half (measured_angle half a b c) + half_where half (o q)))
    (value_agrees (measured before) o p s h fits.1.is_done)
    (value_agrees (measured before) o p t h fits.2.is_done)
    ∙ ap (λ b. steps.Meas (weight live q)
    (negated half (measured_angle half a (value s p) (value t p)) + half_where half b)) own

over_misses : (qs : List ℕ) (o : Bits) (ys : List Bool) (q : ℕ) → count_by (nat_eq q) qs ≡ 0 →
    over o qs ys q ≡ o q
over_misses [] o ys q e = refl
over_misses (p ∷ ps) o [] q e = refl
over_misses (p ∷ ps) o (y ∷ ys) q e =
    let sum = sum_by-cons (λ k. cond {A = ℕ} (nat_eq q k) 1 0) p ps in
    elim (cases_eq q p) [
      | inl same ↦
          let one : cond {A = ℕ} (nat_eq q p) 1 0 ≡ 1 = ap (λ b. cond b 1 0) (eq-eqb q p same) in
          absurd (omega arith)
      | inr ne ↦
          over_misses ps (replaced o p y) ys q (omega arith) ∙ replaced_other o p y q ne
    ]

-- ---- numbers of branches

div_more : (m j w : ℕ) → 0 < w → (m * w + j) / w ≡ m + j / w
div_more m j w some =
    let e : j ≡ j / w * w + j % w = grind arith in
    let s : m * w + (j / w * w + j % w) ≡ (m + j / w) * w + j % w = grind arith in
    ap (λ n. (m * w + n) / w) e
    ∙ ap (λ n. n / w) s
    ∙ whole_div (m + j / w) (j % w) w (below_width j w some)

spelled_more : (n m j : ℕ) → spelled n (m * 2 ^ n + j) ≡ spelled n j
spelled_more zero m j = refl
spelled_more (suc n) m j =
    let w : ℕ = 2 ^ n in
    let some : 0 < w = pow_pos n in
    let p : 2 ^ suc n ≡ 2 * w = pow-suc 2 n ∙ omega arith in
    let twice : m * (2 * w) ≡ 2 * m * w = grind arith in
    let all : m * 2 ^ suc n + j ≡ 2 * m * w + j =
    ap (λ k. m * k + j) p ∙ ap (λ k. k + j) twice in
    let over_it : (2 * m * w + j) / w ≡ 2 * m + j / w = div_more (2 * m) j w some in
    let low : (2 * m + j / w) % 2 ≡ j / w % 2 = omega arith in
    ap (λ k. is_odd (k / w) ∷ spelled n k) all
    ∙ ap₂ (λ k t. nat_eq k 1 ∷ t) (ap (λ k. k % 2) over_it ∙ low) (spelled_more n (2 * m) j)

low_branch : (n i : ℕ) → i < 2 ^ n → is_odd (i / 2 ^ n) ≡ false
low_branch n i h =
    let w : ℕ = 2 ^ n in
    let z : i ≡ 0 * w + i = grind arith in
    ap is_odd (ap (λ k. k / w) z ∙ whole_div 0 i w h)

high_branch : (n j : ℕ) → j < 2 ^ n → is_odd ((1 * 2 ^ n + j) / 2 ^ n) ≡ true
high_branch n j h =
    ap is_odd (whole_div 1 j (2 ^ n) h)

module _ (ring : Exact) (Is : List ℤ → Type 0) (inputs : ℕ) (all : List Command) (outputs : List ℕ)
  where
    -- the same place in another branch
    pub at_other : (o : Bits) (end : Amps (List ℤ)) (left : List Command) (live : List ℕ)
        (v : List (List ℤ)) (here : CommandsLeft ring Is o inputs all end left live v) (p : Bits) →
        CommandsLeft ring Is p inputs all (after (phases ring) p left here.amps) left live v
    at_other o end left live v here p = record {
      done = here.done;
      split = here.split;
      amps = here.amps;
      height = here.height;
      holds = here.holds;
      rest = refl;
      count = here.count;
      living = here.living;
      there = here.there;
      ignores = here.ignores;
    }

    module _ (laws : Obeys ring Is) (valid : IsValid inputs all) (left : List Command) (live : List ℕ)
        (v : List (List ℤ)) where
      -- a command that was done at the outcomes so far was done at those of every branch
      pub branch_next : (c : Command) (o : Bits) (i : ℕ) (end : Amps (List ℤ))
          (next : List (List ℤ)) →
          CommandsLeft ring Is (branch_outcomes o left i) inputs all end (c ∷ left) live v →
          length next ≡ 2 ^ length (live_behind live c) →
          IsStepped ring Is (command_step ring.half live o c) v next →
          CommandsLeft ring Is (branch_outcomes o left i) inputs all end left (live_behind live c) next
      branch_next c o i end next here long stepped =
          let p : Bits = branch_outcomes o left i in
          let behind : all ≡ (here.done ++ (c ∷ [])) ++ left =
          here.split ∙ sym (append_assoc here.done (c ∷ []) left) in
          let later : (q : ℕ) → measured (here.done ++ (c ∷ [])) q ≡ true → o q ≡ p q =
          λ q m. sym (over_misses (measured_order left) o
          (spelled (length (measured_order left)) i) q
          (order_none inputs all valid left (here.done ++ (c ∷ [])) q behind m)) in
          let before : (q : ℕ) → measured here.done q ≡ true → o q ≡ p q =
          λ q m. later q (measured-append here.done (c ∷ []) q
          ∙ ap (λ b. b || measured (c ∷ []) q) m) in
          command_next ring Is laws p inputs all valid end live v c left next here long
          (subst (λ s. IsStepped ring Is s v next)
          (step_agrees ring.half inputs live here.done c o p
          (valid.at here.done c left here.split) before later) stepped)

      pub columns_straight : (c : Command) (o : Bits) (next columns : List (List ℤ)) →
          measured_order (c ∷ left) ≡ measured_order left →
          length next ≡ 2 ^ length (live_behind live c) →
          IsStepped ring Is (command_step ring.half live o c) v next →
          AreColumns ring Is o inputs all left outputs (live_behind live c) next columns →
          AreColumns ring Is o inputs all (c ∷ left) outputs live v columns
      columns_straight c o next columns order long stepped are = record {
        long = are.long ∙ ap (λ qs. 2 ^ length qs * 2 ^ length outputs) (sym order);
        at = λ i end h here.
            are.at i end (subst (λ qs. i < 2 ^ length qs) order h)
            (branch_next c o i end next
            (subst (λ qs. CommandsLeft ring Is (over o qs (spelled (length qs) i)) inputs all end
            (c ∷ left) live v) order here) long stepped);
      }

      -- the columns of both outcomes
      pub columns_forked : (q a : ℕ) (s t : Signal) (o : Bits) (low high : List (List ℤ))
          (columns more : List (List ℤ)) →
          length low ≡ 2 ^ length (live_behind live (Meas q a s t)) →
          length high ≡ 2 ^ length (live_behind live (Meas q a s t)) →
          IsStepped ring Is (command_step ring.half live (replaced o q false) (Meas q a s t)) v low →
          IsStepped ring Is (command_step ring.half live (replaced o q true) (Meas q a s t)) v high →
          AreColumns ring Is (replaced o q false) inputs all left outputs
          (live_behind live (Meas q a s t)) low columns →
          AreColumns ring Is (replaced o q true) inputs all left outputs
          (live_behind live (Meas q a s t)) high more →
          AreColumns ring Is o inputs all (Meas q a s t ∷ left) outputs live v (columns ++ more)
      columns_forked q a s t o low high columns more long_low long_high at_low at_high first second =
          record { long = long; at = at }
        where
          n : ℕ
          n = length (measured_order left)

          c : Command
          c = Meas q a s t

          both : 2 ^ suc n ≡ 2 * 2 ^ n
          both = pow-suc 2 n ∙ omega arith

          long : length (columns ++ more) ≡ 2 ^ suc n * 2 ^ length outputs
          long =
              let e : 2 * 2 ^ n * 2 ^ length outputs
              ≡ 2 ^ n * 2 ^ length outputs + 2 ^ n * 2 ^ length outputs = grind arith in
              length-append columns more ∙ ap₂ (λ x y. x + y) first.long second.long ∙ sym e
              ∙ ap (λ k. k * 2 ^ length outputs) (sym both)

          -- a branch by its first outcome and the others
          at_bit : (i : ℕ) (b : Bool) (end : Amps (List ℤ)) → is_odd (i / 2 ^ n) ≡ b →
              CommandsLeft ring Is (branch_outcomes o (c ∷ left) i) inputs all end (c ∷ left) live v →
              CommandsLeft ring Is (branch_outcomes (replaced o q b) left i) inputs all end (c ∷ left)
              live v
          at_bit i b end e here =
              subst (λ k. CommandsLeft ring Is (over (replaced o q k) (measured_order left) (spelled n i))
              inputs all end (c ∷ left) live v) e here

          at : (i : ℕ) (end : Amps (List ℤ)) → i < 2 ^ suc n →
              CommandsLeft ring Is (branch_outcomes o (c ∷ left) i) inputs all end (c ∷ left) live v →
              (y : ℕ) → y < 2 ^ length outputs →
              entry (columns ++ more) (i * 2 ^ length outputs + y)
              ≡ end (placed outputs (spelled (length outputs) y))
          at i end h here y k = elim (cases_lt i (2 ^ n)) [
            | inl l ↦
                let inside = mul-add-lt i (2 ^ length outputs) y (2 ^ n) l k in
                let e : 2 ^ length outputs * 2 ^ n ≡ 2 ^ n * 2 ^ length outputs = grind arith in
                get_or_append_left columns more [] (i * 2 ^ length outputs + y)
                (omega (arith, first.long))
                ∙ first.at i end l
                (branch_next c (replaced o q false) i end low
                (at_bit i false end (low_branch n i l) here) long_low at_low) y k
            | inr g ↦
                let j : ℕ = i - 2 ^ n in
                let i_is : i ≡ 1 * 2 ^ n + j = omega arith in
                let l : j < 2 ^ n = omega (arith, both) in
                let there : i * 2 ^ length outputs + y
                ≡ length columns + (j * 2 ^ length outputs + y) =
                (let e : (1 * 2 ^ n + j) * 2 ^ length outputs
                ≡ 2 ^ n * 2 ^ length outputs + j * 2 ^ length outputs = grind arith in
                ap (λ m. m * 2 ^ length outputs + y) i_is
                ∙ omega (arith, e, first.long)) in
                ap (entry (columns ++ more)) there
                ∙ get_or-append-add columns more (j * 2 ^ length outputs + y) []
                ∙ second.at j end l
                (branch_next c (replaced o q true) j end high
                (subst (λ ys. CommandsLeft ring Is (over (replaced o q true) (measured_order left) ys)
                inputs all end (c ∷ left) live v)
                (ap (spelled n) i_is ∙ spelled_more n 1 j)
                (at_bit i true end
                (ap (λ m. is_odd (m / 2 ^ n)) i_is ∙ high_branch n j l) here)) long_high at_high) y k
          ]

      -- the same of a command that is a measurement
      abbrev Parted : Bits → ℕ → (List (List ℤ)) → (List (List ℤ)) → (List (List ℤ)) →
          (List (List ℤ)) → Command → Type 0
      Parted o q low high columns more c =
          length low ≡ 2 ^ length (live_behind live c) →
          length high ≡ 2 ^ length (live_behind live c) →
          IsStepped ring Is (command_step ring.half live (replaced o q false) c) v low →
          IsStepped ring Is (command_step ring.half live (replaced o q true) c) v high →
          AreColumns ring Is (replaced o q false) inputs all left outputs (live_behind live c) low
          columns →
          AreColumns ring Is (replaced o q true) inputs all left outputs (live_behind live c) high
          more →
          AreColumns ring Is o inputs all (c ∷ left) outputs live v (columns ++ more)

      pub columns_parted : (c : Command) (q a : ℕ) (s t : Signal) → c ≡ Meas q a s t →
          (o : Bits) (low high columns more : List (List ℤ)) →
          length low ≡ 2 ^ length (live_behind live c) →
          length high ≡ 2 ^ length (live_behind live c) →
          IsStepped ring Is (command_step ring.half live (replaced o q false) c) v low →
          IsStepped ring Is (command_step ring.half live (replaced o q true) c) v high →
          AreColumns ring Is (replaced o q false) inputs all left outputs (live_behind live c) low
          columns →
          AreColumns ring Is (replaced o q true) inputs all left outputs (live_behind live c) high
          more →
          AreColumns ring Is o inputs all (c ∷ left) outputs live v (columns ++ more)
      columns_parted c q a s t e o low high columns more =
          subst (Parted o q low high columns more) (sym e)
          (columns_forked q a s t o low high columns more)

-- ---- the outcomes of a branch, by its number

module _ (n : ℕ) where
  over_swapped : (qs : List ℕ) (o : Bits) (ys : List Bool) (q : ℕ) (y : Bool) →
      count_by (nat_eq q) qs ≡ 0 → over (replaced o q y) qs ys ≡ replaced (over o qs ys) q y
  over_swapped [] o ys q y e = refl
  over_swapped (p ∷ ps) o [] q y e = refl
  over_swapped (p ∷ ps) o (z ∷ zs) q y e =
      let sum = sum_by-cons (λ k. cond {A = ℕ} (nat_eq q k) 1 0) p ps in
      elim (cases_eq q p) [
        | inl same ↦
            let one : cond {A = ℕ} (nat_eq q p) 1 0 ≡ 1 =
            ap (λ b. cond b 1 0) (eq-eqb q p same) in
            absurd (omega arith)
        | inr ne ↦
            ap (λ x. over x ps zs) (sym (replaced_swap o p q z y (λ f. ne (sym f))))
            ∙ over_swapped ps (replaced o p z) zs q y (omega arith)
      ]

  pub over_placed : (qs : List ℕ) (ys : List Bool) → All (λ q. q < n) qs →
      ((q : ℕ) → q < n → count_by (nat_eq q) qs ≤ 1) → over all_zero qs ys ≡ placed qs ys
  unfolding placed
  over_placed [] ys below once = refl
  over_placed (q ∷ qs) [] below once = refl
  over_placed (q ∷ qs) (y ∷ ys) below once =
      let own = once q (All-head (λ r. r < n) q qs below) in
      let sum = sum_by-cons (λ k. cond {A = ℕ} (nat_eq q k) 1 0) q qs in
      let one : cond {A = ℕ} (nat_eq q q) 1 0 ≡ 1 = ap (λ b. cond b 1 0) (eq-eqb q q refl) in
      over_swapped qs all_zero ys q y (omega arith)
      ∙ ap (λ x. replaced x q y)
      (over_placed qs ys (All-tail (λ r. r < n) q qs below)
      (λ r h.
      let whole = once r h in
      let part = sum_by-cons (λ k. cond {A = ℕ} (nat_eq r k) 1 0) q qs in
      omega arith))

pub branch_is : (p : Pattern) → IsValidPattern p → (i : ℕ) →
    branch_outcomes all_zero p.commands i ≡ outcomes_of p i
branch_is p valid i =
    let listed = order_listed p valid in
    over_placed (length p.names) (measured_order p.commands)
    (spelled (length (measured_order p.commands)) i) listed.below
    (λ q h. (let e = listed.once q h in let b = few (measured p.commands q) in omega arith))
    ∙ ap (λ n. placed (measured_order p.commands) (spelled n i)) (order_long p valid)
  where
    few : (t : Bool) → cond {A = ℕ} t 1 0 ≤ 1
    few true = omega arith
    few false = omega arith

-- ---- slices of commands

pub first_command : {C : Type 0} (plain : C → Command) (cs : List C) (x : C) → 1 ≤ length cs →
    x ≡ slice_index_or cs 0 x →
    map plain cs ≡ plain x ∷ map plain (take (length cs - 1) (drop 1 cs))
first_command plain [] x some e = absurd (omega arith)
first_command plain (c ∷ cs) x some e =
    ap₂ (λ d t. plain d ∷ map plain t) (sym e) (sym (take_all _ cs (omega arith)))

pub no_command : {C : Type 0} (plain : C → Command) (cs : List C) → length cs < 1 →
    map plain cs ≡ []
no_command plain [] h = refl
no_command plain (c ∷ cs) h = absurd (omega arith)

pub put_back : (o : List Bool) (q : ℕ) → set o q (bits_of o q) ≡ o
put_back [] q = refl
put_back (b ∷ o) zero = refl
put_back (b ∷ o) (suc q) = ap (λ t. b ∷ t) (put_back o q)

pub restored : (o low high last : List Bool) (q : ℕ) (b : Bool) → b ≡ bits_of o q →
    low ≡ set o q false → high ≡ set low q true → last ≡ set high q b → last ≡ o
restored o low high last q b e f g h =
    h ∙ ap (λ t. set t q b) (g ∙ ap (λ t. set t q true) f ∙ set-set o q false true)
    ∙ set-set o q true b ∙ ap (set o q) e ∙ put_back o q

-- ---- a branch at its end

module _ (ring : Exact) (Is : List ℤ → Type 0) (inputs : ℕ) (all : List Command) (laws : Obeys ring Is)
    (valid : IsValid inputs all) (live : List ℕ) (v : List (List ℤ)) where
  pub columns_none : (o : Bits) (outputs : List ℕ) (columns : List (List ℤ)) →
      All (IsLiving live) outputs → length columns ≡ 2 ^ length outputs →
      ((y : ℕ) → y < 2 ^ length outputs →
      entry columns y ≡ entry v (place_spelled live outputs y)) →
      AreColumns ring Is o inputs all [] outputs live v columns
  columns_none o outputs columns living long values = record {
    long = long ∙ omega arith;
    at = λ i end h here y k.
        let over = commands_over ring Is laws (branch_outcomes o [] i) inputs all valid end live v here in
        let holds = over.1 in
        let first : i * 2 ^ length outputs + y ≡ y =
        (let z : i ≡ 0 = omega arith in ap (λ n. n * 2 ^ length outputs + y) z ∙ omega arith) in
        ap (entry columns) first ∙ values y k
        ∙ holds.same (place_spelled live outputs y)
        (let b = spelled_below live outputs y living in let l = holds.long in omega arith)
        ∙ ap end (spelled_setting live outputs y living);
  }
