-- Base angles and constants of the sums of a pattern's signals, when one more command is taken.
use Rattle.std.proofs.Common.{◌≡◌, ℕ, zero, suc, ◌<◌, Bool, true, false, cond, ◌&&◌, List, [], ◌∷◌}
use Rattle.std.proofs.Common.{◌++◌, length, replicate, Some, None, refl, sym, ◌∙◌, ap, ap₂, arith}
use Rattle.std.proofs.Common.{set, map, not, ◌*◌, ◌%◌, slice_index_or, append_assoc, append-nil}
use Rattle.std.proofs.Common.{get_or-set_same, get_or-set_other}
use Rattle.std.specs.Prelude.{Option, nat_eq, All, option_map, is_none}
use Rattle.std.proofs.lemmas.Bool.{eq-eqb, ne_eqb, eqb-true, cases_eq, cases_Bool, or_parts}
use Rattle.std.proofs.lemmas.Bool.{true≢false}
use Rattle.std.proofs.lemmas.List.{length-set, length-replicate, length-map}
use mathlib.Core.Logic.{inl, inr}
use Rattle.mc_model.specs.Bits.{◌⊻◌}
use Rattle.mc_model.specs.Signals.{Signal, no_signal}
use Rattle.mc_model.specs.Pattern.{Command, Prep, Ent, Meas, FixX, FixZ}
use Rattle.mc_model.specs.Valid.{measured, FitsBehind}
use Rattle.mc_model.specs.StandardForm.{sum_over_places, x_part, first_part, second_part, x_sum}
use Rattle.mc_model.specs.StandardForm.{first_sum, second_sum}
use Rattle.mc_model.specs.Graph.{Fixed, not_fixed, angle_in, constants_at, turned_angle}
use Rattle.mc_model.proofs.BitLemmas.{xor_assoc, xor_false}
use Rattle.mc_pattern.specs.Rules.{operands}
use Rattle.std.proofs.lemmas.List.Elements.{All-head, All-tail}
use Rattle.mc_graph.specs.declared.fixed.Fixed as kept
use Rattle.mc_graph.specs.declared.label.Label.{Label}
use Rattle.mc_model.specs.Phase.{measured_angle}
use Rattle.mc_graph.specs.Graphs.{plain_fixed}
use Rattle.mc_graph.proofs.MappedReads.{read_mapped}
use Rattle.mc_graph.proofs.PatternGraphs.{angle_where_measured}
use Rattle.mc_graph.specs.Sums.{no_label, label_at, with_constants, with_base, taken_labels, settle}
use Rattle.mc_graph.specs.Sums.{settled, AreSums, AreSettled}

-- ---- constants of sums over places

constant_last : (part : List Command → Command → Signal) (before cs : List Command)
    (c : Command) →
    (sum_over_places part before (cs ++ (c ∷ []))).constant
    ≡ (sum_over_places part before cs).constant ⊻ (part (before ++ cs) c).constant
unfolding sum_over_places
constant_last part before [] c =
    xor_false (part before c).constant
    ∙ ap (λ (ds : List Command). (part ds c).constant) (sym (append-nil before))
constant_last part before (d ∷ cs) c =
    ap (λ (b : Bool). (part before d).constant ⊻ b) (constant_last part (before ++ (d ∷ [])) cs c)
    ∙ sym (xor_assoc (part before d).constant
    (sum_over_places part (before ++ (d ∷ [])) cs).constant _)
    ∙ ap (λ (ds : List Command). ((part before d).constant
    ⊻ (sum_over_places part (before ++ (d ∷ [])) cs).constant) ⊻ (part ds c).constant)
    (append_assoc before (d ∷ []) cs)

-- where a qubit was not measured, its first sum has the signals of its `X` alone
x_is_first : (q : ℕ) (before cs : List Command) → measured cs q ≡ false →
    (sum_over_places (x_part q) before cs).constant
    ≡ (sum_over_places (first_part q) before cs).constant
unfolding sum_over_places x_part first_part measured
x_is_first q before [] none = refl
x_is_first q before (Prep r ∷ cs) none = x_is_first q (before ++ (Prep r ∷ [])) cs none
x_is_first q before (Ent r u ∷ cs) none = x_is_first q (before ++ (Ent r u ∷ [])) cs none
x_is_first q before (Meas r a s t ∷ cs) none =
    let parts = or_parts (nat_eq q r) (measured cs q) none in
    rw (parts.0) (x_is_first q (before ++ (Meas r a s t ∷ [])) cs parts.1)
x_is_first q before (FixX r s ∷ cs) none =
    ap (λ (b : Bool). (cond (nat_eq q r) s no_signal).constant ⊻ b)
    (x_is_first q (before ++ (FixX r s ∷ [])) cs none)
x_is_first q before (FixZ r s ∷ cs) none = x_is_first q (before ++ (FixZ r s ∷ [])) cs none

where_constant : (b : Bool) (s : Signal) → (cond b s no_signal).constant ≡ b && s.constant
where_constant true s = refl
where_constant false s = refl

-- ---- angles

angle_last : (cs : List Command) (r a : ℕ) (s t : Signal) (k : ℕ) → measured cs r ≡ false →
    angle_in (cs ++ (Meas r a s t ∷ [])) k ≡ cond (nat_eq k r) (Some a) (angle_in cs k)
unfolding angle_in measured
angle_last [] r a s t k none = refl
angle_last (Prep q ∷ cs) r a s t k none = angle_last cs r a s t k none
angle_last (Ent q u ∷ cs) r a s t k none = angle_last cs r a s t k none
angle_last (Meas q b u v ∷ cs) r a s t k none =
    let parts = or_parts (nat_eq r q) (measured cs r) none in
    elim (cases_Bool (nat_eq k q)) [
      | inl e ↦
          let other : nat_eq k r ≡ false = ne_eqb k r (λ d.
          absurd (true≢false (sym (eq-eqb r q (sym d ∙ eqb-true k q e)) ∙ parts.0))) in
          rw (e, other) refl
      | inr e ↦ rw e (angle_last cs r a s t k parts.1)
    ]
angle_last (FixX q u ∷ cs) r a s t k none = angle_last cs r a s t k none
angle_last (FixZ q u ∷ cs) r a s t k none = angle_last cs r a s t k none

angle_kept : (cs : List Command) (c : Command) (k : ℕ) → angle_in (c ∷ []) k ≡ None →
    angle_in (cs ++ (c ∷ [])) k ≡ angle_in cs k
unfolding angle_in
angle_kept [] c k none = none
angle_kept (Prep q ∷ cs) c k none = angle_kept cs c k none
angle_kept (Ent q r ∷ cs) c k none = angle_kept cs c k none
angle_kept (Meas q a s t ∷ cs) c k none =
    ap (λ (o : Option ℕ). cond (nat_eq k q) (Some a) o) (angle_kept cs c k none)
angle_kept (FixX q s ∷ cs) c k none = angle_kept cs c k none
angle_kept (FixZ q s ∷ cs) c k none = angle_kept cs c k none

-- ---- labels

set_at : {half : ℕ} (labels : List (Label half)) (q k : ℕ) (l : Label half) → q < length labels →
    label_at (set labels q l) k ≡ cond (nat_eq k q) l (label_at labels k)
set_at labels q k l within = elim (cases_eq k q) [
  | inl e ↦ rw (e, eq-eqb q q refl) (get_or-set_same labels q l no_label within)
  | inr ne ↦ rw (ne_eqb k q ne) (get_or-set_other labels q k l no_label ne)
]

module _ {half : ℕ} (labels : List (Label half)) (q k : ℕ) (within : q < length labels) where
  constants_angle : (x z : Bool) →
      (label_at (with_constants labels q x z) k).angle ≡ (label_at labels k).angle
  constants_angle x z = elim (cases_eq k q) [
    | inl e ↦ rw (set_at labels q k _ within, e, eq-eqb q q refl) refl
    | inr ne ↦ rw (set_at labels q k _ within, ne_eqb k q ne) refl
  ]

  constants_x : (x z : Bool) → (label_at (with_constants labels q x z) k).fixed.x
      ≡ (label_at labels k).fixed.x ⊻ (nat_eq k q && x)
  constants_x x z = elim (cases_eq k q) [
    | inl e ↦ rw (set_at labels q k _ within, e, eq-eqb q q refl) refl
    | inr ne ↦ rw (set_at labels q k _ within, ne_eqb k q ne)
        (sym (xor_false (label_at labels k).fixed.x))
  ]

  constants_z : (x z : Bool) → (label_at (with_constants labels q x z) k).fixed.z
      ≡ (label_at labels k).fixed.z ⊻ (nat_eq k q && z)
  constants_z x z = elim (cases_eq k q) [
    | inl e ↦ rw (set_at labels q k _ within, e, eq-eqb q q refl) refl
    | inr ne ↦ rw (set_at labels q k _ within, ne_eqb k q ne)
        (sym (xor_false (label_at labels k).fixed.z))
  ]

  base_angle_at : (a : ℕ) → (label_at (with_base labels q a) k).angle
      ≡ cond (nat_eq k q) (Some a) (label_at labels k).angle
  base_angle_at a = elim (cases_eq k q) [
    | inl e ↦ rw (set_at labels q k _ within, e, eq-eqb q q refl) refl
    | inr ne ↦ rw (set_at labels q k _ within, ne_eqb k q ne) refl
  ]

  base_fixed_at : (a : ℕ) → (label_at (with_base labels q a) k).fixed ≡ (label_at labels k).fixed
  base_fixed_at a = elim (cases_eq k q) [
    | inl e ↦ rw (set_at labels q k _ within, e, eq-eqb q q refl) refl
    | inr ne ↦ rw (set_at labels q k _ within, ne_eqb k q ne) refl
  ]

-- ---- the commands so far

no_label_at : {half : ℕ} (n q : ℕ) → label_at (replicate n (no_label {half = half})) q ≡ no_label
no_label_at zero q = refl
no_label_at (suc n) zero = refl
no_label_at (suc n) (suc q) = no_label_at n q

pub no_sums : (half n : ℕ) → AreSums {half = half} n [] (replicate n no_label)
unfolding angle_in first_sum second_sum sum_over_places
no_sums half n = record {
  long = length-replicate n no_label;
  angle = λ q. ap (λ (l : Label half). l.angle) (no_label_at n q);
  x = λ q. ap (λ (l : Label half). l.fixed.x) (no_label_at n q);
  z = λ q. ap (λ (l : Label half). l.fixed.z) (no_label_at n q);
}

nothing : (b : Bool) → b && false ≡ false
nothing b = grind arith

module _ {half : ℕ} (n inputs : ℕ) (cs : List Command) (labels : List (Label half))
    (sums : AreSums n cs labels) where
  -- a command whose qubit gets more constants
  more_constants : (q : ℕ) (x z : Bool) (c : Command) → q < n →
      ((k : ℕ) → angle_in (c ∷ []) k ≡ None) →
      ((k : ℕ) → (first_part k cs c).constant ≡ nat_eq k q && x) →
      ((k : ℕ) → (second_part k cs c).constant ≡ nat_eq k q && z) →
      AreSums n (cs ++ (c ∷ [])) (with_constants labels q x z)
  unfolding first_sum second_sum
  more_constants q x z c l bare first second =
      let long = sums.long in
      let within : q < length labels = omega arith in
      record {
        long = length-set labels q _ ∙ sums.long;
        angle = λ k.
            constants_angle labels q k within x z ∙ sums.angle k ∙ sym (angle_kept cs c k (bare k));
        x = λ k.
            constants_x labels q k within x z
            ∙ ap₂ (λ (a b : Bool). a ⊻ b) (sums.x k) (sym (first k))
            ∙ sym (constant_last (first_part k) [] cs c);
        z = λ k.
            constants_z labels q k within x z
            ∙ ap₂ (λ (a b : Bool). a ⊻ b) (sums.z k) (sym (second k))
            ∙ sym (constant_last (second_part k) [] cs c);
      }

  -- a command that adds nothing
  no_more : (c : Command) → ((k : ℕ) → angle_in (c ∷ []) k ≡ None) →
      ((k : ℕ) → (first_part k cs c).constant ≡ false) →
      ((k : ℕ) → (second_part k cs c).constant ≡ false) → AreSums n (cs ++ (c ∷ [])) labels
  unfolding first_sum second_sum
  no_more c bare first second = record {
    long = sums.long;
    angle = λ k. sums.angle k ∙ sym (angle_kept cs c k (bare k));
    x = λ k.
        sums.x k ∙ sym (xor_false (first_sum cs k).constant)
        ∙ ap (λ (b : Bool). (first_sum cs k).constant ⊻ b) (sym (first k))
        ∙ sym (constant_last (first_part k) [] cs c);
    z = λ k.
        sums.z k ∙ sym (xor_false (second_sum cs k).constant)
        ∙ ap (λ (b : Bool). (second_sum cs k).constant ⊻ b) (sym (second k))
        ∙ sym (constant_last (second_part k) [] cs c);
  }

  pair_bits : (p q a b x : Bool) → (x ⊻ (p && a)) ⊻ (q && b) ≡ x ⊻ ((p && a) ⊻ (q && b))
  pair_bits p q a b x = grind arith

  no_bits : (p q x : Bool) → (x ⊻ (p && false)) ⊻ (q && false) ≡ x
  no_bits p q x = grind arith

  x_now : (q : ℕ) → measured cs q ≡ false →
      (label_at labels q).fixed.x ≡ (x_sum q cs).constant
  unfolding first_sum x_sum
  x_now q none = sums.x q ∙ sym (x_is_first q [] cs none)

  taken_pair : (q r : ℕ) → q < n → r < n → measured cs q ≡ false → measured cs r ≡ false →
      AreSums n (cs ++ (Ent q r ∷ [])) (taken_labels (Ent q r) labels)
  unfolding first_sum second_sum first_part second_part angle_in
  taken_pair q r lq lr mq mr =
      let long = sums.long in
      let of_q : Bool = (label_at labels q).fixed.x in
      let of_r : Bool = (label_at labels r).fixed.x in
      let half_way : List (Label half) = with_constants labels q false of_r in
      let wq : q < length labels = omega arith in
      let same : length half_way ≡ length labels = length-set labels q _ in
      let wr : r < length half_way = omega arith in
      record {
        long = length-set half_way r _ ∙ same ∙ sums.long;
        angle = λ k.
            constants_angle half_way r k wr false of_q
            ∙ constants_angle labels q k wq false of_r
            ∙ sums.angle k ∙ sym (angle_kept cs (Ent q r) k refl);
        x = λ k.
            constants_x half_way r k wr false of_q
            ∙ ap (λ (b : Bool). b ⊻ (nat_eq k r && false)) (constants_x labels q k wq false of_r)
            ∙ no_bits (nat_eq k q) (nat_eq k r) (label_at labels k).fixed.x
            ∙ sums.x k ∙ sym (xor_false (first_sum cs k).constant)
            ∙ sym (constant_last (first_part k) [] cs (Ent q r));
        z = λ k.
            constants_z half_way r k wr false of_q
            ∙ ap (λ (b : Bool). b ⊻ (nat_eq k r && of_q)) (constants_z labels q k wq false of_r)
            ∙ pair_bits (nat_eq k q) (nat_eq k r) of_r of_q (label_at labels k).fixed.z
            ∙ ap₂ (λ (a b : Bool). a ⊻ b) (sums.z k)
            (ap₂ (λ (a b : Bool). a ⊻ b)
            (ap (λ (b : Bool). nat_eq k q && b) (x_now r mr)
            ∙ sym (where_constant (nat_eq k q) (x_sum r cs)))
            (ap (λ (b : Bool). nat_eq k r && b) (x_now q mq)
            ∙ sym (where_constant (nat_eq k r) (x_sum q cs))))
            ∙ sym (constant_last (second_part k) [] cs (Ent q r));
      }

  taken_measurement : (q a : ℕ) (s t : Signal) → q < n → measured cs q ≡ false →
      AreSums n (cs ++ (Meas q a s t ∷ [])) (taken_labels (Meas q a s t) labels)
  unfolding first_sum second_sum first_part second_part
  taken_measurement q a s t l none =
      let long = sums.long in
      let based : List (Label half) = with_base labels q a in
      let w : q < length labels = omega arith in
      let same : length based ≡ length labels = length-set labels q _ in
      let wb : q < length based = omega arith in
      record {
        long = length-set based q _ ∙ same ∙ sums.long;
        angle = λ k.
            constants_angle based q k wb s.constant t.constant
            ∙ base_angle_at labels q k w a
            ∙ ap (λ (o : Option ℕ). cond (nat_eq k q) (Some a) o) (sums.angle k)
            ∙ sym (angle_last cs q a s t k none);
        x = λ k.
            constants_x based q k wb s.constant t.constant
            ∙ ap₂ (λ (b c : Bool). b ⊻ c)
            (ap (λ (f : kept.Fixed). f.x) (base_fixed_at labels q k w a) ∙ sums.x k)
            (sym (where_constant (nat_eq k q) s))
            ∙ sym (constant_last (first_part k) [] cs (Meas q a s t));
        z = λ k.
            constants_z based q k wb s.constant t.constant
            ∙ ap₂ (λ (b c : Bool). b ⊻ c)
            (ap (λ (f : kept.Fixed). f.z) (base_fixed_at labels q k w a) ∙ sums.z k)
            (sym (where_constant (nat_eq k q) t))
            ∙ sym (constant_last (second_part k) [] cs (Meas q a s t));
      }

  pub taken_sums : (c : Command) → FitsBehind inputs cs c →
      All (λ q. q < n) (operands c) → AreSums n (cs ++ (c ∷ [])) (taken_labels c labels)
  unfolding first_part second_part angle_in
  taken_sums (Prep q) fits below = no_more (Prep q) (λ k. refl) (λ k. refl) (λ k. refl)
  taken_sums (Ent q r) fits below =
      taken_pair q r (All-head (λ k. k < n) q (r ∷ []) below)
      (All-head (λ k. k < n) r [] (All-tail (λ k. k < n) q (r ∷ []) below))
      fits.0.is_not_measured fits.1.is_not_measured
  taken_sums (Meas q a s t) fits below =
      taken_measurement q a s t (All-head (λ k. k < n) q [] below) fits.0.is_not_measured
  taken_sums (FixX q s) fits below =
      more_constants q s.constant false (FixX q s) (All-head (λ k. k < n) q [] below) (λ k. refl)
      (λ k. where_constant (nat_eq k q) s) (λ k. sym (nothing (nat_eq k q)))
  taken_sums (FixZ q s) fits below =
      more_constants q false s.constant (FixZ q s) (All-head (λ k. k < n) q [] below) (λ k. refl)
      (λ k. sym (nothing (nat_eq k q))) (λ k. where_constant (nat_eq k q) s)

-- ---- the labels of the graph

read_again : {A : Type 0} (xs : List A) (q : ℕ) (d : A) → q < length xs →
    slice_index_or xs q d ≡ slice_index_or xs q (slice_index_or xs q d)
read_again [] q d l = absurd (omega arith)
read_again (x ∷ xs) zero d l = refl
read_again (x ∷ xs) (suc q) d l = read_again xs q d (omega arith)

settle_angle : {half : ℕ} (o : Option ℕ) (l : Label half) → l.angle ≡ o →
    (settle o l).angle ≡ option_map
    (λ a. measured_angle half a l.fixed.x l.fixed.z % (2 * half)) o
settle_angle None l e = e
settle_angle (Some a) l e = refl

settle_fixed : {half : ℕ} (o : Option ℕ) (l : Label half) →
    plain_fixed (settle o l).fixed ≡ cond (is_none o) (plain_fixed l.fixed) not_fixed
settle_fixed None l = refl
settle_fixed (Some a) l = refl

not_cond : {A : Type 0} (b : Bool) (x y : A) → cond (not b) x y ≡ cond b y x
not_cond true x y = refl
not_cond false x y = refl

module _ {half : ℕ} (n : ℕ) (cs : List Command) (sums : List (Label half))
    (h : AreSums n cs sums) where
  label_mapped : (q : ℕ) → q < n → label_at (map settled sums) q ≡ settled (label_at sums q)
  label_mapped q l =
      let long = h.long in
      let within : q < length sums = omega arith in
      read_mapped settled sums q (label_at sums q) no_label within
      (read_again sums q no_label within)

  pub settled_sums : AreSettled n cs (map settled sums)
  settled_sums = record {
    long = length-map sums settled ∙ h.long;
    angle = λ q l.
        ap (λ (k : Label half). k.angle) (label_mapped q l)
        ∙ settle_angle (label_at sums q).angle (label_at sums q) refl
        ∙ ap₂ (λ (x z : Bool). option_map (λ a. measured_angle half a x z % (2 * half))
        (label_at sums q).angle) (h.x q) (h.z q)
        ∙ ap (option_map (turned_angle half cs q)) (h.angle q);
    fixed = λ q l.
        ap (λ (k : Label half). plain_fixed k.fixed) (label_mapped q l)
        ∙ settle_fixed (label_at sums q).angle (label_at sums q)
        ∙ ap₂ (λ (o : Option ℕ) (f : Fixed). cond (is_none o) f not_fixed) (h.angle q)
        (ap₂ (λ (x z : Bool). record { x = x; z = z }) (h.x q) (h.z q))
        ∙ ap (λ (b : Bool). cond b (constants_at cs q) not_fixed) (angle_where_measured cs q)
        ∙ not_cond (measured cs q) (constants_at cs q) not_fixed;
  }
