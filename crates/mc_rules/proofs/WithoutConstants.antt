-- At outcomes 0 a list without constants in its signals does exactly what its standard form does.
use Rattle.std.proofs.Common.{◌≡◌, ℕ, ◌+◌, Bool, true, false, ◌&&◌, ◌||◌, List, [], ◌∷◌, refl, sym}
use Rattle.std.proofs.Common.{◌∙◌, ap, ap₂, arith}
use Rattle.std.specs.Prelude.{nat_eq}
use Rattle.std.specs.List.{list_any}
use Rattle.std.proofs.lemmas.Bool.{cases_Bool, or_parts}
use mathlib.Core.Path.{fun_ext}
use mathlib.Core.Logic.{inl, inr}
use Rattle.mc_model.specs.Phase.{PhaseOps, PhaseLaws, turn, sign, negated, measured_angle}
use Rattle.mc_model.specs.Bits.{◌⊻◌, Bits, replaced, all_zero}
use Rattle.mc_model.specs.Signals.{Signal, value, no_signal, signal_sum, Signals}
use Rattle.mc_model.specs.Pattern.{Command, Prep, Ent, Meas, FixX, FixZ, Pattern, has_constant}
use Rattle.mc_model.specs.Amplitude.{Amps, act, after, start, amp, placed, branch_map, zero_branch}
use Rattle.mc_model.specs.Valid.{prepared, IsValid, IsValidPattern}
use Rattle.mc_model.specs.StandardForm.{standard_commands, standard_form}
use Rattle.mc_model.proofs.BitLemmas.{xor_false, replaced_itself}
use Rattle.mc_model.proofs.SignalLemmas.{reset, zero_value}
use Rattle.mc_model.proofs.ValidInPlace.{InPlace, valid_in_place}
use Rattle.mc_rules.specs.OnePass.{joined, handed, carried}
use Rattle.mc_rules.proofs.Stripped.{stripped}
use Rattle.mc_rules.proofs.CorrectionFrames.{frame, values}
use Rattle.mc_rules.proofs.StandardAlike.{standard_splits, no_frame}

-- no signal has the constant
abbrev Plain : Signals → Type 0
Plain xs = (q : ℕ) → (xs q).constant ≡ false

plain_reset : (xs : Signals) (q : ℕ) (s : Signal) → Plain xs → s.constant ≡ false →
    Plain (reset xs q s)
plain_reset xs q s plain e k = elim (cases_Bool (nat_eq k q))
    [ inl f ↦ rw f e | inr f ↦ rw f (plain k) ]

plain_joined : (xs : Signals) (q : ℕ) (s : Signal) → Plain xs → s.constant ≡ false →
    Plain (joined xs q s)
plain_joined xs q s plain e =
    plain_reset xs q (signal_sum (xs q) s) plain (ap₂ (λ (a b : Bool). a ⊻ b) (plain q) e)

plain_handed : (xs zs : Signals) (i j : ℕ) → Plain xs → Plain zs → Plain (handed xs zs i j)
plain_handed xs zs i j px pz =
    plain_joined (joined zs i (xs j)) j (xs i) (plain_joined zs i (xs j) pz (px j)) (px i)

plain_value : (s : Signal) → s.constant ≡ false → value s all_zero ≡ false
plain_value s e = zero_value s ∙ e

-- what is carried has no constant
carried_plain : (xs zs : Signals) (cs : List Command) → Plain xs → Plain zs →
    list_any has_constant cs ≡ false → Plain (carried xs zs cs).0 × Plain (carried xs zs cs).1
unfolding carried
carried_plain xs zs [] px pz none = (px, pz)
carried_plain xs zs (Prep q ∷ cs) px pz none = carried_plain xs zs cs px pz none
carried_plain xs zs (Ent i j ∷ cs) px pz none =
    carried_plain xs (handed xs zs i j) cs px (plain_handed xs zs i j px pz) none
carried_plain xs zs (FixX q s ∷ cs) px pz none =
    let parts = or_parts s.constant (list_any has_constant cs) none in
    carried_plain (joined xs q s) zs cs (plain_joined xs q s px parts.0) pz parts.1
carried_plain xs zs (FixZ q s ∷ cs) px pz none =
    let parts = or_parts s.constant (list_any has_constant cs) none in
    carried_plain xs (joined zs q s) cs px (plain_joined zs q s pz parts.0) parts.1
carried_plain xs zs (Meas i a s t ∷ cs) px pz none =
    let parts = or_parts (s.constant || t.constant) (list_any has_constant cs) none in
    carried_plain (reset xs i no_signal) (reset zs i no_signal) cs
    (plain_reset xs i no_signal px refl) (plain_reset zs i no_signal pz refl) parts.1

module _ {E : Type 0} (ops : PhaseOps E) (laws : PhaseLaws ops) where
  plain_x : (q : ℕ) (s : Signal) (f : Amps E) → s.constant ≡ false →
      act ops all_zero (FixX q s) f ≡ f
  unfolding act
  plain_x q s f e = fun_ext λ x.
      ap (λ (b : Bool). f (replaced x q (x q ⊻ b))) (plain_value s e)
      ∙ ap (λ (b : Bool). f (replaced x q b)) (xor_false (x q))
      ∙ ap f (replaced_itself x q)

  plain_z : (q : ℕ) (s : Signal) (f : Amps E) → s.constant ≡ false →
      act ops all_zero (FixZ q s) f ≡ f
  unfolding act
  plain_z q s f e = fun_ext λ x. signed (x q) (value s all_zero) (plain_value s e) (f x)
    where
      signed : (b c : Bool) → c ≡ false → (y : E) → sign ops (b && c) y ≡ y
      signed true c e y = ap (λ (d : Bool). sign ops d y) e
      signed false c e y = refl

  plain_meas : (i a : ℕ) (s t u v : Signal) (f : Amps E) → s.constant ≡ u.constant →
      t.constant ≡ v.constant →
      act ops all_zero (Meas i a s t) f ≡ act ops all_zero (Meas i a u v) f
  unfolding act
  plain_meas i a s t u v f e g = fun_ext λ x.
      ap₂ (λ (b c : Bool). ops.add (f (replaced x i false))
      (turn ops (negated ops.half (measured_angle ops.half a b c)) (f (replaced x i true))))
      (zero_value s ∙ e ∙ sym (zero_value u)) (zero_value t ∙ g ∙ sym (zero_value v))

  -- at outcomes 0 the corrections may be left out
  stripped_plain : (xs zs : Signals) (cs : List Command) (f : Amps E) → Plain xs → Plain zs →
      list_any has_constant cs ≡ false →
      after ops all_zero (stripped xs zs cs) f ≡ after ops all_zero cs f
  unfolding after stripped
  stripped_plain xs zs [] f px pz none = refl
  stripped_plain xs zs (Prep q ∷ cs) f px pz none =
      stripped_plain xs zs cs (act ops all_zero (Prep q) f) px pz none
  stripped_plain xs zs (Ent i j ∷ cs) f px pz none =
      stripped_plain xs (handed xs zs i j) cs (act ops all_zero (Ent i j) f) px
      (plain_handed xs zs i j px pz) none
  stripped_plain xs zs (FixX q s ∷ cs) f px pz none =
      let parts = or_parts s.constant (list_any has_constant cs) none in
      stripped_plain (joined xs q s) zs cs f (plain_joined xs q s px parts.0) pz parts.1
      ∙ ap (after ops all_zero cs) (sym (plain_x q s f parts.0))
  stripped_plain xs zs (FixZ q s ∷ cs) f px pz none =
      let parts = or_parts s.constant (list_any has_constant cs) none in
      stripped_plain xs (joined zs q s) cs f px (plain_joined zs q s pz parts.0) parts.1
      ∙ ap (after ops all_zero cs) (sym (plain_z q s f parts.0))
  stripped_plain xs zs (Meas i a s t ∷ cs) f px pz none =
      let parts = or_parts (s.constant || t.constant) (list_any has_constant cs) none in
      stripped_plain (reset xs i no_signal) (reset zs i no_signal) cs
      (act ops all_zero (Meas i a (signal_sum s (xs i)) (signal_sum t (zs i))) f)
      (plain_reset xs i no_signal px refl) (plain_reset zs i no_signal pz refl) parts.1
      ∙ ap (after ops all_zero cs) (plain_meas i a (signal_sum s (xs i)) (signal_sum t (zs i)) s t f
      (ap (λ (b : Bool). s.constant ⊻ b) (px i) ∙ xor_false s.constant)
      (ap (λ (b : Bool). t.constant ⊻ b) (pz i) ∙ xor_false t.constant))

  pub plain_standard : (inputs : ℕ) (cs : List Command) (f : Amps E) (x : Bits) →
      IsValid inputs cs → list_any has_constant cs ≡ false →
      after ops all_zero cs f x ≡ after ops all_zero (standard_commands inputs cs) f x
  unfolding values
  plain_standard inputs cs f x v none =
      let n : ℕ = inputs + prepared cs in
      let empty : Signals = λ q. no_signal in
      let place : InPlace n cs = valid_in_place inputs n [] cs v (omega arith) in
      let plain = carried_plain empty empty cs (λ q. refl) (λ q. refl) none in
      let bare : Amps E = after ops all_zero (stripped empty empty cs) f in
      ap (λ (g : Amps E). g x) (sym (stripped_plain empty empty cs f (λ q. refl) (λ q. refl) none))
      ∙ sym (standard_splits ops laws all_zero inputs cs f x place
      ∙ ap₂ (λ (px pz : Bits). frame ops laws n px pz bare x)
      (fun_ext λ k. plain_value ((carried empty empty cs).0 k) (plain.0 k)
      ∙ sym (plain_value no_signal refl))
      (fun_ext λ k. plain_value ((carried empty empty cs).1 k) (plain.1 k)
      ∙ sym (plain_value no_signal refl))
      ∙ no_frame ops laws all_zero n bare x)

  pub zero_branch_of_standard : (p : Pattern) → IsValidPattern p →
      list_any has_constant p.commands ≡ false → (y : List Bool) (b : Bits) →
      zero_branch ops (standard_form p) y b ≡ zero_branch ops p y b
  unfolding branch_map amp standard_form
  zero_branch_of_standard p v none y b =
      sym (plain_standard p.inputs p.commands (start ops p.inputs b) (placed p.outputs y)
      v.commands none)
