-- A measurement with its corrections, as a measurement behind what the corrections do.
use Rattle.std.proofs.Common.{◌≡◌, ℕ, ◌<◌, Bool, true, false, ◌&&◌, not, List, map, refl, sym, ◌∙◌}
use Rattle.std.proofs.Common.{ap, ap₂, arith}
use Rattle.std.specs.Prelude.{nat_eq, unwrap_or}
use Rattle.std.proofs.lemmas.Bool.{eq-eqb, ne_eqb, cases_eq}
use mathlib.Core.Path.{fun_ext}
use mathlib.Core.Logic.{inl, inr}
use Rattle.mc_model.specs.Phase.{PhaseOps, PhaseLaws, turn, sign, negated, measured_angle}
use Rattle.mc_model.specs.Bits.{◌⊻◌, Bits, replaced, parity, all_zero, odd}
use Rattle.mc_model.specs.Numbers.{numbers_where}
use Rattle.mc_model.specs.Signals.{Signal, value, signal_of}
use Rattle.mc_model.specs.Pattern.{Command, FixX, FixZ}
use Rattle.mc_model.specs.Amplitude.{Amps, act, after}
use Rattle.mc_model.specs.Graph.{OpenGraph, size, base_angle, odd_neighbourhood, bare_measurement}
use Rattle.mc_model.specs.Flow.{CorrectsAt}
use Rattle.mc_model.specs.Made.{corrected_measurement}
use Rattle.mc_model.proofs.PhaseLemmas.{sign-twice, sign-sum, sign-turn}
use Rattle.mc_model.proofs.BitLemmas.{replaced_itself, xor_false}
use Rattle.mc_model.proofs.AmplitudeLemmas.{after-append}
use Rattle.mc_make.proofs.SetSums.{odd-replaced}
use Rattle.mc_make.proofs.GraphStates.{flipped, set_sum, after-x_set, after-z_set}

-- a bit that is not in the set may be replaced before or after the set is flipped
replaced-flipped : (s : Bits) (v : Bool) (x : Bits) (i : ℕ) (c : Bool) → s i ≡ false →
    flipped s v (replaced x i c) ≡ replaced (flipped s v x) i c
replaced-flipped s v x i c h = fun_ext λ k. elim (cases_eq k i) [
  | inl e ↦ rw (e, eq-eqb i i refl, h) (xor_false c)
  | inr ne ↦ rw (ne_eqb k i ne)
]

-- the set without one vertex
without : ℕ → Bits → Bits
without i p = λ k. p k && not (nat_eq k i)

set_sum-replaced : (n i : ℕ) (p x : Bits) (c : Bool) → i < n →
    set_sum n p (replaced x i c) ≡ set_sum n (without i p) x ⊻ (p i && c)
unfolding set_sum without
set_sum-replaced n i p x c l = odd-replaced n i p x c l

set_sum-without : (n i : ℕ) (p x : Bits) → i < n → p i ≡ false →
    set_sum n p x ≡ set_sum n (without i p) x
set_sum-without n i p x l e =
    ap (set_sum n p) (sym (replaced_itself x i)) ∙ set_sum-replaced n i p x (x i) l
    ∙ ap (λ (b : Bool). set_sum n (without i p) x ⊻ (b && x i)) e
    ∙ xor_false (set_sum n (without i p) x)

own_value : (o : Bits) (i : ℕ) → value (signal_of i) o ≡ o i
unfolding value parity odd
own_value o i = xor_false (o i)

one_sign : (p v : Bool) → (p && v) ⊻ v ≡ (p ⊻ true) && v
one_sign p v = grind arith

module _ {E : Type 0} (ops : PhaseOps E) where
  -- what the corrections of the set `s` and of its odd neighbourhood do, where `v` is 1
  unfoldable pub fixed : OpenGraph → Bits → Bool → Amps E → Amps E
  fixed g s v f x =
      sign ops (set_sum (size g) (odd_neighbourhood g s) x && v) (f (flipped s v x))

  -- measuring `i` with outcome 0
  unfoldable pub bare : OpenGraph → ℕ → Amps E → Amps E
  bare g i = act ops all_zero (bare_measurement g i)

  -- the factor of the second term of a measurement
  unfoldable pub weighed : OpenGraph → ℕ → E → E
  weighed g i =
      turn ops (negated ops.half
      (measured_angle ops.half (unwrap_or (base_angle g i) 0) false false))

  pub bare_is : (g : OpenGraph) (i : ℕ) (f : Amps E) (x : Bits) →
      bare g i f x ≡ ops.add (f (replaced x i false)) (weighed g i (f (replaced x i true)))
  unfolding bare weighed act value parity odd
  bare_is g i f x = refl

  pub measured_is : (o : Bits) (g : OpenGraph) (i : ℕ) (f : Amps E) (x : Bits) →
      act ops o (bare_measurement g i) f x
      ≡ ops.add (f (replaced x i false)) (weighed g i (sign ops (o i) (f (replaced x i true))))
  unfolding weighed act value parity odd
  measured_is o g i f x = refl

module _ {E : Type 0} (ops : PhaseOps E) (laws : PhaseLaws ops) where
  pub signed_sum : (g : OpenGraph) (i : ℕ) (c : Bool) (d e : E) →
      sign ops c (ops.add d (weighed ops g i e))
      ≡ ops.add (sign ops c d) (weighed ops g i (sign ops c e))
  unfolding weighed
  signed_sum g i c d e =
      sign-sum ops laws c d _ ∙ ap (ops.add (sign ops c d)) (sign-turn ops laws c _ e)

  pub bare-signed : (g : OpenGraph) (i : ℕ) (c : Bool) (f : Amps E) (x : Bits) →
      bare ops g i (λ y. sign ops c (f y)) x ≡ sign ops c (bare ops g i f x)
  bare-signed g i c f x =
      bare_is ops g i (λ y. sign ops c (f y)) x ∙ sym (signed_sum g i c _ _)
      ∙ ap (sign ops c) (sym (bare_is ops g i f x))

  fixed-replaced : (g : OpenGraph) (s : Bits) (v : Bool) (f : Amps E) (x : Bits) (i : ℕ)
      (c d : Bool) → i < size g → s i ≡ false → odd_neighbourhood g s i ≡ d →
      fixed ops g s v f (replaced x i c)
      ≡ sign ops ((set_sum (size g) (without i (odd_neighbourhood g s)) x ⊻ (d && c)) && v)
      (f (replaced (flipped s v x) i c))
  unfolding fixed
  fixed-replaced g s v f x i c d l out e =
      let odds : Bits = odd_neighbourhood g s in
      ap₂ (λ (p : Bool) (y : Bits). sign ops (p && v) (f y))
      (set_sum-replaced (size g) i odds x c l
      ∙ ap (λ (b : Bool). set_sum (size g) (without i odds) x ⊻ (b && c)) e)
      (replaced-flipped s v x i c out)

  -- the corrections of another vertex's set pass a measurement
  pub fixed-bare : (g : OpenGraph) (s : Bits) (v : Bool) (i : ℕ) (f : Amps E) (x : Bits) →
      i < size g → s i ≡ false → odd_neighbourhood g s i ≡ false →
      fixed ops g s v (bare ops g i f) x ≡ bare ops g i (fixed ops g s v f) x
  unfolding fixed
  fixed-bare g s v i f x l out none =
      let odds : Bits = odd_neighbourhood g s in
      let p : Bool = set_sum (size g) (without i odds) x in
      let at : (c : Bool) → sign ops (p && v) (f (replaced (flipped s v x) i c))
      ≡ fixed ops g s v f (replaced x i c) = λ c.
      ap (λ (b : Bool). sign ops (b && v) (f (replaced (flipped s v x) i c))) (sym (xor_false p))
      ∙ sym (fixed-replaced g s v f x i c false l out none) in
      ap₂ (λ (b : Bool) (e : E). sign ops (b && v) e) (set_sum-without (size g) i odds x l none)
      (bare_is ops g i f (flipped s v x))
      ∙ signed_sum g i (p && v) _ _
      ∙ ap₂ (λ (d e : E). ops.add d (weighed ops g i e)) (at false) (at true)
      ∙ sym (bare_is ops g i (fixed ops g s v f) x)

  -- a measurement with its corrections is one with outcome 0 behind all corrections of the set
  pub corrected_is : (o : Bits) (g : OpenGraph) (layer : ℕ → ℕ) (s : Bits) (i : ℕ) (f : Amps E)
      (x : Bits) → i < size g → CorrectsAt g s layer i →
      after ops o (corrected_measurement g s i) f x ≡ bare ops g i (fixed ops g s (o i) f) x
  unfolding corrected_measurement without after
  corrected_is o g layer s i f x l corrects =
      let n : ℕ = size g in
      let u : Signal = signal_of i in
      let odds : Bits = odd_neighbourhood g s in
      let others : Bits = λ k. odds k && not (nat_eq k i) in
      let xs : List Command = map (λ k. FixX k u) (numbers_where s n) in
      let zs : List Command = map (λ k. FixZ k u) (numbers_where others n) in
      let h : Amps E = act ops o (bare_measurement g i) f in
      let p : Bool = set_sum n others x in
      let y : Bits = flipped s (o i) x in
      let at : (c : Bool) → sign ops ((p ⊻ c) && o i) (f (replaced y i c))
      ≡ fixed ops g s (o i) f (replaced x i c) = λ c.
      sym (fixed-replaced g s (o i) f x i c true l corrects.not_itself corrects.odd_itself) in
      ap (λ (q : Amps E). q x) (after-append ops laws o xs zs h)
      ∙ after-z_set ops laws o u n others (after ops o xs h) x
      ∙ ap (sign ops (p && value u o)) (after-x_set ops laws o u n s h x corrects.within)
      ∙ ap (λ (v : Bool). sign ops (p && v) (h (flipped s v x))) (own_value o i)
      ∙ ap (sign ops (p && o i)) (measured_is ops o g i f y)
      ∙ signed_sum g i (p && o i) _ _
      ∙ ap₂ (λ (d e : E). ops.add d (weighed ops g i e))
      (ap (λ (b : Bool). sign ops (b && o i) (f (replaced y i false))) (sym (xor_false p))
      ∙ at false)
      (sign-twice ops laws (p && o i) (o i) _
      ∙ ap (λ (b : Bool). sign ops b (f (replaced y i true))) (one_sign p (o i))
      ∙ at true)
      ∙ sym (bare_is ops g i (fixed ops g s (o i) f) x)
