-- The amplitudes after a translated list of gates are those after the gates.
use Rattle.std.proofs.Common.{◌≡◌, ℕ, suc, ◌+◌, ◌<◌, Bool, true, false, ◌&&◌, ◌-◌, map, List, []}
use Rattle.std.proofs.Common.{◌∷◌, refl, sym, ◌∙◌, ap, ap₂, arith}
use Rattle.std.proofs.lemmas.Bool.{cases_eq}
use mathlib.Core.Logic.{inl, inr}
use Rattle.mc_model.specs.Phase.{PhaseOps, PhaseLaws, turn, sign, negated, measured_angle}
use Rattle.mc_model.specs.Bits.{◌⊻◌, Bits, replaced, parity}
use Rattle.mc_model.specs.Signals.{value, no_signal, signal_of}
use Rattle.mc_model.specs.Pattern.{Command, Prep, Ent, Meas, FixX, Gate, J, CZ, Circuit, wires}
use Rattle.mc_model.specs.Amplitude.{Amps, act, after, act_gate, after_gates, start, placed, amp}
use Rattle.mc_model.specs.Amplitude.{branch_map, circuit_table}
use Rattle.mc_model.specs.Translation.{moved, translated, last_qubits, preparations, translation}
use Rattle.mc_translate.specs.Steps.{StandApart}
use Rattle.mc_translate.proofs.WireQubits.{moved_same, moved_other, moved_apart, numbers_apart}
use Rattle.mc_model.specs.Valid.{GatesFit, IsValidCircuit}
use Rattle.mc_model.proofs.AmplitudeLemmas.{after-append, after-preparations, start_same}
use Rattle.std.specs.List.{AllByRecursion}
use Rattle.std.proofs.lemmas.List.Elements.{recursion_from_All}
use Rattle.mc_model.proofs.PhaseLemmas.{turn_back_twice, sign-twice, sign-turn}
use Rattle.mc_model.proofs.BitLemmas.{replaced_same, replaced_other, xor_false, xor_again}

-- the amplitudes `f` of qubits are those `g` of wires, where qubit `at v` stands for wire `v`
pub record SameThrough {E : Type 0} (wires : ℕ) (at : ℕ → ℕ) (f g : Amps E) : Type 0 where
  pub same : (x y : Bits) → ((v : ℕ) → v < wires → x (at v) ≡ y v) → f x ≡ g y

last_apart : (wires : ℕ) (gs : List Gate) (at : ℕ → ℕ) (next : ℕ) → GatesFit wires gs →
    StandApart wires at next →
    (n : ℕ) × StandApart wires (last_qubits gs at next) n
unfolding last_qubits
last_apart wires [] at next fit st = (next, st)
last_apart wires (J v a ∷ gs) at next fit st =
    last_apart wires gs (moved at v next) (suc next) fit.1 (moved_apart wires at next v st)
last_apart wires (CZ v u ∷ gs) at next fit st = last_apart wires gs at next fit.3 st

placed_through : (wires : ℕ) (at : ℕ → ℕ) {n : ℕ} → StandApart wires at n →
    (qs : List ℕ) (ys : List Bool) → AllByRecursion (λ (q : ℕ). q < wires) qs →
    (v : ℕ) → v < wires → placed (map at qs) ys (at v) ≡ placed qs ys v
unfolding placed
placed_through wires at st [] ys fit v h = refl
placed_through wires at st (q ∷ qs) [] fit v h = refl
placed_through wires at st (q ∷ qs) (y ∷ ys) fit v h = elim (cases_eq v q) [
  | inl e ↦
      ap (λ (w : ℕ). replaced (placed (map at qs) ys) (at q) y (at w)) e
      ∙ replaced_same (placed (map at qs) ys) (at q) y
      ∙ sym (replaced_same (placed qs ys) q y) ∙ ap (replaced (placed qs ys) q y) (sym e)
  | inr ne ↦
      replaced_other (placed (map at qs) ys) (at q) y (at v) (λ e. ne (st.apart v q h fit.0 e))
      ∙ placed_through wires at st qs ys fit.1 v h ∙ sym (replaced_other (placed qs ys) q y v ne)
]

module _ {E : Type 0} (ops : PhaseOps E) (laws : PhaseLaws ops) where
  -- the two terms of a measurement, where the measured bit was put to 0 and to 1
  j_terms : (a : ℕ) (b0 c0 b1 c1 t u : Bool) (f0 f1 : E) → b0 ≡ false → b1 ≡ true →
      c1 ≡ u ⊻ (t ⊻ false) →
      ops.add (sign ops (b0 && c0) f0)
      (turn ops (negated ops.half (measured_angle ops.half (negated ops.half a) false false))
      (sign ops t (sign ops (b1 && c1) f1)))
      ≡ ops.add f0 (sign ops u (turn ops a f1))
  j_terms a b0 c0 b1 c1 t u f0 f1 e0 e1 e2 =
      let angle : negated ops.half a + 0 ≡ negated ops.half a = omega arith in
      rw (
        e0,
        e1,
        e2,
        xor_false t,
        angle,
        sign-twice ops laws t (u ⊻ t) f1,
        xor_again t u,
        turn_back_twice ops laws a,
        sign-turn ops laws u a f1,
      )

  -- entangling `q` with `r`, measuring `q` at `-a` and correcting `r`: what is left is the gate
  j_step : (o x : Bits) (f : Amps E) (q r a : ℕ) → (q ≡ r → ⊥) →
      act ops o (FixX r (signal_of q))
      (act ops o (Meas q (negated ops.half a) no_signal no_signal) (act ops o (Ent q r) f)) x
      ≡ ops.add (f (replaced (replaced x r (x r ⊻ value (signal_of q) o)) q false))
      (sign ops (x r)
      (turn ops a (f (replaced (replaced x r (x r ⊻ value (signal_of q) o)) q true))))
  unfolding act parity value
  j_step o x f q r a ne =
      let z : Bits = replaced x r (x r ⊻ value (signal_of q) o) in
      j_terms a _ _ _ _ (o q) (x r) _ _ (replaced_same z q false) (replaced_same z q true)
      (replaced_other z q true r (λ e. ne (sym e))
      ∙ replaced_same x r (x r ⊻ value (signal_of q) o))

  j_keeps : (o : Bits) (wires next : ℕ) (at : ℕ → ℕ) (v a : ℕ) (f g : Amps E) → v < wires →
      StandApart wires at next → SameThrough wires at f g →
      SameThrough wires (moved at v next)
      (act ops o (FixX next (signal_of (at v)))
      (act ops o (Meas (at v) (negated ops.half a) no_signal no_signal)
      (act ops o (Ent (at v) next) (act ops o (Prep next) f))))
      (act_gate ops (J v a) g)
  unfolding act act_gate
  j_keeps o wires next at v a f g lt st s = record {
    same = λ x y agree.
        let q : ℕ = at v in
        let b = st.below v lt in
        let ne : q ≡ next → ⊥ = omega arith in
        let z : Bits = replaced x next (x next ⊻ value (signal_of q) o) in
        let here : x next ≡ y v = ap x (sym (moved_same at v next)) ∙ agree v lt in
        let there : (t : Bool) (u : ℕ) → u < wires →
        replaced z q t (at u) ≡ replaced y v t u = λ t u h.
        elim (cases_eq u v) [
          | inl e ↦
              ap (λ (w : ℕ). replaced z q t (at w)) e
              ∙ replaced_same z q t
              ∙ sym (replaced_same y v t)
              ∙ ap (replaced y v t) (sym e)
          | inr nu ↦
              let bu = st.below u h in
              let apart : at u ≡ at v → ⊥ = λ e. nu (st.apart u v h lt e) in
              let old : at u ≡ next → ⊥ = omega arith in
              replaced_other z q t (at u) apart
              ∙ replaced_other x next (x next ⊻ value (signal_of q) o) (at u) old
              ∙ ap x (sym (moved_other at v next u nu))
              ∙ agree u h
              ∙ sym (replaced_other y v t u nu)
        ] in
        j_step o x f q next a ne
        ∙ ap₂ ops.add (s.same _ _ (there false))
        (ap₂ (λ (t : Bool) (w : E). sign ops t (turn ops a w)) here (s.same _ _ (there true)));
  }

  cz_keeps : (o : Bits) (wires : ℕ) (at : ℕ → ℕ) (v u : ℕ) (f g : Amps E) → v < wires → u < wires →
      SameThrough wires at f g →
      SameThrough wires at (act ops o (Ent (at v) (at u)) f) (act_gate ops (CZ v u) g)
  unfolding act act_gate
  cz_keeps o wires at v u f g lv lu s = record {
    same = λ x y agree.
        ap₂ (λ (t : Bool) (w : E). sign ops t w)
        (ap₂ (λ (a b : Bool). a && b) (agree v lv) (agree u lu))
        (s.same x y agree);
  }

  pub translated_keeps : (o : Bits) (wires : ℕ) (gs : List Gate) (at : ℕ → ℕ) (next : ℕ)
      (f g : Amps E) →
      GatesFit wires gs → StandApart wires at next → SameThrough wires at f g →
      SameThrough wires (last_qubits gs at next) (after ops o (translated ops.half gs at next) f)
      (after_gates ops gs g)
  unfolding after after_gates translated last_qubits
  translated_keeps o wires [] at next f g fit st s = s
  translated_keeps o wires (J v a ∷ gs) at next f g fit st s =
      translated_keeps o wires gs (moved at v next) (suc next) _ _ fit.1
      (moved_apart wires at next v st)
      (j_keeps o wires next at v a f g fit.0 st s)
  translated_keeps o wires (CZ v u ∷ gs) at next f g fit st s =
      translated_keeps o wires gs at next _ _ fit.3 st (cz_keeps o wires at v u f g fit.0 fit.1 s)

  pub translation_keeps_table : (c : Circuit) → IsValidCircuit c →
      (o : Bits) (y : List Bool) (b : Bits) →
      branch_map ops (translation ops.half c) o y b ≡ circuit_table ops c y b
  unfolding branch_map circuit_table amp translation
  translation_keeps_table c fits o y b =
      let n : ℕ = wires c in
      let preps : List Command = preparations c.inputs (n - c.inputs) in
      let last : ℕ → ℕ = last_qubits c.gates (λ v. v) n in
      let first : Amps E = start ops c.inputs b in
      let prepared : Amps E = after ops o preps first in
      let begun : SameThrough n (λ v. v) prepared first = record {
        same = λ x z agree.
            ap (λ (f : Amps E). f x) (after-preparations ops laws o c.inputs (n - c.inputs) first)
            ∙ start_same ops laws b x z c.inputs (λ v h.
            agree v (let k = fits.inputs in omega arith));
      } in
      let ended =
      translated_keeps o n c.gates (λ v. v) n prepared first fits.gates (numbers_apart n) begun in
      let apart = (last_apart n c.gates (λ v. v) n fits.gates (numbers_apart n)).1 in
      let below = recursion_from_All (λ (q : ℕ). q < n) c.outputs fits.outputs.below in
      ap (λ (f : Amps E). f (placed (map last c.outputs) y))
      (after-append ops laws o preps (translated ops.half c.gates (λ v. v) n) first)
      ∙ ended.same _ _ (placed_through n _ apart c.outputs y below)
