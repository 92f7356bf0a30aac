-- Two `J` gates on one wire, with what may stand between them: a turn or a flip, and a doubling.
use Rattle.std.proofs.Common.{◌≡◌, ℕ, Bool, true, false, cond, not, ◌&&◌, refl, sym, ◌∙◌, ap, ap₂}
use Rattle.std.proofs.Common.{arith}
use mathlib.Core.Path.{fun_ext}
use Rattle.mc_model.specs.Phase.{PhaseOps, PhaseLaws, turn, sign}
use Rattle.mc_model.specs.Bits.{◌⊻◌, Bits, replaced}
use Rattle.mc_model.specs.Pattern.{J, CZ}
use Rattle.mc_model.specs.Amplitude.{Amps, act_gate}
use Rattle.mc_model.proofs.BitLemmas.{replaced_same, replaced_other, replaced_again}
use Rattle.mc_model.proofs.BitLemmas.{replaced_itself}
use Rattle.mc_model.proofs.PhaseLemmas.{sign-twice}
use Rattle.mc_gates.specs.Lowering.{}
use Rattle.mc_model.specs.Phase.{doubled}
use Rattle.mc_gates.proofs.Doubled.{sum_and_difference}

and_false : (b : Bool) → b && false ≡ false
and_false b = grind arith

and_true : (b : Bool) → b && true ≡ b
and_true b = grind arith

module _ {E : Type 0} (ops : PhaseOps E) (laws : PhaseLaws ops) where
  -- what the first `J` leaves where the bit is `t`
  first_j : (q k : ℕ) (f : Amps E) (x : Bits) (t : Bool) →
      act_gate ops (J q k) f (replaced x q t)
      ≡ ops.add (f (replaced x q false)) (sign ops t (turn ops k (f (replaced x q true))))
  unfolding act_gate
  first_j q k f x t =
      ap₂ (λ (y z : Bits). ops.add (f y) (sign ops (replaced x q t q) (turn ops k (f z))))
      (replaced_again x q t false)
      (replaced_again x q t true)
      ∙ ap (λ (b : Bool). ops.add (f (replaced x q false))
      (sign ops b (turn ops k (f (replaced x q true)))))
      (replaced_same x q t)

  turned_or_not : (q k : ℕ) (f : Amps E) (x : Bits) (t : Bool) →
      cond t (turn ops k (f (replaced x q true))) (f (replaced x q false))
      ≡ turn ops (cond t k 0) (f (replaced x q t))
  unfolding turn
  turned_or_not q k f x false = refl
  turned_or_not q k f x true = refl

  -- twice the amplitude of the setting with the bit `t`, turned where it is 1
  pub left_over : (q k : ℕ) (f : Amps E) (x : Bits) (t : Bool) →
      ops.add (ops.add (f (replaced x q false)) (turn ops k (f (replaced x q true))))
      (sign ops t
      (ops.add (f (replaced x q false)) (ops.neg (turn ops k (f (replaced x q true))))))
      ≡ doubled ops 1 (turn ops (cond t k 0) (f (replaced x q t)))
  left_over q k f x t =
      sum_and_difference ops laws t (f (replaced x q false)) (turn ops k (f (replaced x q true)))
      ∙ ap (doubled ops 1) (turned_or_not q k f x t)

  -- a turn: `J` at its angle, and `J` at 0
  pub turn_pair : (q k : ℕ) (f : Amps E) (x : Bits) →
      act_gate ops (J q 0) (act_gate ops (J q k) f) x
      ≡ doubled ops 1 (turn ops (cond (x q) k 0) (f x))
  unfolding act_gate turn
  turn_pair q k f x =
      ap₂ (λ (a b : E). ops.add a (sign ops (x q) b))
      (first_j q k f x false)
      (first_j q k f x true)
      ∙ left_over q k f x (x q)
      ∙ ap (λ (z : Bits). doubled ops 1 (turn ops (cond (x q) k 0) (f z))) (replaced_itself x q)

  no_turn : (q : ℕ) (f : Amps E) (x : Bits) (t : Bool) →
      turn ops (cond (t ⊻ true) 0 0) (f (replaced x q (t ⊻ true))) ≡ f (replaced x q (not t))
  unfolding turn
  no_turn q f x false = refl
  no_turn q f x true = refl

  -- a flip: `J` at 0, and `J` at half a turn
  pub flip_pair : ops.half ≡ 4 → (q : ℕ) (f : Amps E) (x : Bits) →
      act_gate ops (J q 4) (act_gate ops (J q 0) f) x
      ≡ doubled ops 1 (f (replaced x q (not (x q))))
  unfolding act_gate
  flip_pair e q f x =
      let sum : E = ops.add (f (replaced x q false)) (turn ops 0 (f (replaced x q true))) in
      let difference : E =
      ops.add (f (replaced x q false)) (ops.neg (turn ops 0 (f (replaced x q true)))) in
      ap₂ (λ (a b : E). ops.add a (sign ops (x q) (turn ops 4 b)))
      (first_j q 0 f x false)
      (first_j q 0 f x true)
      ∙ ap (λ (a : E). ops.add sum (sign ops (x q) a))
      (ap (λ (h : ℕ). turn ops h difference) (sym e) ∙ laws.half_turn difference)
      ∙ ap (ops.add sum) (sign-twice ops laws (x q) true difference)
      ∙ left_over q 0 f x (x q ⊻ true)
      ∙ ap (doubled ops 1) (no_turn q f x (x q))

  -- the amplitudes with the wire `q` flipped where `p` is 1, and then turned where it is 1
  abbrev pub flipped : ℕ → ℕ → ℕ → Amps E → Amps E
  flipped k p q f =
      λ x. doubled ops 1 (turn ops (cond (x q ⊻ x p) k 0) (f (replaced x q (x q ⊻ x p))))

  flip_terms : (k : ℕ) (c0 b0 c1 b1 t u : Bool) (y z : E) → b0 ≡ false → b1 ≡ true → c1 ≡ u →
      ops.add (sign ops (c0 && b0) y) (sign ops t (turn ops 0 (sign ops (c1 && b1) z)))
      ≡ ops.add y (sign ops (t ⊻ u) z)
  unfolding turn
  flip_terms k c0 b0 c1 b1 t u y z e0 e1 e2 =
      rw (e0, e1, e2, and_false c0, and_true u, sign-twice ops laws t u z)

  turned_flip_at : (k p q : ℕ) (f : Amps E) → (p ≡ q → ⊥) → (x : Bits) →
      act_gate ops (J q 0) (act_gate ops (CZ p q) (act_gate ops (J q k) f)) x ≡ flipped k p q f x
  unfolding act_gate
  turned_flip_at k p q f ne x =
      flip_terms k _ _ _ _ (x q) (x p) _ _ (replaced_same x q false) (replaced_same x q true)
      (replaced_other x q true p ne)
      ∙ ap₂ (λ (a b : E). ops.add a (sign ops (x q ⊻ x p) b))
      (first_j q k f x false)
      (first_j q k f x true)
      ∙ left_over q k f x (x q ⊻ x p)

  pub turned_flip : (k p q : ℕ) (f : Amps E) → (p ≡ q → ⊥) →
      act_gate ops (J q 0) (act_gate ops (CZ p q) (act_gate ops (J q k) f)) ≡ flipped k p q f
  turned_flip k p q f ne = fun_ext (turned_flip_at k p q f ne)

  -- `J` at 0 behind CZ
  pub cz_j : (q r : ℕ) (f : Amps E) (x : Bits) → (q ≡ r → ⊥) →
      act_gate ops (J r 0) (act_gate ops (CZ q r) f) x
      ≡ ops.add (f (replaced x r false)) (sign ops (x r ⊻ x q) (f (replaced x r true)))
  unfolding act_gate
  cz_j q r f x ne =
      flip_terms 0 _ _ _ _ (x r) (x q) _ _ (replaced_same x r false) (replaced_same x r true)
      (replaced_other x r true q ne)
