-- The network for X with two controls.
use Rattle.std.proofs.Common.{◌≡◌, ℕ, ◌+◌, ◌%◌, Bool, true, false, cond, not, ◌&&◌, List, [], ◌∷◌}
use Rattle.std.proofs.Common.{refl, sym, ◌∙◌, ap, ap₂, arith}
use Rattle.mc_model.specs.Phase.{PhaseOps, PhaseLaws, turn, sign}
use Rattle.mc_model.specs.Bits.{◌⊻◌, Bits, replaced}
use Rattle.mc_model.specs.Pattern.{Gate, J, CZ}
use Rattle.mc_model.specs.Amplitude.{Amps, act_gate, after_gates}
use Rattle.mc_model.proofs.BitLemmas.{replaced_same, replaced_other, replaced_again}
use Rattle.mc_model.proofs.BitLemmas.{replaced_itself}
use Rattle.mc_model.proofs.PhaseLemmas.{turn-add, turn-sum, sign-twice, sign-turn}
use Rattle.mc_gates.specs.Gates.{Ccx, act_op}
use Rattle.mc_gates.specs.Lowering.{toffoli}
use Rattle.mc_model.specs.Phase.{doubled}
use Rattle.mc_gates.proofs.Doubled.{doubled-turn, doubled-sign, doubled-sum, doubled-doubled}
use Rattle.mc_gates.proofs.Doubled.{eighths}
use Rattle.mc_gates.proofs.Pairs.{flipped, turned_flip, turn_pair, cz_j, left_over}

-- the steps of all turns, beside the bits of the controls, where the third wire is 0 and where it
-- is 1
none_over : (p q : Bool) →
    (cond p 1 0 + (cond (q ⊻ p) 7 0 + cond q 1 0)
    + (cond p 7 0 + (cond (p ⊻ q) 1 0 + cond q 7 0))) % 8
    ≡ 0
none_over p q = grind arith

half_over : (p q : Bool) →
    (cond p 1 0 + (cond (q ⊻ p) 7 0 + cond q 1 0)
    + (1 + (cond (not p) 7 0 + (cond (not p ⊻ q) 1 0 + cond (not q) 7 0)))) % 8
    ≡ cond (p && q) 4 0
half_over p q = grind arith

xor_back : (a b : Bool) → (a ⊻ b) ⊻ b ≡ a
xor_back a b = grind arith

xor_between : (a b c : Bool) → ((a ⊻ b) ⊻ c) ⊻ b ≡ a ⊻ c
xor_between a b c = grind arith

module _ {E : Type 0} (ops : PhaseOps E) (laws : PhaseLaws ops) where
  -- a doubling behind a turn of doublings
  pub once_more : (m n k : ℕ) (x : E) →
      doubled ops m (turn ops k (doubled ops n x)) ≡ doubled ops (m + n) (turn ops k x)
  once_more m n k x =
      ap (doubled ops m) (doubled-turn ops laws n k x)
      ∙ doubled-doubled ops laws m n (turn ops k x)

  -- the flip of a setting with a bit replaced
  flip_at : (k p q : ℕ) (f : Amps E) (x : Bits) (s : Bool) → (p ≡ q → ⊥) →
      flipped ops laws k p q f (replaced x q s)
      ≡ doubled ops 1 (turn ops (cond (s ⊻ x p) k 0) (f (replaced x q (s ⊻ x p))))
  flip_at k p q f x s ne =
      ap₂ (λ (b c : Bool). doubled ops 1
      (turn ops (cond (b ⊻ c) k 0) (f (replaced (replaced x q s) q (b ⊻ c)))))
      (replaced_same x q s)
      (replaced_other x q s p ne)
      ∙ ap (λ (z : Bits). doubled ops 1 (turn ops (cond (s ⊻ x p) k 0) (f z)))
      (replaced_again x q s (s ⊻ x p))

  -- two flips are none
  two_flips : (k l p q : ℕ) (f : Amps E) (x : Bits) → (p ≡ q → ⊥) →
      flipped ops laws k p q (flipped ops laws l p q f) x
      ≡ doubled ops 2 (turn ops (cond (x q ⊻ x p) k 0) (turn ops (cond (x q) l 0) (f x)))
  two_flips k l p q f x ne =
      ap (λ (e : E). doubled ops 1 (turn ops (cond (x q ⊻ x p) k 0) e))
      (flip_at l p q f x (x q ⊻ x p) ne
      ∙ ap (λ (b : Bool). doubled ops 1 (turn ops (cond b l 0) (f (replaced x q b))))
      (xor_back (x q) (x p))
      ∙ ap (λ (z : Bits). doubled ops 1 (turn ops (cond (x q) l 0) (f z)))
      (replaced_itself x q))
      ∙ once_more 1 1 (cond (x q ⊻ x p) k 0) (turn ops (cond (x q) l 0) (f x))

  -- by one wire, another, and the first again is by the other
  three_flips : (k l m p q r : ℕ) (f : Amps E) (x : Bits) (s : Bool) → (p ≡ r → ⊥) →
      (q ≡ r → ⊥) →
      flipped ops laws k p r (flipped ops laws l q r (flipped ops laws m p r f)) (replaced x r s)
      ≡ doubled ops 3
      (turn ops (cond (s ⊻ x p) k 0)
      (turn ops (cond ((s ⊻ x p) ⊻ x q) l 0)
      (turn ops (cond (s ⊻ x q) m 0) (f (replaced x r (s ⊻ x q))))))
  three_flips k l m p q r f x s np nq =
      let last : E = turn ops (cond (s ⊻ x q) m 0) (f (replaced x r (s ⊻ x q))) in
      flip_at k p r (flipped ops laws l q r (flipped ops laws m p r f)) x s np
      ∙ ap (λ (e : E). doubled ops 1 (turn ops (cond (s ⊻ x p) k 0) e))
      (flip_at l q r (flipped ops laws m p r f) x (s ⊻ x p) nq
      ∙ ap (λ (e : E). doubled ops 1 (turn ops (cond ((s ⊻ x p) ⊻ x q) l 0) e))
      (flip_at m p r f x ((s ⊻ x p) ⊻ x q) np
      ∙ ap (λ (b : Bool). doubled ops 1 (turn ops (cond b m 0) (f (replaced x r b))))
      (xor_between s (x p) (x q)))
      ∙ once_more 1 1 (cond ((s ⊻ x p) ⊻ x q) l 0) last)
      ∙ once_more 1 2 (cond (s ⊻ x p) k 0) (turn ops (cond ((s ⊻ x p) ⊻ x q) l 0) last)

  -- the turns of the third wire where it is `t`, of the sum or the difference of two amplitudes
  abbrev third : Bool → Bool → Bool → E → E → E
  third t p q y z =
      turn ops (cond (t ⊻ p) 7 0)
      (turn ops (cond ((t ⊻ p) ⊻ q) 1 0)
      (turn ops (cond (t ⊻ q) 7 0) (ops.add y (sign ops t z))))

  three_turns : (k l m : ℕ) (x : E) →
      turn ops k (turn ops l (turn ops m x)) ≡ turn ops (k + (l + m)) x
  three_turns k l m x =
      ap (turn ops k) (sym (turn-add ops laws l m x)) ∙ sym (turn-add ops laws k (l + m) x)

  -- all turns together are half a turn where all three bits are 1
  all_turns : ops.half ≡ 4 → (p q r : Bool) (y z : E) →
      turn ops (cond p 1 0)
      (turn ops (cond (q ⊻ p) 7 0)
      (turn ops (cond q 1 0)
      (ops.add (third false p q y z) (sign ops r (turn ops 1 (third true p q y z))))))
      ≡ ops.add (ops.add y z) (sign ops (r ⊻ (p && q)) (ops.add y (ops.neg z)))
  all_turns e p q r y z =
      let u : ℕ = cond p 1 0 + (cond (q ⊻ p) 7 0 + cond q 1 0) in
      let n : ℕ = cond p 7 0 + (cond (p ⊻ q) 1 0 + cond q 7 0) in
      let m : ℕ = cond (not p) 7 0 + (cond (not p ⊻ q) 1 0 + cond (not q) 7 0) in
      let sum : E = ops.add y z in
      let difference : E = ops.add y (ops.neg z) in
      three_turns (cond p 1 0) (cond (q ⊻ p) 7 0) (cond q 1 0)
      (ops.add (third false p q y z) (sign ops r (turn ops 1 (third true p q y z))))
      ∙ ap₂ (λ (a b : E). turn ops u (ops.add a (sign ops r (turn ops 1 b))))
      (three_turns (cond p 7 0) (cond (p ⊻ q) 1 0) (cond q 7 0) sum)
      (three_turns (cond (not p) 7 0) (cond (not p ⊻ q) 1 0) (cond (not q) 7 0) difference)
      ∙ turn-sum ops laws u (turn ops n sum) (sign ops r (turn ops 1 (turn ops m difference)))
      ∙ ap₂ ops.add
      (sym (turn-add ops laws u n sum) ∙ eighths ops laws e (u + n) false sum (none_over p q))
      (sym (sign-turn ops laws r u (turn ops 1 (turn ops m difference)))
      ∙ ap (λ (a : E). sign ops r (turn ops u a)) (sym (turn-add ops laws 1 m difference))
      ∙ ap (sign ops r)
      (sym (turn-add ops laws u (1 + m) difference)
      ∙ eighths ops laws e (u + (1 + m)) (p && q) difference (half_over p q))
      ∙ sign-twice ops laws r (p && q) difference)

  -- the first two gates: with the setting's third bit at the second
  begun : ℕ → ℕ → Amps E → Amps E
  begun q r f = act_gate ops (J r 0) (act_gate ops (CZ q r) f)

  begun_at : (q r : ℕ) (f : Amps E) (x : Bits) (t : Bool) → (q ≡ r → ⊥) →
      begun q r f (replaced x r (t ⊻ x q))
      ≡ ops.add (f (replaced x r false)) (sign ops t (f (replaced x r true)))
  unfolding begun
  begun_at q r f x t ne =
      let s : Bool = t ⊻ x q in
      cz_j ops laws q r f (replaced x r s) ne
      ∙ ap₂ (λ (y z : Bits). ops.add (f y)
      (sign ops (replaced x r s r ⊻ replaced x r s q) (f z)))
      (replaced_again x r s false)
      (replaced_again x r s true)
      ∙ ap (λ (b : Bool). ops.add (f (replaced x r false)) (sign ops b (f (replaced x r true))))
      (ap₂ (λ (b c : Bool). b ⊻ c) (replaced_same x r s) (replaced_other x r s q ne)
      ∙ xor_back t (x q))

  -- the gates on the third wire, but the last
  turned : ℕ → ℕ → ℕ → Amps E → Amps E
  turned p q r f =
      flipped ops laws 7 p r (flipped ops laws 1 q r (flipped ops laws 7 p r (begun q r f)))

  turned_at : (p q r : ℕ) (f : Amps E) (x : Bits) (t : Bool) → (p ≡ r → ⊥) → (q ≡ r → ⊥) →
      turned p q r f (replaced x r t)
      ≡ doubled ops 3 (third t (x p) (x q) (f (replaced x r false)) (f (replaced x r true)))
  unfolding turned
  turned_at p q r f x t np nq =
      three_flips 7 1 7 p q r (begun q r f) x t np nq
      ∙ ap (λ (e : E). doubled ops 3
      (turn ops (cond (t ⊻ x p) 7 0)
      (turn ops (cond ((t ⊻ x p) ⊻ x q) 1 0) (turn ops (cond (t ⊻ x q) 7 0) e))))
      (begun_at q r f x t nq)

  third_done : (p q r : ℕ) (f : Amps E) (x : Bits) → (p ≡ r → ⊥) → (q ≡ r → ⊥) →
      act_gate ops (J r 1) (turned p q r f) x
      ≡ doubled ops 3
      (ops.add (third false (x p) (x q) (f (replaced x r false)) (f (replaced x r true)))
      (sign ops (x r)
      (turn ops 1 (third true (x p) (x q) (f (replaced x r false)) (f (replaced x r true))))))
  unfolding act_gate
  third_done p q r f x np nq =
      let y : E = f (replaced x r false) in
      let z : E = f (replaced x r true) in
      ap₂ (λ (a b : E). ops.add a (sign ops (x r) (turn ops 1 b)))
      (turned_at p q r f x false np nq)
      (turned_at p q r f x true np nq)
      ∙ ap (λ (a : E). ops.add (doubled ops 3 (third false (x p) (x q) y z)) a)
      (ap (sign ops (x r)) (doubled-turn ops laws 3 1 (third true (x p) (x q) y z))
      ∙ doubled-sign ops laws 3 (x r) (turn ops 1 (third true (x p) (x q) y z)))
      ∙ doubled-sum ops laws 3 (third false (x p) (x q) y z)
      (sign ops (x r) (turn ops 1 (third true (x p) (x q) y z)))

  ended : ℕ → ℕ → ℕ → Amps E → Amps E
  ended p q r f =
      act_gate ops (J p 0)
      (act_gate ops (J p 1)
      (flipped ops laws 7 p q
      (flipped ops laws 1 p q (act_gate ops (J r 1) (turned p q r f)))))

  -- the list of gates, with each flip put for its three
  toffoli_is : (p q r : ℕ) → (p ≡ q → ⊥) → (p ≡ r → ⊥) → (q ≡ r → ⊥) → (f : Amps E) →
      after_gates ops (toffoli p q r) f ≡ ended p q r f
  unfolding after_gates begun turned ended
  toffoli_is p q r npq npr nqr f =
      let on_second : List Gate =
      J q 1 ∷ CZ p q ∷ J q 0 ∷ J q 7 ∷ CZ p q ∷ J q 0 ∷ J p 1 ∷ J p 0 ∷ [] in
      let one : Amps E = flipped ops laws 7 p r (begun q r f) in
      let two : Amps E = flipped ops laws 1 q r one in
      let three : Amps E = act_gate ops (J r 1) (turned p q r f) in
      ap (after_gates ops
      (J r 1 ∷ CZ q r ∷ J r 0 ∷ J r 7 ∷ CZ p r ∷ J r 0 ∷ J r 1 ∷ on_second))
      (turned_flip ops laws 7 p r (begun q r f) npr)
      ∙ ap (after_gates ops (J r 7 ∷ CZ p r ∷ J r 0 ∷ J r 1 ∷ on_second))
      (turned_flip ops laws 1 q r one nqr)
      ∙ ap (after_gates ops (J r 1 ∷ on_second)) (turned_flip ops laws 7 p r two npr)
      ∙ ap (after_gates ops (J q 7 ∷ CZ p q ∷ J q 0 ∷ J p 1 ∷ J p 0 ∷ []))
      (turned_flip ops laws 1 p q three npq)
      ∙ ap (after_gates ops (J p 1 ∷ J p 0 ∷ []))
      (turned_flip ops laws 7 p q (flipped ops laws 1 p q three) npq)

  pub no_turns : (t : Bool) (x : E) → turn ops (cond t 0 0) x ≡ x
  unfolding turn
  no_turns false x = refl
  no_turns true x = refl

  -- what the sum and the difference leave of the third wire
  third_left : (r : ℕ) (f : Amps E) (x : Bits) (t : Bool) →
      ops.add (ops.add (f (replaced x r false)) (f (replaced x r true)))
      (sign ops t (ops.add (f (replaced x r false)) (ops.neg (f (replaced x r true)))))
      ≡ doubled ops 1 (f (replaced x r t))
  unfolding turn
  third_left r f x t =
      left_over ops laws r 0 f x t ∙ ap (doubled ops 1) (no_turns t (f (replaced x r t)))

  -- the network flips the third wire where both controls are 1, and doubles seven times
  pub toffoli_acts : ops.half ≡ 4 → (p q r : ℕ) → (p ≡ q → ⊥) → (p ≡ r → ⊥) → (q ≡ r → ⊥) →
      (f : Amps E) (x : Bits) →
      after_gates ops (toffoli p q r) f x ≡ doubled ops 7 (act_op ops (Ccx p q r) f x)
  unfolding act_op ended
  toffoli_acts e p q r npq npr nqr f x =
      let third_wire : Amps E = act_gate ops (J r 1) (turned p q r f) in
      let y : E = f (replaced x r false) in
      let z : E = f (replaced x r true) in
      let sum : E =
      ops.add (third false (x p) (x q) y z)
      (sign ops (x r) (turn ops 1 (third true (x p) (x q) y z))) in
      let k : ℕ = cond (x p) 1 0 in
      let l : ℕ = cond (x q ⊻ x p) 7 0 in
      let m : ℕ = cond (x q) 1 0 in
      ap (λ (g : Amps E). g x) (toffoli_is p q r npq npr nqr f)
      ∙ turn_pair ops laws p 1 (flipped ops laws 7 p q (flipped ops laws 1 p q third_wire)) x
      ∙ ap (λ (a : E). doubled ops 1 (turn ops k a))
      (two_flips 7 1 p q third_wire x npq
      ∙ ap (λ (a : E). doubled ops 2 (turn ops l (turn ops m a))) (third_done p q r f x npr nqr)
      ∙ ap (λ (a : E). doubled ops 2 (turn ops l a)) (doubled-turn ops laws 3 m sum)
      ∙ once_more 2 3 l (turn ops m sum))
      ∙ once_more 1 5 k (turn ops l (turn ops m sum))
      ∙ ap (doubled ops 6) (all_turns e (x p) (x q) (x r) y z ∙ third_left r f x _)
      ∙ doubled-doubled ops laws 6 1 (f (replaced x r (x r ⊻ (x p && x q))))
