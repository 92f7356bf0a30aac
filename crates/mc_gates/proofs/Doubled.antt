-- Powers of two come out of sums, signs and turns.
use Rattle.std.proofs.Common.{◌≡◌, ℕ, zero, suc, ◌+◌, ◌*◌, ◌%◌, Bool, true, false, cond, refl, sym}
use Rattle.std.proofs.Common.{◌∙◌, ap, arith}
use Rattle.mc_model.specs.Phase.{PhaseOps, PhaseLaws, turn, sign}
use Rattle.mc_model.proofs.PhaseLemmas.{turn-sum, sign-sum, neg-sum, neg_neg, turn-modulo}
use Rattle.mc_gates.specs.Lowering.{}
use Rattle.mc_model.specs.Phase.{doubled}

module _ {E : Type 0} (ops : PhaseOps E) (laws : PhaseLaws ops) where
  -- (x + y) + (z + t) is (x + z) + (y + t)
  pub add_middle : (x y z t : E) →
      ops.add (ops.add x y) (ops.add z t) ≡ ops.add (ops.add x z) (ops.add y t)
  add_middle x y z t =
      laws.add_assoc x y (ops.add z t)
      ∙ ap (ops.add x)
      (sym (laws.add_assoc y z t)
      ∙ ap (λ (e : E). ops.add e t) (laws.add_comm y z)
      ∙ laws.add_assoc z y t)
      ∙ sym (laws.add_assoc x z (ops.add y t))

  pub doubled-turn : (n k : ℕ) (x : E) → turn ops k (doubled ops n x) ≡ doubled ops n (turn ops k x)
  unfolding doubled
  doubled-turn zero k x = refl
  doubled-turn (suc n) k x =
      turn-sum ops laws k (doubled ops n x) (doubled ops n x)
      ∙ ap (λ (e : E). ops.add e e) (doubled-turn n k x)

  pub doubled-sign : (n : ℕ) (b : Bool) (x : E) →
      sign ops b (doubled ops n x) ≡ doubled ops n (sign ops b x)
  unfolding doubled
  doubled-sign zero b x = refl
  doubled-sign (suc n) b x =
      sign-sum ops laws b (doubled ops n x) (doubled ops n x)
      ∙ ap (λ (e : E). ops.add e e) (doubled-sign n b x)

  pub doubled-sum : (n : ℕ) (x y : E) →
      ops.add (doubled ops n x) (doubled ops n y) ≡ doubled ops n (ops.add x y)
  unfolding doubled
  doubled-sum zero x y = refl
  doubled-sum (suc n) x y =
      add_middle (doubled ops n x) (doubled ops n x) (doubled ops n y) (doubled ops n y)
      ∙ ap (λ (e : E). ops.add e e) (doubled-sum n x y)

  pub doubled-doubled : (m n : ℕ) (x : E) → doubled ops m (doubled ops n x) ≡ doubled ops (m + n) x
  unfolding doubled
  doubled-doubled zero n x =
      let e : n ≡ zero + n = omega arith in ap (λ (k : ℕ). doubled ops k x) e
  doubled-doubled (suc m) n x =
      let e : suc (m + n) ≡ suc m + n = omega arith in
      ap (λ (t : E). ops.add t t) (doubled-doubled m n x) ∙ ap (λ (k : ℕ). doubled ops k x) e

  -- a sum and a difference leave twice the one or the other
  pub sum_and_difference : (t : Bool) (x y : E) →
      ops.add (ops.add x y) (sign ops t (ops.add x (ops.neg y))) ≡ doubled ops 1 (cond t y x)
  unfolding doubled
  sum_and_difference false x y =
      add_middle x y x (ops.neg y)
      ∙ ap (ops.add (ops.add x x)) (laws.add_neg y)
      ∙ laws.add_nought (ops.add x x)
  sum_and_difference true x y =
      ap (ops.add (ops.add x y))
      (neg-sum ops laws x (ops.neg y) ∙ ap (ops.add (ops.neg x)) (neg_neg ops laws y))
      ∙ add_middle x y (ops.neg x) y
      ∙ ap (λ (e : E). ops.add e (ops.add y y)) (laws.add_neg x)
      ∙ laws.add_comm ops.nought (ops.add y y)
      ∙ laws.add_nought (ops.add y y)

  -- where half a turn is four steps
  half_or_none : ops.half ≡ 4 → (b : Bool) (x : E) → turn ops (cond b 4 0) x ≡ sign ops b x
  unfolding turn
  half_or_none e false x = refl
  half_or_none e true x = ap (λ (h : ℕ). turn ops h x) (sym e) ∙ laws.half_turn x

  pub eighths : ops.half ≡ 4 → (n : ℕ) (b : Bool) (x : E) → n % 8 ≡ cond b 4 0 →
      turn ops n x ≡ sign ops b x
  eighths e n b x rest =
      sym (turn-modulo ops laws n x)
      ∙ ap (λ (h : ℕ). turn ops (n % (2 * h)) x) e
      ∙ ap (λ (k : ℕ). turn ops k x) rest
      ∙ half_or_none e b x
