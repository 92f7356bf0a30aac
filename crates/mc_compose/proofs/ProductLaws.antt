-- Amplitudes are linear in those before the commands, where phases have a commutative product.
use Rattle.std.proofs.Common.{◌≡◌, ℕ, zero, suc, Bool, true, false, ◌&&◌, List, [], ◌∷◌, refl, sym}
use Rattle.std.proofs.Common.{◌∙◌, ap, ap₂}
use mathlib.Core.Path.{fun_ext}
use Rattle.mc_model.specs.Phase.{PhaseOps, PhaseLaws, turn, sign}
use Rattle.mc_model.specs.Bits.{Bits, replaced}
use Rattle.mc_model.specs.Signals.{value}
use Rattle.mc_model.specs.Pattern.{Command, Prep, Ent, Meas, FixX, FixZ}
use Rattle.mc_model.specs.Amplitude.{Amps, act, after}
use Rattle.mc_model.specs.Ring.{Element, ring, product, IsCommutativeRing}
use Rattle.mc_model.proofs.PhaseLemmas.{turn-sum, sign-sum}
use Rattle.mc_compose.specs.Sums.{sum_over_bits}

-- what is used of the product
pub record ProductLaws {E : Type 0} (ops : PhaseOps E) (mul : E → E → E) : Type 0 where
  pub comm : (x y : E) → mul x y ≡ mul y x
  pub assoc : (x y z : E) → mul (mul x y) z ≡ mul x (mul y z)
  pub one : (x : E) → mul x ops.one ≡ x
  pub add : (x y z : E) → mul x (ops.add y z) ≡ ops.add (mul x y) (mul x z)
  pub rotate : (x : E) → ops.rotate x ≡ mul x (ops.rotate ops.one)

pub ring_product : {half : ℕ} → IsCommutativeRing half →
    ProductLaws (ring half) (λ (x y : Element half). product x y)
ring_product r = record {
  comm = r.product_comm;
  assoc = r.product_assoc;
  one = r.product_one;
  add = r.product_add;
  rotate = r.rotate_product;
}

module _ {E : Type 0} (ops : PhaseOps E) (laws : PhaseLaws ops) where
  -- (x + y) + (z + t) is (x + z) + (y + t)
  pub add_middle : (x y z t : E) →
      ops.add (ops.add x y) (ops.add z t) ≡ ops.add (ops.add x z) (ops.add y t)
  add_middle x y z t =
      laws.add_assoc x y (ops.add z t)
      ∙ ap (ops.add x)
      (sym (laws.add_assoc y z t)
      ∙ ap (λ (e : E). ops.add e t) (laws.add_comm y z)
      ∙ laws.add_assoc z y t)
      ∙ sym (laws.add_assoc x z (ops.add y t))

  pub nought_left : (x : E) → ops.add ops.nought x ≡ x
  nought_left x = laws.add_comm ops.nought x ∙ laws.add_nought x

  pub act-sum : (o : Bits) (c : Command) (f g : Amps E) (x : Bits) →
      act ops o c (λ y. ops.add (f y) (g y)) x ≡ ops.add (act ops o c f x) (act ops o c g x)
  unfolding act
  act-sum o (Prep i) f g x = refl
  act-sum o (Ent i j) f g x = sign-sum ops laws (x i && x j) (f x) (g x)
  act-sum o (FixX i s) f g x = refl
  act-sum o (FixZ i s) f g x = sign-sum ops laws (x i && value s o) (f x) (g x)
  act-sum o (Meas i a s t) f g x =
      ap (ops.add (ops.add (f (replaced x i false)) (g (replaced x i false))))
      (ap (turn ops _) (sign-sum ops laws (o i) (f (replaced x i true)) (g (replaced x i true)))
      ∙ turn-sum ops laws _ _ _)
      ∙ add_middle _ _ _ _

  pub after-sum : (o : Bits) (cs : List Command) (f g : Amps E) (x : Bits) →
      after ops o cs (λ y. ops.add (f y) (g y)) x
      ≡ ops.add (after ops o cs f x) (after ops o cs g x)
  unfolding after
  after-sum o [] f g x = refl
  after-sum o (c ∷ cs) f g x =
      ap (λ (h : Amps E). after ops o cs h x) (fun_ext (act-sum o c f g))
      ∙ after-sum o cs (act ops o c f) (act ops o c g) x

  -- a sum over lists of bits
  pub after-bits : (o : Bits) (cs : List Command) (n : ℕ) (f : List Bool → Amps E) (x : Bits) →
      after ops o cs (λ y. sum_over_bits ops n (λ c. f c y)) x
      ≡ sum_over_bits ops n (λ c. after ops o cs (f c) x)
  unfolding sum_over_bits
  after-bits o cs zero f x = refl
  after-bits o cs (suc n) f x =
      after-sum o cs (λ y. sum_over_bits ops n (λ c. f (false ∷ c) y))
      (λ y. sum_over_bits ops n (λ c. f (true ∷ c) y)) x
      ∙ ap₂ ops.add (after-bits o cs n (λ c. f (false ∷ c)) x)
      (after-bits o cs n (λ c. f (true ∷ c)) x)

  module _ (mul : E → E → E) (ring : ProductLaws ops mul) where
    pub rotate-product : (x e : E) → ops.rotate (mul x e) ≡ mul (ops.rotate x) e
    rotate-product x e =
        let w : E = ops.rotate ops.one in
        ring.rotate (mul x e)
        ∙ ring.assoc x e w
        ∙ ap (mul x) (ring.comm e w)
        ∙ sym (ring.assoc x w e)
        ∙ ap (λ (t : E). mul t e) (sym (ring.rotate x))

    pub turn-product : (k : ℕ) (x e : E) → turn ops k (mul x e) ≡ mul (turn ops k x) e
    unfolding turn
    turn-product zero x e = refl
    turn-product (suc k) x e =
        ap ops.rotate (turn-product k x e) ∙ rotate-product (turn ops k x) e

    pub neg-product : (x e : E) → ops.neg (mul x e) ≡ mul (ops.neg x) e
    neg-product x e =
        sym (laws.half_turn (mul x e))
        ∙ turn-product ops.half x e
        ∙ ap (λ (t : E). mul t e) (laws.half_turn x)

    pub sign-product : (b : Bool) (x e : E) → sign ops b (mul x e) ≡ mul (sign ops b x) e
    sign-product false x e = refl
    sign-product true x e = neg-product x e

    pub add-product : (x y e : E) → mul (ops.add x y) e ≡ ops.add (mul x e) (mul y e)
    add-product x y e =
        ring.comm (ops.add x y) e
        ∙ ring.add e x y
        ∙ ap₂ ops.add (ring.comm e x) (ring.comm e y)

    pub nought-product : (e : E) → mul ops.nought e ≡ ops.nought
    nought-product e =
        let x : E = ops.one in
        ap (λ (t : E). mul t e) (sym (laws.add_neg x))
        ∙ add-product x (ops.neg x) e
        ∙ ap (ops.add (mul x e)) (sym (neg-product x e))
        ∙ laws.add_neg (mul x e)

    pub one-product : (e : E) → mul ops.one e ≡ e
    one-product e = ring.comm ops.one e ∙ ring.one e

    pub act-product : (o : Bits) (c : Command) (f : Amps E) (e : E) (x : Bits) →
        act ops o c (λ y. mul (f y) e) x ≡ mul (act ops o c f x) e
    unfolding act
    act-product o (Prep i) f e x = refl
    act-product o (Ent i j) f e x = sign-product (x i && x j) (f x) e
    act-product o (FixX i s) f e x = refl
    act-product o (FixZ i s) f e x = sign-product (x i && value s o) (f x) e
    act-product o (Meas i a s t) f e x =
        ap (ops.add (mul (f (replaced x i false)) e))
        (ap (turn ops _) (sign-product (o i) (f (replaced x i true)) e) ∙ turn-product _ _ e)
        ∙ sym (add-product _ _ e)

    pub after-product : (o : Bits) (cs : List Command) (f : Amps E) (e : E) (x : Bits) →
        after ops o cs (λ y. mul (f y) e) x ≡ mul (after ops o cs f x) e
    unfolding after
    after-product o [] f e x = refl
    after-product o (c ∷ cs) f e x =
        ap (λ (h : Amps E). after ops o cs h x) (fun_ext (act-product o c f e))
        ∙ after-product o cs (act ops o c f) e x
