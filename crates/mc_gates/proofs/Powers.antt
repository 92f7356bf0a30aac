-- An element doubled `n` times is `2 ^ n` times the element.
use Rattle.std.specs.Prelude.{◌≡◌, ℕ, zero, suc, ◌*◌, ◌^◌, ℤ, pos, ◌+ℤ◌, List, [], ◌∷◌}
use Rattle.std.proofs.Common.{arith, refl, sym, ap, ap₂, ◌∙◌}
use Rattle.std.proofs.lemmas.Int.{ints}
use Rattle.std.proofs.Math.Nat.{pow-suc}
use lib.IntN.{◌*ℤ◌}
use Rattle.mc_model.specs.Ring.{Element, ring, plus, scaled}
use Rattle.mc_model.proofs.WholeNumbers.{mul_add, mul_comm, mul_one}
use Rattle.mc_gates.specs.Lowering.{}
use Rattle.mc_model.specs.Phase.{doubled}

add_mul : (a b x : ℤ) → (a *ℤ x) +ℤ (b *ℤ x) ≡ (a +ℤ b) *ℤ x
add_mul a b x =
    ap₂ (λ (s t : ℤ). s +ℤ t) (mul_comm a x) (mul_comm b x)
    ∙ sym (mul_add x a b)
    ∙ mul_comm x (a +ℤ b)

scaled_sum : (a b : ℤ) (xs : List ℤ) → plus (scaled a xs) (scaled b xs) ≡ scaled (a +ℤ b) xs
scaled_sum a b [] = refl
scaled_sum a b (x ∷ xs) =
    ap₂ (λ (y : ℤ) (ys : List ℤ). y ∷ ys) (add_mul a b x) (scaled_sum a b xs)

scaled_one : (xs : List ℤ) → scaled (pos 1) xs ≡ xs
scaled_one [] = refl
scaled_one (x ∷ xs) =
    ap₂ (λ (y : ℤ) (ys : List ℤ). y ∷ ys) (mul_comm (pos 1) x ∙ mul_one x) (scaled_one xs)

pub doubled_is_power : (half n : ℕ) (x : Element half) →
    (doubled (ring half) n x).coefficients ≡ scaled (pos (2 ^ n)) x.coefficients
unfolding doubled
doubled_is_power half zero x = sym (scaled_one x.coefficients)
doubled_is_power half (suc n) x =
    let power : 2 ^ suc n ≡ 2 ^ n * 2 = pow-suc 2 n in
    let twice : pos (2 ^ n) +ℤ pos (2 ^ n) ≡ pos (2 ^ suc n) = omega (arith, ints) in
    ap₂ plus (doubled_is_power half n x) (doubled_is_power half n x)
    ∙ scaled_sum (pos (2 ^ n)) (pos (2 ^ n)) x.coefficients
    ∙ ap (λ (a : ℤ). scaled a x.coefficients) twice
