-- The sum over the list of the numbers that pass a test.
use Rattle.std.proofs.Common.{◌≡◌, ℕ, zero, suc, Bool, true, false, cond, ◌&&◌, List, [], ◌∷◌}
use Rattle.std.proofs.Common.{◌++◌, refl, sym, ◌∙◌, ap, ap₂, arith}
use Rattle.mc_model.specs.Bits.{◌⊻◌, Bits, parity, odd}
use Rattle.mc_model.specs.Numbers.{numbers_where}
use Rattle.mc_model.proofs.BitLemmas.{xor_false, xor_assoc, xor_comm}
use Rattle.mc_model.proofs.NumberLists.{numbers_where-last}
use Rattle.mc_model.proofs.OddSums.{odd-same}

pub parity-append : (qs rs : List ℕ) (x : Bits) → parity (qs ++ rs) x ≡ parity qs x ⊻ parity rs x
unfolding parity odd
parity-append [] rs x = refl
parity-append (q ∷ qs) rs x =
    ap (λ (b : Bool). x q ⊻ b) (parity-append qs rs x)
    ∙ sym (xor_assoc (x q) (parity qs x) (parity rs x))

parity-one : (n : ℕ) (x : Bits) (b : Bool) → parity (cond b (n ∷ []) []) x ≡ (b && x n)
unfolding parity odd
parity-one n x true = xor_false (x n)
parity-one n x false = refl

pub parity-numbers_where : (p : Bits) (n : ℕ) (x : Bits) →
    parity (numbers_where p n) x ≡ odd n (λ k. p k && x k)
unfolding parity odd
parity-numbers_where p zero x = refl
parity-numbers_where p (suc n) x =
    ap (λ (qs : List ℕ). parity qs x) (numbers_where-last p n)
    ∙ parity-append (numbers_where p n) (cond (p n) (n ∷ []) []) x
    ∙ ap₂ (λ (a b : Bool). a ⊻ b) (parity-numbers_where p n x) (parity-one n x (p n))
    ∙ xor_comm (odd n (λ k. p k && x k)) (p n && x n)

and_either : (a b : Bool) → a && b ≡ b && a
and_either a b = grind arith

pub parity-where : (p x : Bits) (n : ℕ) → parity (numbers_where p n) x ≡ odd n (λ k. x k && p k)
parity-where p x n =
    parity-numbers_where p n x
    ∙ odd-same n (λ k. p k && x k) (λ k. x k && p k) (λ k l. and_either (p k) (x k))
