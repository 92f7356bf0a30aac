-- The sum over the neighbours of a vertex is that of its odd neighbourhood.
use Rattle.std.proofs.Common.{◌≡◌, ℕ, zero, suc, Bool, true, false, ◌&&◌, cond, List, [], ◌∷◌, ◌++◌}
use Rattle.std.proofs.Common.{refl, ◌∙◌, ap, arith}
use Rattle.mc_model.specs.Numbers.{numbers_where}
use Rattle.mc_model.specs.Bits.{◌⊻◌, Bits, parity, odd}
use Rattle.mc_model.proofs.NumberLists.{numbers_where-last}

parity-append : (ps qs : List ℕ) (o : Bits) → parity (ps ++ qs) o ≡ parity ps o ⊻ parity qs o
unfolding parity
parity-append [] qs o = refl
parity-append (p ∷ ps) qs o =
    ap (λ (b : Bool). o p ⊻ b) (parity-append ps qs o) ∙ assoc (o p) (parity ps o) (parity qs o)
  where
    assoc : (a b c : Bool) → a ⊻ (b ⊻ c) ≡ (a ⊻ b) ⊻ c
    assoc a b c = grind arith

one_more : (a : Bool) (s : Bits) (n : ℕ) (b : Bool) →
    a ⊻ parity (cond b (n ∷ []) []) s ≡ (s n && b) ⊻ a
unfolding parity
one_more a s n true = with_it a (s n)
  where
    with_it : (a c : Bool) → a ⊻ (c ⊻ false) ≡ (c && true) ⊻ a
    with_it a c = grind arith
one_more a s n false = without a (s n)
  where
    without : (a c : Bool) → a ⊻ false ≡ (c && false) ⊻ a
    without a c = grind arith

pub parity_where : (p s : Bits) (n : ℕ) →
    parity (numbers_where p n) s ≡ odd n (λ w. s w && p w)
unfolding parity odd
parity_where p s zero = refl
parity_where p s (suc n) =
    ap (λ (ps : List ℕ). parity ps s) (numbers_where-last p n)
    ∙ parity-append (numbers_where p n) (cond (p n) (n ∷ []) []) s
    ∙ one_more (parity (numbers_where p n) s) s n (p n)
    ∙ ap (λ (b : Bool). (s n && p n) ⊻ b) (parity_where p s n)
