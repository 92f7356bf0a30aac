-- Settings with a bit replaced, and sums of bits.
use Rattle.std.proofs.Common.{◌≡◌, ℕ, Bool, true, false, cond, not, ◌&&◌, refl, ap, arith}
use Rattle.std.specs.Prelude.{nat_eq}
use Rattle.std.proofs.lemmas.Bool.{eq-eqb, ne_eqb, cases_Bool, cases_eq}
use mathlib.Core.Logic.{inl, inr}
use mathlib.Core.Path.{fun_ext}
use Rattle.mc_model.specs.Bits.{◌⊻◌, Bits, replaced}

pub replaced_same : (x : Bits) (i : ℕ) (b : Bool) → replaced x i b i ≡ b
replaced_same x i b = ap (λ (t : Bool). cond t b (x i)) (eq-eqb i i refl)

pub replaced_other : (x : Bits) (i : ℕ) (b : Bool) (k : ℕ) → (k ≡ i → ⊥) → replaced x i b k ≡ x k
replaced_other x i b k ne = ap (λ (t : Bool). cond t b (x k)) (ne_eqb k i ne)

pub xor_false : (b : Bool) → b ⊻ false ≡ b
xor_false b = grind arith

pub and_true : (b : Bool) → b && true ≡ b
and_true b = grind arith

pub not_not : (b : Bool) → not (not b) ≡ b
not_not b = grind arith

pub xor_assoc : (a b c : Bool) → (a ⊻ b) ⊻ c ≡ a ⊻ (b ⊻ c)
xor_assoc a b c = grind arith

pub xor_comm : (a b : Bool) → a ⊻ b ≡ b ⊻ a
xor_comm a b = grind arith

pub xor_again : (a b : Bool) → a ⊻ (b ⊻ a) ≡ b
xor_again a b = grind arith

pub xor_left : (a b c : Bool) → a ⊻ (b ⊻ c) ≡ b ⊻ (a ⊻ c)
xor_left a b c = grind arith

pub xor_twice : (a b : Bool) → a ⊻ (a ⊻ b) ≡ b
xor_twice a b = grind arith

pub xor_middle : (a b c d : Bool) → (a ⊻ b) ⊻ (c ⊻ d) ≡ (a ⊻ c) ⊻ (b ⊻ d)
xor_middle a b c d = grind arith

pub replaced_again : (x : Bits) (i : ℕ) (b c : Bool) →
    replaced (replaced x i b) i c ≡ replaced x i c
replaced_again x i b c = fun_ext λ k. elim (cases_Bool (nat_eq k i)) [ inl e ↦ rw e | inr e ↦ rw e ]

pub replaced_swap : (x : Bits) (i j : ℕ) (b c : Bool) → (i ≡ j → ⊥) →
    replaced (replaced x i b) j c ≡ replaced (replaced x j c) i b
replaced_swap x i j b c ne = fun_ext λ k. elim (cases_eq k i) [
  | inl e ↦ rw (e, eq-eqb i i refl, ne_eqb i j ne)
  | inr n ↦ rw (ne_eqb k i n)
]

pub replaced_itself : (x : Bits) (i : ℕ) → replaced x i (x i) ≡ x
replaced_itself x i = fun_ext λ k. elim (cases_eq k i) [
  | inl e ↦ rw e (replaced_same x i (x i))
  | inr n ↦ replaced_other x i (x i) k n
]
