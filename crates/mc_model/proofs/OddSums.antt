-- Sums of bits over the numbers below a bound.
use Rattle.std.specs.Prelude.{◌≡◌, ◌≢◌, ◌⊎◌, ℕ, zero, suc, ◌<◌, Bool, true, false, ◌&&◌, refl}
use Rattle.std.proofs.Common.{arith, sym, ap, ap₂, subst, ◌∙◌, inl, inr}
use Rattle.mc_model.specs.Bits.{◌⊻◌, Bits, odd}
use Rattle.std.proofs.lemmas.Bool.{eq-eqb, ne_eqb, eqb-true, true≢false}
use Rattle.mc_model.specs.Flow.{single}
use Rattle.mc_model.proofs.BitLemmas.{xor_middle}

pub and_xor : (a b c : Bool) → a && (b ⊻ c) ≡ (a && b) ⊻ (a && c)
and_xor a b c = grind arith

pub xor_and : (a b c : Bool) → (a ⊻ b) && c ≡ (a && c) ⊻ (b && c)
xor_and a b c = grind arith

pub and_swap : (a b c : Bool) → a && (b && c) ≡ b && (a && c)
and_swap a b c = grind arith

pub and_false : (a : Bool) → a && false ≡ false
and_false a = grind arith

pub xor_self : (a : Bool) → a ⊻ a ≡ false
xor_self a = grind arith

pub and_left : (a b : Bool) → a ≡ false → a && b ≡ false
and_left a b e = ap (λ (c : Bool). c && b) e

pub and_right : (a b : Bool) → b ≡ false → a && b ≡ false
and_right a b e = ap (λ (c : Bool). a && c) e ∙ and_false a

pub not_both : (a b : Bool) → (a ≡ true → b ≡ true → ⊥) → a && b ≡ false
not_both false b h = refl
not_both true false h = refl
not_both true true h = absurd (h refl refl)

-- a sum that is 1 has a part that is 1
pub xor_parts : (a b : Bool) {P : Type 0} → (a ≡ true → P) → (b ≡ true → P) → a ⊻ b ≡ true → P
xor_parts false b f g e = g e
xor_parts true b f g e = f refl

pub clash : (a : Bool) → a ≡ true → a ≡ false → ⊥
clash a e f = true≢false (sym e ∙ f)

pub odd-same : (n : ℕ) (f g : Bits) → ((j : ℕ) → j < n → f j ≡ g j) → odd n f ≡ odd n g
unfolding odd
odd-same zero f g h = refl
odd-same (suc n) f g h =
    ap₂ (λ (a b : Bool). a ⊻ b) (h n (omega arith)) (odd-same n f g (λ j k. h j (omega arith)))

pub odd-none : (n : ℕ) (f : Bits) → ((j : ℕ) → j < n → f j ≡ false) → odd n f ≡ false
unfolding odd
odd-none zero f h = refl
odd-none (suc n) f h =
    ap₂ (λ (a b : Bool). a ⊻ b) (h n (omega arith)) (odd-none n f (λ j k. h j (omega arith)))

pub odd-xor : (n : ℕ) (f g : Bits) → odd n (λ j. f j ⊻ g j) ≡ odd n f ⊻ odd n g
unfolding odd
odd-xor zero f g = refl
odd-xor (suc n) f g =
    ap (λ (b : Bool). (f n ⊻ g n) ⊻ b) (odd-xor n f g)
    ∙ xor_middle (f n) (g n) (odd n f) (odd n g)

pub odd-and : (n : ℕ) (a : Bool) (f : Bits) → odd n (λ j. a && f j) ≡ a && odd n f
odd-and n false f = odd-none n (λ j. false) (λ j k. refl)
odd-and n true f = refl

-- the exchange of two sums
pub odd-exchange : (n m : ℕ) (f : ℕ → Bits) →
    odd n (λ i. odd m (f i)) ≡ odd m (λ j. odd n (λ i. f i j))
unfolding odd
odd-exchange zero m f = sym (odd-none m (λ j. false) (λ j k. refl))
odd-exchange (suc n) m f =
    ap (λ (b : Bool). odd m (f n) ⊻ b) (odd-exchange n m f)
    ∙ sym (odd-xor m (f n) (λ j. odd n (λ i. f i j)))

pub last_or_before : (u n : ℕ) → u < suc n → (u < n) ⊎ (u ≡ n)
last_or_before u n h = grind arith

-- just one number has the bit 1
pub odd-one : (n : ℕ) (f : Bits) (u : ℕ) → u < n → f u ≡ true →
    ((j : ℕ) → j < n → j ≢ u → f j ≡ false) → odd n f ≡ true
unfolding odd
odd-one zero f u h e others = absurd (omega arith)
odd-one (suc n) f u h e others = elim (last_or_before u n h) [
  | inl lt ↦
      ap₂ (λ (a b : Bool). a ⊻ b)
      (others n (omega arith) (omega arith))
      (odd-one n f u lt e (λ j i. others j (omega arith)))
  | inr eq ↦
      ap₂ (λ (a b : Bool). a ⊻ b)
      (subst (λ (k : ℕ). f k ≡ true) eq e)
      (odd-none n f (λ j i. others j (omega arith) (omega arith)))
]

-- ---- single vertices

pub single_itself : (u : ℕ) → single u u ≡ true
single_itself u = eq-eqb u u refl

pub single_other : (u j : ℕ) → j ≢ u → single u j ≡ false
single_other u j ne = ne_eqb j u ne

pub single_member : (u j : ℕ) → single u j ≡ true → j ≡ u
single_member u j e = eqb-true j u e

-- ---- sums and their members

pub odd-last : (n : ℕ) (f : Bits) → odd (suc n) f ≡ f n ⊻ odd n f
unfolding odd
odd-last n f = refl

-- nothing above `d` has the bit 1
pub odd-above : (n d : ℕ) (f : Bits) → d < n →
    ((j : ℕ) → d < j → j < n → f j ≡ false) → odd n f ≡ odd (suc d) f
odd-above zero d f h none = absurd (omega arith)
odd-above (suc n) d f h none = elim (last_or_before d n h) [
  | inl lt ↦
      odd-last n f
      ∙ ap (λ (b : Bool). b ⊻ odd n f) (none n lt (omega arith))
      ∙ odd-above n d f lt (λ j i l. none j i (omega arith))
  | inr eq ↦ ap (λ (m : ℕ). odd (suc m) f) (sym eq)
]

-- a sum that is 1 has a member
pub odd-some : (n : ℕ) (f : Bits) {P : Type 0} →
    ((j : ℕ) → j < n → f j ≡ true → P) → odd n f ≡ true → P
odd-some zero f {P} h e = absurd
    (clash (odd zero f) e (odd-none zero f (λ j l. absurd (omega arith))))
odd-some (suc n) f {P} h e =
    xor_parts (f n) (odd n f) (h n (omega arith)) (odd-some n f (λ j l. h j (omega arith)))
    (sym (odd-last n f) ∙ e)

-- the bit at one number
pub odd-pick : (n a : ℕ) (g : Bits) → a < n → odd n (λ r. g r && single a r) ≡ g a
odd-pick n a g l = by (g a) refl
  where
    by : (b : Bool) → g a ≡ b → odd n (λ r. g r && single a r) ≡ g a
    by true e =
        odd-one n (λ r. g r && single a r) a l
        (ap₂ (λ (b c : Bool). b && c) e (single_itself a))
        (λ j h ne. and_right (g j) (single a j) (single_other a j ne))
        ∙ sym e
    by false e =
        odd-none n (λ r. g r && single a r)
        (λ j h. not_both (g j) (single a j) (λ s t.
        clash (g a) (subst (λ (k : ℕ). g k ≡ true) (single_member a j t) s) e))
        ∙ sym e
