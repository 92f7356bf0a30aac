-- The laws of whole numbers that std's lemmas lack, and a form for identities of polynomials.
-- An integer is written as a difference of two naturals. Sums, products and negatives of
-- differences are differences, and `omega` multiplies naturals out.
use Rattle.std.specs.Prelude.{◌≡◌, ℕ, suc, ◌+◌, ◌-◌, ◌*◌, ◌<◌, ◌≤◌, ℤ, pos, negsuc, ◌+ℤ◌}
use Rattle.std.specs.Prelude.{◌-ℤ◌, ◌⊎◌}
use Rattle.std.proofs.Common.{arith, sym, ap, subst, ◌∙◌, inl, inr}
use Rattle.std.proofs.lemmas.Int.{ints}
use borrow.Author.Differences.{up, down}
use lib.IntN.{◌*ℤ◌, neg_ℤ}

-- the difference of two naturals
unfoldable pub diff : ℕ → ℕ → ℤ
diff p n = pos p -ℤ pos n

pub as_diff : (a : ℤ) → a ≡ diff (up a) (down a)
unfolding diff
as_diff a = omega (arith, ints)

pub same_diff : (p n q m : ℕ) → p + m ≡ q + n → diff p n ≡ diff q m
unfolding diff
same_diff p n q m e = omega (arith, ints)

pub add_diff : (p n q m : ℕ) → diff p n +ℤ diff q m ≡ diff (p + q) (n + m)
unfolding diff
add_diff p n q m = omega (arith, ints)

pub neg_diff : (p n : ℕ) → neg_ℤ (diff p n) ≡ diff n p
unfolding diff
neg_diff p n = omega (arith, ints)

pub sub_diff : (p n q m : ℕ) → diff p n -ℤ diff q m ≡ diff (p + m) (n + q)
unfolding diff
sub_diff p n q m = omega (arith, ints)

-- of two naturals one is the other and something more
pub data Apart (p n : ℕ) : Type 0 where
  above : (k : ℕ) → p ≡ n + k → Apart p n
  below : (k : ℕ) → n ≡ p + suc k → Apart p n

apart_by : (p n : ℕ) → (p < n) ⊎ (n ≤ p) → Apart p n
apart_by p n (inl h) = below (n - p - 1) (omega arith)
apart_by p n (inr h) = above (p - n) (omega arith)

pub apart : (p n : ℕ) → Apart p n
apart p n = apart_by p n (grind arith)

mulled : (z t : ℤ) → z *ℤ t ≡ diff (up z * up t + down z * down t) (up z * down t + down z * up t)
unfolding diff
mulled z t = omega (arith, ints)

parts_over : (n k : ℕ) → (up (diff (n + k) n) ≡ k) × (down (diff (n + k) n) ≡ 0)
unfolding diff
parts_over n k = let e : pos (n + k) -ℤ pos n ≡ pos k = omega (arith, ints) in (ap up e, ap down e)

parts_under : (p k : ℕ) → (up (diff p (p + suc k)) ≡ 0) × (down (diff p (p + suc k)) ≡ suc k)
unfolding diff
parts_under p k = let e : pos p -ℤ pos (p + suc k) ≡ negsuc k = omega (arith, ints) in
    (ap up e, ap down e)

-- what is to be shown, and its form where the differences are a and b, negative or not
mul_of : (p n q m a b c d : ℕ) → (up (diff p n) ≡ a) × (down (diff p n) ≡ b) →
    (up (diff q m) ≡ c) × (down (diff q m) ≡ d) →
    (a * c + b * d) + (p * m + n * q) ≡ (p * q + n * m) + (a * d + b * c) →
    diff p n *ℤ diff q m ≡ diff (p * q + n * m) (p * m + n * q)
mul_of p n q m a b c d e f g = mulled (diff p n) (diff q m)
    ∙ simp (e.0, e.1, f.0, f.1) (same_diff _ _ _ _ g)

mul_cases : (p n q m : ℕ) → Apart p n → Apart q m →
    diff p n *ℤ diff q m ≡ diff (p * q + n * m) (p * m + n * q)
mul_cases p n q m (above k e) (above l f) =
    simp (e, f) (mul_of _ _ _ _ _ _ _ _ (parts_over n k) (parts_over m l) (omega arith))
mul_cases p n q m (above k e) (below l f) =
    simp (e, f) (mul_of _ _ _ _ _ _ _ _ (parts_over n k) (parts_under q l) (omega arith))
mul_cases p n q m (below k e) (above l f) =
    simp (e, f) (mul_of _ _ _ _ _ _ _ _ (parts_under p k) (parts_over m l) (omega arith))
mul_cases p n q m (below k e) (below l f) =
    simp (e, f) (mul_of _ _ _ _ _ _ _ _ (parts_under p k) (parts_under q l) (omega arith))

pub mul_diff : (p n q m : ℕ) → diff p n *ℤ diff q m ≡ diff (p * q + n * m) (p * m + n * q)
mul_diff p n q m = mul_cases p n q m (apart p n) (apart q m)

-- ---- an identity holds of all integers where it holds of all differences: after `over`, `over2`
-- or `over3`, `simp diffs` writes each side as one difference, and `same_diff _ _ _ _ (omega
-- arith)` ends it
pub over : (P : ℤ → Type 0) → ((p n : ℕ) → P (diff p n)) → (a : ℤ) → P a
over P h a = subst P (sym (as_diff a)) (h (up a) (down a))

pub over2 : (P : ℤ → ℤ → Type 0) → ((p n q m : ℕ) → P (diff p n) (diff q m)) → (a b : ℤ) → P a b
over2 P h a b = over (λ x. P x b) (λ p n. over (P (diff p n)) (λ q m. h p n q m) b) a

pub over3 : (P : ℤ → ℤ → ℤ → Type 0) → ((p n q m r k : ℕ) → P (diff p n) (diff q m) (diff r k)) →
    (a b c : ℤ) → P a b c
over3 P h a b c = over (λ x. P x b c) (λ p n. over2 (P (diff p n)) (λ q m r k. h p n q m r k) b c) a

pub ruleset diffs = (add_diff, neg_diff, sub_diff, mul_diff)

pub mul_add : (a b c : ℤ) → a *ℤ (b +ℤ c) ≡ (a *ℤ b) +ℤ (a *ℤ c)
mul_add = over3 (λ a b c. a *ℤ (b +ℤ c) ≡ (a *ℤ b) +ℤ (a *ℤ c))
    (λ p n q m r k. simp diffs (same_diff _ _ _ _ (omega arith)))

pub mul_assoc : (a b c : ℤ) → (a *ℤ b) *ℤ c ≡ a *ℤ (b *ℤ c)
mul_assoc = over3 (λ a b c. (a *ℤ b) *ℤ c ≡ a *ℤ (b *ℤ c))
    (λ p n q m r k. simp diffs (same_diff _ _ _ _ (omega arith)))

pub mul_comm : (a b : ℤ) → a *ℤ b ≡ b *ℤ a
mul_comm a b = omega (arith, ints)

pub mul_one : (a : ℤ) → a *ℤ pos 1 ≡ a
mul_one a = omega (arith, ints)

pub mul_zero : (a : ℤ) → a *ℤ pos 0 ≡ pos 0
mul_zero a = omega (arith, ints)

pub mul_neg : (a b : ℤ) → a *ℤ neg_ℤ b ≡ neg_ℤ (a *ℤ b)
mul_neg = over2 (λ a b. a *ℤ neg_ℤ b ≡ neg_ℤ (a *ℤ b))
    (λ p n q m. simp diffs (same_diff _ _ _ _ (omega arith)))
