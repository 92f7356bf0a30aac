-- Pairs of places a stride apart, numbered from 0.
use Rattle.std.proofs.Common.{◌≡◌, ℕ, suc, ◌+◌, ◌*◌, ◌/◌, ◌%◌, ◌^◌, ◌<◌, ◌≤◌, Bool, true}
use Rattle.std.proofs.Common.{false}
use Rattle.std.proofs.Common.{cond, List, [], ◌∷◌, length, refl, ap, ap₂, ◌∙◌, arith}
use Rattle.std.specs.Prelude.{nat_eq}
use Rattle.std.proofs.lemmas.Bool.{cases_Bool, false≢true}
use mathlib.Core.Logic.{inl, inr}
use Rattle.std.proofs.Math.Nat.{pow-suc}
use Rattle.mc_model.specs.Numbers.{is_member}
use Rattle.mc_run.specs.Settings.{is_odd, weight, digit, with_digit, with_more}
use Rattle.mc_run.specs.Sources.{ArePairs}
use Rattle.mc_run.proofs.Digits.{parity_of}

-- the number of the pair that a place is in
abbrev pub pair_of : ℕ → ℕ → ℕ
pair_of w i = i / (2 * w) * w + i % w

pub whole_div : (m r w : ℕ) → r < w → (m * w + r) / w ≡ m
whole_div m r w h = grind arith

whole_mod : (m r w : ℕ) → r < w → (m * w + r) % w ≡ r
whole_mod m r w h = grind arith

pub below_width : (i w : ℕ) → 0 < w → i % w < w
below_width i w h = omega arith

div_twice : (i w : ℕ) → 0 < w → i / (2 * w) ≡ i / w / 2
div_twice i w h =
    let q : ℕ = i / w in
    let m : ℕ = q / 2 in
    let b : ℕ = q % 2 in
    let r : ℕ = i % w in
    let whole : i ≡ q * w + r = grind arith in
    let parts : q ≡ 2 * m + b = omega arith in
    let same : (2 * m + b) * w + r ≡ m * (2 * w) + (b * w + r) = grind arith in
    let few : b ≤ 1 = omega arith in
    let low : b * w ≤ 1 * w = grind arith in
    ap (λ n. n / (2 * w)) (whole ∙ ap (λ n. n * w + r) parts ∙ same)
    ∙ whole_div m (b * w + r) (2 * w) (let l = below_width i w h in omega arith)

more_whole : (w : ℕ) (b : Bool) (j : ℕ) →
    with_more w b j ≡ (2 * (j / w) + cond b 1 0) * w + j % w
more_whole w true j = let m : ℕ = j / w in let e : (2 * m + 1) * w ≡ m * (2 * w) + w = grind arith in omega arith
more_whole w false j = let m : ℕ = j / w in let e : (2 * m + 0) * w ≡ m * (2 * w) + 0 = grind arith in omega arith

module _ (w : ℕ) (some : 0 < w) (b : Bool) (j : ℕ) where
  more_div : with_more w b j / w ≡ 2 * (j / w) + cond b 1 0
  more_div =
      ap (λ n. n / w) (more_whole w b j)
      ∙ whole_div (2 * (j / w) + cond b 1 0) (j % w) w (below_width j w some)

  more_mod : with_more w b j % w ≡ j % w
  more_mod =
      ap (λ n. n % w) (more_whole w b j)
      ∙ whole_mod (2 * (j / w) + cond b 1 0) (j % w) w (below_width j w some)

  half_of_it : (m : ℕ) (c : Bool) → (2 * m + cond c 1 0) / 2 ≡ m
  half_of_it m true = omega arith
  half_of_it m false = omega arith

  more_high : with_more w b j / (2 * w) ≡ j / w
  more_high =
      div_twice (with_more w b j) w some ∙ ap (λ n. n / 2) more_div ∙ half_of_it (j / w) b

  pub pair_of_more : pair_of w (with_more w b j) ≡ j
  pair_of_more =
      ap₂ (λ m r. m * w + r) more_high more_mod ∙ (let e : j / w * w + j % w ≡ j = grind arith in e)

  pub digit_more : digit w (with_more w b j) ≡ b
  digit_more = ap is_odd more_div ∙ parity_of (j / w) b

  pub with_digit_more : (c : Bool) → with_digit w c (with_more w b j) ≡ with_more w c j
  with_digit_more c = ap₂ (λ m r. m * (2 * w) + cond c w 0 + r) more_high more_mod

-- each place is in its pair
pub place_in_pair : (w i : ℕ) → 0 < w → with_more w (digit w i) (pair_of w i) ≡ i
place_in_pair w i some =
    let m : ℕ = i / (2 * w) in
    let r : ℕ = i % w in
    let low : r < w = below_width i w some in
    let d : pair_of w i / w ≡ m = whole_div m r w low in
    let l : pair_of w i % w ≡ r = whole_mod m r w low in
    let h : m ≡ i / w / 2 = div_twice i w some in
    more_whole w (digit w i) (pair_of w i)
    ∙ ap₂ (λ n k. (2 * n + cond (digit w i) 1 0) * w + k) (d ∙ h) l
    ∙ ap (λ n. n * w + r) (parity (i / w))
    ∙ (let e : i / w * w + i % w ≡ i = grind arith in e)
  where
    by_bit : (n : ℕ) (t : Bool) → is_odd n ≡ t → 2 * (n / 2) + cond t 1 0 ≡ n
    by_bit n t e = grind arith

    parity : (n : ℕ) → 2 * (n / 2) + cond (is_odd n) 1 0 ≡ n
    parity n = by_bit n (is_odd n) refl

-- ---- bounds

pub pair_below : (n m w i : ℕ) → 0 < w → n ≡ m * (2 * w) → i < n → pair_of w i < n / 2
pair_below n m w i some e h =
    let low : i % w < w = below_width i w some in
    let q : ℕ = i / (2 * w) in
    let k : q < m = grind arith in
    let p : (q + 1) * w ≤ m * w = grind arith in
    let s : m * (2 * w) ≡ 2 * (m * w) = grind arith in
    let t : (q + 1) * w ≡ q * w + w = grind arith in
    omega arith

pub more_within : (n m w : ℕ) (b : Bool) (j : ℕ) → 0 < w → n ≡ m * (2 * w) → j < n / 2 →
    with_more w b j < n
more_within n m w b j some e h =
    let low : j % w < w = below_width j w some in
    let q : ℕ = j / w in
    let s : m * (2 * w) ≡ 2 * (m * w) = grind arith in
    let l : j < m * w = omega arith in
    let k : q < m = grind arith in
    let p : (q + 1) * (2 * w) ≤ m * (2 * w) = grind arith in
    let t : (q + 1) * (2 * w) ≡ q * (2 * w) + w + w = grind arith in
    let c : cond b w 0 ≤ w = bit b in
    omega arith
  where
    bit : (b : Bool) → cond b w 0 ≤ w
    bit true = omega arith
    bit false = omega arith

pub first_not_before : (w : ℕ) (b : Bool) (j : ℕ) → 0 < w → j ≤ with_more w b j
first_not_before w b j some =
    let e : j / w * w + j % w ≡ j = grind arith in
    let q : ℕ = j / w in
    let d : q * (2 * w) ≡ q * w + q * w = grind arith in
    omega arith

pub live_pairs : (live : List ℕ) (q : ℕ) → is_member live q ≡ true →
    ArePairs (2 ^ length live) (weight live q)
live_pairs [] q m = absurd (false≢true m)
live_pairs (r ∷ rs) q m =
    let p : 2 ^ suc (length rs) ≡ 2 * 2 ^ length rs = pow-suc 2 (length rs) ∙ omega arith in
    elim (cases_Bool (nat_eq q r)) [
      | inl e ↦ rw e (2 ^ length rs, omega arith)
      | inr e ↦
          rw e (let d = live_pairs rs q (rw e at m) in
          let w : ℕ = weight rs q in
          let k : ℕ = d.0 in
          let t : 2 * (k * (2 * w)) ≡ k * (2 * (2 * w)) = grind arith in
          (k, p ∙ ap (λ n. 2 * n) d.1 ∙ t))
    ]
