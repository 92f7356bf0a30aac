-- Digits of places, by the digits of half the place.
use Rattle.std.proofs.Common.{◌≡◌, ℕ, suc, ◌+◌, ◌*◌, ◌/◌, ◌%◌, ◌^◌, ◌<◌, ◌≤◌, Bool, true}
use Rattle.std.proofs.Common.{false}
use Rattle.std.proofs.Common.{cond, List, [], ◌∷◌, length, refl, sym, ap, ap₂, ◌∙◌, arith}
use Rattle.std.specs.Prelude.{nat_eq}
use Rattle.std.proofs.lemmas.Bool.{eq-eqb, ne_eqb, cases_eq, cases_Bool, false≢true}
use mathlib.Core.Logic.{inl, inr}
use Rattle.std.proofs.Math.Nat.{pow-suc}
use Rattle.mc_model.specs.Bits.{replaced}
use Rattle.mc_model.specs.Numbers.{is_member}
use Rattle.mc_model.proofs.BitLemmas.{replaced_again, replaced_swap}
use Rattle.mc_run.specs.Settings.{is_odd, setting, weight, without, digit, with_digit, with_more}

half_div : (i w : ℕ) → 0 < w → i / (2 * w) ≡ i / 2 / w
half_div i w h = grind arith

half_mod : (i w : ℕ) → 0 < w → i % (2 * w) ≡ 2 * (i / 2 % w) + i % 2
half_mod i w h = grind arith

pub weight-positive : (live : List ℕ) (q : ℕ) → 0 < weight live q
weight-positive [] q = omega arith
weight-positive (r ∷ rs) q = elim (cases_Bool (nat_eq q r)) [
  | inl e ↦ rw e (omega arith)
  | inr e ↦ rw e (omega (arith, weight-positive rs q))
]

-- ---- the least significant digit

bit_below : (b : Bool) → cond b 1 0 ≤ 1
bit_below true = omega arith
bit_below false = omega arith

pub half_of : (i : ℕ) (b : Bool) → (2 * i + cond b 1 0) / 2 ≡ i
half_of i b = omega (arith, bit_below b)

pub parity_of : (i : ℕ) (b : Bool) → is_odd (2 * i + cond b 1 0) ≡ b
parity_of i true = eq-eqb ((2 * i + 1) % 2) 1 (omega arith)
parity_of i false = ne_eqb ((2 * i + 0) % 2) 1 (λ e. omega arith)

parity_low : (i j : ℕ) → i % 2 ≡ j % 2 → is_odd i ≡ is_odd j
parity_low i j e = ap (λ n. nat_eq n 1) e

-- ---- digits by halves

twice_cond : (w : ℕ) (b : Bool) → cond b (2 * w) 0 ≡ 2 * cond b w 0
twice_cond w true = refl
twice_cond w false = refl

with_digit_half : (w : ℕ) (b : Bool) (i : ℕ) → 0 < w →
    with_digit (2 * w) b i ≡ 2 * with_digit w b (i / 2) + i % 2
with_digit_half w b i h =
    let a : i / (2 * (2 * w)) ≡ i / 2 / (2 * w) = half_div i (2 * w) (omega arith) in
    let m = half_mod i w h in
    let c = twice_cond w b in
    let k : ℕ = i / 2 / (2 * w) in
    let p : k * (2 * (2 * w)) ≡ 2 * (k * (2 * w)) = grind arith in
    let s : i / (2 * (2 * w)) * (2 * (2 * w)) ≡ k * (2 * (2 * w)) =
    ap (λ n. n * (2 * (2 * w))) a in
    omega arith

with_more_half : (w : ℕ) (b : Bool) (i : ℕ) → 0 < w →
    with_more (2 * w) b i ≡ 2 * with_more w b (i / 2) + i % 2
with_more_half w b i h =
    let a = half_div i w h in
    let m = half_mod i w h in
    let c = twice_cond w b in
    let k : ℕ = i / 2 / w in
    let p : k * (2 * (2 * w)) ≡ 2 * (k * (2 * w)) = grind arith in
    let s : i / (2 * w) * (2 * (2 * w)) ≡ k * (2 * (2 * w)) =
    ap (λ n. n * (2 * (2 * w))) a in
    omega arith

low_digit : (b : Bool) (i : ℕ) → with_digit 1 b i ≡ 2 * (i / 2) + cond b 1 0
low_digit b i = omega arith

low_more : (b : Bool) (i : ℕ) → with_more 1 b i ≡ 2 * i + cond b 1 0
low_more b i = omega arith

-- a place that is twice another and the last digit of a third
over : (x j i : ℕ) → x ≡ 2 * j + i % 2 → (x / 2 ≡ j) × (is_odd x ≡ is_odd i)
over x j i e = (omega arith, parity_low x i (omega arith))

-- ---- settings

digit_one : (i : ℕ) → digit 1 i ≡ is_odd i
digit_one i = parity_low (i / 1) i (omega arith)

digit_half : (w i : ℕ) → 0 < w → digit (2 * w) i ≡ digit w (i / 2)
digit_half w i h = parity_low (i / (2 * w)) (i / 2 / w) (ap (λ n. n % 2) (half_div i w h))

pub digit_of : (live : List ℕ) (q i : ℕ) → is_member live q ≡ true →
    digit (weight live q) i ≡ setting live i q
digit_of [] q i m = absurd (false≢true m)
digit_of (r ∷ rs) q i m = elim (cases_Bool (nat_eq q r)) [
  | inl e ↦ rw e (digit_one i)
  | inr e ↦
      rw e (digit_half (weight rs q) i (weight-positive rs q)
      ∙ digit_of rs q (i / 2) (rw e at m))
]

-- the setting with the qubit's bit as it is told
pub setting_with : (live : List ℕ) (q : ℕ) (b : Bool) (i : ℕ) → is_member live q ≡ true →
    setting live (with_digit (weight live q) b i) ≡ replaced (setting live i) q b
setting_with [] q b i m = absurd (false≢true m)
setting_with (r ∷ rs) q b i m = elim (cases_eq q r) [
  | inl e ↦ rw (eq-eqb q r e) (first e)
  | inr ne ↦
      let n : is_member rs q ≡ true = rw (ne_eqb q r ne) at m in
      rw (ne_eqb q r ne) (later ne (setting_with rs q b (i / 2) n))
]
  where
    first : q ≡ r → setting (r ∷ rs) (with_digit 1 b i) ≡ replaced (setting (r ∷ rs) i) q b
    first e =
        ap (setting (r ∷ rs)) (low_digit b i)
        ∙ ap₂ (λ n c. replaced (setting rs n) r c) (half_of (i / 2) b) (parity_of (i / 2) b)
        ∙ sym (replaced_again (setting rs (i / 2)) r (is_odd i) b)
        ∙ ap (λ k. replaced (setting (r ∷ rs) i) k b) (sym e)

    later : (q ≡ r → ⊥) → setting rs (with_digit (weight rs q) b (i / 2))
        ≡ replaced (setting rs (i / 2)) q b →
        setting (r ∷ rs) (with_digit (2 * weight rs q) b i) ≡ replaced (setting (r ∷ rs) i) q b
    later ne n =
        let w : ℕ = weight rs q in
        let j : ℕ = with_digit w b (i / 2) in
        let o = over (with_digit (2 * w) b i) j i
        (with_digit_half w b i (weight-positive rs q)) in
        ap₂ (λ n c. replaced (setting rs n) r c) o.0 o.1
        ∙ ap (λ x. replaced x r (is_odd i)) n
        ∙ replaced_swap (setting rs (i / 2)) q r b (is_odd i) ne

pub setting_more : (live : List ℕ) (q : ℕ) (b : Bool) (i : ℕ) → is_member live q ≡ true →
    setting live (with_more (weight live q) b i)
    ≡ replaced (setting (without live q) i) q b
setting_more [] q b i m = absurd (false≢true m)
setting_more (r ∷ rs) q b i m = elim (cases_eq q r) [
  | inl e ↦ rw (eq-eqb q r e) (first e)
  | inr ne ↦
      let n : is_member rs q ≡ true = rw (ne_eqb q r ne) at m in
      rw (ne_eqb q r ne) (later ne (setting_more rs q b (i / 2) n))
]
  where
    first : q ≡ r → setting (r ∷ rs) (with_more 1 b i) ≡ replaced (setting rs i) q b
    first e =
        ap (setting (r ∷ rs)) (low_more b i)
        ∙ ap₂ (λ n c. replaced (setting rs n) r c) (half_of i b) (parity_of i b)
        ∙ ap (λ k. replaced (setting rs i) k b) (sym e)

    later : (q ≡ r → ⊥) → setting rs (with_more (weight rs q) b (i / 2))
        ≡ replaced (setting (without rs q) (i / 2)) q b →
        setting (r ∷ rs) (with_more (2 * weight rs q) b i)
        ≡ replaced (setting (r ∷ without rs q) i) q b
    later ne n =
        let w : ℕ = weight rs q in
        let j : ℕ = with_more w b (i / 2) in
        let o = over (with_more (2 * w) b i) j i
        (with_more_half w b i (weight-positive rs q)) in
        ap₂ (λ n c. replaced (setting rs n) r c) o.0 o.1
        ∙ ap (λ x. replaced x r (is_odd i)) n
        ∙ replaced_swap (setting (without rs q) (i / 2)) q r b (is_odd i) ne

-- ---- bounds

pub length-without : (live : List ℕ) (q : ℕ) → is_member live q ≡ true →
    suc (length (without live q)) ≡ length live
length-without [] q m = absurd (false≢true m)
length-without (r ∷ rs) q m = elim (cases_Bool (nat_eq q r)) [
  | inl e ↦ rw e refl
  | inr e ↦ rw e (ap suc (length-without rs q (rw e at m)))
]

pub with_below : (live : List ℕ) (q : ℕ) (b : Bool) (i : ℕ) → is_member live q ≡ true →
    i < 2 ^ length live → with_digit (weight live q) b i < 2 ^ length live
with_below [] q b i m h = absurd (false≢true m)
with_below (r ∷ rs) q b i m h =
    let p : 2 ^ suc (length rs) ≡ 2 * 2 ^ length rs = pow-suc 2 (length rs) ∙ omega arith in
    elim (cases_Bool (nat_eq q r)) [
      | inl e ↦ rw e (omega (arith, bit_below b, low_digit b i))
      | inr e ↦
          rw e (let w : ℕ = weight rs q in
          let d = with_below rs q b (i / 2) (rw e at m) (omega arith) in
          omega (arith, with_digit_half w b i (weight-positive rs q)))
    ]

pub more_below : (live : List ℕ) (q : ℕ) (b : Bool) (i : ℕ) → is_member live q ≡ true →
    i < 2 ^ length (without live q) → with_more (weight live q) b i < 2 ^ length live
more_below [] q b i m h = absurd (false≢true m)
more_below (r ∷ rs) q b i m h =
    let p : 2 ^ suc (length rs) ≡ 2 * 2 ^ length rs = pow-suc 2 (length rs) ∙ omega arith in
    elim (cases_Bool (nat_eq q r)) [
      | inl e ↦
          let k : i < 2 ^ length rs = rw e at h in
          rw e (omega (arith, bit_below b, low_more b i))
      | inr e ↦
          let k : i < 2 ^ suc (length (without rs q)) = rw e at h in
          rw e (let w : ℕ = weight rs q in
          let u : 2 ^ suc (length (without rs q)) ≡ 2 * 2 ^ length (without rs q) =
          pow-suc 2 (length (without rs q)) ∙ omega arith in
          let d = more_below rs q b (i / 2) (rw e at m) (omega arith) in
          omega (arith, with_more_half w b i (weight-positive rs q)))
    ]
