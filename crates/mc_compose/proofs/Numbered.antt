-- The sum over lists of bits is that over the numbers that they spell.
use Rattle.std.proofs.Common.{◌≡◌, ℕ, zero, suc, ◌+◌, ◌*◌, ◌/◌, ◌%◌, ◌^◌, ◌<◌, Bool, true, false}
use Rattle.std.proofs.Common.{List, [], ◌∷◌, refl, sym, ◌∙◌, ap, ap₂, arith}
use Rattle.std.specs.Prelude.{nat_eq}
use Rattle.std.proofs.lemmas.Nat.{field_of, mod-pow-add, div-add-mod', div-mul-add}
use Rattle.std.proofs.Math.Nat.{pow-suc}
use Rattle.mc_model.specs.Phase.{PhaseOps, PhaseLaws}
use Rattle.mc_run.specs.Settings.{is_odd, spelled}
use Rattle.mc_compose.specs.Sums.{sum_over_bits, sum_below}
use Rattle.mc_compose.proofs.ProductLaws.{nought_left}

-- a list of `n` bits is spelled by the rest of a number alone
spelled_same : (n i j : ℕ) → i % 2 ^ n ≡ j % 2 ^ n → spelled n i ≡ spelled n j
spelled_same zero i j e = refl
spelled_same (suc n) i j e =
    let one_more : suc n ≡ 1 + n = omega arith in
    let rest : i % 2 ^ (1 + n) ≡ j % 2 ^ (1 + n) =
    ap (λ (k : ℕ). i % 2 ^ k) (sym one_more) ∙ e ∙ ap (λ (k : ℕ). j % 2 ^ k) one_more in
    let first : i / 2 ^ n % 2 ≡ j / 2 ^ n % 2 =
    sym (field_of i 1 n) ∙ ap (λ (r : ℕ). r / 2 ^ n) rest ∙ field_of j 1 n in
    let same = ap (λ (b : ℕ). b * 2 ^ n) first in
    let parts = mod-pow-add i 1 n in
    let others = mod-pow-add j 1 n in
    ap₂ (λ (b : Bool) (bs : List Bool). b ∷ bs)
    (ap (λ (b : ℕ). nat_eq b 1) first)
    (spelled_same n i j (omega arith))

none_over : (w i : ℕ) → i < w → i / w ≡ 0
none_over w i lt =
    let e : i ≡ 0 * w + i = omega arith in ap (λ (k : ℕ). k / w) e ∙ div-mul-add 0 w i lt

one_over : (w i : ℕ) → i < w → (w + i) / w ≡ 1
one_over w i lt =
    let e : w + i ≡ 1 * w + i = omega arith in ap (λ (k : ℕ). k / w) e ∙ div-mul-add 1 w i lt

same_rest : (w i : ℕ) → i < w → (w + i) % w ≡ i % w
same_rest w i lt =
    let here = div-add-mod' i w in
    let there = div-add-mod' (w + i) w in
    let none = ap (λ (k : ℕ). k * w) (none_over w i lt) in
    let one = ap (λ (k : ℕ). k * w) (one_over w i lt) in
    omega arith

spelled_low : (n i : ℕ) → i < 2 ^ n → spelled (suc n) i ≡ false ∷ spelled n i
spelled_low n i lt =
    ap (λ (b : ℕ). is_odd b ∷ spelled n i) (none_over (2 ^ n) i lt)

spelled_high : (n i : ℕ) → i < 2 ^ n → spelled (suc n) (2 ^ n + i) ≡ true ∷ spelled n i
spelled_high n i lt =
    ap₂ (λ (b : ℕ) (bs : List Bool). is_odd b ∷ bs) (one_over (2 ^ n) i lt)
    (spelled_same n (2 ^ n + i) i (same_rest (2 ^ n) i lt))

module _ {E : Type 0} (ops : PhaseOps E) (laws : PhaseLaws ops) where
  below_same : (n : ℕ) (f g : ℕ → E) → ((i : ℕ) → i < n → f i ≡ g i) →
      sum_below ops n f ≡ sum_below ops n g
  unfolding sum_below
  below_same zero f g same = refl
  below_same (suc n) f g same =
      ap₂ ops.add (below_same n f g (λ i lt. same i (omega arith))) (same n (omega arith))

  below_both : (m n : ℕ) (f : ℕ → E) →
      sum_below ops (m + n) f ≡ ops.add (sum_below ops m f) (sum_below ops n (λ i. f (m + i)))
  unfolding sum_below
  below_both m zero f =
      let e : m + 0 ≡ m = omega arith in
      ap (λ (k : ℕ). sum_below ops k f) e ∙ sym (laws.add_nought (sum_below ops m f))
  below_both m (suc n) f =
      let e : m + suc n ≡ suc (m + n) = omega arith in
      ap (λ (k : ℕ). sum_below ops k f) e
      ∙ ap (λ (t : E). ops.add t (f (m + n))) (below_both m n f)
      ∙ laws.add_assoc (sum_below ops m f) (sum_below ops n (λ i. f (m + i))) (f (m + n))

  pub sum_by_numbers : (n : ℕ) (f : List Bool → E) →
      sum_over_bits ops n f ≡ sum_below ops (2 ^ n) (λ i. f (spelled n i))
  unfolding sum_over_bits sum_below
  sum_by_numbers zero f = sym (nought_left ops laws (f []))
  sum_by_numbers (suc n) f =
      let p : 2 ^ suc n ≡ 2 ^ n + 2 ^ n = pow-suc 2 n ∙ omega arith in
      ap₂ ops.add
      (sum_by_numbers n (λ c. f (false ∷ c))
      ∙ below_same (2 ^ n) _ (λ i. f (spelled (suc n) i))
      (λ i lt. ap f (sym (spelled_low n i lt))))
      (sum_by_numbers n (λ c. f (true ∷ c))
      ∙ below_same (2 ^ n) _ (λ i. f (spelled (suc n) (2 ^ n + i)))
      (λ i lt. ap f (sym (spelled_high n i lt))))
      ∙ sym (below_both (2 ^ n) (2 ^ n) (λ i. f (spelled (suc n) i)))
      ∙ ap (λ (k : ℕ). sum_below ops k (λ i. f (spelled (suc n) i))) (sym p)
