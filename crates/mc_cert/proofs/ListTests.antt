-- Tests of the elements of a list and of the numbers below a bound, as loops make them.
use Rattle.std.proofs.Common.{◌≡◌, ◌≢◌, ℕ, zero, suc, ◌+◌, ◌<◌, ◌≤◌, Bool, true, false, ◌||◌}
use Rattle.std.proofs.Common.{not}
use Rattle.std.proofs.Common.{List, ◌∷◌, drop, refl, sym, ◌∙◌, ap, ap₂, arith}
use Rattle.std.specs.Prelude.{slice_get, Some}
use Rattle.std.specs.List.{list_any}
use Rattle.std.proofs.Math.Seq.{drop-cons}
use Rattle.std.proofs.lemmas.Option.{slice_get_within, get_or_from_slice_get}
use Rattle.std.proofs.lemmas.Bool.{true≢false}
use Rattle.mc_model.specs.Bits.{Bits}
use Rattle.mc_model.specs.Numbers.{numbers_from}

pub not_false : (a : Bool) → not a ≡ false → a ≡ true
not_false true e = refl
not_false false e = absurd (true≢false e)

pub not_true : (a : Bool) → not a ≡ true → a ≡ false
not_true true e = absurd (true≢false (sym e))
not_true false e = refl

pub drop_at : {A : Type 0} (xs : List A) (i : ℕ) (x : A) → slice_get xs i ≡ Some x →
    drop i xs ≡ x ∷ drop (i + 1) xs
drop_at xs i x e =
    let f : suc i ≡ i + 1 = omega arith in
    drop-cons xs i x (slice_get_within xs i x e)
    ∙ ap₂ (λ (y : _) (k : ℕ). y ∷ drop k xs) (get_or_from_slice_get xs i x x e) f

-- ---- a loop over a list

pub any_found : {A : Type 0} (p : A → Bool) (xs : List A) (i : ℕ) (x : A) →
    slice_get xs i ≡ Some x → p x ≡ true → list_any p (drop i xs) ≡ list_any p xs →
    true ≡ list_any p xs
any_found p xs i x e t kept =
    sym (sym kept ∙ ap (list_any p) (drop_at xs i x e)
    ∙ ap (λ (b : Bool). b || list_any p (drop (i + 1) xs)) t)

pub any_step : {A : Type 0} (p : A → Bool) (xs : List A) (i : ℕ) (x : A) →
    slice_get xs i ≡ Some x → p x ≡ false → list_any p (drop i xs) ≡ list_any p xs →
    list_any p (drop (i + 1) xs) ≡ list_any p xs
any_step p xs i x e t kept =
    sym (sym kept ∙ ap (list_any p) (drop_at xs i x e)
    ∙ ap (λ (b : Bool). b || list_any p (drop (i + 1) xs)) t)

-- ---- numbers

any_by : (p : Bits) (q n w : ℕ) (b : Bool) → p q ≡ b → (b ≡ false → q ≡ w → ⊥) →
    (q ≢ w → list_any p (numbers_from (suc q) n) ≡ true) →
    list_any p (numbers_from q (suc n)) ≡ true
any_by p q n w true e other rest = ap (λ (b : Bool). b || list_any p (numbers_from (suc q) n)) e
any_by p q n w false e other rest =
    ap (λ (b : Bool). b || list_any p (numbers_from (suc q) n)) e ∙ rest (other refl)

pub any_number : (p : Bits) (q n w : ℕ) → q ≤ w → w < q + n → p w ≡ true →
    list_any p (numbers_from q n) ≡ true
any_number p q zero w low high t = absurd (omega arith)
any_number p q (suc n) w low high t =
    any_by p q n w (p q) refl (λ e s. true≢false (sym t ∙ ap p (sym s) ∙ e))
    (λ ne. any_number p (suc q) n w (omega arith) (omega arith) t)

pub none_from : (p : Bits) (q n : ℕ) → ((w : ℕ) → q ≤ w → w < q + n → p w ≡ false) →
    list_any p (numbers_from q n) ≡ false
none_from p q zero h = refl
none_from p q (suc n) h =
    ap₂ (λ (a b : Bool). a || b) (h q (omega arith) (omega arith))
    (none_from p (suc q) n (λ w low high. h w (omega arith) (omega arith)))

pub number_found : (p : Bits) (n w : ℕ) → w < n → p w ≡ true →
    true ≡ list_any p (numbers_from 0 n)
number_found p n w l t = sym (any_number p 0 n w (omega arith) (omega arith) t)

pub no_number : (p : Bits) (n : ℕ) → ((w : ℕ) → w < n → p w ≡ false) →
    false ≡ list_any p (numbers_from 0 n)
no_number p n h = sym (none_from p 0 n (λ w low high. h w (omega arith)))

pub not_number : (p : Bits) (n : ℕ) → list_any p (numbers_from 0 n) ≡ false →
    (w : ℕ) → w < n → p w ≡ false
not_number p n none w l = by (p w) refl
  where
    by : (b : Bool) → p w ≡ b → p w ≡ false
    by true e = absurd (true≢false (number_found p n w l e ∙ none))
    by false e = e

pub not_number_from : (p : Bits) (q n : ℕ) → list_any p (numbers_from q n) ≡ false →
    (w : ℕ) → q ≤ w → w < q + n → p w ≡ false
not_number_from p q n none w low high = by (p w) refl
  where
    by : (b : Bool) → p w ≡ b → p w ≡ false
    by true e = absurd (true≢false (sym (any_number p q n w low high e) ∙ none))
    by false e = e
