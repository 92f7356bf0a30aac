-- Lists by numbers, and by two of them.
use Rattle.std.proofs.Common.{◌≡◌, ℕ, zero, suc, ◌+◌, ◌*◌, ◌^◌, ◌<◌, ◌≤◌, Bool, ◌||◌, List}
use Rattle.std.proofs.Common.{[], ◌∷◌}
use Rattle.std.proofs.Common.{◌++◌, map, length, slice_index_or, refl, sym, ap, ap₂, ◌∙◌, arith}
use Rattle.std.specs.List.{flat_map, list_any}
use Rattle.std.proofs.lemmas.List.{map-append}
use Rattle.mc_model.specs.Numbers.{numbers_from}

-- ---- what agrees on the numbers that are listed

pub map_on : {A : Type 0} (f g : ℕ → A) (q n : ℕ) →
    ((i : ℕ) → q ≤ i → i < q + n → f i ≡ g i) →
    map f (numbers_from q n) ≡ map g (numbers_from q n)
map_on f g q zero same = refl
map_on f g q (suc n) same =
    ap₂ (λ x xs. x ∷ xs) (same q (omega arith) (omega arith))
    (map_on f g (suc q) n (λ i l h. same i (omega arith) (omega arith)))

pub flat_on : {A : Type 0} (f g : ℕ → List A) (q n : ℕ) →
    ((i : ℕ) → q ≤ i → i < q + n → f i ≡ g i) →
    flat_map f (numbers_from q n) ≡ flat_map g (numbers_from q n)
flat_on f g q zero same = refl
flat_on f g q (suc n) same =
    ap₂ (λ xs ys. xs ++ ys) (same q (omega arith) (omega arith))
    (flat_on f g (suc q) n (λ i l h. same i (omega arith) (omega arith)))

pub any_on : (f g : ℕ → Bool) (q n : ℕ) → ((i : ℕ) → q ≤ i → i < q + n → f i ≡ g i) →
    list_any f (numbers_from q n) ≡ list_any g (numbers_from q n)
any_on f g q zero same = refl
any_on f g q (suc n) same =
    ap₂ (λ a b. a || b) (same q (omega arith) (omega arith))
    (any_on f g (suc q) n (λ i l h. same i (omega arith) (omega arith)))

-- ---- by rising `b` below a power of two, and for each by rising `y` below another

abbrev pub grid : {A : Type 0} → ℕ → ℕ → (ℕ → ℕ → A) → List A
grid outputs inputs f =
    flat_map (λ b. map (λ y. f y b) (numbers_from 0 (2 ^ outputs))) (numbers_from 0 (2 ^ inputs))

pub grid_same : {A : Type 0} (n m outputs inputs : ℕ) (f g : ℕ → ℕ → A) → n ≡ outputs → m ≡ inputs →
    ((y b : ℕ) → y < 2 ^ outputs → b < 2 ^ inputs → f y b ≡ g y b) →
    grid n m f ≡ grid outputs inputs g
grid_same n m outputs inputs f g d e same =
    ap₂ (λ k l. grid k l f) d e
    ∙ flat_on (λ b. map (λ y. f y b) (numbers_from 0 (2 ^ outputs)))
    (λ b. map (λ y. g y b) (numbers_from 0 (2 ^ outputs))) 0 (2 ^ inputs)
    (λ b l h. map_on (λ y. f y b) (λ y. g y b) 0 (2 ^ outputs)
    (λ y k i. same y b (omega arith) (omega arith)))

-- ---- a list is its elements by their numbers, and so a grid of them

listed_from : {A : Type 0} (xs : List A) (d : A) (g : ℕ → A) (q : ℕ) →
    ((i : ℕ) → slice_index_or xs i d ≡ g (q + i)) → xs ≡ map g (numbers_from q (length xs))
listed_from [] d g q at = refl
listed_from (x ∷ xs) d g q at =
    let z : q + 0 ≡ q = omega arith in
    let s : (i : ℕ) → q + suc i ≡ suc q + i = λ i. omega arith in
    ap₂ (λ y ys. y ∷ ys) (at 0 ∙ ap g z) (listed_from xs d g (suc q) (λ i. at (suc i) ∙ ap g (s i)))

pub listed : {A : Type 0} (xs : List A) (d : A) →
    xs ≡ map (λ i. slice_index_or xs i d) (numbers_from 0 (length xs))
listed xs d = listed_from xs d (λ i. slice_index_or xs i d) 0
    (λ i. let z : i ≡ 0 + i = omega arith in ap (λ j. slice_index_or xs j d) z)

shifted : {A : Type 0} (g : ℕ → A) (p k n : ℕ) →
    map (λ y. g (p + y)) (numbers_from k n) ≡ map g (numbers_from (p + k) n)
shifted g p k zero = refl
shifted g p k (suc n) =
    let s : p + suc k ≡ suc (p + k) = omega arith in
    ap (λ ys. g (p + k) ∷ ys) (shifted g p (suc k) n ∙ ap (λ m. map g (numbers_from m n)) s)

numbers_join : (q n k : ℕ) → numbers_from q (n + k) ≡ numbers_from q n ++ numbers_from (q + n) k
numbers_join q zero k =
    let n : 0 + k ≡ k = omega arith in
    let z : q ≡ q + 0 = omega arith in
    ap (numbers_from q) n ∙ ap (λ m. numbers_from m k) z
numbers_join q (suc n) k =
    let s : suc q + n ≡ q + suc n = omega arith in
    let t : suc n + k ≡ suc (n + k) = omega arith in
    ap (numbers_from q) t
    ∙ ap (λ ns. q ∷ ns) (numbers_join (suc q) n k
    ∙ ap (λ m. numbers_from (suc q) n ++ numbers_from m k) s)

pub squares : {A : Type 0} (g : ℕ → A) (n q m : ℕ) →
    flat_map (λ b. map (λ y. g (b * n + y)) (numbers_from 0 n)) (numbers_from q m)
    ≡ map g (numbers_from (q * n) (m * n))
squares g n q zero =
    let z : 0 ≡ 0 * n = omega arith in ap (λ k. map g (numbers_from (q * n) k)) z
squares g n q (suc m) =
    let z : q * n + 0 ≡ q * n = omega arith in
    let s : suc q * n ≡ q * n + n = grind arith in
    let t : n + m * n ≡ suc m * n = grind arith in
    ap₂ (λ xs ys. xs ++ ys) (shifted g (q * n) 0 n ∙ ap (λ k. map g (numbers_from k n)) z)
    (squares g n (suc q) m ∙ ap (λ k. map g (numbers_from k (m * n))) s)
    ∙ sym (map-append g (numbers_from (q * n) n) (numbers_from (q * n + n) (m * n)))
    ∙ ap (map g) (sym (numbers_join (q * n) n (m * n)))
    ∙ ap (λ k. map g (numbers_from (q * n) k)) t
