-- Reads of listed values.
use Rattle.std.proofs.Common.{◌≡◌, ℕ, zero, suc, ◌+◌, ◌<◌, List, [], ◌∷◌, ◌++◌, length, map, sym}
use Rattle.std.proofs.Common.{◌∙◌, ap, arith}
use Rattle.std.proofs.lemmas.List.{map-append}
use Rattle.mc_model.specs.Numbers.{numbers_from}
use Rattle.mc_model.proofs.NumberLists.{numbers_below-last}
use Rattle.std.specs.Prelude.{slice_index_or}

pub read_mapped : {A B : Type 0} (f : A → B) (xs : List A) (i : ℕ) (x : A) (d : B) →
    i < length xs → x ≡ slice_index_or xs i x → slice_index_or (map f xs) i d ≡ f x
read_mapped f [] i x d l e = absurd (omega arith)
read_mapped f (y ∷ ys) zero x d l e = ap f (sym e)
read_mapped f (y ∷ ys) (suc i) x d l e = read_mapped f ys i x d (omega arith) e

-- one more number
pub map_more : {A : Type 0} (f : ℕ → A) (n : ℕ) →
    map f (numbers_from 0 (n + 1)) ≡ map f (numbers_from 0 n) ++ (f n ∷ [])
map_more f n =
    let e : n + 1 ≡ suc n = omega arith in
    ap (λ (k : ℕ). map f (numbers_from 0 k)) e
    ∙ ap (map f) (numbers_below-last n)
    ∙ map-append f (numbers_from 0 n) (n ∷ [])

pub read_from : {A : Type 0} (f : ℕ → A) (q n v : ℕ) (d : A) → v < n →
    slice_index_or (map f (numbers_from q n)) v d ≡ f (q + v)
read_from f q zero v d l = absurd (omega arith)
read_from f q (suc n) zero d l = let e : q ≡ q + 0 = omega arith in ap f e
read_from f q (suc n) (suc v) d l =
    let e : suc q + v ≡ q + suc v = omega arith in
    read_from f (suc q) n v d (omega arith) ∙ ap f e

pub read_numbered : {A : Type 0} (f : ℕ → A) (n v : ℕ) (d : A) → v < n →
    slice_index_or (map f (numbers_from 0 n)) v d ≡ f v
read_numbered f n v d l =
    let e : 0 + v ≡ v = omega arith in read_from f 0 n v d l ∙ ap f e
