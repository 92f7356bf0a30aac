-- Lists that are compared, or cut, at a place.
use Rattle.std.proofs.Common.{◌≡◌, ℕ, ◌+◌, ◌<◌, ◌≤◌, List, [], ◌∷◌, ◌++◌, map, length, take, drop}
use Rattle.std.proofs.Common.{get_or, refl, sym, ◌∙◌, ap, ap₂, arith}
use Rattle.std.specs.Prelude.{slice_get, Some, option_map}
use Rattle.std.proofs.lemmas.List.{drop_more, take_more, take_all, take-append-drop}
use Rattle.std.proofs.lemmas.Option.{slice_get_within, get_or_from_slice_get, slice_get-map}
use Rattle.std.proofs.lemmas.Option.{slice_get_read}

pub dropped_at : {X : Type 0} (xs : List X) (i : ℕ) (x : X) → slice_get xs i ≡ Some x →
    drop i xs ≡ x ∷ drop (i + 1) xs
dropped_at xs i x e = drop_more xs i x (slice_get_within xs i x e)
    ∙ ap (λ (y : _). y ∷ drop (i + 1) xs) (get_or_from_slice_get xs i x x e)

pub taken_at : {X : Type 0} (xs : List X) (i : ℕ) (x : X) → slice_get xs i ≡ Some x →
    take (i + 1) xs ≡ take i xs ++ (x ∷ [])
taken_at xs i x e = take_more xs i x (slice_get_within xs i x e)
    ∙ ap (λ (y : _). take i xs ++ (y ∷ [])) (get_or_from_slice_get xs i x x e)

pub cut_at : {X : Type 0} (xs : List X) (i : ℕ) (x : X) → slice_get xs i ≡ Some x →
    xs ≡ take i xs ++ (x ∷ drop (i + 1) xs)
cut_at xs i x e = sym (take-append-drop i xs)
    ∙ ap (λ (ys : List _). take i xs ++ ys) (dropped_at xs i x e)

pub same_more : {X : Type 0} (xs ys : List X) (i : ℕ) (x y : X) → slice_get xs i ≡ Some x →
    slice_get ys i ≡ Some y → x ≡ y → take i xs ≡ take i ys → take (i + 1) xs ≡ take (i + 1) ys
same_more xs ys i x y e f same h = taken_at xs i x e
    ∙ ap₂ (λ (zs : List _) (z : _). zs ++ (z ∷ [])) h same
    ∙ sym (taken_at ys i y f)

pub same_all : {X : Type 0} (xs ys : List X) (i : ℕ) → length xs ≤ i → length xs ≡ length ys →
    take i xs ≡ take i ys → xs ≡ ys
same_all xs ys i h e same = sym (take_all i xs h) ∙ same ∙ take_all i ys (omega arith)

pub differ_at : {X : Type 0} (xs ys : List X) (i : ℕ) (x y : X) → slice_get xs i ≡ Some x →
    slice_get ys i ≡ Some y → (x ≡ y → ⊥) → xs ≡ ys → ⊥
differ_at xs ys i x y e f other same =
    let g : Some x ≡ Some y = sym e ∙ ap (λ (zs : List _). slice_get zs i) same ∙ f in
    other (cc g)

-- a read, through a map
pub read_mapped : {X Y : Type 0} (f : X → Y) (xs : List X) (i : ℕ) (x : X) → i < length xs →
    x ≡ get_or xs i x → slice_get (map f xs) i ≡ Some (f x)
read_mapped f xs i x within read = slice_get-map f xs i
    ∙ ap (option_map f) (slice_get_read xs (length xs) i x refl within read)

-- lists that are cut at one place
pub cut_same : {X : Type 0} (fs gs xs ys : List X) → length fs ≡ length gs →
    fs ++ xs ≡ gs ++ ys → (fs ≡ gs) × (xs ≡ ys)
cut_same [] [] xs ys e h = (refl, h)
cut_same (f ∷ fs) (g ∷ gs) xs ys e h =
    let first : f ≡ g = cc h in
    let rest = cut_same fs gs xs ys (omega arith) (cc h) in
    (ap₂ (λ (x : _) (zs : List _). x ∷ zs) first rest.0, rest.1)
cut_same [] (g ∷ gs) xs ys e h = absurd (omega arith)
cut_same (f ∷ fs) [] xs ys e h = absurd (omega arith)
