-- The rows of a certificate, as they are written one by one.
use Rattle.std.proofs.Common.{◌≡◌, ℕ, zero, suc, ◌+◌, List, [], ◌∷◌, ◌++◌, map, take, All, refl}
use Rattle.std.proofs.Common.{sym, ap}
use Rattle.std.proofs.Common.{◌∙◌, append_assoc, arith, subst, Some, slice_get}
use Rattle.std.proofs.lemmas.Grind.{flat_map-append}
use Rattle.std.proofs.lemmas.List.{append-nil, map-append}
use Rattle.std.proofs.lemmas.List.Elements.{All-push}
use Rattle.std.proofs.lemmas.Option.{slice_get_within, get_or_from_slice_get}
use Rattle.mc_write.specs.Text.{Line, line_text, text_of}

-- the front of a list with one more
taken_more : {A : Type 0} (xs : List A) (i : ℕ) (x : A) → slice_get xs i ≡ Some x
    → take (suc i) xs ≡ take i xs ++ x ∷ []
taken_more [] i x e = absurd (cc e)
taken_more (y ∷ ys) zero x e = let same : y ≡ x = cc e in ap (λ (z : _). z ∷ []) same
taken_more (y ∷ ys) (suc i) x e = ap (λ (zs : List _). y ∷ zs) (taken_more ys i x e)

-- what holds of all rows holds of the row at a place
pub at_place : {A : Type 0} (P : A → Type 0) (rows : List A) (i : ℕ) (row : A) → All P rows
    → slice_get rows i ≡ Some row → P row
at_place P rows i row all get =
    subst P (get_or_from_slice_get rows i row row get) (all i row (slice_get_within rows i row get))

-- one row more
pub all_more : {A : Type 0} (P : A → Type 0) (rows : List A) (i : ℕ) (row : A)
    → slice_get rows i ≡ Some row → All P (take i rows) → P row → All P (take (i + 1) rows)
all_more P rows i row get all one =
    let next : i + 1 ≡ suc i = omega arith in
    rw (next, taken_more rows i row get) (All-push P (take i rows) row all one)

pub rows_more : {A : Type 0} (start : List ℕ) (line : A → Line) (rows : List A) (i : ℕ) (row : A)
    → slice_get rows i ≡ Some row
    → (start ++ text_of (map line (take i rows))) ++ line_text (line row)
    ≡ start ++ text_of (map line (take (i + 1) rows))
rows_more start line rows i row e =
    let next : i + 1 ≡ suc i = omega arith in
    let lines = map line (take i rows) in
    append_assoc start (text_of lines) (line_text (line row))
    ∙ ap (λ (bytes : List ℕ). start ++ bytes)
    (sym (rw (next, taken_more rows i row e, map-append line (take i rows) (row ∷ []))
    (flat_map-append line_text lines (line row ∷ [])
    ∙ rw (append-nil (line_text (line row))) refl)))

map_after : {A B C : Type 0} (f : B → C) (g : A → B) (xs : List A)
    → map f (map g xs) ≡ map (λ x. f (g x)) xs
map_after f g [] = refl
map_after f g (x ∷ xs) = ap (λ (ys : List _). f (g x) ∷ ys) (map_after f g xs)

-- what is written, part by part
pub lines_written : {A B : Type 0} (line : B → Line) (row : A → B) (rows : List A)
    (header first : List ℕ) (last : Line) (headed begun with_rows whole : List ℕ)
    → headed ≡ header → begun ≡ headed ++ first
    → with_rows ≡ begun ++ text_of (map (λ r. line (row r)) rows)
    → whole ≡ with_rows ++ line_text last
    → whole ≡ header ++ (first ++ text_of (map line (map row rows) ++ last ∷ []))
lines_written line row rows header first last headed begun with_rows whole h b r w =
    let lines = map (λ r. line (row r)) rows in
    let end = flat_map-append line_text lines (last ∷ []) in
    rw (w, r, b, h, map_after line row rows, end, append-nil (line_text last))
    (append_assoc (header ++ first) (text_of lines) (line_text last)
    ∙ append_assoc header first (text_of lines ++ line_text last))

both_lists : {A B C : Type 0} (line : C → Line) (row : A → C) (rows : List A) (other : B → C)
    (others : List B) (last : Line)
    → text_of (map (λ r. line (row r)) rows) ++ text_of (map line (map other others) ++ last ∷ [])
    ≡ text_of (map line (map row rows ++ map other others) ++ last ∷ [])
both_lists line row rows other others last =
    let front = map line (map row rows) in
    let behind = map line (map other others) in
    sym (rw (map-append line (map row rows) (map other others))
    (ap text_of (append_assoc front behind (last ∷ []))
    ∙ flat_map-append line_text front (behind ++ last ∷ [])
    ∙ ap (λ (ls : List Line). text_of ls ++ text_of (behind ++ last ∷ []))
    (map_after line row rows)))

-- what is written, part by part, where there are two lists
pub two_lists_written : {A B C : Type 0} (line : C → Line) (row : A → C) (rows : List A)
    (other : B → C) (others : List B) (header first : List ℕ) (last : Line)
    (headed begun with_rows with_others whole : List ℕ)
    → headed ≡ header → begun ≡ headed ++ first
    → with_rows ≡ begun ++ text_of (map (λ r. line (row r)) rows)
    → with_others ≡ with_rows ++ text_of (map (λ r. line (other r)) others)
    → whole ≡ with_others ++ line_text last
    → whole ≡ header
    ++ (first ++ text_of (map line (map row rows ++ map other others) ++ last ∷ []))
two_lists_written line row rows other others header first last headed begun with_rows with_others
    whole h b r o w =
    let made = text_of (map (λ r. line (row r)) rows) in
    lines_written line other others header (first ++ made) last headed with_rows with_others whole h
    (r ∙ ap (λ (bytes : List ℕ). bytes ++ made) b ∙ append_assoc headed first made) o w
    ∙ ap (λ (bytes : List ℕ). header ++ bytes)
    (append_assoc first made (text_of (map line (map other others) ++ last ∷ []))
    ∙ ap (λ (bytes : List ℕ). first ++ bytes) (both_lists line row rows other others last))
