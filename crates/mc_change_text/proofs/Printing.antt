-- The rows of a change, as they are written one by one.
use Rattle.std.proofs.Common.{◌≡◌, ℕ, zero, suc, ◌+◌, Bool, true, false, ◌||◌, List, [], ◌∷◌}
use Rattle.std.proofs.Common.{◌++◌, map, take, refl, sym, ap, ◌∙◌, append_assoc, arith, Some, slice_get}
use Rattle.std.proofs.lemmas.Grind.{flat_map-append}
use Rattle.std.proofs.lemmas.List.{append-nil, map-append}
use Rattle.std.proofs.lemmas.List.Elements.{All-push}
use Rattle.std.proofs.lemmas.List.Folds.{list_any-append}
use Rattle.mc_model.specs.Signals.{IsRising}
use Rattle.mc_model.specs.Shift.{ChangeRow}
use Rattle.mc_write.specs.Text.{Line, line_text, text_of}
use Rattle.mc_change_text.specs.Changes.{AreSets, has_constant}
use Rattle.mc_change_text.proofs.Lists.{taken_more}

-- the constant of a row
pub has_more : (rows : List ChangeRow) (i : ℕ) (row : ChangeRow) → slice_get rows i ≡ Some row
    → has_constant (take i rows) ≡ false → row.signal.constant ≡ false
    → has_constant (take (i + 1) rows) ≡ false
has_more rows i row get none e =
    let next : i + 1 ≡ suc i = omega arith in
    rw (
      next,
      taken_more rows i row get,
      list_any-append (λ (r : ChangeRow). r.signal.constant) (take i rows) (row ∷ []),
      none,
      e,
    )
    refl

pub has_it : (rows : List ChangeRow) (i : ℕ) (row : ChangeRow) → slice_get rows i ≡ Some row
    → row.signal.constant ≡ true → has_constant rows ≡ true
has_it [] i row get e = absurd (cc get)
has_it (r ∷ rows) zero row get e = let same : r ≡ row = cc get in rw (same, e) refl
has_it (r ∷ rows) (suc i) row get e =
    either r.signal.constant (has_constant rows) (has_it rows i row get e)
  where
    either : (a b : Bool) → b ≡ true → (a || b) ≡ true
    either true b f = refl
    either false b f = f

-- one row more
pub sets_more : (rows : List ChangeRow) (i : ℕ) (row : ChangeRow) → slice_get rows i ≡ Some row
    → AreSets (take i rows) → IsRising row.signal.members → AreSets (take (i + 1) rows)
sets_more rows i row get sets rising =
    let next : i + 1 ≡ suc i = omega arith in
    rw (next, taken_more rows i row get)
    (All-push (λ (r : ChangeRow). IsRising r.signal.members) (take i rows) row sets rising)

pub rows_more : (start : List ℕ) (line : ChangeRow → Line) (rows : List ChangeRow) (i : ℕ)
    (row : ChangeRow) → slice_get rows i ≡ Some row
    → (start ++ text_of (map line (take i rows))) ++ line_text (line row)
    ≡ start ++ text_of (map line (take (i + 1) rows))
rows_more start line rows i row e =
    let next : i + 1 ≡ suc i = omega arith in
    let lines = map line (take i rows) in
    append_assoc start (text_of lines) (line_text (line row))
    ∙ ap (λ (bytes : List ℕ). start ++ bytes)
    (sym (rw (next, taken_more rows i row e, map-append line (take i rows) (row ∷ []))
    (flat_map-append line_text lines (line row ∷ [])
    ∙ rw (append-nil (line_text (line row))) refl)))

map_after : {A B C : Type 0} (f : B → C) (g : A → B) (xs : List A)
    → map f (map g xs) ≡ map (λ x. f (g x)) xs
map_after f g [] = refl
map_after f g (x ∷ xs) = ap (λ (ys : List _). f (g x) ∷ ys) (map_after f g xs)

-- what is written, part by part
pub lines_written : {A B : Type 0} (line : B → Line) (row : A → B) (rows : List A)
    (header last : Line) (headed with_rows whole : List ℕ) → headed ≡ line_text header
    → with_rows ≡ headed ++ text_of (map (λ r. line (row r)) rows)
    → whole ≡ with_rows ++ line_text last
    → whole ≡ text_of (header ∷ (map line (map row rows) ++ last ∷ []))
lines_written line row rows header last headed with_rows whole h r w =
    let lines = map (λ r. line (row r)) rows in
    let end = flat_map-append line_text lines (last ∷ []) in
    rw (w, r, h, map_after line row rows, end, append-nil (line_text last))
    (append_assoc (line_text header) (text_of lines) (line_text last))
