-- The uses of a derivation, as they are written one by one.
use Rattle.std.proofs.Common.{◌≡◌, ℕ, zero, suc, ◌+◌, List, [], ◌∷◌, ◌++◌, map, take}
use Rattle.std.proofs.Common.{refl, sym, ap, ◌∙◌, append_assoc, arith, Some, slice_get}
use Rattle.std.proofs.lemmas.Grind.{flat_map-append}
use Rattle.std.proofs.lemmas.List.{append-nil, map-append}
use Rattle.mc_model.specs.Derivation.{Use}
use Rattle.mc_write.specs.Text.{line_text, text_of}
use Rattle.mc_trace_text.specs.Canonical.{use_line}

-- the front of a list with one more
taken_more : (xs : List Use) (i : ℕ) (x : Use) → slice_get xs i ≡ Some x
    → take (suc i) xs ≡ take i xs ++ x ∷ []
taken_more [] i x e = absurd (cc e)
taken_more (y ∷ ys) zero x e = let same : y ≡ x = cc e in ap (λ (z : Use). z ∷ []) same
taken_more (y ∷ ys) (suc i) x e = ap (λ (zs : List Use). y ∷ zs) (taken_more ys i x e)

pub uses_more : (start : List ℕ) (uses : List Use) (i : ℕ) (u : Use) → slice_get uses i ≡ Some u
    → (start ++ text_of (map use_line (take i uses))) ++ line_text (use_line u)
    ≡ start ++ text_of (map use_line (take (i + 1) uses))
uses_more start uses i u e =
    let next : i + 1 ≡ suc i = omega arith in
    let lines = map use_line (take i uses) in
    append_assoc start (text_of lines) (line_text (use_line u))
    ∙ ap (λ (bytes : List ℕ). start ++ bytes)
    (sym (rw (next, taken_more uses i u e, map-append use_line (take i uses) (u ∷ []))
    (flat_map-append line_text lines (use_line u ∷ [])
    ∙ rw (append-nil (line_text (use_line u))) refl)))
