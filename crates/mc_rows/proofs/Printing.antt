-- The words of a row as they are written, part by part.
use Rattle.std.proofs.Common.{◌≡◌, ℕ, zero, suc, ◌+◌, List, [], ◌∷◌, ◌++◌, Bool, true, false, map}
use Rattle.std.proofs.Common.{take, codes, refl, sym, ap, ◌∙◌, append_assoc, arith, Some, slice_get}
use Rattle.std.proofs.Common.{if◌then◌else◌}
use Rattle.std.proofs.lemmas.List.{append-nil, map-append}
use Rattle.std.proofs.lemmas.Grind.{flat_map-append}
use Rattle.mc_write.specs.Text.{line_text, words_behind}
use Rattle.mc_text.specs.Judged.{Words}

-- the front of a list with one more
taken_more : {A : Type 0} (xs : List A) (i : ℕ) (x : A) → slice_get xs i ≡ Some x
    → take (suc i) xs ≡ take i xs ++ x ∷ []
taken_more [] i x e = absurd (cc e)
taken_more (y ∷ ys) zero x e = let same : y ≡ x = cc e in ap (λ (z : _). z ∷ []) same
taken_more (y ∷ ys) (suc i) x e = ap (λ (zs : List _). y ∷ zs) (taken_more ys i x e)

behind_more : (words more : Words)
    → words_behind (words ++ more) ≡ words_behind words ++ words_behind more
behind_more words more = flat_map-append (λ (word : List ℕ). 32 ∷ word) words more

pub members_more : (start : List ℕ) (name : ℕ → List ℕ) (qs : List ℕ) (i q : ℕ)
    → slice_get qs i ≡ Some q
    → (start ++ words_behind (map name (take i qs))) ++ 32 ∷ name q
    ≡ start ++ words_behind (map name (take (i + 1) qs))
members_more start name qs i q e =
    let next : i + 1 ≡ suc i = omega arith in
    let words = map name (take i qs) in
    append_assoc start (words_behind words) (32 ∷ name q)
    ∙ ap (λ (bytes : List ℕ). start ++ bytes)
    (sym (rw (next, taken_more qs i q e, map-append name (take i qs) (q ∷ []))
    (behind_more words (name q ∷ []) ∙ rw (append-nil (name q)) refl)))

-- the members and the constant
pub set_more : (start : List ℕ) (words : Words) (t : Bool) (one : Words)
    → (if t then codes "!" ∷ [] else []) ≡ one
    → (start ++ words_behind words) ++ words_behind one
    ≡ start ++ words_behind (words ++ (if t then codes "!" ∷ [] else []))
set_more start words t one e =
    rw (e, behind_more words one) (append_assoc start (words_behind words) (words_behind one))

-- the whole line
pub line_more : (head : List ℕ) (due tail : Words)
    → ((head ++ words_behind due) ++ words_behind tail) ++ 10 ∷ []
    ≡ line_text (head ∷ (due ++ tail))
line_more head due tail =
    rw (behind_more due tail) (regroup head (words_behind due) (words_behind tail) (10 ∷ []))
  where
    regroup : (a b c d : List ℕ) → ((a ++ b) ++ c) ++ d ≡ a ++ ((b ++ c) ++ d)
    regroup a b c d = simp append_assoc
