-- The lines of a text, from the first one on.
use Rattle.std.proofs.Common.{◌≡◌, ℕ, suc, ◌+◌, List, [], ◌∷◌, Bool, true, false, not, refl, ap}
use Rattle.std.proofs.Common.{◌∙◌, arith}
use Rattle.std.specs.List.{prefix_len}
use Rattle.mc_lex.specs.Bytes.{is_feed, is_hash}
use Rattle.mc_lex.specs.Lines.{tokens, visible, parts_of, with_items, numbered, lines_from}
use Rattle.mc_lex.specs.Parts.{in_view, behind_feed}

-- the first line of a text and what stands behind it, as parts
record IsParted (text : List ℕ) : Type 0 where
  part : List ℕ
  parts : List (List ℕ)
  parts_are : parts_of text ≡ part ∷ parts
  first : visible part ≡ in_view text
  later : (n : ℕ) → numbered n parts ≡ lines_from n (behind_feed text)

seen_step : (b : ℕ) (bs part : List ℕ) (t : Bool) → is_feed b ≡ false → is_hash b ≡ t
    → visible part ≡ in_view bs → visible (b ∷ part) ≡ in_view (b ∷ bs)
seen_step b bs part true f h rest = rw (f, h) refl
seen_step b bs part false f h rest =
    let k : 1 + prefix_len (λ c. not (is_hash c)) part
    ≡ suc (prefix_len (λ c. not (is_hash c)) part) =
    omega arith in
    rw (f, h, k) (ap (λ bytes. b ∷ bytes) rest)

parted_step : (b : ℕ) (bs : List ℕ) (t : Bool) → is_feed b ≡ t → IsParted bs → IsParted (b ∷ bs)
parted_step b bs true e rest = record {
  part = [];
  parts = parts_of bs;
  parts_are = rw e refl;
  first = rw e refl;
  later = λ n. rw e refl;
}
parted_step b bs false e rest = record {
  part = b ∷ rest.part;
  parts = rest.parts;
  parts_are = rw (e, rest.parts_are) refl;
  first = seen_step b bs rest.part (is_hash b) e refl rest.first;
  later = λ n. rw e (rest.later n);
}

parted : (text : List ℕ) → IsParted text
parted [] = record { part = []; parts = []; parts_are = refl; first = refl; later = λ n. refl }
parted (b ∷ bs) = parted_step b bs (is_feed b) refl (parted bs)

-- the first line, and the lines behind it
pub lines_first : (n : ℕ) (text : List ℕ) → lines_from n text
    ≡ with_items n (tokens n 1 (in_view text)) (lines_from (n + 1) (behind_feed text))
lines_first n text =
    let p = parted text in
    ap (numbered n) p.parts_are ∙ rw (p.first, p.later (n + 1)) refl
