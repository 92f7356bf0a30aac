-- Names from one number to before another, one at a time.
use Rattle.std.proofs.Common.{◌≡◌, ℕ, ◌+◌, ◌-◌, ◌<◌, ◌≤◌, List, [], ◌∷◌, ◌++◌, length}
use Rattle.std.proofs.Common.{get_or, take}
use Rattle.std.proofs.Common.{drop, refl, sym, ◌∙◌, append_assoc, arith}
use Rattle.std.proofs.lemmas.Grind.{flat_map-append}
use Rattle.std.proofs.lemmas.List.{take_more, get_or-drop, length-drop, append-nil}
use Rattle.std.proofs.lemmas.Option.{unwrap_or-slice_get}
use Rattle.mc_model.specs.Names.{Name}
use Rattle.mc_write.specs.Text.{words_behind}
use Rattle.mc_write.specs.Named.{name_at}

name_in_rest : (names : List Name) (from n : ℕ) → from ≤ n
    → get_or (drop from names) (n - from) [] ≡ name_at names n
name_in_rest names from n le =
    let e : from + (n - from) ≡ n = omega arith in
    get_or-drop from names (n - from) [] ∙ rw e (sym (unwrap_or-slice_get names n []))

words_behind-append : (line : List Name) (word : Name)
    → words_behind (line ++ word ∷ []) ≡ words_behind line ++ 32 ∷ word
words_behind-append line word =
    flat_map-append (λ (w : Name). 32 ∷ w) line (word ∷ []) ∙ rw (append-nil word) refl

pub more_between : (start : List ℕ) (names : List Name) (from n : ℕ) → from ≤ n → n < length names
    → (start ++ words_behind (take (n - from) (drop from names))) ++ 32 ∷ name_at names n
    ≡ start ++ words_behind (take (n + 1 - from) (drop from names))
more_between start names from n le lt =
    let e : n + 1 - from ≡ n - from + 1 = omega arith in
    let room : n - from < length (drop from names) = rw (length-drop from names) (omega arith) in
    let more = take_more (drop from names) (n - from) [] room in
    let name = name_in_rest names from n le in
    let words = words_behind-append (take (n - from) (drop from names)) (name_at names n) in
    rw (e, more, name, words)
    (append_assoc start (words_behind (take (n - from) (drop from names))) (32 ∷ name_at names n))
