-- Bytes in front.
use Rattle.std.specs.Prelude.{ℕ, List, [], ◌∷◌, Bool, false, not, ◌||◌}
use Rattle.mc_lex.specs.Bytes.{is_feed, is_hash, is_blank}

-- whether the bytes begin with a blank
abbrev pub starts_blank : List ℕ → Bool
starts_blank [] = false
starts_blank (b ∷ bs) = is_blank b

-- whether the bytes begin with one that is neither a line feed nor the `#` of a comment
abbrev pub starts_seen : List ℕ → Bool
starts_seen [] = false
starts_seen (b ∷ bs) = not (is_feed b || is_hash b)
