-- The names that stand for numbers in a text.
use Rattle.std.specs.Prelude.{ℕ, List, [], slice_get, unwrap_or}
use Rattle.mc_model.specs.Names.{Name}

-- the name of a number
abbrev pub name_at : List Name → ℕ → Name
name_at names q = unwrap_or (slice_get names q) []
