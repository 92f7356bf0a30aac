-- How large a translation is.
use Rattle.std.specs.Prelude.{Bool, true, false}
use Rattle.mc_model.specs.Pattern.{Gate, J, CZ}

abbrev pub is_j : Gate → Bool
is_j (J v a) = true
is_j (CZ v u) = false
