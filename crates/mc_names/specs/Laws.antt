-- The name that is computed is fresh.
use Rattle.std.specs.Prelude.{List}
use Rattle.mc_model.specs.Names.{Name, AreNames, fresh_name, IsFresh}

-- it is that with the least positive number that is not held
abbrev pub FreshNamesAreFresh : Type 0
FreshNamesAreFresh = (names : List Name) → AreNames names → IsFresh names (fresh_name names)
