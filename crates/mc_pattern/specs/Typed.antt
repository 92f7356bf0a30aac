-- What the types of the code say of a command.
use Rattle.std.specs.Prelude.{ℕ, ◌*◌, ◌<◌, List, [], ◌∷◌, ⊤}
use Rattle.mc_model.specs.Signals.{Signal, IsRising}
use Rattle.mc_model.specs.Pattern.{Command, Prep, Ent, Meas, FixX, FixZ}

-- the members are a set, in order
abbrev pub IsSet : Signal → Type 0
IsSet s = IsRising s.members

-- the angle is less than a turn, and the members of each signal are a set
abbrev pub IsTyped : ℕ → Command → Type 0
IsTyped half (Prep q) = ⊤
IsTyped half (Ent q r) = ⊤
IsTyped half (Meas q a s t) = (a < 2 * half) × IsSet s × IsSet t
IsTyped half (FixX q s) = IsSet s
IsTyped half (FixZ q s) = IsSet s

abbrev pub AllTyped : ℕ → List Command → Type 0
AllTyped half [] = ⊤
AllTyped half (c ∷ cs) = IsTyped half c × AllTyped half cs
