-- Signals that tell the old outcomes from the new ones.
use Rattle.std.specs.Prelude.{◌≡◌, ℕ, true, List, slice_get, unwrap_or}
use Rattle.mc_model.specs.Bits.{◌⊻◌, Bits}
use Rattle.mc_model.specs.Signals.{Signal, Signals, value, no_signal, IsRising}
use Rattle.mc_model.specs.Pattern.{Command, FixX, FixZ}
use Rattle.mc_model.specs.Shift.{ChangeRow, new_outcomes}

-- the signal at each number, and the empty one behind the list's end
abbrev pub signals_of : List Signal → Signals
signals_of shifts = λ q. unwrap_or (slice_get shifts q) no_signal

-- the outcomes, each with the value of its qubit's signal added
abbrev pub with_values : Signals → Bits → Bits
with_values d o = λ q. o q ⊻ value (d q) o

-- the signal whose value is that of another one where each outcome has the value of its qubit's
-- signal added
pub record IsPutIn (d : Signals) (s r : Signal) : Type 0 where
  pub is_set : IsRising r.members
  pub same_value : (o : Bits) → value r o ≡ value s (with_values d o)

-- at the new outcomes the signals tell the old ones of the qubits of `done`
pub record TellsOld (rows : List ChangeRow) (done : Bits) (d : Signals) : Type 0 where
  pub at : (o : Bits) (q : ℕ) → done q ≡ true → with_values d (new_outcomes rows o) q ≡ o q

-- the correction with such a signal
abbrev pub IsFixPutIn : Signals → Command → Command → Type 0
IsFixPutIn d (FixX q s) (FixX q' r) = (q' ≡ q) × IsPutIn d s r
IsFixPutIn d (FixZ q s) (FixZ q' r) = (q' ≡ q) × IsPutIn d s r
IsFixPutIn d _ _ = ⊥
