-- What every gate list of the code keeps.
use Rattle.std.specs.Prelude.{◌≤◌, length}
use Rattle.mc_model.specs.Limits.{most_gates}
use Rattle.mc_gates.specs.Gates.{GateList, IsValidGateList}

-- valid, and of at most 32,768 operations
pub record IsGateList (g : GateList) : Type 0 where
  pub valid : IsValidGateList g
  pub few : length g.ops ≤ most_gates
