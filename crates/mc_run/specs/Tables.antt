-- Tables of entries.
use Rattle.std.specs.Prelude.{◌≡◌, ℕ, ◌+◌, ◌*◌, ◌^◌, ◌<◌, ◌≤◌, Bool, ℤ, List, [], length}
use Rattle.std.specs.Prelude.{slice_index_or}
use Rattle.mc_model.specs.Limits.{most_run_size}
use Rattle.mc_model.specs.Bits.{Bits, bits_of}
use Rattle.mc_model.specs.Ring.{Element}
use Rattle.mc_run.specs.Settings.{spelled}

-- how many outputs and inputs there are, the power of the root of two that every entry is over, and
-- the entries, column by column
pub record TableValue : Type 0 where
  pub outputs : ℕ
  pub inputs : ℕ
  pub halves : ℕ
  pub entries : List (List ℤ)

-- the entry at the output bits `y` and the input bits `b`
abbrev pub entry_at : TableValue → ℕ → ℕ → List ℤ
entry_at t y b = slice_index_or t.entries (b * 2 ^ t.outputs + y) []

pub record IsTable (t : TableValue) : Type 0 where
  pub long : length t.entries ≡ 2 ^ t.inputs * 2 ^ t.outputs
  pub small : t.outputs + t.inputs ≤ most_run_size

-- the table of an amplitude for output bits and input bits, with the bits of the first output and of
-- the first input the most significant of the two numbers
pub record IsTableOf {half : ℕ} (outputs inputs halves : ℕ)
    (amplitude : List Bool → Bits → Element half) (t : TableValue) : Type 0 where
  pub outputs_are : t.outputs ≡ outputs
  pub inputs_are : t.inputs ≡ inputs
  pub halves_are : t.halves ≡ halves
  pub entries_are : (y b : ℕ) → y < 2 ^ outputs → b < 2 ^ inputs →
      entry_at t y b ≡ (amplitude (spelled outputs y) (bits_of (spelled inputs b))).coefficients
