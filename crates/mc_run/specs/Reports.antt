-- Reports on all branches of a pattern.
use Rattle.std.specs.Prelude.{◌≡◌, ℕ, ◌^◌, ◌<◌, List, length, slice_index_or, Option}
use Rattle.mc_model.specs.Bits.{Bits}
use Rattle.mc_model.specs.Ring.{ring}
use Rattle.mc_model.specs.Pattern.{Pattern, measured_order}
use Rattle.mc_model.specs.Amplitude.{placed, branch_map, pattern_scale}
use Rattle.mc_pattern.specs.Patterns.{measured_count}
use Rattle.mc_cyclo.specs.Phase.{IsLeastPhase}
use Rattle.mc_run.specs.Settings.{spelled}
use Rattle.mc_run.specs.Tables.{TableValue, IsTableOf}

-- the outcomes of a branch by its number, of which the qubit that is measured first has the most
-- significant bit
abbrev pub outcomes_of : Pattern → ℕ → Bits
outcomes_of p i = placed (measured_order p.commands) (spelled (measured_count p) i)

-- the tables of the branches, and the phase from the first to each
pub record ReportValue : Type 0 where
  pub tables : List TableValue
  pub phases : List (Option ℕ)

pub record IsReport (r : ReportValue) : Type 0 where
  pub same : length r.phases ≡ length r.tables

-- every branch has its table, and its phase is that by which it is the first branch
pub record IsReportOf (half : ℕ) (p : Pattern) (r : ReportValue) : Type 0 where
  pub count : length r.tables ≡ 2 ^ measured_count p
  pub tables_are : (i : ℕ) (d : TableValue) → i < 2 ^ measured_count p →
      IsTableOf (length p.outputs) p.inputs (pattern_scale p)
      (branch_map (ring half) p (outcomes_of p i)) (slice_index_or r.tables i d)
  pub phases_are : (i : ℕ) (d : TableValue) (e : Option ℕ) → i < 2 ^ measured_count p →
      IsLeastPhase half (slice_index_or r.tables i d).entries (slice_index_or r.tables 0 d).entries
      (slice_index_or r.phases i e)
