-- Uses of rules that bring a list nearer to its standard form.
use Rattle.std.specs.Prelude.{◌≡◌, ◌⊎◌, ℕ, ◌+◌, ◌<◌, ◌≤◌, List, length}
use Rattle.mc_model.specs.Pattern.{Command}
use Rattle.mc_model.specs.Valid.{IsValid}
use Rattle.mc_model.specs.StandardForm.{standard_commands}
use Rattle.mc_model.specs.Derivation.{Rule, Rank, rank, IsLower, Step}

-- the rank falls in one of its first two numbers, or the parts of both lists are in order and a
-- later number falls
abbrev pub Descends : Rank → Rank → Type 0
Descends a b =
    ((a.late < b.late) ⊎ ((a.late ≡ b.late) × (a.ahead < b.ahead)))
    ⊎ ((a.late ≡ 0) × (b.late ≡ 0) × ((a.size < b.size)
    ⊎ ((a.size ≡ b.size) × ((a.wrong < b.wrong) ⊎ ((a.wrong ≡ b.wrong) × (a.turned < b.turned))))))

-- a use of a rule in a valid list leaves a valid list of lower rank with the same standard form
pub record Improvement (inputs : ℕ) (rule : Rule) (place : ℕ) (cs ds : List Command) : Type 0 where
  pub step : Step inputs rule place cs ds
  pub lower : IsLower (rank ds) (rank cs)
  pub descends : Descends (rank ds) (rank cs)
  pub grows : length ds ≤ length cs + 1
  pub same : standard_commands inputs cs ≡ standard_commands inputs ds

-- some use does
pub record Improves (inputs : ℕ) (cs : List Command) : Type 0 where
  pub rule : Rule
  pub place : ℕ
  pub next : List Command
  pub improved : Improvement inputs rule place cs next

-- what the standard form of a valid list is
pub record IsReached (inputs : ℕ) (cs : List Command) : Type 0 where
  pub valid : IsValid inputs (standard_commands inputs cs)
  pub own : standard_commands inputs (standard_commands inputs cs) ≡ standard_commands inputs cs
  pub not_above :
      IsLower (rank (standard_commands inputs cs)) (rank cs) ⊎ (standard_commands inputs cs ≡ cs)
