-- Which lists of uses are derivations of the standard form, and what the others break first.
use Rattle.std.specs.Prelude.{◌≡◌, ◌⊎◌, ℕ, suc, ◌<◌, List, ◌∷◌, ◌++◌, length}
use Rattle.mc_model.specs.Pattern.{Command, Prep}
use Rattle.mc_model.specs.Valid.{IsValid}
use Rattle.mc_model.specs.StandardForm.{standard_commands}
use Rattle.mc_model.specs.Derivation.{Use, Derives}
use Rattle.mc_derivations.specs.Following.{Leads, Misfits}
use Rattle.mc_derivations.specs.Derivations.{PassesShort}

-- the uses lead from the list to its standard form, through valid lists of at most 4,096 commands
pub record IsTrace (inputs : ℕ) (uses : List Use) (cs : List Command) : Type 0 where
  pub derives : Derives inputs uses cs (standard_commands inputs cs)
  pub short : PassesShort 4096 inputs uses cs

-- rule 3: the use leads from a list that is not valid, to one that is not, or to one that is too
-- long
pub record LeadsAstray (inputs : ℕ) (u : Use) (cs : List Command) : Type 0 where
  pub next : List Command
  pub leads : Leads u cs next
  pub astray : (IsValid inputs cs → ⊥) ⊎ ((IsValid inputs next → ⊥) ⊎ (4096 < length next))

-- the first of the rules 1 to 3 that the use breaks
abbrev pub BreaksRow : ℕ → Use → List Command → ℕ → Type 0
BreaksRow inputs u cs rule = Misfits u cs rule ⊎ ((rule ≡ 3) × LeadsAstray inputs u cs)

-- the rows before this one break no rule, and this one does
pub record BreaksAt (inputs : ℕ) (uses : List Use) (cs : List Command) (row rule : ℕ) : Type 0 where
  pub before : List Use
  pub use_there : Use
  pub behind : List Use
  pub here : List Command
  pub rows : uses ≡ before ++ (use_there ∷ behind)
  pub at_row : row ≡ suc (length before)
  pub derives : Derives inputs before cs here
  pub breaks : BreaksRow inputs use_there here rule

-- rule 4: the last list is not the standard form of the first
pub record EndsElsewhere (inputs : ℕ) (uses : List Use) (cs : List Command) (row rule : ℕ) : Type 0
  where
    pub here : List Command
    pub derives : Derives inputs uses cs here
    pub elsewhere : here ≡ standard_commands inputs cs → ⊥
    pub at_row : row ≡ suc (length uses)
    pub last_rule : rule ≡ 4

-- the first broken row, and the least rule that it breaks
abbrev pub BreaksTrace : ℕ → List Use → List Command → ℕ → ℕ → Type 0
BreaksTrace inputs uses cs row rule =
    BreaksAt inputs uses cs row rule ⊎ EndsElsewhere inputs uses cs row rule

-- two preparations stand at the place
pub record PrepsAt (place : ℕ) (cs : List Command) : Type 0 where
  pub before : List Command
  pub first : ℕ
  pub second : ℕ
  pub behind : List Command
  pub is : cs ≡ before ++ (Prep first ∷ Prep second ∷ behind)
  pub at_place : place ≡ suc (length before)
