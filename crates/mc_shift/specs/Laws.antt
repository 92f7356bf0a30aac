-- The laws of signal shifting, over the amplitude ring with any `half` above 0.
use Rattle.std.specs.Prelude.{◌≡◌, ℕ, ◌<◌, Bool, List, All}
use Rattle.mc_model.specs.Bits.{Bits}
use Rattle.mc_model.specs.Ring.{ring}
use Rattle.mc_model.specs.Signals.{no_signal}
use Rattle.mc_model.specs.Pattern.{Pattern}
use Rattle.mc_model.specs.Amplitude.{branch_map, pattern_scale}
use Rattle.mc_model.specs.Valid.{IsValidPattern}
use Rattle.mc_model.specs.Shift.{new_outcomes, change_of, IsShiftedForm, HasNoSecondSignals}

-- the branch map at outcomes `o` is that of the shifted form at the new outcomes
abbrev pub ShiftKeepsMaps : Type 0
ShiftKeepsMaps = (half : ℕ) → 0 < half → (p q : Pattern) → IsValidPattern p → IsShiftedForm p q →
    (o : Bits) (y : List Bool) (b : Bits) →
    branch_map (ring half) p o y b
    ≡ branch_map (ring half) q (new_outcomes (change_of p.commands) o) y b

-- every outcome list is reached, and from one alone
pub record IsBijection (change : Bits → Bits) : Type 0 where
  pub reached : (n : Bits) → (o : Bits) × ((k : ℕ) → change o k ≡ n k)
  pub one_to_one : (o o' : Bits) → ((k : ℕ) → change o k ≡ change o' k) → (k : ℕ) → o k ≡ o' k

-- the change of outcomes of a valid pattern
abbrev pub NewOutcomesAreABijection : Type 0
NewOutcomesAreABijection = (p : Pattern) → IsValidPattern p →
    IsBijection (new_outcomes (change_of p.commands))

-- one pattern has the property, and no other has it
pub record HasOne (P : Pattern → Type 0) : Type 0 where
  pub the_one : Pattern
  pub has : P the_one
  pub only : (q : Pattern) → P q → q ≡ the_one

-- a valid pattern has one shifted form
abbrev pub HasOneShiftedForm : Type 0
HasOneShiftedForm = (p : Pattern) → IsValidPattern p → HasOne (IsShiftedForm p)

-- `q` is a valid pattern without second signals, of the scale of `p`
pub record IsValidShiftedForm (p q : Pattern) : Type 0 where
  pub valid : IsValidPattern q
  pub no_second : HasNoSecondSignals q.commands
  pub scale : pattern_scale q ≡ pattern_scale p

-- the shifted form of a valid pattern is such a pattern
abbrev pub ShiftedFormsAreValid : Type 0
ShiftedFormsAreValid = (p q : Pattern) → IsValidPattern p → IsShiftedForm p q →
    IsValidShiftedForm p q

-- the pattern is its own shifted form, each row of its change is empty, and no outcome changes
pub record IsUnshifted (p : Pattern) : Type 0 where
  pub own : IsShiftedForm p p
  pub only : (q : Pattern) → IsShiftedForm p q → q ≡ p
  pub empty : All (λ row. row.signal ≡ no_signal) (change_of p.commands)
  pub same_outcomes : (o : Bits) → new_outcomes (change_of p.commands) o ≡ o

-- a valid pattern without second signals is not shifted
abbrev pub NoSecondSignalsNoShift : Type 0
NoSecondSignalsNoShift = (p : Pattern) → IsValidPattern p → HasNoSecondSignals p.commands →
    IsUnshifted p
