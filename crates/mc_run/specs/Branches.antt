-- Branches of a pattern that go on from the same vector.
use Rattle.std.specs.Prelude.{◌≡◌, ℕ, ◌+◌, ◌*◌, ◌^◌, ◌<◌, ◌≤◌, Bool, true, false, ℤ, List, []}
use Rattle.std.specs.Prelude.{◌∷◌}
use Rattle.std.specs.Prelude.{◌++◌, length}
use Rattle.mc_model.specs.Bits.{Bits, replaced, bits_of}
use Rattle.mc_model.specs.Pattern.{Command, Pattern, measured_order}
use Rattle.mc_model.specs.Ring.{ring}
use Rattle.mc_pattern.specs.Patterns.{measured_count}
use Rattle.mc_model.specs.Valid.{measured, prepared}
use Rattle.mc_model.specs.Amplitude.{Amps, after, placed, branch_map}
use Rattle.mc_run.specs.Exact.{Exact, phases}
use Rattle.mc_run.specs.Settings.{spelled}
use Rattle.mc_run.specs.Sources.{entry, Holds}
use Rattle.mc_run.specs.Gates.{IsLiving}
use Rattle.mc_run.specs.Reports.{outcomes_of}

-- the amplitudes are the same whatever the bit of a qubit
abbrev pub Ignores : {E : Type 0} → Amps E → ℕ → Type 0
Ignores f q = (x : Bits) (b : Bool) → f (replaced x q b) ≡ f x

-- the commands that are left take the amplitudes to those at the end; qubits that are there and are
-- not measured are live, and what is not there is ignored
pub record CommandsLeft (ring : Exact) (Is : List ℤ → Type 0) (o : Bits) (inputs : ℕ)
    (all : List Command) (end : Amps (List ℤ)) (left : List Command) (live : List ℕ)
    (v : List (List ℤ)) : Type 0 where
  pub done : List Command
  pub split : all ≡ done ++ left
  pub amps : Amps (List ℤ)
  pub height : ℕ
  pub holds : Holds ring Is live height amps v
  pub rest : after (phases ring) o left amps ≡ end
  pub count : length live + height ≡ inputs + prepared done
  pub living : (q : ℕ) → q < inputs + prepared done → measured done q ≡ false → IsLiving live q
  pub there : (q : ℕ) → measured done q ≡ true → q < inputs + prepared done
  pub ignores : (q : ℕ) → inputs + prepared done ≤ q → Ignores amps q

-- the outcomes with these bits on the listed qubits
abbrev pub over : Bits → List ℕ → List Bool → Bits
over o [] ys = o
over o (q ∷ qs) [] = o
over o (q ∷ qs) (y ∷ ys) = over (replaced o q y) qs ys

-- the outcomes of the branch with that number, of those that part in the commands that are left
abbrev pub branch_outcomes : Bits → List Command → ℕ → Bits
branch_outcomes o left i =
    over o (measured_order left) (spelled (length (measured_order left)) i)

-- a column for each branch that the commands that are left part into, in the order of their numbers
pub record AreColumns (ring : Exact) (Is : List ℤ → Type 0) (o : Bits) (inputs : ℕ)
    (all left : List Command) (outputs live : List ℕ) (v columns : List (List ℤ)) : Type 0 where
  pub long : length columns ≡ 2 ^ length (measured_order left) * 2 ^ length outputs
  pub at : (i : ℕ) (end : Amps (List ℤ)) → i < 2 ^ length (measured_order left) →
      CommandsLeft ring Is (branch_outcomes o left i) inputs all end left live v →
      (y : ℕ) → y < 2 ^ length outputs →
      entry columns (i * 2 ^ length outputs + y)
      ≡ end (placed outputs (spelled (length outputs) y))

-- the columns of all branches of a pattern, for so many settings of the inputs
pub record AreAllColumns (half : ℕ) (p : Pattern) (settings : ℕ) (entries : List (List ℤ)) : Type 0
  where
    pub long : length entries ≡ settings * (2 ^ measured_count p * 2 ^ length p.outputs)
    pub at : (b i y : ℕ) → b < settings → i < 2 ^ measured_count p → y < 2 ^ length p.outputs →
        entry entries (b * (2 ^ measured_count p * 2 ^ length p.outputs) + (i * 2 ^ length p.outputs + y))
        ≡ (branch_map (ring half) p (outcomes_of p i) (spelled (length p.outputs) y)
        (bits_of (spelled p.inputs b))).coefficients
