-- The parts of a list of commands: preparations, entanglings, measurements, corrections.
use Rattle.std.specs.Prelude.{◌≡◌, ℕ, nat_eq, List, [], ◌∷◌, ◌++◌, filter, ⊤}
use Rattle.mc_model.specs.Pattern.{Command, Pattern}
use Rattle.mc_model.specs.StandardForm.{preparations_of}
use Rattle.mc_model.specs.Derivation.{part}
use Rattle.mc_rules.specs.Laws.{with_commands}

-- the commands of a part, in their order
abbrev pub part_of : ℕ → List Command → List Command
part_of k cs = filter (λ c. nat_eq (part c) k) cs

abbrev pub entanglings_of : List Command → List Command
entanglings_of = part_of 1

abbrev pub measurements_of : List Command → List Command
measurements_of = part_of 2

abbrev pub corrections_of : List Command → List Command
corrections_of = part_of 3

-- the four parts of the list
pub record HasParts (ps es ms fs cs : List Command) : Type 0 where
  pub preparations : preparations_of cs ≡ ps
  pub entanglings : entanglings_of cs ≡ es
  pub measurements : measurements_of cs ≡ ms
  pub corrections : corrections_of cs ≡ fs

-- each command of the list is of one part
abbrev pub AllOf : ℕ → List Command → Type 0
AllOf k [] = ⊤
AllOf k (c ∷ cs) = (part c ≡ k) × AllOf k cs

-- the list is its preparations, entanglings, measurements and corrections one after the other
pub record IsInParts (cs : List Command) : Type 0 where
  pub whole :
      cs ≡ preparations_of cs ++ (entanglings_of cs ++ (measurements_of cs ++ corrections_of cs))
  pub preparations : AllOf 0 (preparations_of cs)
  pub entanglings : AllOf 1 (entanglings_of cs)
  pub measurements : AllOf 2 (measurements_of cs)
  pub corrections : AllOf 3 (corrections_of cs)

-- the pattern with other measurements and corrections behind its preparations and entanglings
abbrev pub with_signals : Pattern → List Command → List Command → Pattern
with_signals p ms fs =
    with_commands p (preparations_of p.commands ++ (entanglings_of p.commands ++ (ms ++ fs)))
