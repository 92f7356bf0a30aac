-- The exact operations of a ring with turns and heights, on lists of whole numbers.
use Rattle.std.specs.Prelude.{ℕ, ℤ, List}
use Rattle.mc_model.specs.Phase.{PhaseOps}

pub record Exact : Type 0 where
  pub nought : List ℤ
  pub one : List ℤ
  pub sum : List ℤ → List ℤ → List ℤ
  pub negative : List ℤ → List ℤ
  pub turned : ℕ → List ℤ → List ℤ
  pub half : ℕ
  pub height : List ℤ → ℕ

abbrev pub exact : List ℤ → List ℤ → (List ℤ → List ℤ → List ℤ) → (List ℤ → List ℤ) →
    (ℕ → List ℤ → List ℤ) → ℕ → (List ℤ → ℕ) → Exact
exact nought one sum negative turned half height = record {
  nought = nought;
  one = one;
  sum = sum;
  negative = negative;
  turned = turned;
  half = half;
  height = height;
}

-- the operations that amplitudes need
abbrev pub phases : Exact → PhaseOps (List ℤ)
phases ring = record {
  nought = ring.nought;
  one = ring.one;
  add = ring.sum;
  neg = ring.negative;
  rotate = ring.turned 1;
  half = ring.half;
}
