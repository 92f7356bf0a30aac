-- The least denominator exponent of an amplitude.
use Rattle.std.specs.Prelude.{ℕ, zero, suc, Bool, cond, ℤ, pos, List, map}
use Rattle.std.specs.Cmp.Lexicographic.{pointwise}
use Rattle.std.specs.Ordering.{int_eq}
use Rattle.std.specs.Int.{int_div_euclid}
use Rattle.mc_model.specs.Roots.{root_times}

-- an element over a power of the root of two
pub record Fraction : Type 0 where
  pub num : List ℤ
  pub halves : ℕ

-- an element over the root of two, where the root divides it: half its product with the root
abbrev pub over_root : ℕ → List ℤ → List ℤ
over_root half a = map (λ x. int_div_euclid x (pos 2)) (root_times half a)

-- whether it is the root of two times an element
abbrev pub has_root : ℕ → List ℤ → Bool
has_root half a = pointwise int_eq (root_times half (over_root half a)) a

-- the root of two is taken from the element and from the power as often as it can be
abbrev pub reduced : ℕ → List ℤ → ℕ → Fraction
reduced half a zero = record { num = a; halves = 0 }
reduced half a (suc k) =
    cond (has_root half a) (reduced half (over_root half a) k) (record { num = a; halves = suc k })
