-- How many steps half a turn has.
use Rattle.std.proofs.Common.{ℕ, ◌<◌, ◌≤◌, IsTrue, arith}
use Rattle.std.proofs.lemmas.Bool.Decides.{nat_tests}
use Rattle.mc_model.specs.Steps.{is_permitted}

-- one at least, and at most eight
pub permitted_positive : (half : ℕ) → IsTrue (is_permitted half) → 0 < half
permitted_positive half permitted = grind (arith, nat_tests)

pub permitted_at_most : (half : ℕ) → IsTrue (is_permitted half) → half ≤ 8
permitted_at_most half permitted = grind (arith, nat_tests)
