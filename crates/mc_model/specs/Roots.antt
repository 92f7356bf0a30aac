-- Elements over powers of the root of two.
use Rattle.std.specs.Prelude.{◌≡◌, ℕ, zero, suc, ◌/◌, List, ℤ}
use Rattle.mc_model.specs.Ring.{times, root_two}

-- the root of two times an element
abbrev pub root_times : ℕ → List ℤ → List ℤ
root_times half a = times (root_two (half / 4)).coefficients a

-- the root of two to the power `k` times an element
abbrev pub root_powers : ℕ → ℕ → List ℤ → List ℤ
root_powers half zero a = a
root_powers half (suc k) a = root_times half (root_powers half k a)

-- `a` over the root of two to the power `i` is `b` over it to the power `j`
abbrev pub IsSameValue : ℕ → List ℤ → ℕ → List ℤ → ℕ → Type 0
IsSameValue half a i b j = root_powers half j a ≡ root_powers half i b
