-- The preparations of qubits from a number on.
use Rattle.std.proofs.Common.{◌≡◌, ℕ, zero, suc, false, length, refl, ap}
use Rattle.mc_model.specs.Amplitude.{halvings}
use Rattle.mc_model.specs.Valid.{prepared, measured}
use Rattle.mc_model.specs.Translation.{preparations}

pub length-preparations : (q n : ℕ) → length (preparations q n) ≡ n
unfolding preparations
length-preparations q zero = refl
length-preparations q (suc n) = ap suc (length-preparations (suc q) n)

pub prepared-preparations : (q n : ℕ) → prepared (preparations q n) ≡ n
unfolding prepared preparations
prepared-preparations q zero = refl
prepared-preparations q (suc n) = ap suc (prepared-preparations (suc q) n)

pub measured-preparations : (q n k : ℕ) → measured (preparations q n) k ≡ false
unfolding measured preparations
measured-preparations q zero k = refl
measured-preparations q (suc n) k = measured-preparations (suc q) n k

pub halvings-preparations : (q n : ℕ) → halvings (preparations q n) ≡ n
unfolding halvings preparations
halvings-preparations q zero = refl
halvings-preparations q (suc n) = ap suc (halvings-preparations (suc q) n)
