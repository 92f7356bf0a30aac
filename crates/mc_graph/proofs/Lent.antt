-- A list that was lent as a slice.
use Rattle.std.proofs.Common.{◌≡◌, ℕ, List, ◌++◌, length, take, drop}
use Rattle.std.proofs.Math.Seq.{take-append_seam}

-- what comes back takes the whole place of what was lent
pub come_back : {A : Type 0} (list lent : List A) (n : ℕ) → n ≡ length list →
    length lent ≡ length list → take n (lent ++ drop (length lent) list) ≡ lent
come_back list lent n size long = rw (size, ← long) (take-append_seam lent (drop (length lent) list))
