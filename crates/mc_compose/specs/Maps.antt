-- The branch maps of two patterns in those of one.
use Rattle.std.specs.Prelude.{◌≡◌, ℕ, ◌+◌, Bool, List, ◌++◌, length}
use Rattle.mc_model.specs.Bits.{Bits, bits_of}
use Rattle.mc_model.specs.Ring.{ring, product}
use Rattle.mc_model.specs.Pattern.{Pattern}
use Rattle.mc_model.specs.Amplitude.{branch_map}
use Rattle.mc_compose.specs.Composed.{AreJoined, place_behind, place_left, place_right}
use Rattle.mc_compose.specs.Sums.{sum_over_bits}

-- whatever the outcomes of the two, the map is the product of theirs: the sum over the bits `c`
-- between them
abbrev pub MultipliesMaps : ℕ → Pattern → Pattern → Pattern → Type 0
MultipliesMaps half first second whole = (o1 o2 o : Bits) →
    AreJoined first second (λ q. q) (place_behind first second) o1 o2 o →
    (y : List Bool) (b : Bits) →
    branch_map (ring half) whole o y b
    ≡ sum_over_bits (ring half) second.inputs
    (λ c. product (branch_map (ring half) second o2 y (bits_of c))
    (branch_map (ring half) first o1 c b))

-- whatever the outcomes of the two, the entries of the map are the products of an entry of either
abbrev pub MultipliesEntries : ℕ → Pattern → Pattern → Pattern → Type 0
MultipliesEntries half first second whole = (o1 o2 o : Bits) →
    AreJoined first second (place_left first second) (place_right first second) o1 o2 o →
    (y1 y2 : List Bool) (b : Bits) → length first.outputs ≡ length y1 →
    branch_map (ring half) whole o (y1 ++ y2) b
    ≡ product (branch_map (ring half) first o1 y1 b)
    (branch_map (ring half) second o2 y2 (λ k. b (first.inputs + k)))
