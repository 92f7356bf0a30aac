-- What is proved of chained patterns and of patterns side by side.
use Rattle.std.specs.Prelude.{◌≡◌, ℕ, ◌+◌, ◌-◌, ◌^◌, ◌<◌, ◌≤◌, Bool, List, length}
use Rattle.mc_model.specs.Limits.{most_qubits, most_commands}
use Rattle.mc_model.specs.Bits.{Bits}
use Rattle.mc_model.specs.Ring.{Element, ring}
use Rattle.mc_model.specs.Pattern.{Pattern}
use Rattle.mc_model.specs.Amplitude.{pattern_scale}
use Rattle.mc_model.specs.Valid.{IsValidPattern}
use Rattle.mc_pattern.specs.Patterns.{IsPattern}
use Rattle.mc_run.specs.Settings.{spelled}
use Rattle.mc_compose.specs.Composed.{AreJoined, place_behind, place_left, place_right}
use Rattle.mc_compose.specs.Composed.{chained, side_by_side}
use Rattle.mc_compose.specs.Sums.{sum_over_bits, sum_below}
use Rattle.mc_compose.specs.Maps.{MultipliesMaps, MultipliesEntries}

-- the branch map of a chained pattern is the product of those of its parts
abbrev pub ChainsMultiply : Type 0
ChainsMultiply = (half : ℕ) → 0 < half → (first second : Pattern) → IsValidPattern first →
    IsValidPattern second → length first.outputs ≡ second.inputs →
    MultipliesMaps half first second (chained first second)

-- the sum over lists of bits is that over the numbers that they spell
abbrev pub SumsRunOverNumbers : Type 0
SumsRunOverNumbers = (half : ℕ) → 0 < half → (n : ℕ) (f : List Bool → Element half) →
    sum_over_bits (ring half) n f ≡ sum_below (ring half) (2 ^ n) (λ i. f (spelled n i))

-- the branch map of two patterns side by side has the products of the entries of theirs
abbrev pub SidesMultiply : Type 0
SidesMultiply = (half : ℕ) → 0 < half → (first second : Pattern) → IsValidPattern first →
    IsValidPattern second → MultipliesEntries half first second (side_by_side first second)

-- all outcomes of the parts are those of some outcomes of the whole
abbrev pub OutcomesJoin : Type 0
OutcomesJoin = (first second : Pattern) → IsValidPattern first → IsValidPattern second →
    (o1 o2 : Bits) →
    (length first.outputs ≡ second.inputs →
    (o : Bits) × AreJoined first second (λ q. q) (place_behind first second) o1 o2 o)
    × ((o : Bits)
    × AreJoined first second (place_left first second) (place_right first second) o1 o2 o)

-- within 256 qubits the results are valid
abbrev pub ChainsAreValid : Type 0
ChainsAreValid = (first second : Pattern) → IsValidPattern first → IsValidPattern second →
    length first.outputs ≡ second.inputs →
    length first.names + (length second.names - second.inputs) ≤ most_qubits →
    IsValidPattern (chained first second)

abbrev pub SidesAreValid : Type 0
SidesAreValid = (first second : Pattern) → IsValidPattern first → IsValidPattern second →
    length first.names + length second.names ≤ most_qubits →
    IsValidPattern (side_by_side first second)

-- and within 262,144 commands they are patterns that the code holds
abbrev pub ChainsArePatterns : Type 0
ChainsArePatterns = (half : ℕ) (first second : Pattern) → IsPattern half first →
    IsPattern half second → length first.outputs ≡ second.inputs →
    length first.names + (length second.names - second.inputs) ≤ most_qubits →
    length first.commands + length second.commands ≤ most_commands →
    IsPattern half (chained first second)

abbrev pub SidesArePatterns : Type 0
SidesArePatterns = (half : ℕ) (first second : Pattern) → IsPattern half first →
    IsPattern half second → length first.names + length second.names ≤ most_qubits →
    length first.commands + length second.commands ≤ most_commands →
    IsPattern half (side_by_side first second)

-- the scales add up, and so do the commands
abbrev pub ScalesAdd : Type 0
ScalesAdd = (first second : Pattern) →
    (pattern_scale (chained first second) ≡ pattern_scale first + pattern_scale second)
    × (pattern_scale (side_by_side first second) ≡ pattern_scale first + pattern_scale second)
    × (length (chained first second).commands ≡ length first.commands + length second.commands)
    × (length (side_by_side first second).commands ≡ length first.commands + length second.commands)
