-- One bit for each number: settings of qubits, outcomes of measurements, sets of vertices.
use Rattle.std.specs.Prelude.{ℕ, zero, suc, Bool, true, false, cond, not, nat_eq, ◌&&◌, ◌||◌, List}
use Rattle.std.specs.Prelude.{[], ◌∷◌, slice_get, unwrap_or}

infixl 60 ◌⊻◌
-- the sum of two bits
abbrev pub ◌⊻◌ : Bool → Bool → Bool
false ⊻ b = b
true ⊻ b = not b

abbrev pub Bits : Type 0
Bits = ℕ → Bool

-- the bit at each number of a list, and 0 behind its end
abbrev pub bits_of : List Bool → Bits
bits_of bits = λ q. unwrap_or (slice_get bits q) false

-- every bit is 0
abbrev pub all_zero : Bits
all_zero = λ k. false

-- the bits with the bit `i` replaced by `b`
abbrev pub replaced : Bits → ℕ → Bool → Bits
replaced x i b = λ k. cond (nat_eq k i) b (x k)

-- the sum of the bits at the listed numbers
unfoldable pub parity : List ℕ → Bits → Bool
parity [] o = false
parity (q ∷ qs) o = o q ⊻ parity qs o

-- whether an odd number of the numbers below `n` have the bit 1
unfoldable pub odd : ℕ → Bits → Bool
odd zero f = false
odd (suc n) f = f n ⊻ odd n f

-- whether two pairs are one, in whatever order
abbrev pub same_pair : ℕ → ℕ → ℕ → ℕ → Bool
same_pair i j q r = (nat_eq i q && nat_eq j r) || (nat_eq i r && nat_eq j q)
