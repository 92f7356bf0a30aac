-- Products of tables, whose entries are those of the maps of chained patterns.
use Rattle.std.specs.Prelude.{◌≡◌, ℕ, ◌^◌, ◌<◌, Bool, List, ℤ}
use Rattle.mc_model.specs.Bits.{Bits, bits_of}
use Rattle.mc_model.specs.Ring.{Element, ring, product, plus, times, zeros}
use Rattle.mc_model.specs.Height.{IsInRange}
use Rattle.mc_ring.specs.Matrices.{Entries, at, sum_below, LeavesAt, StaysBelow}
use Rattle.mc_run.specs.Settings.{spelled}
use Rattle.mc_run.specs.Tables.{TableValue, entry_at, IsTableOf}
use Rattle.mc_compose.specs.Sums.{sum_over_bits}

-- the entries of a table, with a row for each setting of the outputs
pub record IsMatrixOf (t : TableValue) (m : Entries) : Type 0 where
  pub rows : m.rows ≡ 2 ^ t.outputs
  pub columns : m.columns ≡ 2 ^ t.inputs
  pub entry : (y b : ℕ) → y < 2 ^ t.outputs → b < 2 ^ t.inputs → at m y b ≡ entry_at t y b

-- the products of an entry of either table, by the number that the bits between them spell
abbrev pub terms : TableValue → TableValue → ℕ → ℕ → ℕ → List ℤ
terms first second y b c = times (entry_at second y c) (entry_at first c b)

-- a row for each setting of the second's outputs, a column for each of the first's inputs, and as
-- entries the sums of these products
pub record IsTableProduct (half : ℕ) (first second : TableValue) (m : Entries) : Type 0 where
  pub rows : m.rows ≡ 2 ^ second.outputs
  pub columns : m.columns ≡ 2 ^ first.inputs
  pub entry : (y b : ℕ) → y < 2 ^ second.outputs → b < 2 ^ first.inputs →
      at m y b ≡ sum_below (zeros half) plus (terms first second y b) (2 ^ second.inputs)

-- whatever amplitudes the two are tables of, the entries are the sums over the bits `c` between
-- them of the products of these
abbrev pub MultipliesAmplitudes : ℕ → TableValue → TableValue → Entries → Type 0
MultipliesAmplitudes half first second m = (a1 a2 : List Bool → Bits → Element half) →
    IsTableOf first.outputs first.inputs first.halves a1 first →
    IsTableOf second.outputs second.inputs second.halves a2 second →
    (y b : ℕ) → y < 2 ^ second.outputs → b < 2 ^ first.inputs →
    at m y b
    ≡ (sum_over_bits (ring half) second.inputs
    (λ c. product (a2 (spelled second.outputs y) (bits_of c))
    (a1 c (bits_of (spelled first.inputs b))))).coefficients

-- a product, or a sum of the first of them, is out of the range
pub record LeavesRange (half : ℕ) (first second : TableValue) : Type 0 where
  pub y : ℕ
  pub b : ℕ
  pub c : ℕ
  pub output : y < 2 ^ second.outputs
  pub input : b < 2 ^ first.inputs
  pub between : c < 2 ^ second.inputs
  pub leaves : LeavesAt IsInRange (zeros half) plus (terms first second y b) c

-- no product and no sum of the first of them is out of the range
abbrev pub StaysInRange : ℕ → TableValue → TableValue → Type 0
StaysInRange half first second = (y b : ℕ) → y < 2 ^ second.outputs → b < 2 ^ first.inputs →
    StaysBelow IsInRange (zeros half) plus (terms first second y b) (2 ^ second.inputs)
