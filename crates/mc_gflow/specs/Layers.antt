-- What the finder keeps while it takes vertices into layers.
use Rattle.std.specs.Prelude.{◌≡◌, ◌⊎◌, ℕ, ◌+◌, ◌*◌, ◌<◌, ◌≤◌, Bool}
use Rattle.std.specs.Prelude.{true, false, not, ◌&&◌, nat_eq}
use Rattle.std.specs.Prelude.{List, length, count_by, slice_index}
use Rattle.mc_model.specs.Bits.{Bits, odd}
use Rattle.mc_model.specs.Graph.{OpenGraph, size, is_input, is_output, joins, odd_neighbourhood}
use Rattle.mc_model.specs.Flow.{single, IsFlow}
use Rattle.mc_model.specs.Choice.{IsLaterCandidate, IsLeastSet, CorrectsAlone, IsChosenRefuter}
use Rattle.mc_elim.specs.Tables.{row_at, entry}
use Rattle.mc_elim.specs.Basis.{Inserted, count_of, columns_of, IsLeastRefuter}

-- a set of candidates of layers below `k` whose odd neighbourhood has `u` and no other vertex but
-- outputs
pub record IsCorrection (g : OpenGraph) (layer : ℕ → ℕ) (k u : ℕ) (s : Bits) : Type 0 where
  pub within : (w : ℕ) → s w ≡ true → w < size g
  pub no_input : (w : ℕ) → s w ≡ true → is_input g w ≡ false
  pub before : (w : ℕ) → s w ≡ true → layer w < k
  pub alone : (v : ℕ) → v < size g → is_output g v ≡ false →
      odd_neighbourhood g s v ≡ single u v

-- a vertex of a layer below `k`, or of the layer `k` and below `x`
abbrev pub IsBefore : (ℕ → ℕ) → ℕ → ℕ → ℕ → Type 0
IsBefore layer k x w = (layer w < k) ⊎ ((layer w ≡ k) × (w < x))

-- the neighbours of a vertex but for outputs
abbrev pub column_of : OpenGraph → ℕ → Bits
column_of g w = λ v. joins g.edges v w && not (is_output g v)

-- the columns of all candidates before `k` and `x` were inserted, in the order of candidates
pub record HoldsCandidates (g : OpenGraph) (layer : ℕ → ℕ) (k x : ℕ) (order : ℕ → ℕ)
    (basis : Inserted) : Type 0 where
  pub rows : basis.rows ≡ size g
  pub room : basis.room ≡ size g
  pub vertices : (j : ℕ) → j < count_of basis → order j < size g
  pub no_input : (j : ℕ) → j < count_of basis → is_input g (order j) ≡ false
  pub before : (j : ℕ) → j < count_of basis → IsBefore layer k x (order j)
  pub rising : (i j : ℕ) → i < j → j < count_of basis →
      IsLaterCandidate layer (order i) (order j)
  pub complete : (w : ℕ) → w < size g → is_input g w ≡ false → IsBefore layer k x w →
      (j : ℕ) × (j < count_of basis) × (order j ≡ w)
  pub columns : (j v : ℕ) → j < count_of basis → v < size g →
      columns_of basis j v ≡ column_of g (order j) v

-- the vertices of a set of columns
abbrev pub vertices_of : ℕ → (ℕ → ℕ) → Bits → Bits
vertices_of m order s = λ w. odd m (λ j. s j && nat_eq w (order j))

-- no set corrects a vertex by candidates below a layer of at most `k` but where it was taken
abbrev pub IsEarliestTo : OpenGraph → (ℕ → ℕ) → ℕ → Type 0
IsEarliestTo g layer k = (u j : ℕ) → u < size g → is_output g u ≡ false → j ≤ k →
    (s : Bits) → IsCorrection g layer j u s → layer u ≤ j

-- the vertices in layers of at most `k` were taken; each other one has the layer `none`
pub record HoldsLayers (g : OpenGraph) (layer : ℕ → ℕ) (none k : ℕ) (sets : ℕ → Bits) : Type 0
  where
    pub outputs : (v : ℕ) → v < size g → is_output g v ≡ true → layer v ≡ 0
    pub positive : (u : ℕ) → u < size g → is_output g u ≡ false → 1 ≤ layer u
    pub taken : (u : ℕ) → u < size g → (layer u ≤ k) ⊎ (layer u ≡ none)
    pub least : (u : ℕ) → u < size g → is_output g u ≡ false → layer u ≤ k →
        IsLeastSet (IsLaterCandidate layer) (size g) (CorrectsAlone g layer u) (sets u)

-- no further vertex can be taken: a round beyond the layer `k` found none
pub record IsStuck (g : OpenGraph) (layer : ℕ → ℕ) (none k : ℕ) (sets : ℕ → Bits)
    (order : ℕ → ℕ) (basis : Inserted) : Type 0 where
  pub low : k + 1 < none
  pub layers : HoldsLayers g layer none k sets
  pub candidates : HoldsCandidates g layer (k + 1) 0 order basis
  pub earliest : IsEarliestTo g layer (k + 1)

-- the vertices that were not taken
abbrev pub left_over : (ℕ → ℕ) → ℕ → Bits
left_over layer none = λ v. nat_eq (layer v) none

-- what insertions counted: at most twice the number of rows for each column
pub record CountsColumns (n old new : ℕ) (before after : Inserted) : Type 0 where
  pub rise : old ≤ new
  pub most : new + 2 * n * count_of before ≤ old + 2 * n * count_of after
  pub added : new ≡ old → before.has_added ≡ false → after.has_added ≡ false

-- the vertices below `x` were asked whether they can be taken into the layer `k`
pub record TakenUpTo (g : OpenGraph) (layer : ℕ → ℕ) (none k x : ℕ) (sets : ℕ → Bits)
    (order : ℕ → ℕ) (basis : Inserted) : Type 0 where
  pub low : k < none
  pub some : 1 ≤ k
  pub layers : HoldsLayers g layer none k sets
  pub candidates : HoldsCandidates g layer k 0 order basis
  pub earlier : (u j : ℕ) → u < size g → is_output g u ≡ false → j < k →
      (s : Bits) → IsCorrection g layer j u s → layer u ≤ j
  pub passed : (u : ℕ) → u < size g → u < x → is_output g u ≡ false →
      (s : Bits) → IsCorrection g layer k u s → layer u ≤ k

-- each set of a vertex that was taken has one member
abbrev pub AreAlone : OpenGraph → (ℕ → ℕ) → ℕ → (ℕ → Bits) → Type 0
AreAlone g layer k sets = (v : ℕ) → v < size g → is_output g v ≡ false → layer v ≤ k →
    (w : ℕ) × ((x : ℕ) → sets v x ≡ single w x)

-- `n` rows of `n` bits
pub record HasSquare (n : ℕ) (rows : List (List Bool)) : Type 0 where
  pub count : length rows ≡ n
  pub width : (i : ℕ) → i < n → length (row_at rows i) ≡ n

-- how many vertices have the layer `none`
abbrev pub untaken : ℕ → List ℕ → ℕ
untaken none layers = count_by (nat_eq none) layers

-- the rows of the vertices below `x` that were not taken are their least refuters
abbrev pub AreRefuted : OpenGraph → (ℕ → ℕ) → ℕ → ℕ → (ℕ → Bits) → Inserted → Type 0
AreRefuted g layer none x sets basis =
    (v : ℕ) → v < size g → v < x → layer v ≡ none → IsLeastRefuter basis v (sets v)

-- the layers below and with `k` were found, and the candidates below `k` inserted
pub record IsSearching (g : OpenGraph) (none k : ℕ) (layers : List ℕ) (sets : List (List Bool))
    (order : List ℕ) (columns : List Bool) (basis : Inserted) (old now : ℕ) : Type 0 where
  pub lengths : (length layers ≡ size g) × (length order ≡ size g) × (length columns ≡ size g)
  pub square : HasSquare (size g) sets
  pub low : size g + 1 < none
  pub bound : k + untaken none layers ≤ size g
  pub held : HoldsLayers g (slice_index layers) none k (entry sets)
  pub candidates : HoldsCandidates g (slice_index layers) k 0 (slice_index order) basis
  pub earliest : IsEarliestTo g (slice_index layers) k
  pub rise : old ≤ now
  pub most : now ≤ old + 2 * size g * count_of basis
  pub unadded : now ≡ old → basis.has_added ≡ false
  pub alone : now ≡ old → AreAlone g (slice_index layers) k (entry sets)

-- the search has ended
pub record IsSearched (g : OpenGraph) (none k : ℕ) (layers : List ℕ) (sets : List (List Bool))
    (order : List ℕ) (basis : Inserted) (old now : ℕ) : Type 0 where
  pub square : HasSquare (size g) sets
  pub stuck : IsStuck g (slice_index layers) none k (entry sets) (slice_index order) basis
  pub rise : old ≤ now
  pub most : now ≤ old + 2 * size g * count_of basis
  pub alone : now ≡ old → AreAlone g (slice_index layers) k (entry sets)

-- each set has one member
abbrev pub AllSingle : OpenGraph → (ℕ → Bits) → Type 0
AllSingle g sets = (v : ℕ) → v < size g → is_output g v ≡ false →
    (w : ℕ) × ((x : ℕ) → sets v x ≡ single w x)

-- the graph has no flow, as the chosen refuter shows
abbrev pub IsWithoutFlow : OpenGraph → Bits → (ℕ → Bits) → Type 0
IsWithoutFlow g B y = IsChosenRefuter g B y
    × ((sets : ℕ → Bits) (layer : ℕ → ℕ) → IsFlow g sets layer → ⊥)
