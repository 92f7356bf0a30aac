-- Generalised flows of open graphs, causal flows, and what refutes them.
use Rattle.std.specs.Prelude.{◌≡◌, ◌≢◌, ℕ, ◌<◌, ◌≤◌, true, false, nat_eq, map, max, fold}
use Rattle.mc_model.specs.Numbers.{numbers_from}
use Rattle.mc_model.specs.Bits.{Bits}
use Rattle.mc_model.specs.Graph.{OpenGraph, size, is_input, is_output, odd_neighbourhood, joins}

-- the set `s` corrects the measurement of the vertex `i`: a smaller layer is measured later
pub record CorrectsAt (g : OpenGraph) (s : Bits) (layer : ℕ → ℕ) (i : ℕ) : Type 0 where
  pub within : (k : ℕ) → s k ≡ true → k < size g
  pub no_input : (k : ℕ) → s k ≡ true → is_input g k ≡ false
  pub not_itself : s i ≡ false
  pub odd_itself : odd_neighbourhood g s i ≡ true
  pub set_later : (k : ℕ) → s k ≡ true → layer k < layer i
  pub odd_later : (k : ℕ) → k < size g → k ≢ i →
      odd_neighbourhood g s k ≡ true → layer k < layer i

-- a set and a layer of at least 1 for each vertex that is no output; outputs have the layer 0
pub record IsFlow (g : OpenGraph) (sets : ℕ → Bits) (layer : ℕ → ℕ) : Type 0 where
  pub outputs : (v : ℕ) → v < size g → is_output g v ≡ true → layer v ≡ 0
  pub positive : (i : ℕ) → i < size g → is_output g i ≡ false → 1 ≤ layer i
  pub corrects : (i : ℕ) → i < size g → is_output g i ≡ false → CorrectsAt g (sets i) layer i

-- the greatest layer, or 0
abbrev pub depth_of : OpenGraph → (ℕ → ℕ) → ℕ
depth_of g layer = fold max 0 (map layer (numbers_from 0 (size g)))

-- the set of one vertex
abbrev pub single : ℕ → Bits
single u = λ k. nat_eq k u

-- a flow in which each set has one member, the vertex `next i`
abbrev pub IsCausalFlow : OpenGraph → (ℕ → ℕ) → (ℕ → ℕ) → Type 0
IsCausalFlow g next layer = IsFlow g (λ i. single (next i)) layer

-- some vertex is in the set, and each vertex in the set is no output
pub record IsUncorrected (g : OpenGraph) (B : Bits) : Type 0 where
  pub some : (u : ℕ) × (u < size g) × (B u ≡ true)
  pub no_output : (u : ℕ) → u < size g → B u ≡ true → is_output g u ≡ false

-- the set `y` keeps `u` from being corrected before the others in `B`
pub record RefutesAt (g : OpenGraph) (B y : Bits) (u : ℕ) : Type 0 where
  pub holds : y u ≡ true
  pub within : (v : ℕ) → v < size g → y v ≡ true → B v ≡ true
  pub even : (w : ℕ) → w < size g → is_input g w ≡ false → B w ≡ false →
      odd_neighbourhood g y w ≡ false

-- a set `B` of vertices and for each of them a set `y u` that keeps it from being corrected
pub record IsRefuter (g : OpenGraph) (B : Bits) (y : ℕ → Bits) : Type 0 where
  pub uncorrected : IsUncorrected g B
  pub refutes : (u : ℕ) → u < size g → B u ≡ true → RefutesAt g B (y u) u

-- `u` is the only neighbour of `w` in the set
pub record IsOnlyNeighbour (g : OpenGraph) (B : Bits) (w u : ℕ) : Type 0 where
  pub vertex : u < size g
  pub in_set : B u ≡ true
  pub neighbour : joins g.edges w u ≡ true
  pub only : (v : ℕ) → v < size g → B v ≡ true → joins g.edges w v ≡ true → v ≡ u

-- no vertex outside the set, but for inputs, has exactly one neighbour in it
pub record IsStuckSet (g : OpenGraph) (B : Bits) : Type 0 where
  pub uncorrected : IsUncorrected g B
  pub none : (w u : ℕ) → w < size g → is_input g w ≡ false → B w ≡ false →
      IsOnlyNeighbour g B w u → ⊥
