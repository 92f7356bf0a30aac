-- Depths: the longest chain of dependent measurements, and lower bounds on the depth of every flow.
use Rattle.std.specs.Prelude.{◌≡◌, ◌⊎◌, ℕ, ◌<◌, ◌≤◌, true, false, ◌||◌, List, [], ◌∷◌}
use Rattle.std.specs.Prelude.{◌++◌, length}
use Rattle.std.specs.Prelude.{⊤}
use Rattle.mc_model.specs.Numbers.{is_member}
use Rattle.mc_model.specs.Bits.{Bits}
use Rattle.mc_model.specs.Signals.{Signal}
use Rattle.mc_model.specs.Pattern.{Command, Meas}
use Rattle.mc_model.specs.Graph.{OpenGraph, size, is_input, is_output, odd_neighbourhood}

-- the measurement of `q` stands in the list and names `p` in one of its signals
pub record NamesOutcome (cs : List Command) (p q : ℕ) : Type 0 where
  pub angle : ℕ
  pub s : Signal
  pub t : Signal
  pub before : List Command
  pub behind : List Command
  pub place : cs ≡ before ++ (Meas q angle s t ∷ behind)
  pub names : (is_member s.members p || is_member t.members p) ≡ true

-- measured qubits, each of which names the one before
abbrev pub IsChainFrom : List Command → ℕ → List ℕ → Type 0
IsChainFrom cs p [] = ⊤
IsChainFrom cs p (q ∷ qs) = NamesOutcome cs p q × IsChainFrom cs q qs

pub record IsMeasured (cs : List Command) (q : ℕ) : Type 0 where
  pub angle : ℕ
  pub s : Signal
  pub t : Signal
  pub before : List Command
  pub behind : List Command
  pub place : cs ≡ before ++ (Meas q angle s t ∷ behind)

abbrev pub IsChain : List Command → List ℕ → Type 0
IsChain cs [] = ⊤
IsChain cs (q ∷ qs) = IsMeasured cs q × IsChainFrom cs q qs

-- the greatest number of measurements in a chain
pub record IsDependenceDepth (cs : List Command) (d : ℕ) : Type 0 where
  pub chain : List ℕ
  pub is_chain : IsChain cs chain
  pub reached : length chain ≡ d
  pub greatest : (qs : List ℕ) → IsChain cs qs → length qs ≤ d

-- the set keeps the vertex `u` from a layer of `k` where other vertices have these layers
pub record KeepsAbove (g : OpenGraph) (layer : ℕ → ℕ) (k u : ℕ) (y : Bits) : Type 0 where
  pub holds : y u ≡ true
  pub within : (v : ℕ) → v < size g → y v ≡ true → (is_output g v ≡ false) × (k ≤ layer v)
  pub even : (w : ℕ) → w < size g → is_input g w ≡ false →
      (is_output g w ≡ true) ⊎ (layer w < k) → odd_neighbourhood g y w ≡ false

-- stated layers from 1 to `d`, and for each `k` below `d` and each vertex of a layer above `k` a
-- set that keeps it from a layer of `k`
pub record IsDepthBound (g : OpenGraph) (d : ℕ) (layer : ℕ → ℕ) (y : ℕ → ℕ → Bits) : Type 0 where
  pub layers : (v : ℕ) → v < size g → is_output g v ≡ false → (1 ≤ layer v) × (layer v ≤ d)
  pub reached : (d ≡ 0) ⊎ ((v : ℕ) × (v < size g) × (is_output g v ≡ false) × (layer v ≡ d))
  pub holds : (k u : ℕ) → 1 ≤ k → k < layer u → u < size g → is_output g u ≡ false → y k u u ≡ true
  pub within : (k u v : ℕ) → 1 ≤ k → k < layer u → u < size g → is_output g u ≡ false →
      v < size g → y k u v ≡ true → (is_output g v ≡ false) × (k ≤ layer v)
  pub even : (k u w : ℕ) → 1 ≤ k → k < layer u → u < size g → is_output g u ≡ false →
      w < size g → is_input g w ≡ false → (is_output g w ≡ true) ⊎ (layer w < k) →
      odd_neighbourhood g (y k u) w ≡ false
