-- The flow, the causal flow, the refuter and the stuck set that are chosen among all.
use Rattle.std.specs.Prelude.{◌≡◌, ◌≢◌, ◌⊎◌, ℕ, ◌<◌, ◌≤◌, true, false}
use Rattle.mc_model.specs.Bits.{Bits}
use Rattle.mc_model.specs.Graph.{OpenGraph, size, is_input, is_output, odd_neighbourhood, joins}
use Rattle.mc_model.specs.Flow.{IsFlow, IsCausalFlow, single, IsRefuter, RefutesAt, IsStuckSet}

-- `s` is less than `t` where it lacks the last vertex in which they differ
pub record IsLess (is_after : ℕ → ℕ → Type 0) (n : ℕ) (s t : Bits) : Type 0 where
  pub last : ℕ
  pub vertex : last < n
  pub lacks : s last ≡ false
  pub holds : t last ≡ true
  pub same_after : (k : ℕ) → k < n → is_after last k → s k ≡ t k

-- two sets have the same vertices
abbrev pub SameBelow : ℕ → Bits → Bits → Type 0
SameBelow n s t = (k : ℕ) → k < n → s k ≡ t k

-- the least set with a property
pub record IsLeastSet (is_after : ℕ → ℕ → Type 0) (n : ℕ) (P : Bits → Type 0) (s : Bits) : Type 0
  where
    pub has : P s
    pub least : (t : Bits) → P t → SameBelow n s t ⊎ IsLess is_after n s t

-- the least layer of a vertex in any flow
pub record IsLeastLayer (g : OpenGraph) (v k : ℕ) : Type 0 where
  pub sets : ℕ → Bits
  pub layer : ℕ → ℕ
  pub flow : IsFlow g sets layer
  pub reached : layer v ≡ k
  pub least : (sets' : ℕ → Bits) (layer' : ℕ → ℕ) → IsFlow g sets' layer' → k ≤ layer' v

-- candidates are ordered by layer, and within a layer by number
abbrev pub IsLaterCandidate : (ℕ → ℕ) → ℕ → ℕ → Type 0
IsLaterCandidate layer d k = (layer d < layer k) ⊎ ((layer d ≡ layer k) × (d < k))

-- a set of candidates of smaller layers whose odd neighbourhood has `u` and no other vertex but
-- outputs
pub record CorrectsAlone (g : OpenGraph) (layer : ℕ → ℕ) (u : ℕ) (s : Bits) : Type 0 where
  pub within : (k : ℕ) → s k ≡ true → k < size g
  pub no_input : (k : ℕ) → s k ≡ true → is_input g k ≡ false
  pub later : (k : ℕ) → s k ≡ true → layer k < layer u
  pub alone : (v : ℕ) → v < size g → is_output g v ≡ false →
      odd_neighbourhood g s v ≡ single u v

-- each vertex has its least layer, and each set is the least that there is
pub record IsChosenFlow (g : OpenGraph) (sets : ℕ → Bits) (layer : ℕ → ℕ) : Type 0 where
  pub least_layers : (v : ℕ) → v < size g → IsLeastLayer g v (layer v)
  pub least_sets : (u : ℕ) → u < size g → is_output g u ≡ false →
      IsLeastSet (IsLaterCandidate layer) (size g) (CorrectsAlone g layer u) (sets u)

-- vertices are ordered by number
abbrev pub IsLaterNumber : ℕ → ℕ → Type 0
IsLaterNumber d k = d < k

-- `B` is the greatest set that a refuter has, and each row is the least that refutes, by the
-- greatest number that differs
pub record IsChosenRefuter (g : OpenGraph) (B : Bits) (y : ℕ → Bits) : Type 0 where
  pub refuter : IsRefuter g B y
  pub greatest : (B' : Bits) (y' : ℕ → Bits) → IsRefuter g B' y' →
      (v : ℕ) → v < size g → B' v ≡ true → B v ≡ true
  pub least : (u : ℕ) → u < size g → B u ≡ true →
      IsLeastSet IsLaterNumber (size g) (λ s. RefutesAt g B s u) (y u)

-- the least layer of a vertex in any causal flow
pub record IsLeastCausalLayer (g : OpenGraph) (v k : ℕ) : Type 0 where
  pub next : ℕ → ℕ
  pub layer : ℕ → ℕ
  pub flow : IsCausalFlow g next layer
  pub reached : layer v ≡ k
  pub least : (next' layer' : ℕ → ℕ) → IsCausalFlow g next' layer' → k ≤ layer' v

-- `w` is a neighbour of `u` of a smaller layer, no input, and its other neighbours have smaller
-- layers than `u`
pub record CorrectsCausally (g : OpenGraph) (layer : ℕ → ℕ) (u w : ℕ) : Type 0 where
  pub vertex : w < size g
  pub no_input : is_input g w ≡ false
  pub neighbour : joins g.edges w u ≡ true
  pub later : layer w < layer u
  pub others_later : (v : ℕ) → v < size g → v ≢ u → joins g.edges w v ≡ true → layer v < layer u

-- each vertex has its least layer, and the least-numbered vertex that corrects it
pub record IsChosenCausalFlow (g : OpenGraph) (next layer : ℕ → ℕ) : Type 0 where
  pub least_layers : (v : ℕ) → v < size g → IsLeastCausalLayer g v (layer v)
  pub corrects : (u : ℕ) → u < size g → is_output g u ≡ false →
      CorrectsCausally g layer u (next u)
  pub least : (u w : ℕ) → u < size g → is_output g u ≡ false →
      CorrectsCausally g layer u w → next u ≤ w

-- the greatest stuck set
pub record IsChosenStuckSet (g : OpenGraph) (B : Bits) : Type 0 where
  pub stuck : IsStuckSet g B
  pub greatest : (B' : Bits) → IsStuckSet g B' → (v : ℕ) → v < size g → B' v ≡ true → B v ≡ true
