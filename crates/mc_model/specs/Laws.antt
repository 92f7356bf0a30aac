-- Laws of the definitions that several crates cite.
use Rattle.std.specs.Prelude.{◌≡◌, ℕ, ◌*◌, ◌<◌, ◌≤◌, false, List, [], ◌∷◌, ◌++◌, ◌&&◌}
use Rattle.mc_model.specs.Bits.{Bits, odd}
use Rattle.mc_model.specs.Ring.{Element, ring, product, root_two, IsCommutativeRing}
use Rattle.mc_model.specs.Pattern.{Command}
use Rattle.mc_model.specs.Amplitude.{Amps, act, after}
use Rattle.mc_model.specs.Graph.{OpenGraph, size, is_output, odd_neighbourhood}
use Rattle.mc_model.specs.Depth.{IsDepthBound}
use Rattle.mc_model.specs.Choice.{IsChosenFlow}
use Rattle.mc_model.specs.Flow.{IsFlow, IsCausalFlow, depth_of, IsRefuter, IsStuckSet}

-- elements of `half` coefficients are a commutative ring in which `w ^ half = -1`
abbrev pub ElementsAreARing : Type 0
ElementsAreARing = (half : ℕ) → 0 < half → IsCommutativeRing half

-- the root of two, squared
abbrev pub RootSquaresToTwo : Type 0
RootSquaresToTwo = (q : ℕ) → 0 < q →
    let ops = ring (4 * q) in
    product (root_two q) (root_two q) ≡ ops.add ops.one ops.one

-- the amplitudes of a list are those that its last command makes of the list without it
abbrev pub AmplitudesByLastCommand : Type 0
AmplitudesByLastCommand = (half : ℕ) → 0 < half → (o : Bits) (cs : List Command) (c : Command)
    (f : Amps (Element half)) →
    after (ring half) o (cs ++ (c ∷ [])) f ≡ act (ring half) o c (after (ring half) o cs f)

-- the edges between two sets, counted from either side, modulo 2
abbrev pub EdgesCountTwice : Type 0
EdgesCountTwice = (g : OpenGraph) (s y : Bits) →
    odd (size g) (λ v. y v && odd_neighbourhood g s v)
    ≡ odd (size g) (λ w. s w && odd_neighbourhood g y w)

-- a graph with a refuter has no flow
abbrev pub RefutersExcludeFlows : Type 0
RefutersExcludeFlows = (g : OpenGraph) (B : Bits) (y : ℕ → Bits) → IsRefuter g B y →
    (sets : ℕ → Bits) (layer : ℕ → ℕ) → IsFlow g sets layer → ⊥

-- a graph with a stuck set has no causal flow
abbrev pub StuckSetsExcludeCausalFlows : Type 0
StuckSetsExcludeCausalFlows = (g : OpenGraph) (B : Bits) → IsStuckSet g B →
    (next layer : ℕ → ℕ) → IsCausalFlow g next layer → ⊥

-- in every flow each vertex has at least the layer that a bound states, and the depth is at least
-- the bound's
abbrev pub DepthBoundsHold : Type 0
DepthBoundsHold = (g : OpenGraph) (d : ℕ) (stated : ℕ → ℕ) (y : ℕ → ℕ → Bits) →
    IsDepthBound g d stated y → (sets : ℕ → Bits) (layer : ℕ → ℕ) → IsFlow g sets layer →
    ((v : ℕ) → v < size g → is_output g v ≡ false → stated v ≤ layer v) × (d ≤ depth_of g layer)

-- the chosen flow is a flow
abbrev pub ChosenFlowsAreFlows : Type 0
ChosenFlowsAreFlows = (g : OpenGraph) (sets : ℕ → Bits) (layer : ℕ → ℕ) →
    IsChosenFlow g sets layer → IsFlow g sets layer
