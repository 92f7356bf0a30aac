-- The laws of patterns made from flows, over the amplitude ring with any `half` above 0.
use Rattle.std.specs.Prelude.{◌≡◌, ℕ, ◌<◌, ◌≤◌, Bool, true, not, List, [], ◌∷◌, ◌++◌, length}
use Rattle.mc_model.specs.Limits.{most_commands}
use Rattle.mc_model.specs.Numbers.{ListsOnce}
use Rattle.mc_model.specs.Bits.{Bits, all_zero}
use Rattle.mc_model.specs.Ring.{ring}
use Rattle.mc_model.specs.Signals.{Signal}
use Rattle.mc_model.specs.Pattern.{Command, FixZ, Pattern, HasNoConstants}
use Rattle.mc_model.specs.Amplitude.{zero_branch, pattern_scale}
use Rattle.mc_model.specs.Alike.{AlikeBranches}
use Rattle.mc_model.specs.Valid.{IsValidPattern}
use Rattle.mc_model.specs.Graph.{OpenGraph, size, is_output, IsOpenGraph, graph_of}
use Rattle.mc_model.specs.Graph.{fixed_corrections, zero_pattern}
use Rattle.mc_model.specs.Flow.{IsFlow, depth_of}
use Rattle.mc_model.specs.Choice.{IsChosenFlow}
use Rattle.mc_model.specs.Made.{flow_pattern, measuring_order}
use Rattle.mc_model.specs.StandardForm.{standard_form}
use Rattle.mc_model.specs.Shift.{HasNoSecondSignals}
use Rattle.mc_model.specs.Depth.{IsDependenceDepth}

-- whatever the flow, each branch map of its pattern is the zero branch, up to one power of `w`
abbrev pub FlowPatternsAreDeterministic : Type 0
FlowPatternsAreDeterministic = (half : ℕ) → 0 < half → (g : OpenGraph) → IsOpenGraph g →
    (sets : ℕ → Bits) (layer : ℕ → ℕ) → IsFlow g sets layer → (o : Bits) →
    AlikeBranches (ring half) (flow_pattern g sets layer) o (flow_pattern g sets layer) all_zero

-- whatever the flow, the zero branch of its pattern is that of the pattern without a flow
abbrev pub ZeroBranchOfFlowPattern : Type 0
ZeroBranchOfFlowPattern = (half : ℕ) → 0 < half → (g : OpenGraph) → IsOpenGraph g →
    (sets : ℕ → Bits) (layer : ℕ → ℕ) → IsFlow g sets layer → (y : List Bool) (b : Bits) →
    zero_branch (ring half) (flow_pattern g sets layer) y b
    ≡ zero_branch (ring half) (zero_pattern g) y b

-- each vertex that is no output is listed once, and none behind one of a smaller layer
pub record IsFallingOrder (g : OpenGraph) (layer : ℕ → ℕ) (order : List ℕ) : Type 0 where
  pub each_once : ListsOnce (size g) (λ v. not (is_output g v)) order
  pub falling : (before behind : List ℕ) (i j : ℕ) → order ≡ before ++ (i ∷ j ∷ behind) →
      layer j ≤ layer i

-- the order in which a flow's pattern measures
abbrev pub MeasuringOrderFalls : Type 0
MeasuringOrderFalls = (g : OpenGraph) (sets : ℕ → Bits) (layer : ℕ → ℕ) → IsFlow g sets layer →
    IsFallingOrder g layer (measuring_order g layer (depth_of g layer))

-- the pattern of a flow is valid
abbrev pub FlowPatternsAreValid : Type 0
FlowPatternsAreValid = (g : OpenGraph) (sets : ℕ → Bits) (layer : ℕ → ℕ) → IsOpenGraph g →
    IsFlow g sets layer → IsValidPattern (flow_pattern g sets layer)

-- and has not too many commands
abbrev pub FlowPatternsFit : Type 0
FlowPatternsFit = (g : OpenGraph) (sets : ℕ → Bits) (layer : ℕ → ℕ) → IsOpenGraph g →
    length (flow_pattern g sets layer).commands ≤ most_commands

-- the pattern of a flow has the scale of the pattern without a flow
abbrev pub FlowPatternsKeepScale : Type 0
FlowPatternsKeepScale = (g : OpenGraph) (sets : ℕ → Bits) (layer : ℕ → ℕ) →
    IsFlow g sets layer → pattern_scale (flow_pattern g sets layer) ≡ pattern_scale (zero_pattern g)

-- without fixed corrections no signal of a flow's pattern has the constant
abbrev pub FlowPatternsHaveNoConstants : Type 0
FlowPatternsHaveNoConstants = (g : OpenGraph) (sets : ℕ → Bits) (layer : ℕ → ℕ) →
    fixed_corrections g ≡ [] → HasNoConstants (flow_pattern g sets layer).commands

-- no flow is less deep than the chosen one
abbrev pub ChosenFlowsAreLeastDeep : Type 0
ChosenFlowsAreLeastDeep = (g : OpenGraph) (sets : ℕ → Bits) (layer : ℕ → ℕ) →
    IsChosenFlow g sets layer → (sets' : ℕ → Bits) (layer' : ℕ → ℕ) → IsFlow g sets' layer' →
    depth_of g layer ≤ depth_of g layer'

-- the chosen flow's pattern corrects by `Z` on outputs alone
abbrev pub ChosenPatternsFixZOnOutputs : Type 0
ChosenPatternsFixZOnOutputs = (g : OpenGraph) (sets : ℕ → Bits) (layer : ℕ → ℕ) →
    IsOpenGraph g → IsChosenFlow g sets layer →
    (before behind : List Command) (k : ℕ) (s : Signal) →
    (flow_pattern g sets layer).commands ≡ before ++ (FixZ k s ∷ behind) → is_output g k ≡ true

-- so its standard form has no second signals
abbrev pub ChosenPatternsHaveNoSecondSignals : Type 0
ChosenPatternsHaveNoSecondSignals = (g : OpenGraph) (sets : ℕ → Bits) (layer : ℕ → ℕ) →
    IsOpenGraph g → IsChosenFlow g sets layer →
    HasNoSecondSignals (standard_form (flow_pattern g sets layer)).commands

-- and its dependence depth is at most the depth of the flow
abbrev pub DependenceWithinLayers : Type 0
DependenceWithinLayers = (g : OpenGraph) (sets : ℕ → Bits) (layer : ℕ → ℕ) →
    IsOpenGraph g → IsChosenFlow g sets layer → (d : ℕ) →
    IsDependenceDepth (standard_form (flow_pattern g sets layer)).commands d →
    d ≤ depth_of g layer

-- what is made from a pattern by a flow of its graph: a valid pattern of its scale, each branch of
-- which is alike with its zero branch; without constants its zero branch is the pattern's
pub record IsMadeFrom (half : ℕ) (p q : Pattern) : Type 0 where
  pub valid : IsValidPattern q
  pub scale : pattern_scale q ≡ pattern_scale p
  pub alike : (o : Bits) → AlikeBranches (ring half) q o p all_zero
  pub exact : HasNoConstants p.commands → (y : List Bool) (b : Bits) →
      zero_branch (ring half) q y b ≡ zero_branch (ring half) p y b

abbrev pub FlowPatternsAreMade : Type 0
FlowPatternsAreMade = (half : ℕ) → 0 < half → (p : Pattern) → IsValidPattern p →
    (sets : ℕ → Bits) (layer : ℕ → ℕ) → IsFlow (graph_of half p) sets layer →
    IsMadeFrom half p (flow_pattern (graph_of half p) sets layer)
