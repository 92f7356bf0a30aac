-- The laws of the graphs of patterns, over the amplitude ring with any `half` above 0.
use Rattle.std.specs.Prelude.{◌≡◌, ℕ, ◌*◌, ◌<◌, List, [], length, map, replicate, Some}
use Rattle.mc_model.specs.Bits.{all_zero}
use Rattle.mc_model.specs.Ring.{ring}
use Rattle.mc_model.specs.Numbers.{numbers_from, pairs_below}
use Rattle.mc_model.specs.Pattern.{Command, Pattern, HasNoConstants}
use Rattle.mc_model.specs.Amplitude.{pattern_scale}
use Rattle.mc_model.specs.Alike.{AlikeBranches}
use Rattle.mc_model.specs.Valid.{IsValidPattern}
use Rattle.mc_model.specs.StandardForm.{is_edge}
use Rattle.mc_model.specs.Graph.{OpenGraph, IsOpenGraph, edge, not_fixed, angle_in, graph_of}
use Rattle.mc_model.specs.Graph.{fixed_corrections, zero_pattern}

-- the graph of a pattern is an open graph; its pattern has the scale of the pattern, and its zero
-- branch up to one power of `w`, which is 1 where no signal has the constant
pub record KeepsZeroBranch (half : ℕ) (p : Pattern) : Type 0 where
  pub graph : IsOpenGraph (graph_of half p)
  pub scale : pattern_scale (zero_pattern (graph_of half p)) ≡ pattern_scale p
  pub alike : AlikeBranches (ring half) (zero_pattern (graph_of half p)) all_zero p all_zero
  pub exact : HasNoConstants p.commands → alike.phase ≡ 0

abbrev pub GraphsKeepZeroBranch : Type 0
GraphsKeepZeroBranch = (half : ℕ) → 0 < half → (p : Pattern) → IsValidPattern p →
    KeepsZeroBranch half p

-- each base angle is less than a turn
abbrev pub AnglesBelow : ℕ → List Command → Type 0
AnglesBelow half cs = (q a : ℕ) → angle_in cs q ≡ Some a → a < 2 * half

-- the graph with the base angles, and without fixed corrections
abbrev pub plain_graph : Pattern → OpenGraph
plain_graph p =
    let n = length p.names in
    record {
      names = p.names;
      inputs = p.inputs;
      outputs = p.outputs;
      edges = pairs_below edge (is_edge p.commands) n n;
      angles = map (angle_in p.commands) (numbers_from 0 n);
      fixed = replicate n not_fixed;
    }

pub record IsPlainGraph (half : ℕ) (p : Pattern) : Type 0 where
  pub uncorrected : fixed_corrections (graph_of half p) ≡ []
  pub plain : AnglesBelow half p.commands → graph_of half p ≡ plain_graph p

-- where no signal has the constant
abbrev pub GraphsWithoutConstants : Type 0
GraphsWithoutConstants = (half : ℕ) (p : Pattern) → HasNoConstants p.commands →
    IsPlainGraph half p

-- the pattern of an open graph without a flow is valid
abbrev pub ZeroPatternsAreValid : Type 0
ZeroPatternsAreValid = (g : OpenGraph) → IsOpenGraph g → IsValidPattern (zero_pattern g)
