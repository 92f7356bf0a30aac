-- What it says that no rule is broken.
use Rattle.std.specs.Prelude.{◌≡◌, ◌↔◌, ℕ, ◌<◌, ◌≤◌, List, None, All}
use Rattle.mc_model.specs.Graph.{OpenGraph, size}
use Rattle.mc_model.specs.Bits.{Bits}
use Rattle.mc_model.specs.Numbers.{is_member}
use Rattle.mc_model.specs.Flow.{IsFlow, depth_of, IsStuckSet}
use Rattle.mc_graph.specs.Flows.{FlowRows}
use Rattle.mc_graph.specs.Refuters.{RefuterLine}
use Rattle.mc_cert.specs.BoundRecords.{LayerRow, BoundRow}
use Rattle.mc_cert.specs.Rules.{first_broken}
use Rattle.mc_graph.specs.RowLists.{HaveOwnVertices}
use Rattle.mc_graph.specs.Flows.{AreFlowLines, IsFlowOf}
use Rattle.mc_cert.specs.FlowRules.{flow_lines}
use Rattle.mc_graph.specs.Refuters.{AreRefuterLines, IsRefuterOf}
use Rattle.mc_cert.specs.RefuterRules.{refuter_lines}
use Rattle.mc_cert.specs.StuckRules.{stuck_lines}
use Rattle.mc_cert.specs.BoundRules.{AreBoundRows, AreApart, bound_lines, IsBoundOf}
use Rattle.mc_cert.specs.Bounds.{BoundRows, AreOwn, IsBoundIn}

-- rows break no rule exactly where they are a flow of the stated depth
abbrev pub FlowRulesAreExact : Type 0
FlowRulesAreExact = (g : OpenGraph) (f : FlowRows) →
    AreFlowLines g f.rows → HaveOwnVertices (λ r. r.vertex) f.rows →
    (first_broken 1 (flow_lines g f.depth f.rows) ≡ None) ↔ IsFlowOf g f

-- rows break no rule exactly where they are a refuter
abbrev pub RefuterRulesAreExact : Type 0
RefuterRulesAreExact = (g : OpenGraph) (rows : List RefuterLine) →
    AreRefuterLines g rows → HaveOwnVertices (λ r. r.vertex) rows →
    (first_broken 1 (refuter_lines g rows) ≡ None) ↔ IsRefuterOf g rows

-- a set breaks no rule exactly where it is a stuck set
abbrev pub StuckRulesAreExact : Type 0
StuckRulesAreExact = (g : OpenGraph) (set : List ℕ) → All (λ v. v < size g) set →
    (first_broken 1 (stuck_lines g set) ≡ None) ↔ IsStuckSet g (is_member set)

-- rows break no rule exactly where they are a bound of the stated depth
abbrev pub BoundRulesAreExact : Type 0
BoundRulesAreExact = (g : OpenGraph) (depth : ℕ) (layers : List LayerRow) (rows : List BoundRow) →
    All (λ r. r.vertex < size g) layers → HaveOwnVertices (λ r. r.vertex) layers →
    AreBoundRows g rows → AreApart rows →
    (first_broken 1 (bound_lines g depth layers rows) ≡ None) ↔ IsBoundOf g depth layers rows

-- rows that break no rule exclude every flow of lesser depth
abbrev pub BoundRowsHold : Type 0
BoundRowsHold = (g : OpenGraph) (depth : ℕ) (layers : List LayerRow) (rows : List BoundRow) →
    All (λ r. r.vertex < size g) layers → HaveOwnVertices (λ r. r.vertex) layers →
    first_broken 1 (bound_lines g depth layers rows) ≡ None →
    (sets : ℕ → Bits) (layer : ℕ → ℕ) → IsFlow g sets layer → depth ≤ depth_of g layer

-- rows of a graph whose numbers are short fit it: they are few
abbrev pub ShortBoundsAreFew : Type 0
ShortBoundsAreFew = (g : OpenGraph) (b : BoundRows) → size g ≤ 256 → AreOwn b.layers b.rows →
    All (λ r. r.vertex < size g) b.layers → AreBoundRows g b.rows → All (λ r. r.k ≤ 9999) b.rows →
    IsBoundIn g b
