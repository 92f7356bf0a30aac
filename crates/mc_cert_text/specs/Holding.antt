-- When a certificate holds of a graph, and the rules of its rows.
use Rattle.std.specs.Prelude.{List}
use Rattle.mc_model.specs.Graph.{OpenGraph}
use Rattle.mc_model.specs.Numbers.{is_member}
use Rattle.mc_model.specs.Flow.{IsStuckSet}
use Rattle.mc_graph.specs.Flows.{IsFlowOf}
use Rattle.mc_graph.specs.Refuters.{IsRefuterOf}
use Rattle.mc_cert.specs.Rules.{Rule}
use Rattle.mc_cert.specs.FlowRules.{flow_lines}
use Rattle.mc_cert.specs.RefuterRules.{refuter_lines}
use Rattle.mc_cert.specs.StuckRules.{stuck_lines}
use Rattle.mc_cert.specs.BoundRules.{bound_lines, IsBoundOf}
use Rattle.mc_cert_text.specs.Certs.{PlainCert, flow, noflow, nocausal, least}

-- it is a flow of the graph, with its depth; a refuter of the graph, which then has no flow; a
-- stuck set of the graph, which then has no causal flow; or a bound of the depth of its flows
abbrev pub HoldsOf : OpenGraph → PlainCert → Type 0
HoldsOf g (flow f) = IsFlowOf g f
HoldsOf g (noflow rows) = IsRefuterOf g rows
HoldsOf g (nocausal set) = IsStuckSet g (is_member set)
HoldsOf g (least b) = IsBoundOf g b.depth b.layers b.rows

-- the rules of each row in order, and behind the last row those of all rows together
abbrev pub rules_of : OpenGraph → PlainCert → List (List Rule)
rules_of g (flow f) = flow_lines g f.depth f.rows
rules_of g (noflow rows) = refuter_lines g rows
rules_of g (nocausal set) = stuck_lines g set
rules_of g (least b) = bound_lines g b.depth b.layers b.rows
