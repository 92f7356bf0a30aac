-- Rows of flows and of refuters as they are kept.
use Rattle.mc_graph.specs.declared.flow.KeptRow.{KeptRow}
use Rattle.mc_graph.specs.declared.refuter.RefuterRow.{RefuterRow}
use Rattle.mc_graph.specs.Flows.{FlowLine}
use Rattle.mc_graph.specs.Refuters.{RefuterLine}

abbrev pub flow_line : KeptRow → FlowLine
flow_line r = record { vertex = r.vertex; layer = r.layer; set = r.set }

abbrev pub refuter_line : RefuterRow → RefuterLine
refuter_line r = record { vertex = r.vertex; set = r.set }
