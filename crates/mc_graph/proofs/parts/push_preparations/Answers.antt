use Rattle.std.proofs.Common.{map, arith}
use Rattle.mc_pattern.specs.Commands.{plain_command}
use Rattle.mc_graph.proofs.GraphCommands.{preparation_more, preparations_none}
use Rattle.mc_graph.proofs.parts.push_preparations.Goals as goal

pub vertices-init : goal.vertices-init
vertices-init g c =
    preparations_none c.args.g.now.inputs c.inputs-v.result
    (map (plain_command {h = g.row.H}) c.args.commands.now.items) c.inputs-v.ensures

pub vertices-preserved : goal.vertices-preserved
vertices-preserved g c =
    let first = c.inputs-v.ensures in
    let low = c.vertices.auto.v in
    preparation_more c.args.g.now.inputs c.vertices.v
    (map (plain_command {h = g.row.H}) c.args.commands.now.items)
    (map (plain_command {h = g.row.H}) c.vertices.commands.items) (omega arith)
    c.vertices.invariant c.in_ok-push.ensures
