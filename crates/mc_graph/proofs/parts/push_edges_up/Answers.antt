use Rattle.std.proofs.Common.{ℕ, List, ◌++◌, ◌∙◌, sym, refl, ap, map, append-nil}
use Rattle.std.proofs.lemmas.List.{take_all}
use Rattle.mc_pattern.specs.Commands.{plain_command}
use Rattle.mc_graph.proofs.GraphCommands.{ups, up_more}
use Rattle.mc_graph.proofs.parts.push_edges_up.Goals as goal

pub neighbours-init : goal.neighbours-init
neighbours-init g c = sym (append-nil (map (plain_command {h = g.row.H}) c.args.commands.now.items))

pub neighbours-preserved : goal.neighbours-preserved
neighbours-preserved g c =
    up_more c.args.v c.neighbours.w-index _ c.neighbours-w-items.result.now
    (map (plain_command {h = g.row.H}) c.args.commands.now.items)
    (map (plain_command {h = g.row.H}) c.neighbours.commands.items) c.neighbours-test.true
    refl c.neighbours.invariant c.in_ok-push_if.ensures

pub returns : goal.returns
returns g c =
    let all = take_all c.neighbours.w-index c.neighbours-w-items.result.now c.neighbours-test.false in
    c.neighbours.invariant
    ∙ ap (λ (ws : List ℕ). map (plain_command {h = g.row.H}) c.args.commands.now.items
    ++ ups c.args.v ws) (all ∙ c.neighbours-w-items.ensures.row)
