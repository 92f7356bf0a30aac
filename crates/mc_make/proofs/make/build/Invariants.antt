use Rattle.std.proofs.Common.{◌≡◌, ◌++◌, map, take}
use Rattle.std.specs.Prelude.{flat_map}
use Rattle.mc_model.specs.Graph.{graph_state}
use Rattle.mc_model.specs.Made.{corrected_measurement}
use Rattle.mc_pattern.specs.Commands.{plain_command}
use Rattle.mc_graph.specs.Flows.{sets_in}
use Rattle.mc_make.proofs.make.build.Given as goal

abbrev pub invariant-measured : goal.invariant-measured
invariant-measured g l =
    map (plain_command {h = g.row.H}) l.commands.items
    ≡ graph_state l.g
    ++ flat_map (λ i. corrected_measurement l.g (sets_in l.f.rows i) i) (take l.q-index l.q-items)
