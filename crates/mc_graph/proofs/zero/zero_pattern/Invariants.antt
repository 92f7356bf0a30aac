use Rattle.std.proofs.Common.{◌≡◌, ◌++◌, map, not}
use Rattle.mc_model.specs.Numbers.{numbers_where}
use Rattle.mc_model.specs.Graph.{is_output, graph_state, bare_measurement}
use Rattle.mc_pattern.specs.Commands.{plain_command}
use Rattle.mc_graph.proofs.zero.zero_pattern.Given as goal

abbrev pub invariant-vertices : goal.invariant-vertices
invariant-vertices g l =
    map (plain_command {h = g.row.H}) l.commands.items
    ≡ graph_state l.g ++ map (bare_measurement l.g) (numbers_where (λ v. not (is_output l.g v)) l.v)
