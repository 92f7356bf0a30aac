use Rattle.std.proofs.Common.{◌≡◌, ◌++◌, map, take}
use Rattle.mc_pattern.specs.Commands.{plain_command}
use Rattle.mc_standard.specs.Plain.{plain_edge}
use Rattle.mc_standard.proofs.listing.add_edges.Given as goal

abbrev pub invariant-edges : goal.invariant-edges
invariant-edges g l =
    map (plain_command {h = g.row.H}) l.commands.items
    ≡ map (plain_command {h = g.row.H}) l.initial.commands.items ++ map plain_edge (take l.q-index l.edges)
