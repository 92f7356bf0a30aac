use Rattle.std.proofs.Common.{◌≡◌, ℕ, map, take}
use Rattle.mc_model.specs.StandardForm.{is_edge}
use Rattle.mc_pattern.specs.Commands.{plain_command}
use Rattle.mc_graph.specs.Links.{linked, AreLinks}
use Rattle.mc_graph.proofs.sums.links_of.Given as goal

abbrev pub invariant-commands : goal.invariant-commands
invariant-commands g l =
    (map (plain_command {h = g.row.H}) l.command-items ≡ l.p.commands)
    × ((i j : ℕ) → linked l.links i j ≡ is_edge (take l.command-index l.p.commands) i j)
    × AreLinks l.links
