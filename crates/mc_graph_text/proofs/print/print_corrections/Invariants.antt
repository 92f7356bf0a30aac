use Rattle.std.proofs.Common.{◌≡◌, ◌++◌}
use Rattle.std.specs.List.{flat_map}
use Rattle.mc_model.specs.Numbers.{numbers_from}
use Rattle.mc_model.specs.Graph.{fixed_at}
use Rattle.mc_write.specs.Text.{text_of}
use Rattle.mc_graph_text.specs.Canonical.{fixed_lines}
use Rattle.mc_graph_text.proofs.print.print_corrections.Given as goal

abbrev pub invariant-vertices : goal.invariant-vertices
invariant-vertices g l =
    l.text.items
    ≡ l.initial.text.items
    ++ text_of (flat_map (λ v. fixed_lines l.graph.names v (fixed_at l.graph v))
    (numbers_from 0 l.v))
