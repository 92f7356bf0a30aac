-- The rules of a stuck set.
use Rattle.std.specs.Prelude.{ℕ, not, ◌&&◌, nat_eq, length, count_by, List, [], ◌∷◌}
use Rattle.std.specs.List.{list_any}
use Rattle.mc_model.specs.Numbers.{numbers_from, is_member}
use Rattle.mc_model.specs.Bits.{Bits}
use Rattle.mc_model.specs.Graph.{OpenGraph, size, is_input, is_output}
use Rattle.mc_cert.specs.Rules.{Rule, rule}
use Rattle.mc_graph.specs.Neighbours.{neighbours}

-- whether a vertex outside the set, no input, has exactly one neighbour in it
abbrev pub has_one_inside : OpenGraph → Bits → Bits
has_one_inside g B w =
    not (is_input g w) && not (B w) && nat_eq (count_by B (neighbours g w)) 1

abbrev pub stuck_rules : OpenGraph → List ℕ → List Rule
stuck_rules g set =
    rule 1 (nat_eq (length set) 0)
    ∷ rule 2 (list_any (is_output g) set)
    ∷ rule 3 (list_any (has_one_inside g (is_member set)) (numbers_from 0 (size g)))
    ∷ []

-- the only row
abbrev pub stuck_lines : OpenGraph → List ℕ → List (List Rule)
stuck_lines g set = stuck_rules g set ∷ []
