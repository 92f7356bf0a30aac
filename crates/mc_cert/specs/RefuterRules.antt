-- The rules of the rows of a refuter.
use Rattle.std.specs.Prelude.{ℕ, not, ◌&&◌, nat_eq, length, List, [], ◌∷◌, ◌++◌, map}
use Rattle.std.specs.List.{list_any}
use Rattle.mc_model.specs.Numbers.{numbers_from, is_member}
use Rattle.mc_model.specs.Bits.{Bits}
use Rattle.mc_model.specs.Graph.{OpenGraph, size, is_input, is_output, odd_neighbourhood}
use Rattle.mc_graph.specs.Refuters.{RefuterLine, refuted_in}
use Rattle.mc_cert.specs.Rules.{Rule, rule}

-- a vertex outside the set, no input, with an odd number of neighbours in the row
abbrev pub odd_outside : OpenGraph → Bits → List ℕ → Bits
odd_outside g B set w =
    not (is_input g w) && not (B w) && odd_neighbourhood g (is_member set) w

abbrev pub refuter_rules : OpenGraph → List RefuterLine → RefuterLine → List Rule
refuter_rules g rows r =
    rule 2 (is_output g r.vertex)
    ∷ rule 3 (not (is_member r.set r.vertex))
    ∷ rule 4 (list_any (λ v. not (refuted_in rows v)) r.set)
    ∷ rule 5 (list_any (odd_outside g (refuted_in rows) r.set) (numbers_from 0 (size g)))
    ∷ []

abbrev pub refuter_end_rules : List RefuterLine → List Rule
refuter_end_rules rows = rule 1 (nat_eq (length rows) 0) ∷ []

-- the rows with their rules, and behind them the rule that there is a row
abbrev pub refuter_lines : OpenGraph → List RefuterLine → List (List Rule)
refuter_lines g rows = map (refuter_rules g rows) rows ++ (refuter_end_rules rows ∷ [])
