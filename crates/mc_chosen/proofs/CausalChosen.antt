-- The rounds of the finder of causal flows give the chosen one or the chosen stuck set.
use Rattle.std.proofs.Common.{◌≡◌, ◌⊎◌, ℕ, List, Bool, true, false, map, refl, inl, inr}
use Rattle.std.specs.Prelude.{fold, max}
use Rattle.std.specs.List.{list_any}
use Rattle.mc_model.specs.Numbers.{numbers_where}
use Rattle.mc_model.specs.Graph.{OpenGraph, size}
use Rattle.mc_graph.specs.Flows.{FlowRows}
use Rattle.mc_graph.proofs.ListedNumbers.{member-where, numbers_where-rise}
use Rattle.mc_extract.specs.declared.found.Found.{Found}
use Rattle.mc_extract.specs.Finder.{all_found, layer_in, left_in, next_in, IsAtEnd}
use Rattle.mc_extract.specs.Rows.{line_of, rising_order}
use Rattle.mc_extract.proofs.FoundRows.{flow_answer, stuck_answer}
use Rattle.mc_extract.proofs.Rounds.{rounds_settle}
use Rattle.mc_chosen.specs.Laws.{HasChosenCausalFlow, HasChosenStuckSet}

module _ (g : OpenGraph) where
  abbrev found : List Found
  found = all_found g (size g)

  at : IsAtEnd g found
  at = record { rounds = size g; all = refl; settled = rounds_settle g }

  by_left : (some : Bool) → list_any (λ (one : Found). one.left) found ≡ some →
      HasChosenCausalFlow g ⊎ HasChosenStuckSet g
  by_left false e =
      let depth = fold (λ (most : ℕ) (one : Found). max most one.layer) 0 found in
      let f : FlowRows = record {
        depth = depth;
        rows = map (line_of (next_in found) (layer_in found))
            (rising_order g (layer_in found) depth);
      } in
      let is = flow_answer g found at e f refl refl in
      inl (record { rows = f; chosen = is.chosen })
  by_left true e =
      let set = numbers_where (left_in found) (size g) in
      let is = stuck_answer g found at e set (member-where (left_in found) (size g)) in
      inr (record {
        set = set;
        chosen = is.chosen;
        none = is.no_flow;
        inside = is.vertices;
        rising = numbers_where-rise (left_in found) (size g);
      })

  pub one_causal : HasChosenCausalFlow g ⊎ HasChosenStuckSet g
  one_causal = by_left (list_any (λ (one : Found). one.left) found) refl
