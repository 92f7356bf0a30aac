use Rattle.std.proofs.Common.{◌++◌, List, map, sym, ◌∙◌, ap}
use Rattle.mc_model.specs.Numbers.{pairs_at}
use Rattle.mc_model.specs.Pattern.{Command, Ent}
use Rattle.mc_standard.specs.OddPairs.{is_odd}
use Rattle.mc_standard.specs.Plain.{plain_edge}
use Rattle.mc_standard.proofs.OddPairs.{pairs_below-none, pairs_below-next}
use Rattle.mc_standard.proofs.pairs.edges_of.Goals as goal

pub lower-init : goal.lower-init
lower-init c =
    ap (map plain_edge) c.new-edges.ensures.items
    ∙ sym (pairs_below-none Ent (is_odd c.args.odd.now) c.args.qubits)

pub lower-preserved : goal.lower-preserved
lower-preserved c =
    let p = is_odd c.args.odd.now in
    c.in_ok-push_row.ensures
    ∙ ap (λ (xs : List Command). xs ++ pairs_at Ent p c.lower.i c.args.qubits) c.lower.invariant
    ∙ sym (pairs_below-next Ent p c.args.qubits c.lower.i)
