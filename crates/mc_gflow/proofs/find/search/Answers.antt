use Rattle.std.proofs.Common.{◌∙◌}
use Rattle.mc_gflow.proofs.RoundsOfSearch.{goes_on}
use Rattle.mc_gflow.proofs.find.search.Goals as goal

pub rounds-preserved : goal.rounds-preserved
rounds-preserved g c =
    let h = c.rounds.invariant in
    let take = c.take_layer.ensures in
    goes_on c.args.graph.now 65535 c.rounds.layer c.rounds.layers c.take_layer.new.layers
    c.rounds.sets c.take_layer.new.sets c.rounds.order c.insert_layer.new.order c.rounds.columns
    c.take_layer.new.columns c.rounds.basis c.insert_layer.new.basis c.args.steps.now c.rounds.steps
    c.insert_layer.new.steps h c.insert_layer.ensures.counted take.taken take.square take.alone (
      c.take_layer.auto.layers ∙ h.lengths.0,
      c.insert_layer.auto.order ∙ h.lengths.1,
      take.length ∙ h.lengths.2,
    )
    (take.fewer c.if-not-take_layer.false)
