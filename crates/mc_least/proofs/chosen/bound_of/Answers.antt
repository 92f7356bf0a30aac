use Rattle.std.specs.Prelude.{◌≡◌, ◌+◌, List}
use Rattle.std.proofs.Common.{sym, subst, ap, ◌∙◌}
use Rattle.mc_graph.specs.Flows.{layer_in}
use Rattle.mc_cert.specs.BoundRecords.{LayerRow}
use Rattle.mc_cert.specs.Bounds.{BoundRows}
use Rattle.mc_least.specs.Rows.{HoldsLayers}
use Rattle.mc_least.proofs.ChosenRows.{chosen_rows}
use Rattle.mc_least.proofs.chosen.bound_of.Goals as goal

pub returns : goal.returns
returns g c =
    let f = c.args.f.now in
    let made = c.in_ok-add_sets.ensures in
    let depth : c.add_sets.new.bound.depth ≡ f.depth =
    made.same.0 ∙ c.in_ok-add_layers.ensures.same.0
    ∙ ap (λ (b : BoundRows). b.depth) c.new-bound.ensures ∙ c.depth.ensures in
    chosen_rows c.args.g.now f c.add_sets.new.bound made.rows.0 c.requires.flow depth
    (record { own = c.layers-layers.ensures.own; apart = c.len-sets.ensures.apart })
    (subst
    (λ (rows : List LayerRow). HoldsLayers c.args.g.now (layer_in f.rows) (f.depth + 1) 0 rows)
    (sym made.same.1)
    c.in_ok-add_layers.ensures.layers)
    made.rows.1 made.rows.2
