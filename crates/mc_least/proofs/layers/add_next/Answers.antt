use Rattle.std.specs.Prelude.{◌+◌, List, refl}
use Rattle.std.proofs.Common.{sym, subst, ap, ◌∙◌}
use Rattle.mc_graph.specs.Flows.{layer_in}
use Rattle.mc_cert.specs.BoundRecords.{LayerRow}
use Rattle.mc_cert.specs.Bounds.{BoundRows}
use Rattle.mc_least.specs.Rows.{HoldsLayers, IsLayerDue}
use Rattle.mc_least.proofs.ListedRows.{row_pushed}
use Rattle.mc_least.proofs.layers.add_next.Goals as goal

pub returns-in-Ok-clause-layers : goal.returns-in-Ok-clause-layers
returns-in-Ok-clause-layers g c =
    let graph = c.args.g.now in
    let layer = layer_in c.args.f.now.rows in
    let row : LayerRow = record { vertex = c.args.v; layer = c.args.layer } in
    subst (λ (rows : List LayerRow). HoldsLayers graph layer c.args.layer (c.args.v + 1) rows)
    (sym (ap (λ (b : BoundRows). b.layers) c.in-Ok.ensures.ok))
    (row_pushed (λ (r : LayerRow). r.layer) (λ r. r.vertex) (IsLayerDue graph layer)
    (λ r. IsLayerDue graph layer r.layer r.vertex) c.args.layer c.args.v c.args.bound.now.layers row
    c.requires.layers
    (record {
      vertex = c.requires.place.1;
      positive = c.requires.place.0;
      layer_is = sym c.if-layer_of-layer.false ∙ c.layer_of.ensures;
    }) refl refl)
