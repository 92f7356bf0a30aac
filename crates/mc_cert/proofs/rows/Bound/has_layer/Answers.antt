use Rattle.std.proofs.Common.{◌∙◌}
use Rattle.mc_cert.proofs.KeptRows.{layer_kept}
use Rattle.mc_cert.proofs.rows.Bound.has_layer.Goals as goal

pub returns : goal.returns
returns c =
    let b = c.self.inside in
    c.contains_key.ensures
    ∙ layer_kept b.depth b.layers.entries b.sets.entries c.args.self.now c.self.view_is c.args.vertex
