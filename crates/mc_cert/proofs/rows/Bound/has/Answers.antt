use Rattle.std.proofs.Common.{◌∙◌}
use Rattle.mc_cert.proofs.KeptRows.{set_kept}
use Rattle.mc_cert.proofs.rows.Bound.has.Goals as goal

pub returns : goal.returns
returns c =
    let b = c.self.inside in
    c.contains_key.ensures
    ∙ set_kept b.depth b.layers.entries b.sets.entries c.args.self.now c.self.view_is
    (record { k = c.args.k; vertex = c.args.vertex })
