use Rattle.std.proofs.Common.{sym, ◌∙◌}
use Rattle.mc_cert.proofs.KeptRows.{layer_added, own_with_layer}
use Rattle.mc_cert.proofs.rows.Bound.layer.Goals as goal

pub invariant_of-self-2 : goal.invariant_of-self-2
invariant_of-self-2 c =
    let b = c.self.inside in
    own_with_layer b.depth b.layers.entries b.sets.entries c.args.self.now c.self.view_is
    c.self.invariant c.args.vertex c.args.layer (sym c.has_layer.ensures ∙ c.if-has_layer.false)
    c.insert.new.self.entries c.in-Ok.ensures.entries

pub returns-clause-ok : goal.returns-clause-ok
returns-clause-ok c =
    let b = c.self.inside in
    layer_added b.depth b.layers.entries b.sets.entries c.args.self.now c.self.view_is c.args.vertex
    c.args.layer (sym c.has_layer.ensures ∙ c.if-has_layer.false) c.insert.new.self.entries
    c.in-Ok.ensures.entries
