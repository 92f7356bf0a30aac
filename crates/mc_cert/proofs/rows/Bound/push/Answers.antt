use Rattle.std.proofs.Common.{sym, ◌∙◌}
use Rattle.mc_cert.proofs.KeptRows.{set_added, own_with_set}
use Rattle.mc_cert.proofs.rows.Bound.push.Goals as goal

pub invariant_of-self-2 : goal.invariant_of-self-2
invariant_of-self-2 c =
    let b = c.self.inside in
    own_with_set b.depth b.layers.entries b.sets.entries c.args.self.now c.self.view_is
    c.self.invariant (record { k = c.args.k; vertex = c.args.vertex }) c.args.set
    (sym c.has.ensures ∙ c.if-has.false) c.insert.new.self.entries c.in-Ok.ensures.entries

pub returns-clause-ok : goal.returns-clause-ok
returns-clause-ok c =
    let b = c.self.inside in
    set_added b.depth b.layers.entries b.sets.entries c.args.self.now c.self.view_is
    (record { k = c.args.k; vertex = c.args.vertex }) c.args.set
    (sym c.has.ensures ∙ c.if-has.false) c.insert.new.self.entries c.in-Ok.ensures.entries
