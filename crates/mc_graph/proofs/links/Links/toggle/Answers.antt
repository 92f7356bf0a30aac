use Rattle.std.proofs.Common.{◌∙◌, sym}
use Rattle.mc_graph.proofs.Joined.{toggled_links}
use Rattle.mc_graph.proofs.Lent.{come_back}
use Rattle.mc_graph.proofs.links.Links.toggle.Goals as goal

pub invariant_of-self : goal.invariant_of-self
invariant_of-self c =
    let marks = c.self.inside.marks.items in
    let lent = c.toggle_marks.new.marks in
    let long = c.toggle_marks.ensures.long ∙ sym c.self.invariant.long in
    let pairs = c.toggle_marks.ensures.pairs in
    let value = c.deref_mut.ensures.value in
    rw (come_back marks lent _ c.self.inside.marks.ok.0 long)
    (toggled_links marks lent c.args.v c.args.w c.self.invariant long c.requires.2
    (rw value at pairs))
