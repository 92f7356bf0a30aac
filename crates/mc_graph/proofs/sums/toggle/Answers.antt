use Rattle.std.proofs.Common.{Bool, sym, ◌∙◌, ap}
use Rattle.mc_model.specs.Bits.{◌⊻◌}
use Rattle.mc_graph.specs.Links.{linked}
use Rattle.mc_graph.proofs.OneEdge.{one_edge, no_edge}
use Rattle.mc_graph.proofs.sums.toggle.Goals as goal

pub returns-in-Ent-clause-pairs : goal.returns-in-Ent-clause-pairs
returns-in-Ent-clause-pairs g c =
    rw c.in-Ent.is (λ i j.
    c.toggle.ensures.pairs i j
    ∙ ap (λ (b : Bool). b ⊻ linked c.args.links.now i j) (sym (one_edge c.in-Ent.q c.in-Ent.r i j)))

pub returns-in_default : goal.returns-in_default
returns-in_default g c = record {
  pairs = λ i j.
      ap (λ (b : Bool). b ⊻ linked c.args.links.now i j)
      (sym (no_edge c.args.command.now c.in_default.not-Ent i j));
  valid = λ h. h;
}
