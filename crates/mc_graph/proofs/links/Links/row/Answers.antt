use Rattle.std.proofs.Common.{List, [], ◌∷◌, ◌++◌, ◌∙◌, sym, ap₂, cond, Bool}
use Rattle.std.specs.Prelude.{ℕ}
use Rattle.mc_graph.proofs.ListedNumbers.{where_more}
use Rattle.mc_graph.specs.Links.{linked}
use Rattle.mc_graph.proofs.links.Links.row.Goals as goal

pub vertices-preserved : goal.vertices-preserved
vertices-preserved c =
    let w : ℕ = c.vertices.w in
    c.in_ok-push_if.ensures
    ∙ ap₂ (λ (ks : List ℕ) (b : Bool). ks ++ cond b (w ∷ []) []) c.vertices.invariant c.has.ensures
    ∙ sym (where_more (linked c.args.self.now c.args.v) w)
