use Rattle.std.proofs.Common.{◌∙◌, ◌<◌, sym, ap, ap₂, ◌||◌, Bool, arith}
use Rattle.mc_model.specs.Graph.{Fixed, fixed_at, size}
use Rattle.mc_graph_text.proofs.Printing.{none_more, some_there, either_x, either_z}
use Rattle.mc_graph_text.proofs.print.has_fixed.Goals.{then-fixed-via-then-fixed}
use Rattle.mc_graph_text.proofs.print.has_fixed.Goals.{then-fixed-via-else-fixed+then-fixed-2}
use Rattle.mc_graph_text.proofs.print.has_fixed.Goals as goal

pub returns-then-fixed : goal.returns-then-fixed
returns-then-fixed g c =
    let graph = c.args.graph.now in
    let same = ap (λ (f : Fixed). f.x || f.z) (sym c.fixed-fixed.ensures) in
    let below : c.vertices.v < size graph =
    omega (arith, c.vertices-test.true, c.len-v-end.ensures.len) in
    elim c.then-fixed.branch [
      | then-fixed-via-then-fixed w ↦
          sym (some_there (λ v. (fixed_at graph v).x || (fixed_at graph v).z) _ c.vertices.v below
          (same ∙ either_x _ _ w.if-fixed.true))
      | then-fixed-via-else-fixed+then-fixed-2 w ↦
          sym (some_there (λ v. (fixed_at graph v).x || (fixed_at graph v).z) _ c.vertices.v below
          (same ∙ either_z _ _ w.if-fixed-2.true))
    ]

pub vertices-preserved : goal.vertices-preserved
vertices-preserved g c =
    let graph = c.args.graph.now in
    none_more (λ v. (fixed_at graph v).x || (fixed_at graph v).z) c.vertices.v c.vertices.invariant
    (ap (λ (f : Fixed). f.x || f.z) (sym c.fixed-fixed.ensures)
    ∙ ap₂ (λ (a b : Bool). a || b) c.if-fixed.false c.if-fixed-2.false)
