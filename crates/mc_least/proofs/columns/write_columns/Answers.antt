use Rattle.std.specs.Prelude.{ℕ, ◌<◌}
use Rattle.std.proofs.Common.{subst}
use Rattle.mc_model.specs.Graph.{size}
use Rattle.mc_graph.specs.Flows.{layer_in}
use Rattle.mc_least.proofs.WrittenColumns.{column_written}
use Rattle.mc_least.proofs.columns.write_columns.Goals as goal

pub vertices-preserved : goal.vertices-preserved
vertices-preserved g c =
    let below : c.vertices.w < size c.args.g.now =
    subst (λ (n : ℕ). c.vertices.w < n) c.len-w-end.ensures.len c.vertices-test.true in
    column_written c.args.g.now (layer_in c.args.f.now.rows) c.args.k c.vertices.w
    c.vertices.columns c.column.result c.vertices.invariant below
    c.column.ensures.length c.column.ensures.bits
