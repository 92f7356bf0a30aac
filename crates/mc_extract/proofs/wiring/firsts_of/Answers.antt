use Rattle.std.proofs.Common.{[]}
use Rattle.std.specs.Prelude.{is_none, slice_index_or, None}
use Rattle.mc_extract.proofs.ChainLists.{where_next, none_told}
use Rattle.mc_extract.proofs.wiring.firsts_of.Goals as goal

pub vertices-preserved : goal.vertices-preserved
vertices-preserved c =
    where_next (λ v. is_none (slice_index_or c.args.before.now v None)) c.vertices.v
    c.is_none.result [] c.vertices.firsts.items
    (none_told (slice_index_or c.args.before.now c.vertices.v None) c.is_none.result
    c.is_none.ensures)
    c.vertices.invariant c.in_ok-push_if.ensures
