use Rattle.std.proofs.Common.{◌*◌, ◌+◌, ℤ, List, [], slice_index_or, ap, ◌∙◌}
use Rattle.std.proofs.lemmas.List.{get_or-replicate}
use Rattle.mc_ring.proofs.EntriesInPlace.{place_below}
use Rattle.mc_ring.proofs.matrix.Matrix.zeros.Goals as goal

pub returns-clause-zeros : goal.returns-clause-zeros
returns-clause-zeros g c i j h k =
    ap (λ (xs : List (List ℤ)). slice_index_or xs (i * c.args.columns + j) [])
    c.in_ok-entries.ensures
    ∙ get_or-replicate (c.args.rows * c.args.columns) (i * c.args.columns + j) g.R.Ring.nought []
    (place_below c.args.rows c.args.columns i j h k)
