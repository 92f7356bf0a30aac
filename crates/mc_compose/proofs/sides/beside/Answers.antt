use Rattle.std.proofs.Common.{ap}
use Rattle.std.specs.Prelude.{Err}
use Rattle.mc_model.proofs.StepLemmas.{permitted_positive}
use Rattle.mc_compose.proofs.sides.beside.Goals as goal

pub returns-in-Some-clause-limit : goal.returns-in-Some-clause-limit
returns-in-Some-clause-limit g c = λ which found.
    let h = c.in-Some.ensures.limit which found in
    (λ s. h.0 (cc), λ s. ap (λ x. Err x) (h.1 s))

pub returns-in-Ok-clause-maps : goal.returns-in-Ok-clause-maps
returns-in-Ok-clause-maps g c = λ o1 o2 o joined y1 y2 b long.
    let first = c.names-first.ensures.valid in
    let second = c.names-second.ensures.valid in
    rw c.in-Ok.ensures
    (c.sides_multiply.ensures g.row.H (permitted_positive g.row.H first.permitted)
    c.args.first.now c.args.second.now first.valid second.valid o1 o2 o joined y1 y2 b long)
