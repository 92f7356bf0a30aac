use Rattle.std.proofs.Common.{rules, ◌≡◌, ℕ, ◌+◌, ◌*◌, ◌<◌, ℤ, List, length, map, sym, subst, ap}
use Rattle.std.proofs.Common.{◌∙◌, arith}
use Rattle.mc_run.specs.Sources.{source, CanTake, IsLongFor}
use Rattle.mc_run.specs.declared.step.Step.TheVariants.{J, Meas}
use Rattle.mc_run.proofs.vector.behind.Goals as goal

pub crossed-requires-clause-there : goal.crossed-requires-clause-there
crossed-requires-clause-there g c =
    let seen = g.R.Ring.seen in
    let half : ℕ = g.R.PhaseRing.HALF in
    let step = J c.in-J.weight c.in-J.steps in
    let long = subst (λ s. IsLongFor s (length c.args.entries.items) c.args.count) c.in-J.is
    c.requires.long in
    let there = subst (λ s. (i : ℕ) → i < c.args.count →
    CanTake g.R.PhaseRing.height_of (map seen c.args.entries.items) (source half s i)) c.in-J.is
    c.requires.there in
    subst (λ t. (i : ℕ) → i < length t →
    CanTake g.R.PhaseRing.height_of (map seen t) (source half (J c.in-J.weight c.in-J.steps) i))
    (sym c.deref_mut-in-J.ensures.value)
    (λ i h. there i (omega (arith, long.0)))

pub folded-requires-clause-there : goal.folded-requires-clause-there
folded-requires-clause-there g c = λ i h.
    let seen = g.R.Ring.seen in
    let half : ℕ = g.R.PhaseRing.HALF in
    let long = subst (λ s. IsLongFor s (length c.args.entries.items) c.args.count) c.in-Meas.is
    c.requires.long in
    let there = subst (λ s. (i : ℕ) → i < c.args.count →
    CanTake g.R.PhaseRing.height_of (map seen c.args.entries.items) (source half s i)) c.in-Meas.is
    c.requires.there in
    there i (omega (arith, long.0))
