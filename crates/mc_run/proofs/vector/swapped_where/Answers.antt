use Rattle.std.proofs.Common.{rules, ◌≡◌, ℕ, ◌<◌, true, false, ℤ, List, length, map, sym, subst}
use Rattle.std.proofs.Common.{arith}
use Rattle.std.proofs.lemmas.List.{length-map}
use Rattle.mc_run.specs.Exact.{Exact, exact}
use Rattle.mc_run.specs.Sources.{IsStepped}
use Rattle.mc_run.specs.declared.step.Step.TheVariants.{X}
use Rattle.mc_run.proofs.Turns.{obeys}
use Rattle.mc_run.proofs.WrittenEntries.{unflipped}
use Rattle.mc_run.proofs.vector.swapped_where.Goals as goal

pub returns-else-acts-clause-stepped : goal.returns-else-acts-clause-stepped
returns-else-acts-clause-stepped g c =
    let seen = g.R.Ring.seen in
    let ring : Exact =
    exact g.R.Ring.nought g.R.Ring.unit g.R.Ring.sum_of g.R.Ring.negative_of
    g.R.PhaseRing.turned_by g.R.PhaseRing.HALF g.R.PhaseRing.height_of in
    let laws =
    obeys g.R.Ring.IsElement g.R.Ring.InRange g.R.Ring.nought g.R.Ring.unit g.R.Ring.sum_of
    g.R.Ring.product_of g.R.Ring.negative_of g.R.PhaseRing.HALF g.R.PhaseRing.turned_by
    g.R.PhaseRing.height_of (g.met.R.Ring.ring_laws c.requires.permitted)
    (g.met.R.PhaseRing.turn_laws c.requires.permitted)
    (g.met.R.PhaseRing.height_laws c.requires.permitted) in
    let v : List (List ℤ) = map seen c.args.entries.now in
    let no : c.args.acts ≡ false = search rules in
    subst (λ t. IsStepped ring g.R.Ring.IsElement (X c.args.weight t) v v) (sym no)
    (unflipped ring g.R.Ring.IsElement laws v c.args.weight c.requires.small.0
    (λ i h. c.known_all.ensures i (omega (arith, length-map c.args.entries.now seen))))
