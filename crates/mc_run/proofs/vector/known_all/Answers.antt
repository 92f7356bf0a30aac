use Rattle.std.proofs.Common.{◌≡◌, ℕ, ◌<◌, map, sym, subst, arith, below_more}
use Rattle.mc_run.specs.Sources.{entry}
use Rattle.mc_run.proofs.WrittenEntries.{seen_at}
use Rattle.mc_run.proofs.vector.known_all.Goals as goal

pub entries-preserved : goal.entries-preserved
entries-preserved g c =
    below_more _ _ c.entries.invariant
    (subst g.R.Ring.IsElement
    (sym (seen_at g.R.Ring.seen c.args.entries.now c.entries.i _ c.entries-test.true c.index-entries-i.is))
    c.known.ensures.element)

pub returns : goal.returns
returns g c = λ i h. c.entries.invariant i (omega (arith, c.entries-test.false))
