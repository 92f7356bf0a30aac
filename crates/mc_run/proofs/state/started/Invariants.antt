use Rattle.std.proofs.Common.{◌≡◌, map}
use Rattle.mc_model.specs.Bits.{bits_of}
use Rattle.mc_model.specs.Amplitude.{start}
use Rattle.mc_run.specs.Exact.{Exact, exact, phases}
use Rattle.mc_run.specs.Settings.{spelled, numbers_below}
use Rattle.mc_run.specs.Sources.{Holds}
use Rattle.mc_run.proofs.state.started.Given as goal

abbrev pub invariant-inputs : goal.invariant-inputs
invariant-inputs g l =
    let ring : Exact =
    exact g.R.Ring.nought g.R.Ring.unit g.R.Ring.sum_of g.R.Ring.negative_of
    g.R.PhaseRing.turned_by g.R.PhaseRing.HALF g.R.PhaseRing.height_of in
    record {
      live : l.state.live.items ≡ numbers_below l.q;
      holds :
          Holds ring g.R.Ring.IsElement (numbers_below l.q) 0
          (start (phases ring) l.q (bits_of (spelled l.inputs l.b)))
          (map g.R.Ring.seen l.state.entries.items);
    }
