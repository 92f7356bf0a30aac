use Rattle.std.proofs.Common.{◌≡◌, drop, map}
use Rattle.mc_model.specs.Bits.{bits_of}
use Rattle.mc_model.specs.Amplitude.{start, after_gates}
use Rattle.mc_model.specs.Pattern.{wires}
use Rattle.mc_circuit.specs.Gates.{plain_gate}
use Rattle.mc_run.specs.Exact.{Exact, exact, phases}
use Rattle.mc_run.specs.Settings.{spelled, numbers_below}
use Rattle.mc_run.proofs.GatesLeft.{GatesLeft}
use Rattle.mc_run.proofs.gates.circuit_state.Given as goal

abbrev pub invariant-gates : goal.invariant-gates
invariant-gates g l =
    let ring : Exact =
    exact g.R.Ring.nought g.R.Ring.unit g.R.Ring.sum_of g.R.Ring.negative_of
    g.R.PhaseRing.turned_by g.R.PhaseRing.HALF g.R.PhaseRing.height_of in
    record {
      live : l.state.live.items ≡ numbers_below (wires l.circuit);
      left :
          GatesLeft ring g.R.Ring.IsElement (wires l.circuit)
          (after_gates (phases ring) l.circuit.gates
          (start (phases ring) l.circuit.inputs (bits_of (spelled l.circuit.inputs l.b))))
          (map (plain_gate {h = g.row.H}) (drop l.gate-index l.gate-items))
          (map g.R.Ring.seen l.state.entries.items);
    }
