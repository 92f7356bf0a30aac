use Rattle.std.proofs.Common.{◌-◌, ◌≤◌, length, take}
use Rattle.mc_io.specs.Told.{AppendsWhereTold}
use Rattle.mc_io.specs.Calls.{WritesOn}
use Rattle.mc_io.proofs.whole.write_all.Given as goal

abbrev pub invariant-loop-done : goal.invariant-loop-done
invariant-loop-done g l = record {
  within : l.done ≤ length l.text;
  told : AppendsWhereTold
      (g.K.Sink.written l.initial.sink) (g.K.Sink.written l.sink) (take l.done l.text);
  later : g.K.Sink.faults l.initial.sink ≤ g.K.Sink.faults l.sink;
  calls : WritesOn g.K.Sink.writes l.text l.initial.sink l.done l.sink;
}

abbrev pub decreases-loop-done : goal.decreases-loop-done
decreases-loop-done g l = length l.text - l.done
