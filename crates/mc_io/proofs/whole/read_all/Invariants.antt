use Rattle.std.proofs.Common.{◌≡◌, ◌+◌, ◌-◌, ◌≤◌, vec_len, length}
use Rattle.std.specs.Io.KnownBytes.{Consumes}
use Rattle.mc_io.specs.Told.{TellsAsBefore}
use Rattle.mc_io.specs.Calls.{ReadsOn}
use Rattle.mc_io.proofs.whole.read_all.Given as goal

abbrev pub invariant-loop-chunk : goal.invariant-loop-chunk
invariant-loop-chunk g l = record {
  most : vec_len l.bytes ≤ l.limit + 1;
  chunk : length l.chunk ≡ 16384;
  taken : Consumes (g.S.Source.left l.initial.source) (g.S.Source.left l.source) l.bytes.items;
  tells : TellsAsBefore (g.S.Source.left l.initial.source) (g.S.Source.left l.source);
  later : g.S.Source.faults l.initial.source ≤ g.S.Source.faults l.source;
  calls : ReadsOn g.S.Source.reads l.initial.source l.source;
}

abbrev pub decreases-loop-chunk : goal.decreases-loop-chunk
decreases-loop-chunk g l = l.limit + 1 - vec_len l.bytes
