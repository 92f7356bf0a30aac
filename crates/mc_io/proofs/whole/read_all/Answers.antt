use Rattle.std.proofs.Common.{rules, ◌++◌, take, drop, arith}
use Rattle.std.proofs.lemmas.List.{length-append, length-take, length-drop, take-append-le}
use Rattle.mc_io.specs.Calls.{ReadsOn}
use Rattle.mc_io.proofs.Told.{Consumes-nil, Consumes-trans, TellsAsBefore-refl, TellsAsBefore-trans}
use Rattle.mc_io.proofs.whole.read_all.Goals as goal

pub loop-chunk-init : goal.loop-chunk-init
loop-chunk-init g c = record {
  most = omega arith;
  chunk = search rules;
  taken = rw c.new-bytes.ensures.items (Consumes-nil _);
  tells = TellsAsBefore-refl _;
  later = omega arith;
  calls = ReadsOn.no_read;
}

pub loop-chunk-preserved : goal.loop-chunk-preserved
loop-chunk-preserved g c =
    let n = c.in-Ok.count in
    let buf = c.read.new.buf in
    let most = c.min-most.result in
    let before = c.loop-chunk.invariant in
    let room = length-take most c.loop-chunk.chunk in
    let behind = length-drop most c.loop-chunk.chunk in
    let whole = length-append buf (drop most c.loop-chunk.chunk) in
    let within = c.in-Ok.ensures.bound.0 in
    let front = take-append-le n buf (drop most c.loop-chunk.chunk) within in
    let items = rw front at c.in-Ok-extend_from_slice.ensures.items in
    let len = simp (front, length-take) at c.in-Ok-extend_from_slice.ensures.len in
    record {
      most = omega arith;
      chunk = omega arith;
      taken = rw items (Consumes-trans _ _ _ _ _ before.taken c.in-Ok.ensures.bytes.0);
      tells = TellsAsBefore-trans _ _ _ before.tells c.in-Ok.ensures.tells;
      later = omega (arith, before.later, c.in-Ok.ensures.cause.later);
      calls = ReadsOn.one_more before.calls buf n (omega arith) c.in-Ok.ensures.call;
    }

pub returns-in_default-extend_from_slice-clause-taken
    : goal.returns-in_default-extend_from_slice-clause-taken
returns-in_default-extend_from_slice-clause-taken g c =
    let n = c.in-Ok.count in
    let buf = c.read.new.buf in
    let room = length-take c.min-most.result c.loop-chunk.chunk in
    let taken = Consumes-trans _ _ _ _ _ c.loop-chunk.invariant.taken c.in-Ok.ensures.bytes.0 in
    (c.loop-chunk.bytes.items ++ take n buf, simp (length-append, length-take) (omega arith), taken)

pub returns-in_default-extend_from_slice-clause-calls
    : goal.returns-in_default-extend_from_slice-clause-calls
returns-in_default-extend_from_slice-clause-calls g c =
    let before = c.loop-chunk.invariant.calls in
    ReadsOn.one_more before c.read.new.buf c.in-Ok.count (omega arith) c.in-Ok.ensures.call
