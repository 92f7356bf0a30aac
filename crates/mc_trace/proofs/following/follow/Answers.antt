use Rattle.std.proofs.Common.{refl, arith}
use Rattle.std.proofs.lemmas.List.{length-map}
use Rattle.mc_standard.specs.Uses.{plain_use}
use Rattle.mc_trace.proofs.Leading.{misfits_line}
use Rattle.mc_trace.proofs.following.follow.Goals as goal

pub returns-in-None-clause-follows : goal.returns-in-None-clause-follows
returns-in-None-clause-follows g c =
    let exist = c.if-lacks.ensures in (
      refl,
      misfits_line (plain_use c.args.u) _ _ (omega arith) exist.0 (rw length-map (omega arith))
          (rw (c.in-None.is, c.as_slice.ensures.value) at c.in_ok-change.ensures),
    )
