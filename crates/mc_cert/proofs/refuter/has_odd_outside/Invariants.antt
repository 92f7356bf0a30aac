use Rattle.std.proofs.Common.{◌≡◌, ℕ, ◌<◌, false}
use Rattle.mc_graph.specs.Refuters.{refuted_in}
use Rattle.mc_cert.specs.RefuterRules.{odd_outside}
use Rattle.mc_cert.proofs.refuter.has_odd_outside.Given as goal

abbrev pub invariant-vertices : goal.invariant-vertices
invariant-vertices g l =
    (w : ℕ) → w < l.v → odd_outside l.g (refuted_in l.r) l.set w ≡ false
