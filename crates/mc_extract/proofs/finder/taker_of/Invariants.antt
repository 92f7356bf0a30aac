use Rattle.std.proofs.Common.{◌≡◌, ℕ, ◌<◌, false}
use Rattle.std.specs.Prelude.{slice_index_or, None}
use Rattle.mc_extract.specs.Rounds.{is_some_of}
use Rattle.mc_extract.proofs.finder.taker_of.Given as goal

abbrev pub invariant-vertices : goal.invariant-vertices
invariant-vertices l =
    (w : ℕ) → w < l.w → is_some_of (slice_index_or l.taken w None) l.u ≡ false
