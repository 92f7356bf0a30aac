use Rattle.std.proofs.Common.{◌≡◌, ℕ, ◌<◌}
use Rattle.mc_extract.specs.Finder.{left_in}
use Rattle.mc_extract.proofs.finder.are_left_alike.Given as goal

abbrev pub invariant-vertices : goal.invariant-vertices
invariant-vertices l = (v : ℕ) → v < l.v → left_in l.found v ≡ left_in l.later v
