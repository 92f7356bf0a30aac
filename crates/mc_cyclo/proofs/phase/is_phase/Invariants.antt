use Rattle.std.proofs.Common.{◌≡◌, ℕ, ◌<◌, [], slice_index_or}
use Rattle.mc_model.specs.Ring.{rotations}
use Rattle.mc_cyclo.proofs.phase.is_phase.Given as goal

abbrev pub invariant-entries : goal.invariant-entries
invariant-entries g l =
    (j : ℕ) → j < l.i → slice_index_or l.a j [] ≡ rotations l.k (slice_index_or l.b j [])
