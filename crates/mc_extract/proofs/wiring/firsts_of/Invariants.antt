use Rattle.std.proofs.Common.{◌≡◌}
use Rattle.std.specs.Prelude.{is_none, slice_index_or, None}
use Rattle.mc_model.specs.Numbers.{numbers_where}
use Rattle.mc_extract.proofs.wiring.firsts_of.Given as goal

abbrev pub invariant-vertices : goal.invariant-vertices
invariant-vertices l =
    l.firsts.items ≡ numbers_where (λ v. is_none (slice_index_or l.before v None)) l.v
