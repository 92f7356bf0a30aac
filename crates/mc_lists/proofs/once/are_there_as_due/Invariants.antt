use Rattle.std.proofs.Common.{◌≡◌, ℕ, ◌<◌, count_by, nat_eq, cond, slice_index_or, false}
use Rattle.mc_lists.proofs.once.are_there_as_due.Given as goal

abbrev pub invariant-numbers : goal.invariant-numbers
invariant-numbers l = (k : ℕ) → k < l.q → count_by (nat_eq k) l.numbers ≡ cond (slice_index_or l.due k false) 1 0
