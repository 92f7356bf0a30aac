use Rattle.std.proofs.Common.{◌∙◌, sym, arith}
use Rattle.std.specs.Prelude.{slice_index_or, None}
use Rattle.mc_extract.specs.Rounds.{is_some_of}
use Rattle.mc_extract.proofs.FinderLemmas.{found_first, found_none}
use Rattle.mc_extract.proofs.finder.taker_of.Goals as goal

pub returns-then-is_some_of_it : goal.returns-then-is_some_of_it
returns-then-is_some_of_it c =
    found_first (λ w. is_some_of (slice_index_or c.args.taken.now w None) c.args.u) c.args.count
    c.vertices.w c.vertices-test.true (sym c.is_some_of_it.ensures ∙ c.if-is_some_of_it.true)
    c.vertices.invariant

pub returns : goal.returns
returns c =
    found_none (λ w. is_some_of (slice_index_or c.args.taken.now w None) c.args.u) c.args.count
    (λ k l. let h = c.vertices-test.false in c.vertices.invariant k (omega arith))
