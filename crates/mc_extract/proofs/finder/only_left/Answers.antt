use Rattle.mc_extract.specs.Finder.{left_in}
use Rattle.std.proofs.Common.{sym, ◌∙◌}
use Rattle.mc_extract.proofs.FinderLemmas.{two_left}
use Rattle.mc_extract.proofs.finder.only_left.Goals as goal

pub returns-then-is_some : goal.returns-then-is_some
returns-then-is_some c =
    two_left (left_in c.args.found.now) c.args.row.now c.row.v-index c.row.only c.row-test.true
    (sym c.is_some.ensures ∙ c.if-is_some.true) c.row.invariant
    (sym c.is_left.ensures ∙ c.if-is_left.true)
