use Rattle.std.proofs.Common.{◌∙◌, arith}
use Rattle.mc_standard.proofs.OrderedFronts.{part_read, early_test}
use Rattle.mc_standard.proofs.search.is_early.Goals as goal

pub returns-then-k-gt0 : goal.returns-then-k-gt0
returns-then-k-gt0 g c = early_test _ c.args.k _ _ c.if-k-gt0.true
    (c.part_of.ensures
    ∙ part_read c.args.commands.now c.args.k _ c.requires c.index-commands-k.is)
    (c.part_of-then-k-gt0.ensures
    ∙ part_read c.args.commands.now _ _ (omega arith) c.index-commands-k-then-k-gt0.is)
