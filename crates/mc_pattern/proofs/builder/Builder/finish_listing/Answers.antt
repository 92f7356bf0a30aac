use Rattle.mc_pattern.proofs.RuleLaws.{by_lists}
use Rattle.mc_pattern.proofs.builder.Builder.finish_listing.Goals as goal

pub want_of_memory-requires : goal.want_of_memory-requires
want_of_memory-requires g c =
    c.in-Err.ensures.memory_last.1 (by_lists _ _ c.args.outputs.now c.requires)
