use Rattle.mc_pattern.proofs.Built.{built_start}
use Rattle.mc_pattern.proofs.builder.Builder.new.Goals as goal

pub invariant_of-result : goal.invariant_of-result
invariant_of-result g c =
    let marks = c.in-Ok.ensures.items_if_clones_equal (λ y e. e) in
    rw (c.new.ensures.items, c.len-count.ensures.len, marks)
    (built_start _ c.args.inputs c.requires c.len-count.ensures.names)
