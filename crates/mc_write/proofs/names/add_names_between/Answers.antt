use Rattle.std.proofs.Common.{◌∙◌, ap, ◌++◌, ◌∷◌, arith}
use Rattle.mc_write.specs.Named.{name_at}
use Rattle.mc_write.proofs.Between.{more_between}
use Rattle.mc_write.proofs.names.add_names_between.Goals as goal

pub numbers-preserved : goal.numbers-preserved
numbers-preserved c =
    let more = more_between c.args.text.now.items c.args.names.now c.args.from c.numbers.number (omega arith) (omega arith) in
    c.in_ok-add_name.ensures
    ∙ ap (λ t. t ++ 32 ∷ name_at c.args.names.now c.numbers.number) c.numbers.invariant
    ∙ more
