use Rattle.std.proofs.Common.{◌≡◌, ◌++◌, ◌-◌, take, drop}
use Rattle.mc_write.specs.Text.{words_behind}
use Rattle.mc_write.proofs.names.add_names_between.Given as goal

abbrev pub invariant-numbers : goal.invariant-numbers
invariant-numbers l =
    l.text.items
    ≡ l.initial.text.items ++ words_behind (take (l.number - l.from) (drop l.from l.names))
