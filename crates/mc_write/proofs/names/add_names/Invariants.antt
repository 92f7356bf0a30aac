use Rattle.std.proofs.Common.{◌≡◌, ◌++◌, map, take}
use Rattle.mc_write.specs.Text.{words_behind}
use Rattle.mc_write.specs.Named.{name_at}
use Rattle.mc_write.proofs.names.add_names.Given as goal

abbrev pub invariant-numbers : goal.invariant-numbers
invariant-numbers l =
    l.text.items
    ≡ l.initial.text.items ++ words_behind (map (name_at l.names) (take l.number-index l.numbers))
