use Rattle.std.proofs.Common.{◌≡◌, ◌++◌, map, take}
use Rattle.std.specs.Fmt.{signed_decimal}
use Rattle.mc_write.specs.Text.{words_behind}
use Rattle.mc_cyclo.proofs.text.add_coordinates.Given as goal

abbrev pub invariant-coordinates : goal.invariant-coordinates
invariant-coordinates l =
    l.text.items
    ≡ l.fn.text.items
    ++ words_behind (map signed_decimal (take l.coordinate-index l.coordinates))
