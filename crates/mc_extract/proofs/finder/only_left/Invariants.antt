use Rattle.std.proofs.Common.{◌≡◌, take}
use Rattle.std.specs.Prelude.{filter, option_to_list}
use Rattle.mc_extract.specs.Finder.{left_in}
use Rattle.mc_extract.proofs.finder.only_left.Given as goal

abbrev pub invariant-row : goal.invariant-row
invariant-row l = filter (left_in l.found) (take l.v-index l.row) ≡ option_to_list l.only
