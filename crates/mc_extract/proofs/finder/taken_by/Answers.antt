use Rattle.std.proofs.Common.{ℕ, List, ◌<◌, sym}
use Rattle.std.specs.Prelude.{All}
use mathlib.Core.Path.{subst₂}
use Rattle.mc_extract.proofs.FinderLemmas.{neighbours_below}
use Rattle.mc_extract.proofs.finder.taken_by.Goals as goal

pub only_left-requires : goal.only_left-requires
only_left-requires g c =
    subst₂ (λ (n : ℕ) (row : List ℕ). All (λ v. v < n) row) (sym c.requires.all)
    (sym c.neighbours.ensures.row)
    (neighbours_below c.args.g.now c.args.w)
