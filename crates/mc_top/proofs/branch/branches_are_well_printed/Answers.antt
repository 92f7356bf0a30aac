use Rattle.mc_model.specs.Amplitude.{branch_map, pattern_scale}
use Rattle.mc_model.specs.Ring.{ring}
use Rattle.mc_top.proofs.AllBranches.{well_printed}
use Rattle.mc_top.proofs.branch.branches_are_well_printed.Goals as goal

pub returns : goal.returns
returns g c =
    let law = c.amplitudes_are_reduced.ensures in
    λ p o y b. well_printed g.row.H law.value law.least (branch_map (ring g.row.H) p o y b)
    (pattern_scale p)
