use Rattle.std.proofs.Common.{◌≢◌, ◌<◌, arith, sym, subst, List, Bool}
use Rattle.mc_elim.specs.Tables.{Cleared}
use Rattle.mc_elim.proofs.RowsReduced.{cleared_added}
use Rattle.mc_elim.proofs.reduce.reduce_at.Goals as goal

pub returns-in-Some-clause-reduced : goal.returns-in-Some-clause-reduced
returns-in-Some-clause-reduced g c =
    let i = c.in-Some.i in
    let k = c.args.k in
    let u = c.args.u in
    let old = c.args.rows.now in
    let below : i < k = c.in-Some.ensures.0 in
    let apart : i ≢ k = omega arith in (
      i,
      below,
      c.in-Some.ensures.1,
      subst (λ (new : List (List Bool)). Cleared old new i k u) (sym c.add_row.ensures.sum)
          (cleared_added old i k u apart c.requires.within.0 (c.requires.alike i below)
          c.requires.bit),
    )
