use Rattle.std.proofs.Common.{◌≡◌, ◌∙◌, sym, ap, subst, List, Bool, true}
use Rattle.mc_bits.specs.Rows.{bit_of}
use Rattle.mc_elim.specs.Tables.{Cleared, entry}
use Rattle.mc_elim.proofs.RowsReduced.{cleared_added}
use Rattle.mc_elim.proofs.reduce.clear.Goals as goal

pub returns-then-has-clause-cleared : goal.returns-then-has-clause-cleared
returns-then-has-clause-cleared g c =
    let from = c.args.from in
    let to = c.args.to in
    let k = c.args.k in
    let old = c.args.rows.now in
    let has : entry old to k ≡ true =
    ap (λ (row : List Bool). bit_of row k) (sym c.row.ensures)
    ∙ sym c.bit-has.ensures ∙ c.if-has.true in
    subst (λ (new : List (List Bool)). Cleared old new from to k) (sym c.add_row.ensures.sum)
    (cleared_added old from to k c.requires.apart c.requires.within.1 c.requires.alike has)
