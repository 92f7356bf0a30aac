use Rattle.std.proofs.Common.{arith}
use Rattle.mc_extract.proofs.CausalRows.{row_here, row_later}
use Rattle.mc_extract.proofs.nexts.row_of.Goals as goal

pub returns-then-row-v : goal.returns-then-row-v
returns-then-row-v c = (
  let end = c.len-i-end.ensures.len in let below = c.rows-test.true in omega arith,
  row_here c.args.f.now.rows c.rows.i c.args.v _ c.row.ensures c.rows.invariant c.if-row-v.true,
)

pub rows-preserved : goal.rows-preserved
rows-preserved c =
    row_later c.args.f.now.rows c.rows.i c.args.v _ c.row.ensures c.rows.invariant c.if-row-v.false
