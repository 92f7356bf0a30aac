use Rattle.std.proofs.Common.{◌&&◌}
use Rattle.std.specs.Prelude.{nat_le}
use Rattle.mc_extract.specs.Written.{bit_at, cz_by}
use Rattle.mc_extract.proofs.GateLists.{row_more}
use Rattle.mc_extract.proofs.gates.push_row.Goals as goal

pub row-preserved : goal.row-preserved
row-preserved g c =
    row_more c.args.circuit.now (cz_by c.args.wires.now c.args.v)
    (λ w. nat_le c.args.from w && bit_at c.args.current.now w) c.neighbours-row.result.now
    c.row.w-index c.is_met.result _ c.row.circuit c.row-test.true c.row.invariant
    c.is_met.ensures c.cz_of.ensures c.in_ok-push_if.ensures
