use Rattle.std.proofs.Common.{◌≡◌, ◌&&◌, map, take}
use Rattle.std.specs.Prelude.{filter, nat_le}
use Rattle.mc_extract.specs.Written.{with_gates, bit_at, cz_by}
use Rattle.mc_extract.proofs.gates.push_row.Given as goal

abbrev pub invariant-row : goal.invariant-row
invariant-row g l =
    l.circuit ≡ with_gates l.fn.circuit (map (cz_by l.wires l.v)
    (filter (λ w. nat_le l.from w && bit_at l.current w) (take l.w-index l.row)))
