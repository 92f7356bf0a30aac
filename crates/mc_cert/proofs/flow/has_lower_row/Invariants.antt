use Rattle.std.proofs.Common.{◌≡◌, drop}
use Rattle.mc_cert.specs.FlowRules.{has_lower_row}
use Rattle.mc_cert.proofs.flow.has_lower_row.Given as goal

abbrev pub invariant-rows : goal.invariant-rows
invariant-rows l = has_lower_row (drop l.i l.f.rows) l.k l.v ≡ has_lower_row l.f.rows l.k l.v
