use Rattle.std.proofs.Common.{arith}
use Rattle.mc_pattern.proofs.Built.{measured_others}
use Rattle.mc_pattern.proofs.pattern.Pattern.measured.Goals as goal

pub overflow_cast-result : goal.overflow_cast-result
overflow_cast-result g c =
    let h = measured_others _ _ c.self.invariant in
    let few = c.self.invariant.valid.names.few in
    omega arith

pub overflow_sub-result : goal.overflow_sub-result
overflow_sub-result g c = let h = measured_others _ _ c.self.invariant in omega arith

pub returns-clause-count : goal.returns-clause-count
returns-clause-count g c =
    let h = measured_others _ _ c.self.invariant in rw (← c.self.view_is) (omega arith)

pub returns-clause-others : goal.returns-clause-others
returns-clause-others g c =
    let h = measured_others _ _ c.self.invariant in rw (← c.self.view_is) (omega arith)
