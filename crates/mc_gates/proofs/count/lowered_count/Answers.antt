use Rattle.std.proofs.Common.{ℕ, ◌+◌, ◌∙◌, ap₂, arith}
use Rattle.mc_gates.proofs.Counted.{count_more}
use Rattle.mc_gates.proofs.count.lowered_count.Goals as goal

pub ops-preserved : goal.ops-preserved
ops-preserved c =
    let few = c.ops.invariant.1 in
    let cost = c.cost-count.ensures.few in (
      ap₂ (λ (a b : ℕ). a + b) c.ops.invariant.0 c.cost-count.ensures.count
          ∙ count_more c.args.ops.now c.ops.op-index _ c.ops-test.true,
      omega arith,
    )
