use Rattle.std.proofs.Common.{◌∙◌, ap, sym}
use Rattle.mc_gates.specs.Gates.{OpFits}
use Rattle.mc_gates.specs.Lowering.{wires_behind}
use Rattle.mc_gates.specs.Steps.{wire_at}
use Rattle.mc_gates.proofs.Standing.{wires_traded}
use Rattle.mc_gates.specs.Ops.{plain_op}
use Rattle.mc_gates.proofs.step.trade.Goals as goal

pub returns-in-Swap-clause-wires : goal.returns-in-Swap-clause-wires
unfolding OpFits wires_behind
returns-in-Swap-clause-wires c =
    let fits = rw c.in-Swap.is at c.requires in
    wires_traded c.args.at.now c.in-Swap.a c.in-Swap.b fits.0 fits.1
    ∙ sym (ap (λ (op : _). wires_behind (wire_at c.args.at.now) (plain_op op)) c.in-Swap.is)
