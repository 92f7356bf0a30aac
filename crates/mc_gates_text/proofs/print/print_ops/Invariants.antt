use Rattle.std.proofs.Common.{◌≡◌, ◌++◌, map, take}
use Rattle.mc_write.specs.Text.{text_of}
use Rattle.mc_gates.specs.Ops.{plain_op}
use Rattle.mc_gates_text.specs.Canonical.{op_line}
use Rattle.mc_gates_text.proofs.print.print_ops.Given as goal

abbrev pub invariant-ops : goal.invariant-ops
invariant-ops l =
    l.text.items
    ≡ l.initial.text.items ++ text_of (map (op_line l.names) (map plain_op (take l.op-index l.ops)))
