-- The operations of the code as those of the definitions.
use Rattle.mc_gates.specs.declared.op.Op.{Op}
use Rattle.mc_gates.specs.declared.op.Op.TheVariants as op
use Rattle.mc_gates.specs.Gates as plain

abbrev pub plain_op : Op → plain.Op
plain_op (op.H q) = plain.H q
plain_op (op.X q) = plain.X q
plain_op (op.Z q) = plain.Z q
plain_op (op.S q) = plain.S q
plain_op (op.Sdg q) = plain.Sdg q
plain_op (op.T q) = plain.T q
plain_op (op.Tdg q) = plain.Tdg q
plain_op (op.Cx control target) = plain.Cx control target
plain_op (op.Cz a b) = plain.Cz a b
plain_op (op.Swap a b) = plain.Swap a b
plain_op (op.Ccx first second target) = plain.Ccx first second target
