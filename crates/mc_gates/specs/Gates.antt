-- Gate lists: circuits of the gates that are in common use, and what they mean.
use Rattle.std.specs.Prelude.{◌≡◌, ℕ, ◌+◌, ◌-◌, ◌<◌, ◌≤◌, Bool, true, false, cond, not, ◌&&◌, List}
use Rattle.std.specs.Prelude.{[], ◌∷◌, length, ⊤}
use Rattle.mc_model.specs.Names.{Name, AreNames}
use Rattle.mc_model.specs.Numbers.{ListsOnce}
use Rattle.mc_model.specs.Phase.{PhaseOps, turn, sign}
use Rattle.mc_model.specs.Bits.{◌⊻◌, Bits, replaced}
use Rattle.mc_model.specs.Amplitude.{Amps, start, placed}

-- Hadamard, the Pauli gates X and Z, the roots S and T of Z with their inverses, controlled X and
-- Z, the exchange of two wires, and X with two controls
pub data Op : Type 0 where
  H : ℕ → Op
  X : ℕ → Op
  Z : ℕ → Op
  S : ℕ → Op
  Sdg : ℕ → Op
  T : ℕ → Op
  Tdg : ℕ → Op
  Cx : ℕ → ℕ → Op
  Cz : ℕ → ℕ → Op
  Swap : ℕ → ℕ → Op
  Ccx : ℕ → ℕ → ℕ → Op

-- the inputs are the first of the wires, the others begin in `(|0> + |1>)/√2`
pub record GateList : Type 0 where
  pub names : List Name
  pub inputs : ℕ
  pub outputs : List ℕ
  pub ops : List Op

-- the setting with two bits exchanged
abbrev pub exchanged : Bits → ℕ → ℕ → Bits
exchanged x p q = replaced (replaced x p (x q)) q (x p)

-- the amplitudes after one more gate; angles are eighths of a turn
unfoldable pub act_op : {E : Type 0} → PhaseOps E → Op → Amps E → Amps E
act_op ops (H q) f x = ops.add (f (replaced x q false)) (sign ops (x q) (f (replaced x q true)))
act_op ops (X q) f x = f (replaced x q (not (x q)))
act_op ops (Z q) f x = turn ops (cond (x q) 4 0) (f x)
act_op ops (S q) f x = turn ops (cond (x q) 2 0) (f x)
act_op ops (Sdg q) f x = turn ops (cond (x q) 6 0) (f x)
act_op ops (T q) f x = turn ops (cond (x q) 1 0) (f x)
act_op ops (Tdg q) f x = turn ops (cond (x q) 7 0) (f x)
act_op ops (Cx p q) f x = f (replaced x q (x q ⊻ x p))
act_op ops (Cz p q) f x = sign ops (x p && x q) (f x)
act_op ops (Swap p q) f x = f (exchanged x p q)
act_op ops (Ccx p q r) f x = f (replaced x r (x r ⊻ (x p && x q)))

unfoldable pub after_ops : {E : Type 0} → PhaseOps E → List Op → Amps E → Amps E
after_ops ops [] f = f
after_ops ops (g ∷ gs) f = after_ops ops gs (act_op ops g f)

-- the entry of a gate list's table, at output bits `y` and input bits `b`
unfoldable pub gate_table : {E : Type 0} → PhaseOps E → GateList → List Bool → Bits → E
gate_table ops g y b = after_ops ops g.ops (start ops g.inputs b) (placed g.outputs y)

-- a physical amplitude is an entry over the root of two to the number of `H` gates and of wires
-- that are no inputs
unfoldable pub hadamards : Op → ℕ
hadamards (H q) = 1
hadamards (X q) = 0
hadamards (Z q) = 0
hadamards (S q) = 0
hadamards (Sdg q) = 0
hadamards (T q) = 0
hadamards (Tdg q) = 0
hadamards (Cx p q) = 0
hadamards (Cz p q) = 0
hadamards (Swap p q) = 0
hadamards (Ccx p q r) = 0

abbrev pub hadamard_count : List Op → ℕ
hadamard_count [] = 0
hadamard_count (g ∷ gs) = hadamards g + hadamard_count gs

abbrev pub gate_scale : GateList → ℕ
gate_scale g = hadamard_count g.ops + (length g.names - g.inputs)

-- ---- valid gate lists

-- each operand is a wire, and those of one gate differ
unfoldable pub OpFits : ℕ → Op → Type 0
OpFits wires (H q) = q < wires
OpFits wires (X q) = q < wires
OpFits wires (Z q) = q < wires
OpFits wires (S q) = q < wires
OpFits wires (Sdg q) = q < wires
OpFits wires (T q) = q < wires
OpFits wires (Tdg q) = q < wires
OpFits wires (Cx p q) = (p < wires) × (q < wires) × (p ≡ q → ⊥)
OpFits wires (Cz p q) = (p < wires) × (q < wires) × (p ≡ q → ⊥)
OpFits wires (Swap p q) = (p < wires) × (q < wires) × (p ≡ q → ⊥)
OpFits wires (Ccx p q r) =
    (p < wires) × (q < wires) × (r < wires) × (p ≡ q → ⊥) × (p ≡ r → ⊥) × (q ≡ r → ⊥)

abbrev pub OpsFit : ℕ → List Op → Type 0
OpsFit wires [] = ⊤
OpsFit wires (g ∷ gs) = OpFits wires g × OpsFit wires gs

pub record IsValidGateList (g : GateList) : Type 0 where
  pub names : AreNames g.names
  pub inputs : g.inputs ≤ length g.names
  pub ops : OpsFit (length g.names) g.ops
  pub outputs : ListsOnce (length g.names) (λ v. true) g.outputs
