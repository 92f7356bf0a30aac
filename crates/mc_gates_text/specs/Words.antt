-- The table of gate words: how many operands each has, and which operation it makes of them.
use Rattle.std.specs.Prelude.{ℕ, List, [], ◌∷◌, Bool, nat_lt, Option, None, Some}
use Rattle.mc_text.specs.declared.head.Head.{Head}
use Rattle.mc_text.specs.declared.head.Head.TheVariants as head
use Rattle.mc_gates.specs.Gates.{Op, H, X, Z, S, Sdg, T, Tdg, Cx, Cz, Swap, Ccx}

abbrev pub arity : Option Head → ℕ
arity (Some head.H) = 1
arity (Some head.X) = 1
arity (Some head.Z) = 1
arity (Some head.S) = 1
arity (Some head.Sdg) = 1
arity (Some head.T) = 1
arity (Some head.Tdg) = 1
arity (Some head.Cx) = 2
arity (Some head.Cz) = 2
arity (Some head.Swap) = 2
arity (Some head.Ccx) = 3
arity _ = 0

abbrev pub is_gate : Option Head → Bool
is_gate h = nat_lt 0 (arity h)

-- the operation of a gate word with one, two or three operands
abbrev pub op_on_one : Head → ℕ → Option Op
op_on_one head.H q = Some (H q)
op_on_one head.X q = Some (X q)
op_on_one head.Z q = Some (Z q)
op_on_one head.S q = Some (S q)
op_on_one head.Sdg q = Some (Sdg q)
op_on_one head.T q = Some (T q)
op_on_one head.Tdg q = Some (Tdg q)
op_on_one _ q = None

abbrev pub op_on_two : Head → ℕ → ℕ → Option Op
op_on_two head.Cx p q = Some (Cx p q)
op_on_two head.Cz p q = Some (Cz p q)
op_on_two head.Swap p q = Some (Swap p q)
op_on_two _ p q = None

abbrev pub op_on_three : Head → ℕ → ℕ → ℕ → Option Op
op_on_three head.Ccx p q r = Some (Ccx p q r)
op_on_three _ p q r = None

abbrev pub op_on : Head → List ℕ → Option Op
op_on h [] = None
op_on h (q ∷ []) = op_on_one h q
op_on h (p ∷ q ∷ []) = op_on_two h p q
op_on h (p ∷ q ∷ r ∷ []) = op_on_three h p q r
op_on h (p ∷ q ∷ r ∷ s ∷ qs) = None

-- the same for a line, which may begin with no record word
abbrev pub op_with : Option Head → List ℕ → Option Op
op_with None qs = None
op_with (Some h) qs = op_on h qs

-- the gate word of an operation, and its operands in the order of the line
abbrev pub gate_word : Op → Head
gate_word (H q) = head.H
gate_word (X q) = head.X
gate_word (Z q) = head.Z
gate_word (S q) = head.S
gate_word (Sdg q) = head.Sdg
gate_word (T q) = head.T
gate_word (Tdg q) = head.Tdg
gate_word (Cx p q) = head.Cx
gate_word (Cz p q) = head.Cz
gate_word (Swap p q) = head.Swap
gate_word (Ccx p q r) = head.Ccx

abbrev pub operands : Op → List ℕ
operands (H q) = q ∷ []
operands (X q) = q ∷ []
operands (Z q) = q ∷ []
operands (S q) = q ∷ []
operands (Sdg q) = q ∷ []
operands (T q) = q ∷ []
operands (Tdg q) = q ∷ []
operands (Cx p q) = p ∷ q ∷ []
operands (Cz p q) = p ∷ q ∷ []
operands (Swap p q) = p ∷ q ∷ []
operands (Ccx p q r) = p ∷ q ∷ r ∷ []
