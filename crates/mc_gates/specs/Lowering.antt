-- The circuit of `J` and CZ gates that a gate list is lowered to.
use Rattle.std.specs.Prelude.{ℕ, ◌+◌, List, [], ◌∷◌, ◌++◌, map}
use Rattle.mc_model.specs.Pattern.{Gate, J, CZ, Circuit}
use Rattle.mc_model.specs.Translation.{moved}
use Rattle.mc_gates.specs.Gates.{Op, H, X, Z, S, Sdg, T, Tdg, Cx, Cz, Swap, Ccx, GateList}

-- X with the controls `p` and `q`, after
-- `4pqr = p + q + r - (p ⊻ q) - (p ⊻ r) - (q ⊻ r) + (p ⊻ q ⊻ r)` for bits
abbrev pub toffoli : ℕ → ℕ → ℕ → List Gate
toffoli p q r =
    CZ q r ∷ J r 0 ∷ J r 7 ∷ CZ p r ∷ J r 0 ∷ J r 1 ∷ CZ q r ∷ J r 0 ∷ J r 7 ∷ CZ p r ∷ J r 0
    ∷ J r 1 ∷ J q 1 ∷ CZ p q ∷ J q 0 ∷ J q 7 ∷ CZ p q ∷ J q 0 ∷ J p 1 ∷ J p 0 ∷ []

-- the gates of one operation, where `at` tells for each name the wire that it stands for
unfoldable pub gates_of : (ℕ → ℕ) → Op → List Gate
gates_of at (H q) = J (at q) 0 ∷ []
gates_of at (X q) = J (at q) 0 ∷ J (at q) 4 ∷ []
gates_of at (Z q) = J (at q) 4 ∷ J (at q) 0 ∷ []
gates_of at (S q) = J (at q) 2 ∷ J (at q) 0 ∷ []
gates_of at (Sdg q) = J (at q) 6 ∷ J (at q) 0 ∷ []
gates_of at (T q) = J (at q) 1 ∷ J (at q) 0 ∷ []
gates_of at (Tdg q) = J (at q) 7 ∷ J (at q) 0 ∷ []
gates_of at (Cx p q) = J (at q) 0 ∷ CZ (at p) (at q) ∷ J (at q) 0 ∷ []
gates_of at (Cz p q) = CZ (at p) (at q) ∷ []
gates_of at (Swap p q) = []
gates_of at (Ccx p q r) = toffoli (at p) (at q) (at r)

-- an exchange of two wires is one of what their names stand for
unfoldable pub wires_behind : (ℕ → ℕ) → Op → (ℕ → ℕ)
wires_behind at (H q) = at
wires_behind at (X q) = at
wires_behind at (Z q) = at
wires_behind at (S q) = at
wires_behind at (Sdg q) = at
wires_behind at (T q) = at
wires_behind at (Tdg q) = at
wires_behind at (Cx p q) = at
wires_behind at (Cz p q) = at
wires_behind at (Swap p q) = moved (moved at p (at q)) q (at p)
wires_behind at (Ccx p q r) = at

unfoldable pub lowered_gates : List Op → (ℕ → ℕ) → List Gate
lowered_gates [] at = []
lowered_gates (g ∷ gs) at = gates_of at g ++ lowered_gates gs (wires_behind at g)

-- the wire that each name stands for at the end
unfoldable pub last_wires : List Op → (ℕ → ℕ) → (ℕ → ℕ)
last_wires [] at = at
last_wires (g ∷ gs) at = last_wires gs (wires_behind at g)

unfoldable pub lowered : GateList → Circuit
lowered g = record {
  names = g.names;
  inputs = g.inputs;
  outputs = map (last_wires g.ops (λ v. v)) g.outputs;
  gates = lowered_gates g.ops (λ v. v);
}

-- ---- how many gates there are, and how many powers of two

unfoldable pub gate_cost : Op → ℕ
gate_cost (H q) = 1
gate_cost (X q) = 2
gate_cost (Z q) = 2
gate_cost (S q) = 2
gate_cost (Sdg q) = 2
gate_cost (T q) = 2
gate_cost (Tdg q) = 2
gate_cost (Cx p q) = 3
gate_cost (Cz p q) = 1
gate_cost (Swap p q) = 0
gate_cost (Ccx p q r) = 20

abbrev pub lowered_count : List Op → ℕ
lowered_count [] = 0
lowered_count (g ∷ gs) = gate_cost g + lowered_count gs

-- two `J` gates on one wire in place of a gate make twice its entries
unfoldable pub doublings : Op → ℕ
doublings (H q) = 0
doublings (X q) = 1
doublings (Z q) = 1
doublings (S q) = 1
doublings (Sdg q) = 1
doublings (T q) = 1
doublings (Tdg q) = 1
doublings (Cx p q) = 1
doublings (Cz p q) = 0
doublings (Swap p q) = 0
doublings (Ccx p q r) = 7

abbrev pub doubling_count : List Op → ℕ
doubling_count [] = 0
doubling_count (g ∷ gs) = doublings g + doubling_count gs
