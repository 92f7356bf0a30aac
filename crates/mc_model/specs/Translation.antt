-- The translation of a circuit into a pattern. What it means is the law of the crate
-- `mc_translate`: every branch has the circuit's table.
use Rattle.std.specs.Prelude.{ℕ, zero, suc, ◌+◌, ◌-◌, cond, nat_eq, List, [], ◌∷◌, ◌++◌, map}
use Rattle.mc_model.specs.Names.{with_fresh}
use Rattle.mc_model.specs.Phase.{negated}
use Rattle.mc_model.specs.Signals.{no_signal, signal_of}
use Rattle.mc_model.specs.Pattern.{Command, Prep, Ent, Meas, FixX, Gate, J, CZ, Pattern, Circuit}
use Rattle.mc_model.specs.Pattern.{wires}
use Rattle.mc_model.specs.Amplitude.{j_count}

-- for each wire the qubit that stands for it: `r` stands for the wire `v` from now on
abbrev pub moved : (ℕ → ℕ) → ℕ → ℕ → (ℕ → ℕ)
moved at v r = λ k. cond (nat_eq k v) r (at k)

-- a `J` takes the next fresh qubit, a CZ entangles
unfoldable pub translated : ℕ → List Gate → (ℕ → ℕ) → ℕ → List Command
translated half [] at next = []
translated half (J v a ∷ gs) at next =
    Prep next ∷ Ent (at v) next ∷ Meas (at v) (negated half a) no_signal no_signal
    ∷ FixX next (signal_of (at v)) ∷ translated half gs (moved at v next) (suc next)
translated half (CZ v u ∷ gs) at next = Ent (at v) (at u) ∷ translated half gs at next

-- the qubit that stands for each wire at the end
unfoldable pub last_qubits : List Gate → (ℕ → ℕ) → ℕ → (ℕ → ℕ)
last_qubits [] at next = at
last_qubits (J v a ∷ gs) at next = last_qubits gs (moved at v next) (suc next)
last_qubits (CZ v u ∷ gs) at next = last_qubits gs at next

-- the preparations of `n` qubits from `q` on
unfoldable pub preparations : ℕ → ℕ → List Command
preparations q zero = []
preparations q (suc n) = Prep q ∷ preparations (suc q) n

unfoldable pub translation : ℕ → Circuit → Pattern
translation half c = record {
  names = with_fresh (j_count c.gates) c.names;
  inputs = c.inputs;
  outputs = map (last_qubits c.gates (λ v. v) (wires c)) c.outputs;
  commands =
      preparations c.inputs (wires c - c.inputs) ++ translated half c.gates (λ v. v) (wires c);
}

-- how many qubits it has: the wires, and a fresh one for each `J`
abbrev pub qubit_count : Circuit → ℕ
qubit_count c = wires c + j_count c.gates
