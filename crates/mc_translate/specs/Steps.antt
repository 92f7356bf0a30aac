-- The translation gate by gate, where `at` lists for each wire the qubit that stands for it.
use Rattle.std.specs.Prelude.{◌≡◌, ℕ, ◌+◌, ◌<◌, ◌≤◌, false, List, [], ◌∷◌, ◌++◌, length}
use Rattle.std.specs.Prelude.{slice_index_or, slice_set}
use Rattle.mc_model.specs.Limits.{most_qubits, most_commands}
use Rattle.mc_model.specs.Names.{fresh_name}
use Rattle.mc_model.specs.Phase.{negated}
use Rattle.mc_model.specs.Signals.{no_signal, signal_of}
use Rattle.mc_model.specs.Pattern.{Command, Prep, Ent, Meas, FixX, Gate, J, CZ, Pattern}
use Rattle.mc_model.specs.Valid.{GatesFit, prepared, measured}

-- the qubit that stands for a wire
abbrev pub qubit_of : List ℕ → ℕ → ℕ
qubit_of at v = slice_index_or at v 0

-- what a `J` on the qubit `q` becomes
abbrev pub j_commands : ℕ → ℕ → ℕ → ℕ → List Command
j_commands half q next a =
    Prep next ∷ Ent q next ∷ Meas q (negated half a) no_signal no_signal
    ∷ FixX next (signal_of q) ∷ []

-- a `J` takes the next fresh qubit
abbrev pub with_j : ℕ → ℕ → ℕ → Pattern → Pattern
with_j half q a p = record p {
  names = p.names ++ fresh_name p.names ∷ [];
  commands = p.commands ++ j_commands half q (length p.names) a;
}

-- a gate behind a pattern so far
abbrev pub with_gate : ℕ → List ℕ → Gate → Pattern → Pattern
with_gate half at (J v a) p = with_j half (qubit_of at v) a p
with_gate half at (CZ v u) p =
    record p { commands = p.commands ++ Ent (qubit_of at v) (qubit_of at u) ∷ [] }

-- the qubits behind a gate, of which the next fresh one is `next`
abbrev pub qubits_behind : List ℕ → Gate → ℕ → List ℕ
qubits_behind at (J v a) next = slice_set at v next
qubits_behind at (CZ v u) next = at

-- the qubits that stand for the wires differ, and are below the next fresh number
pub record StandApart (wires : ℕ) (at : ℕ → ℕ) (next : ℕ) : Type 0 where
  pub below : (v : ℕ) → v < wires → at v < next
  pub apart : (v u : ℕ) → v < wires → u < wires → at v ≡ at u → v ≡ u

-- moreover these, and no others of the qubits that there are, are not measured
pub record IsStanding (wires next : ℕ) (at : ℕ → ℕ) (inputs : ℕ) (cs : List Command) : Type 0 where
  pub size : next ≡ inputs + prepared cs
  pub wires_apart : StandApart wires at next
  pub free : (v : ℕ) → v < wires → measured cs (at v) ≡ false
  pub unborn : (q : ℕ) → next ≤ q → measured cs q ≡ false
  pub others : (q : ℕ) → q < next → measured cs q ≡ false → (v : ℕ) × (v < wires) × (at v ≡ q)

-- so many fresh qubits and commands a gate takes at most
abbrev pub HasRoom : Gate → Pattern → Type 0
HasRoom (J v a) p = (length p.names < most_qubits) × (length p.commands + 4 ≤ most_commands)
HasRoom (CZ v u) p = length p.commands + 4 ≤ most_commands

-- a gate may come behind a pattern so far
pub record CanStep (at : List ℕ) (gate : Gate) (p : Pattern) : Type 0 where
  pub fits : GatesFit (length at) (gate ∷ [])
  pub standing : IsStanding (length at) (length p.names) (qubit_of at) p.inputs p.commands
  pub room : HasRoom gate p
