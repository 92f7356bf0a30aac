-- Sample circuits are within the limit of qubits.
use Rattle.std.proofs.Common.{◌≡◌, ℕ, zero, suc, ◌+◌, ◌<◌, ◌≤◌, refl, arith}
use Rattle.mc_model.specs.Amplitude.{j_count}
use Rattle.mc_model.specs.Translation.{qubit_count}
use Rattle.mc_sample.specs.Generator.{gates_behind, next_number, sample_circuit}

-- a `J` for each number
j_behind : (x n : ℕ) → j_count (gates_behind x n) ≡ n
unfolding j_count gates_behind
j_behind x zero = refl
j_behind x (suc n) = let h = j_behind (next_number x) n in omega arith

pub sample_qubits : (n : ℕ) → qubit_count (sample_circuit n) ≡ 8 + n
unfolding sample_circuit
sample_qubits n = let h = j_behind n n in omega arith

pub sample_fits : (n : ℕ) → n ≤ 200 → 256 < qubit_count (sample_circuit n) → ⊥
sample_fits n few past = let e = sample_qubits n in absurd (omega arith)
