-- How many qubits and commands two patterns have as one.
use Rattle.std.proofs.Common.{◌≡◌, ℕ, ◌+◌, ◌-◌, ◌∙◌, sym, ap₂, length, length-append, drop, arith}
use Rattle.std.proofs.Common.{List}
use Rattle.std.proofs.Common.{◌≤◌, None}
use Rattle.std.proofs.lemmas.Bool.{cases_lt, lt-ltb, le-ltb}
use Rattle.std.proofs.lemmas.List.{length-drop}
use mathlib.Core.Logic.{inl, inr}
use Rattle.mc_model.specs.Pattern.{Pattern}
use Rattle.mc_compose.specs.Composed.{chained, side_by_side, free_names}
use Rattle.mc_compose.specs.Limits.{first_limit, pattern_limit}
use Rattle.mc_compose.proofs.FreeNames.{length-free_names}
use Rattle.mc_compose.proofs.ValidPatterns.{chain_size, side_size, length-ordered}

chain_qubits : (first second : Pattern) →
    length (chained first second).names
    ≡ length first.names + (length second.names - second.inputs)
unfolding chained
chain_qubits first second =
    let others : List (List ℕ) = drop second.inputs second.names in
    let short = length-drop second.inputs second.names in
    let long = length-append first.names (free_names first.names others) in
    let same = length-free_names first.names others in
    omega arith

side_qubits : (first second : Pattern) →
    length (side_by_side first second).names ≡ length first.names + length second.names
unfolding side_by_side
side_qubits first second = length-ordered first.inputs second.inputs first.names second.names

-- the limits by what the parts have
pub chain_limit : (first second : Pattern) (qubits commands : ℕ) →
    qubits ≡ length first.names + (length second.names - second.inputs) →
    commands ≡ length first.commands + length second.commands →
    first_limit qubits commands ≡ pattern_limit (chained first second)
chain_limit first second qubits commands q c =
    ap₂ first_limit (q ∙ sym (chain_qubits first second)) (c ∙ sym (chain_size first second))

pub side_limit : (first second : Pattern) (qubits commands : ℕ) →
    qubits ≡ length first.names + length second.names →
    commands ≡ length first.commands + length second.commands →
    first_limit qubits commands ≡ pattern_limit (side_by_side first second)
side_limit first second qubits commands q c =
    ap₂ first_limit (q ∙ sym (side_qubits first second)) (c ∙ sym (side_size first second))

-- within the limits the numbers are low
limits_kept : (qubits commands : ℕ) → first_limit qubits commands ≡ None →
    (qubits ≤ 256) × (commands ≤ 262144)
limits_kept qubits commands e = elim (cases_lt 256 qubits) [
  | inl lt ↦ absurd (cc (rw (lt-ltb 256 qubits lt) at e))
  | inr few ↦ elim (cases_lt 262144 commands) [
    | inl lt ↦ absurd (cc (rw (le-ltb 256 qubits few, lt-ltb 262144 commands lt) at e))
    | inr short ↦ (few, short)
  ]
]

pub chain_within : (first second : Pattern) → pattern_limit (chained first second) ≡ None →
    (length first.names + (length second.names - second.inputs) ≤ 256)
    × (length first.commands + length second.commands ≤ 262144)
chain_within first second e =
    let whole : Pattern = chained first second in
    let kept = limits_kept (length whole.names) (length whole.commands) e in
    let few = kept.0 in
    let short = kept.1 in
    let names = chain_qubits first second in
    let size = chain_size first second in (omega arith, omega arith)

pub side_within : (first second : Pattern) → pattern_limit (side_by_side first second) ≡ None →
    (length first.names + length second.names ≤ 256)
    × (length first.commands + length second.commands ≤ 262144)
side_within first second e =
    let whole : Pattern = side_by_side first second in
    let kept = limits_kept (length whole.names) (length whole.commands) e in
    let few = kept.0 in
    let short = kept.1 in
    let names = side_qubits first second in
    let size = side_size first second in (omega arith, omega arith)
