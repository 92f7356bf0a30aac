-- Outcomes are set from the last of the listed qubits to the first.
use Rattle.std.proofs.Common.{◌≡◌, ℕ, ◌+◌, ◌-◌, ◌<◌, ◌≤◌, Bool, false, List, [], ◌∷◌, length}
use Rattle.std.proofs.Common.{drop}
use Rattle.std.proofs.Common.{get_or, refl, sym, ap, ap₂, ◌∙◌, arith}
use Rattle.std.proofs.lemmas.List.{drop_more}
use Rattle.mc_model.specs.Bits.{Bits, all_zero, replaced}
use Rattle.mc_model.specs.Amplitude.{placed}

pub none_left : (qubits : List ℕ) (outcomes : List Bool) →
    placed (drop (length qubits) qubits) outcomes ≡ all_zero
unfolding placed
none_left [] outcomes = refl
none_left (q ∷ qubits) outcomes = none_left qubits outcomes

placed_first : (q : ℕ) (qubits : List ℕ) (y : Bool) (outcomes : List Bool) →
    placed (q ∷ qubits) (y ∷ outcomes) ≡ replaced (placed qubits outcomes) q y
unfolding placed
placed_first q qubits y outcomes = refl

pub one_left : (qubits : List ℕ) (outcomes : List Bool) (left : ℕ) (old new : Bits) →
    0 < left → left ≤ length qubits → length qubits ≡ length outcomes →
    old ≡ placed (drop left qubits) (drop left outcomes) →
    new ≡ replaced old (get_or qubits (left - 1) 0) (get_or outcomes (left - 1) false) →
    new ≡ placed (drop (left - 1) qubits) (drop (left - 1) outcomes)
one_left qubits outcomes left old new some within same e h =
    let q : ℕ = get_or qubits (left - 1) 0 in
    let y : Bool = get_or outcomes (left - 1) false in
    let s : left - 1 + 1 ≡ left = omega arith in
    h
    ∙ ap (λ x. replaced x q y) (e ∙ ap (λ n. placed (drop n qubits) (drop n outcomes)) (sym s))
    ∙ sym (placed_first q (drop (left - 1 + 1) qubits) y (drop (left - 1 + 1) outcomes))
    ∙ sym (ap₂ placed (drop_more qubits (left - 1) 0 (omega arith))
    (drop_more outcomes (left - 1) false (omega arith)))
