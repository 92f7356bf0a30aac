-- Places that spell bits on the outputs.
use Rattle.std.proofs.Common.{◌≡◌, ℕ, suc, ◌-◌, ◌/◌, ◌^◌, ◌<◌, ◌≤◌, Bool, List, [], ◌∷◌}
use Rattle.std.proofs.Common.{length}
use Rattle.std.proofs.Common.{get_or, take, drop, refl, ap, ap₂, ◌∙◌, arith}
use Rattle.std.specs.Prelude.{All}
use Rattle.std.proofs.lemmas.Nat.{pow_pos}
use Rattle.std.proofs.lemmas.List.Elements.{All-head, All-tail}
use Rattle.std.proofs.lemmas.List.{take_all}
use Rattle.mc_model.specs.Bits.{all_zero, replaced}
use Rattle.mc_model.specs.Amplitude.{placed}
use Rattle.mc_model.proofs.BitLemmas.{replaced_itself}
use Rattle.mc_run.specs.Settings.{is_odd, setting, spelled, weight, digit, with_digit}
use Rattle.mc_run.specs.Settings.{place_spelled}
use Rattle.mc_run.specs.Gates.{IsLiving}
use Rattle.mc_run.proofs.Digits.{setting_with, with_below}

setting_none : (live : List ℕ) → setting live 0 ≡ all_zero
setting_none [] = refl
setting_none (q ∷ qs) =
    ap (λ x. replaced x q (is_odd 0)) (setting_none qs) ∙ replaced_itself all_zero q

pub spelled_setting : (live qs : List ℕ) (y : ℕ) → All (IsLiving live) qs →
    setting live (place_spelled live qs y) ≡ placed qs (spelled (length qs) y)
unfolding placed
spelled_setting live [] y all = setting_none live
spelled_setting live (q ∷ qs) y all =
    let b : Bool = is_odd (y / 2 ^ length qs) in
    setting_with live q b (place_spelled live qs y) (All-head (IsLiving live) q qs all)
    ∙ ap (λ x. replaced x q b) (spelled_setting live qs y (All-tail (IsLiving live) q qs all))

pub spelled_below : (live qs : List ℕ) (y : ℕ) → All (IsLiving live) qs →
    place_spelled live qs y < 2 ^ length live
spelled_below live [] y all = pow_pos (length live)
spelled_below live (q ∷ qs) y all =
    with_below live q (is_odd (y / 2 ^ length qs)) (place_spelled live qs y)
    (All-head (IsLiving live) q qs all)
    (spelled_below live qs y (All-tail (IsLiving live) q qs all))

-- one qubit more, as a slice's pattern tells the parts
pub spelled_step : (live qubits : List ℕ) (y w p n r : ℕ) (b : Bool) → 1 ≤ length qubits →
    w ≡ weight live (get_or qubits 0 0) →
    n ≡ 2 ^ length (take (length qubits - 1) (drop 1 qubits)) → b ≡ digit n y →
    p ≡ place_spelled live (take (length qubits - 1) (drop 1 qubits)) y →
    r ≡ with_digit w b p → r ≡ place_spelled live qubits y
spelled_step live [] y w p n r b some e f g h i = absurd (omega arith)
spelled_step live (q ∷ qs) y w p n r b some e f g h i =
    let whole : take (suc (length qs) - 1) qs ≡ qs = take_all _ _ (omega arith) in
    let bit : b ≡ is_odd (y / 2 ^ length qs) =
    g ∙ ap (λ m. digit m y) (f ∙ ap (λ t. 2 ^ length t) whole) in
    let place : p ≡ place_spelled live qs y = h ∙ ap (λ t. place_spelled live t y) whole in
    i ∙ ap₂ (λ m c. with_digit m c p) e bit
    ∙ ap (with_digit (weight live q) (is_odd (y / 2 ^ length qs))) place
