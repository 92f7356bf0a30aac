-- Names and angles by numbers below eight, and lists of gates that are made number by number.
use Rattle.std.proofs.Common.{◌≡◌, ℕ, zero, suc, ◌+◌, ◌-◌, ◌<◌, ◌≤◌, List, [], ◌∷◌, ◌++◌, map}
use Rattle.std.proofs.Common.{refl, sym, ◌∙◌, ap, append_assoc, append-nil, arith, pos}
use Rattle.std.proofs.lemmas.List.{map-append}
use Rattle.mc_model.specs.Numbers.{numbers_from}
use Rattle.mc_model.specs.Pattern.{Gate}
use Rattle.mc_model.proofs.NumberLists.{numbers_below-last}
use Rattle.mc_angle.specs.Angle.{steps_of}
use Rattle.mc_sample.specs.Generator.{next_number, gates_by, gates_behind, wire_name}

-- what holds of 0 to 7
by_cases : (P : ℕ → Type 0) → P 0 → P 1 → P 2 → P 3 → P 4 → P 5 → P 6 → P 7 → (v : ℕ) → v < 8 → P v
by_cases P a b c d e f g h zero l = a
by_cases P a b c d e f g h (suc zero) l = b
by_cases P a b c d e f g h (suc (suc zero)) l = c
by_cases P a b c d e f g h (suc (suc (suc zero))) l = d
by_cases P a b c d e f g h (suc (suc (suc (suc zero)))) l = e
by_cases P a b c d e f g h (suc (suc (suc (suc (suc zero))))) l = f
by_cases P a b c d e f g h (suc (suc (suc (suc (suc (suc zero)))))) l = g
by_cases P a b c d e f g h (suc (suc (suc (suc (suc (suc (suc zero))))))) l = h
by_cases P a b c d e f g h (suc (suc (suc (suc (suc (suc (suc (suc v)))))))) l = absurd (omega arith)

pub small_steps : (k : ℕ) → k < 8 → steps_of 4 (pos k) ≡ k
small_steps = by_cases (λ k. steps_of 4 (pos k) ≡ k) refl refl refl refl refl refl refl refl

-- ---- one more

pub names_more : (n : ℕ) → map wire_name (numbers_from 0 (n + 1)) ≡ map wire_name (numbers_from 0 n) ++ wire_name n ∷ []
names_more n =
    let more : n + 1 ≡ suc n = omega arith in
    ap (λ (k : ℕ). map wire_name (numbers_from 0 k)) more
    ∙ ap (map wire_name) (numbers_below-last n)
    ∙ map-append wire_name (numbers_from 0 n) (n ∷ [])

pub gates_more : (x n step : ℕ) (gates whole : List Gate) → step < n →
    gates ++ gates_behind x (n - step) ≡ whole →
    (gates ++ gates_by (next_number x)) ++ gates_behind (next_number x) (n - (step + 1)) ≡ whole
unfolding gates_behind
gates_more x n step gates whole l e =
    let more : suc (n - (step + 1)) ≡ n - step = omega arith in
    append_assoc gates (gates_by (next_number x)) (gates_behind (next_number x) (n - (step + 1)))
    ∙ ap (λ (k : ℕ). gates ++ gates_behind x k) more
    ∙ e

pub gates_end : (x n step : ℕ) (gates whole : List Gate) → n ≤ step →
    gates ++ gates_behind x (n - step) ≡ whole → gates ≡ whole
unfolding gates_behind
gates_end x n step gates whole l e =
    let none : 0 ≡ n - step = omega arith in
    sym (append-nil gates) ∙ ap (λ (k : ℕ). gates ++ gates_behind x k) none ∙ e
