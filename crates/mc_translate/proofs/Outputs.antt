-- The outputs of a translation list each qubit once that is not measured.
use Rattle.std.proofs.Common.{◌≡◌, ℕ, ◌+◌, ◌<◌, Bool, true, false, cond, not, List, [], ◌∷◌, refl}
use Rattle.std.proofs.Common.{sym, ◌∙◌, ap, ap₂, map}
use Rattle.std.specs.Prelude.{nat_eq, count_by, All}
use Rattle.std.proofs.lemmas.Bool.{eq-eqb, ne_eqb, cases_eq, true≢false}
use Rattle.std.proofs.lemmas.List.Sums.{sum_by-cons}
use Rattle.std.proofs.lemmas.List.Elements.{All-nil, All-cons, All-head, All-tail}
use mathlib.Core.Logic.{inl, inr}
use Rattle.mc_model.specs.Numbers.{ListsOnce}
use Rattle.mc_model.specs.Pattern.{Command}
use Rattle.mc_model.specs.Valid.{measured}
use Rattle.mc_translate.specs.Steps.{IsStanding}

-- a qubit that stands for a wire is listed as often as the wire
same_test : (wires : ℕ) (at : ℕ → ℕ) (v u : ℕ) →
    ((w x : ℕ) → w < wires → x < wires → at w ≡ at x → w ≡ x) →
    v < wires → u < wires → nat_eq (at v) (at u) ≡ nat_eq v u
same_test wires at v u apart lv lu = elim (cases_eq v u) [
  | inl e ↦ eq-eqb (at v) (at u) (ap at e) ∙ sym (eq-eqb v u e)
  | inr ne ↦ ne_eqb (at v) (at u) (λ e. ne (apart v u lv lu e)) ∙ sym (ne_eqb v u ne)
]

counted_through : (wires next : ℕ) (at : ℕ → ℕ) (inputs : ℕ) (cs : List Command) (v : ℕ)
    (us : List ℕ) →
    IsStanding wires next at inputs cs → v < wires → All (λ u. u < wires) us →
    count_by (nat_eq (at v)) (map at us) ≡ count_by (nat_eq v) us
counted_through wires next at inputs cs v [] h lt below = refl
counted_through wires next at inputs cs v (u ∷ us) h lt below =
    let here = same_test wires at v u h.wires_apart.apart lt (All-head (λ w. w < wires) u us below) in
    let below_us = All-tail (λ w. w < wires) u us below in
    let rest = counted_through wires next at inputs cs v us h lt below_us in
    sum_by-cons (λ q. cond (nat_eq (at v) q) 1 0) (at u) (map at us)
    ∙ ap₂ (λ (b : Bool) (n : ℕ). cond b 1 0 + n) here rest
    ∙ sym (sum_by-cons (λ q. cond (nat_eq v q) 1 0) u us)

-- a measured qubit stands for no wire
not_counted : (wires next : ℕ) (at : ℕ → ℕ) (inputs : ℕ) (cs : List Command) (q : ℕ) (us : List ℕ) →
    IsStanding wires next at inputs cs → measured cs q ≡ true → All (λ u. u < wires) us →
    count_by (nat_eq q) (map at us) ≡ 0
not_counted wires next at inputs cs q [] h gone below = refl
not_counted wires next at inputs cs q (u ∷ us) h gone below =
    let free = h.free u (All-head (λ w. w < wires) u us below) in
    let other : q ≡ at u → ⊥ = λ e. true≢false (sym gone ∙ ap (measured cs) e ∙ free) in
    let below_us = All-tail (λ w. w < wires) u us below in
    let rest = not_counted wires next at inputs cs q us h gone below_us in
    sum_by-cons (λ r. cond (nat_eq q r) 1 0) (at u) (map at us)
    ∙ ap₂ (λ (b : Bool) (n : ℕ). cond b 1 0 + n) (ne_eqb q (at u) other) rest

all_below : (wires next : ℕ) (at : ℕ → ℕ) (inputs : ℕ) (cs : List Command) (us : List ℕ) →
    IsStanding wires next at inputs cs → All (λ u. u < wires) us → All (λ q. q < next) (map at us)
all_below wires next at inputs cs [] h below = All-nil (λ q. q < next)
all_below wires next at inputs cs (u ∷ us) h below =
    All-cons (λ q. q < next) (at u) (map at us)
    (h.wires_apart.below u (All-head (λ w. w < wires) u us below))
    (all_below wires next at inputs cs us h (All-tail (λ w. w < wires) u us below))

counted : (wires next : ℕ) (at : ℕ → ℕ) (inputs : ℕ) (cs : List Command) (us : List ℕ)
    (q : ℕ) (b : Bool) →
    measured cs q ≡ b → IsStanding wires next at inputs cs → ListsOnce wires (λ v. true) us →
    q < next →
    count_by (nat_eq q) (map at us) ≡ cond (not (measured cs q)) 1 0
counted wires next at inputs cs us q true m h once lt =
    not_counted wires next at inputs cs q us h m once.below
    ∙ ap (λ (b : Bool). cond (not b) 1 0) (sym m)
counted wires next at inputs cs us q false m h once lt =
    let w = h.others q lt m in
    ap (λ (r : ℕ). count_by (nat_eq r) (map at us)) (sym w.2)
    ∙ counted_through wires next at inputs cs w.0 us h w.1 once.below
    ∙ once.once w.0 w.1
    ∙ ap (λ (b : Bool). cond (not b) 1 0) (sym m)

pub outputs_listed : (wires next : ℕ) (at : ℕ → ℕ) (inputs : ℕ) (cs : List Command) (us : List ℕ) →
    IsStanding wires next at inputs cs → ListsOnce wires (λ v. true) us →
    ListsOnce next (λ q. not (measured cs q)) (map at us)
outputs_listed wires next at inputs cs us h once = record {
  below = all_below wires next at inputs cs us h once.below;
  once = λ q lt. counted wires next at inputs cs us q (measured cs q) refl h once lt;
}
