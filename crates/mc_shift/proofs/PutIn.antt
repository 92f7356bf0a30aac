-- Signals whose members have their own signals added.
use Rattle.std.proofs.Common.{◌≡◌, ℕ, ◌+◌, ◌<◌, Bool, true, List, [], ◌∷◌, ◌++◌, refl, sym, ◌∙◌}
use Rattle.std.proofs.Common.{ap}
use Rattle.std.proofs.Common.{ap₂, arith, length, take, set, get_or, get_or-set_same}
use Rattle.std.proofs.Common.{get_or-set_other}
use Rattle.std.specs.Prelude.{Some, slice_get}
use Rattle.std.proofs.lemmas.Bool.{eq-eqb, ne_eqb, cases_eq}
use Rattle.std.proofs.lemmas.Option.{unwrap_or-slice_get, slice_get_within, get_or_from_slice_get}
use Rattle.std.proofs.lemmas.List.{take_more, get_or_default}
use mathlib.Core.Path.{fun_ext}
use mathlib.Core.Logic.{inl, inr}
use Rattle.mc_model.specs.Bits.{◌⊻◌, Bits, replaced, parity}
use Rattle.mc_model.specs.Signals.{Signal, Signals, value, no_signal, signal_sum, IsRising}
use Rattle.mc_model.specs.Valid.{AllDone}
use Rattle.mc_model.specs.Shift.{ChangeRow, new_outcomes, IsShiftedSignal}
use Rattle.mc_model.proofs.BitLemmas.{xor_assoc, xor_false}
use Rattle.mc_model.proofs.SignalLemmas.{value-sum, reset}
use Rattle.mc_shift.specs.Shifts.{signals_of, with_values, IsPutIn, TellsOld}
use Rattle.mc_shift.proofs.NewOutcomes.{value-agree}

-- ---- the loop over the members

parity-append : (qs rs : List ℕ) (o : Bits) → parity (qs ++ rs) o ≡ parity qs o ⊻ parity rs o
unfolding parity
parity-append [] rs o = refl
parity-append (q ∷ qs) rs o =
    ap (λ (b : Bool). o q ⊻ b) (parity-append qs rs o)
    ∙ sym (xor_assoc (o q) (parity qs o) (parity rs o))

parity-one : (q : ℕ) (o : Bits) → parity (q ∷ []) o ≡ o q
unfolding parity
parity-one q o = xor_false (o q)

four_bits : (a b c d : Bool) → (a ⊻ b) ⊻ (c ⊻ d) ≡ (a ⊻ c) ⊻ (b ⊻ d)
four_bits a b c d = grind arith

parity-sum : (qs : List ℕ) (o x : Bits) →
    parity qs o ⊻ parity qs x ≡ parity qs (λ q. o q ⊻ x q)
unfolding parity
parity-sum [] o x = refl
parity-sum (q ∷ qs) o x =
    four_bits (o q) (parity qs o) (x q) (parity qs x)
    ∙ ap (λ (b : Bool). (o q ⊻ x q) ⊻ b) (parity-sum qs o x)

-- one more member
pub sum_more : (d : Signals) (s sum more : Signal) (qs : List ℕ) (q : ℕ) (o : Bits) →
    more ≡ signal_sum sum (d q) →
    value sum o ≡ value s o ⊻ parity qs (λ k. value (d k) o) →
    value more o ≡ value s o ⊻ parity (qs ++ (q ∷ [])) (λ k. value (d k) o)
sum_more d s sum more qs q o e h =
    let x : Bits = λ k. value (d k) o in
    ap (λ (u : Signal). value u o) e
    ∙ value-sum sum (d q) o
    ∙ ap₂ (λ (a b : Bool). a ⊻ b) h (sym (parity-one q x))
    ∙ xor_assoc (value s o) (parity qs x) (parity (q ∷ []) x)
    ∙ ap (λ (b : Bool). value s o ⊻ b) (sym (parity-append qs (q ∷ []) x))

-- all members
pub sum_all : (d : Signals) (s sum : Signal) → IsRising sum.members →
    ((o : Bits) → value sum o ≡ value s o ⊻ parity s.members (λ k. value (d k) o)) →
    IsPutIn d s sum
unfolding value
sum_all d s sum rising h = record {
  is_set = rising;
  same_value = λ o.
      h o
      ∙ xor_assoc s.constant (parity s.members o) (parity s.members (λ k. value (d k) o))
      ∙ ap (λ (b : Bool). s.constant ⊻ b) (parity-sum s.members o (λ k. value (d k) o));
}

-- ---- what is told at the new outcomes

pub signal_put : (rows : List ChangeRow) (done : Bits) (d : Signals) (s r : Signal) →
    TellsOld rows done d → IsPutIn d s r → AllDone done s.members → IsShiftedSignal rows s r
signal_put rows done d s r told put all = record {
  is_set = put.is_set;
  same_value = λ o.
      put.same_value (new_outcomes rows o)
      ∙ value-agree done s (with_values d (new_outcomes rows o)) o (λ k h. told.at o k h) all;
}

undone : (a b : Bool) → (a ⊻ b) ⊻ b ≡ a
undone a b = grind arith

-- one more qubit is measured
pub tells_more : (rows : List ChangeRow) (done : Bits) (d : Signals) (i : ℕ) (t r : Signal) →
    TellsOld rows done d → IsPutIn d t r → AllDone done t.members →
    ((o : Bits) → new_outcomes rows o i ≡ o i ⊻ value t o) →
    TellsOld rows (replaced done i true) (reset d i r)
tells_more rows done d i t r told put all change = record {
  at = λ o q h. elim (cases_eq q i) [
    | inl e ↦
        rw (
          e,
          eq-eqb i i refl,
          (signal_put rows done d t r told put all).same_value o,
          change o,
        ) (undone (o i) (value t o))
    | inr ne ↦ rw (ne_eqb q i ne) (told.at o q (rw (ne_eqb q i ne) at h))
  ];
}

-- the signals of a list with one of its members replaced
pub signals_set : (shifts : List Signal) (i : ℕ) (r : Signal) → i < length shifts →
    signals_of (set shifts i r) ≡ reset (signals_of shifts) i r
signals_set shifts i r within = fun_ext λ k.
    unwrap_or-slice_get (set shifts i r) k no_signal ∙ elim (cases_eq k i) [
      | inl e ↦ rw (e, eq-eqb i i refl) (get_or-set_same shifts i r no_signal within)
      | inr ne ↦
          rw (ne_eqb k i ne)
          (get_or-set_other shifts i k r no_signal ne ∙ sym (unwrap_or-slice_get shifts k no_signal))
    ]

pub sum_start : (d : Signals) (s sum : Signal) → sum ≡ s → (o : Bits) →
    value sum o ≡ value s o ⊻ parity [] (λ k. value (d k) o)
unfolding parity
sum_start d s sum e o = ap (λ (u : Signal). value u o) e ∙ sym (xor_false (value s o))

-- the signal that a read of the list gives
pub signal_read : (shifts : List Signal) (q : ℕ) (r : Signal) → q < length shifts →
    r ≡ get_or shifts q r → r ≡ signals_of shifts q
signal_read shifts q r within e =
    e
    ∙ get_or_default shifts q r no_signal within
    ∙ sym (unwrap_or-slice_get shifts q no_signal)

-- the members so far and the next one
pub next_member : (qs : List ℕ) (i q : ℕ) → slice_get qs i ≡ Some q →
    take (i + 1) qs ≡ take i qs ++ (q ∷ [])
next_member qs i q e =
    take_more qs i 0 (slice_get_within qs i q e)
    ∙ ap (λ (r : ℕ). take i qs ++ (r ∷ [])) (get_or_from_slice_get qs i q 0 e)
