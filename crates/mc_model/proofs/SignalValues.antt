-- Signals by their values: those with one value at all outcomes are one, and the empty one is 0.
use Rattle.std.proofs.Common.{◌≡◌, ℕ, Bool, true, false, not, ◌&&◌, List, [], ◌∷◌, refl, sym, ◌∙◌}
use Rattle.std.proofs.Common.{ap₂}
use Rattle.std.proofs.lemmas.Bool.{false≢true}
use Rattle.mc_model.specs.Bits.{◌⊻◌, Bits, parity, all_zero}
use Rattle.mc_model.specs.Signals.{Signal, value, is_nil, is_empty, IsRising}
use Rattle.mc_model.proofs.BitLemmas.{xor_twice}
use Rattle.mc_model.proofs.SignalLemmas.{zero_value, same_values}

parity_value : (s : Signal) (o : Bits) → parity s.members o ≡ s.constant ⊻ value s o
unfolding value
parity_value s o = sym (xor_twice s.constant (parity s.members o))

pub same_signals : (s t : Signal) → IsRising s.members → IsRising t.members →
    ((o : Bits) → value s o ≡ value t o) → s ≡ t
same_signals s t rs rt h =
    let c : s.constant ≡ t.constant = sym (zero_value s) ∙ h all_zero ∙ zero_value t in
    let m : s.members ≡ t.members = same_values s.members t.members rs rt (λ o.
    parity_value s o ∙ ap₂ (λ (a b : Bool). a ⊻ b) c (h o) ∙ sym (parity_value t o)) in
    ap₂ (λ (ms : List ℕ) (b : Bool). record { members = ms; constant = b }) m c

empty_value : (o : Bits) (ms : List ℕ) (c : Bool) → (is_nil ms && not c) ≡ true →
    c ⊻ parity ms o ≡ false
unfolding parity
empty_value o [] false e = refl
empty_value o [] true e = absurd (false≢true e)
empty_value o (q ∷ qs) c e = absurd (false≢true e)

pub empty_signal : (o : Bits) (s : Signal) → is_empty s ≡ true → value s o ≡ false
unfolding value
empty_signal o s e = empty_value o s.members s.constant e
