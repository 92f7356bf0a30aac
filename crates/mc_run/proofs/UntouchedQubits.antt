-- Amplitudes that ignore a qubit, behind a command that does not touch it.
use Rattle.std.proofs.Common.{◌≡◌, ℕ, Bool, true, false, List, ◌&&◌, ◌≤◌, ◌+◌, sym, ap, ap₂, ◌∙◌}
use Rattle.std.proofs.Common.{arith}
use Rattle.mc_model.specs.Phase.{PhaseOps, turn, sign, negated, measured_angle}
use Rattle.mc_model.specs.Bits.{◌⊻◌, Bits, replaced}
use Rattle.mc_model.specs.Signals.{value}
use Rattle.mc_model.specs.Pattern.{Command, Prep, Ent, Meas, FixX, FixZ}
use Rattle.mc_model.specs.Amplitude.{Amps, act}
use Rattle.mc_model.specs.Alike.{Misses}
use Rattle.mc_model.specs.Valid.{FitsBehind, prepared}
use Rattle.mc_model.proofs.BitLemmas.{replaced_other, replaced_swap}
use Rattle.mc_run.specs.Branches.{Ignores}

-- how many qubits a command prepares
abbrev pub grows : Command → ℕ
grows (Prep q) = 1
grows (Ent q r) = 0
grows (Meas q a s t) = 0
grows (FixX q s) = 0
grows (FixZ q s) = 0

-- a qubit that is not there behind a command is none of its operands
pub fits_miss : (inputs : ℕ) (before : List Command) (c : Command) (r : ℕ) →
    FitsBehind inputs before c → inputs + (prepared before + grows c) ≤ r → Misses r c
fits_miss inputs before (Prep q) r fits h = λ e. omega (arith, e, fits)
fits_miss inputs before (Ent q s) r fits h =
    (λ e. omega (arith, e, fits.0.is_there), λ e. omega (arith, e, fits.1.is_there))
fits_miss inputs before (Meas q a s t) r fits h = λ e. omega (arith, e, fits.0.is_there)
fits_miss inputs before (FixX q s) r fits h = λ e. omega (arith, e, fits.0.is_there)
fits_miss inputs before (FixZ q s) r fits h = λ e. omega (arith, e, fits.0.is_there)

module _ {E : Type 0} (ops : PhaseOps E) (o : Bits) where
  other : (x : Bits) (r q : ℕ) (b : Bool) → (r ≡ q → ⊥) → replaced x r b q ≡ x q
  other x r q b ne = replaced_other x r b q (λ e. ne (sym e))

  pub act_ignores : (c : Command) (f : Amps E) (r : ℕ) → Misses r c → Ignores f r →
      Ignores (act ops o c f) r
  unfolding act
  act_ignores (Prep q) f r ne h = λ x b. h x b
  act_ignores (Ent q s) f r ne h = λ x b.
      ap₂ (λ c d. sign ops (c && d) (f (replaced x r b))) (other x r q b ne.0) (other x r s b ne.1)
      ∙ ap (sign ops (x q && x s)) (h x b)
  act_ignores (FixX q s) f r ne h = λ x b.
      ap (λ c. f (replaced (replaced x r b) q (c ⊻ value s o))) (other x r q b ne)
      ∙ ap f (replaced_swap x r q b (x q ⊻ value s o) ne)
      ∙ h (replaced x q (x q ⊻ value s o)) b
  act_ignores (FixZ q s) f r ne h = λ x b.
      ap (λ c. sign ops (c && value s o) (f (replaced x r b))) (other x r q b ne)
      ∙ ap (sign ops (x q && value s o)) (h x b)
  act_ignores (Meas q a s t) f r ne h = λ x b.
      let at : (c : Bool) → f (replaced (replaced x r b) q c) ≡ f (replaced x q c) =
      λ c. ap f (replaced_swap x r q b c ne) ∙ h (replaced x q c) b in
      ap₂ (λ y z. ops.add y
      (turn ops (negated ops.half (measured_angle ops.half a (value s o) (value t o)))
      (sign ops (o q) z))) (at false) (at true)
