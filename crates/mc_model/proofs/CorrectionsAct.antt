-- What the corrections and the preparations of a standard form do to amplitudes.
use Rattle.std.proofs.Common.{◌≡◌, ℕ, ◌&&◌, List, [], ◌∷◌, ◌++◌, refl}
use Rattle.std.proofs.lemmas.Bool.{cases_Bool}
use mathlib.Core.Logic.{inl, inr}
use Rattle.mc_model.specs.Phase.{PhaseOps, sign}
use Rattle.mc_model.specs.Bits.{◌⊻◌, Bits, replaced}
use Rattle.mc_model.specs.Signals.{Signal, value, is_empty}
use Rattle.mc_model.specs.Pattern.{Command, Prep, Ent, Meas, FixX, FixZ}
use Rattle.mc_model.specs.Amplitude.{Amps, act, after}
use Rattle.mc_model.specs.StandardForm.{preparations_of, fix_x, fix_z}
use Rattle.mc_model.proofs.BitLemmas.{xor_false, replaced_itself}
use Rattle.mc_model.proofs.OddSums.{and_false}
use Rattle.mc_model.proofs.SignalValues.{empty_signal}

module _ {E : Type 0} (ops : PhaseOps E) (o : Bits) where
  -- corrections act as a frame
  pub fix_x_acts : (q : ℕ) (s : Signal) (f : Amps E) (x : Bits) →
      after ops o (fix_x q s) f x ≡ f (replaced x q (x q ⊻ value s o))
  unfolding after act
  fix_x_acts q s f x = elim (cases_Bool (is_empty s)) [
    | inl e ↦ rw (e, empty_signal o s e, xor_false (x q), replaced_itself x q)
    | inr e ↦ rw e
  ]

  pub fix_z_acts : (q : ℕ) (s : Signal) (f : Amps E) (x : Bits) →
      after ops o (fix_z q s) f x ≡ sign ops (x q && value s o) (f x)
  unfolding after act
  fix_z_acts q s f x = elim (cases_Bool (is_empty s)) [
    | inl e ↦ rw (e, empty_signal o s e, and_false (x q))
    | inr e ↦ rw e
  ]

  -- preparations change no amplitude
  pub preparations_act : (cs ds : List Command) (f : Amps E) →
      after ops o (preparations_of cs ++ ds) f ≡ after ops o ds f
  unfolding after act preparations_of
  preparations_act [] ds f = refl
  preparations_act (Prep q ∷ cs) ds f = preparations_act cs ds f
  preparations_act (Ent q r ∷ cs) ds f = preparations_act cs ds f
  preparations_act (Meas q a s t ∷ cs) ds f = preparations_act cs ds f
  preparations_act (FixX q s ∷ cs) ds f = preparations_act cs ds f
  preparations_act (FixZ q s ∷ cs) ds f = preparations_act cs ds f
