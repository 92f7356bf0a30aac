-- Amplitudes of appended lists, by the last command, and phases below a whole turn.
use Rattle.std.proofs.Common.{◌≡◌, ℕ, ◌*◌, ◌%◌, ◌<◌, ◌&&◌, ◌++◌, zero, suc, Bool, cond, not, List}
use Rattle.std.proofs.Common.{[], ◌∷◌, refl, sym, ◌∙◌, ap, ap₂, arith}
use Rattle.mc_model.specs.Phase.{PhaseOps, PhaseLaws, turn}
use Rattle.mc_model.specs.Bits.{◌⊻◌, Bits}
use Rattle.mc_model.specs.Pattern.{Command, Gate}
use Rattle.mc_model.specs.Amplitude.{Amps, act, after, act_gate, after_gates, agrees, start}
use Rattle.mc_model.specs.Translation.{preparations}
use Rattle.mc_model.proofs.PhaseLemmas.{turn-modulo}

pub agrees_same : (b x y : Bits) (n : ℕ) → ((v : ℕ) → v < n → x v ≡ y v) →
    agrees n b x ≡ agrees n b y
agrees_same b x y zero agree = refl
agrees_same b x y (suc n) agree =
    ap₂ (λ (s t : Bool). not (b n ⊻ s) && t)
    (agree n (omega arith))
    (agrees_same b x y n (λ v h. agree v (omega arith)))

module _ {E : Type 0} (ops : PhaseOps E) (laws : PhaseLaws ops) where
  pub after-append : (o : Bits) (cs ds : List Command) (f : Amps E) →
      after ops o (cs ++ ds) f ≡ after ops o ds (after ops o cs f)
  unfolding after
  after-append o [] ds f = refl
  after-append o (c ∷ cs) ds f = after-append o cs ds (act ops o c f)

  pub after-preparations : (o : Bits) (q n : ℕ) (f : Amps E) → after ops o (preparations q n) f ≡ f
  unfolding after preparations act
  after-preparations o q zero f = refl
  after-preparations o q (suc n) f = after-preparations o (suc q) n f

  -- the amplitudes of a list by its last command
  pub after_last : (o : Bits) (cs : List Command) (c : Command) (f : Amps E) →
      after ops o (cs ++ (c ∷ [])) f ≡ act ops o c (after ops o cs f)
  unfolding after
  after_last o [] c f = refl
  after_last o (d ∷ cs) c f = after_last o cs c (act ops o d f)

  -- one power of `w` takes the second to the first, at every setting
  pub record AlikeAmps (f g : Amps E) : Type 0 where
    pub phase : ℕ
    pub same : (x : Bits) → f x ≡ turn ops phase (g x)

  -- one of the phases from 0 to `2 * half - 1` serves
  pub least_turns : (f g : Amps E) (h : AlikeAmps f g) →
      (k : ℕ) × (k < 2 * ops.half) × ((x : Bits) → f x ≡ turn ops k (g x))
  least_turns f g h =
      let p = laws.half_positive in (
        h.phase % (2 * ops.half),
        omega arith,
        λ x. h.same x
            ∙ sym (turn-modulo ops laws h.phase (g x)),
      )

  pub gates-append : (gs hs : List Gate) (f : Amps E) →
      after_gates ops (gs ++ hs) f ≡ after_gates ops hs (after_gates ops gs f)
  unfolding after_gates
  gates-append [] hs f = refl
  gates-append (g ∷ gs) hs f = gates-append gs hs (act_gate ops g f)

  -- the start looks at the inputs alone
  pub start_same : (b x y : Bits) (n : ℕ) → ((v : ℕ) → v < n → x v ≡ y v) →
      start ops n b x ≡ start ops n b y
  unfolding start
  start_same b x y n agree =
      ap (λ (t : Bool). cond t ops.one ops.nought) (agrees_same b x y n agree)
