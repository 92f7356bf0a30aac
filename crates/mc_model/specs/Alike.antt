-- Amplitudes that agree up to one power of `w`.
use Rattle.std.specs.Prelude.{◌≡◌, ℕ, ◌*◌, ◌<◌, Bool, List}
use Rattle.mc_model.specs.Phase.{PhaseOps, turn}
use Rattle.mc_model.specs.Bits.{Bits}
use Rattle.mc_model.specs.Pattern.{Pattern, Command, Prep, Ent, Meas, FixX, FixZ}
use Rattle.mc_model.specs.Amplitude.{Amps, after, branch_map}

-- at outcomes `o` the commands `cs` do what `ds` do, up to one power of `w`, whatever stands before
-- them
pub record AlikeCommands {E : Type 0} (ops : PhaseOps E) (o : Bits) (cs ds : List Command) : Type 0
  where
    pub phase : ℕ
    pub same : (f : Amps E) (x : Bits) → after ops o cs f x ≡ turn ops phase (after ops o ds f x)

-- one power of `w` takes every entry of the second branch map, at outcomes `o'`, to that of the
-- first, at outcomes `o`
pub record AlikeBranches {E : Type 0} (ops : PhaseOps E) (p : Pattern) (o : Bits) (q : Pattern)
    (o' : Bits) : Type 0 where
  pub phase : ℕ
  pub within : phase < 2 * ops.half
  pub same : (y : List Bool) (b : Bits) →
      branch_map ops p o y b ≡ turn ops phase (branch_map ops q o' y b)

-- the qubit is no operand of the command
abbrev pub Misses : ℕ → Command → Type 0
Misses i (Prep q) = i ≡ q → ⊥
Misses i (Ent q r) = (i ≡ q → ⊥) × (i ≡ r → ⊥)
Misses i (Meas q a s t) = i ≡ q → ⊥
Misses i (FixX q s) = i ≡ q → ⊥
Misses i (FixZ q s) = i ≡ q → ⊥

-- the two commands have no operand in common
abbrev pub Disjoint : Command → Command → Type 0
Disjoint (Prep q) d = Misses q d
Disjoint (Ent q r) d = Misses q d × Misses r d
Disjoint (Meas q a s t) d = Misses q d
Disjoint (FixX q s) d = Misses q d
Disjoint (FixZ q s) d = Misses q d
