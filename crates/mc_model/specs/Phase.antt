-- What amplitudes need of a ring with an element `w` for which `w ^ half = -1`: a sum, and products
-- by powers of `w`.
use Rattle.std.specs.Prelude.{◌≡◌, ℕ, zero, suc, ◌+◌, ◌-◌, ◌*◌, ◌%◌, ◌<◌, Bool, cond}

-- the operations: `rotate` multiplies by `w`
pub record PhaseOps (E : Type 0) : Type 0 where
  pub nought : E
  pub one : E
  pub add : E → E → E
  pub neg : E → E
  pub rotate : E → E
  pub half : ℕ

-- the element times `w ^ k`
unfoldable pub turn : {E : Type 0} → PhaseOps E → ℕ → E → E
turn ops zero x = x
turn ops (suc k) x = ops.rotate (turn ops k x)

-- the element times -1 to the bit
abbrev pub sign : {E : Type 0} → PhaseOps E → Bool → E → E
sign ops b x = cond b (ops.neg x) x

-- the element times `2 ^ m`
unfoldable pub doubled : {E : Type 0} → PhaseOps E → ℕ → E → E
doubled ops zero x = x
doubled ops (suc m) x = ops.add (doubled ops m x) (doubled ops m x)

-- the angle that undoes `a`, in steps modulo a whole turn of `2 * half`
unfoldable pub negated : ℕ → ℕ → ℕ
negated half a = (2 * half - a % (2 * half)) % (2 * half)

-- the angle at which a measurement with base angle `a` measures, by the values of its signals
abbrev pub measured_angle : ℕ → ℕ → Bool → Bool → ℕ
measured_angle half a s t = cond s (negated half a) a + cond t half 0

-- the laws: an abelian group, a rotation that keeps sums, and half a turn negates
pub record PhaseLaws {E : Type 0} (ops : PhaseOps E) : Type 0 where
  pub add_assoc : (x y z : E) → ops.add (ops.add x y) z ≡ ops.add x (ops.add y z)
  pub add_comm : (x y : E) → ops.add x y ≡ ops.add y x
  pub add_nought : (x : E) → ops.add x ops.nought ≡ x
  pub add_neg : (x : E) → ops.add x (ops.neg x) ≡ ops.nought
  pub rotate_add : (x y : E) → ops.rotate (ops.add x y) ≡ ops.add (ops.rotate x) (ops.rotate y)
  pub half_turn : (x : E) → turn ops ops.half x ≡ ops.neg x
  pub half_positive : 0 < ops.half
