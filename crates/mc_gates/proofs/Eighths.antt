-- Angles of whole eighths of a turn.
use Rattle.std.proofs.Common.{◌≡◌, ℕ, zero, suc, ◌<◌, refl, arith, pos}
use Rattle.mc_angle.specs.Angle.{steps_of}

pub small_steps : (k : ℕ) → k < 8 → steps_of 4 (pos k) ≡ k
small_steps zero l = refl
small_steps (suc zero) l = refl
small_steps (suc (suc zero)) l = refl
small_steps (suc (suc (suc zero))) l = refl
small_steps (suc (suc (suc (suc zero)))) l = refl
small_steps (suc (suc (suc (suc (suc zero))))) l = refl
small_steps (suc (suc (suc (suc (suc (suc zero)))))) l = refl
small_steps (suc (suc (suc (suc (suc (suc (suc zero))))))) l = refl
small_steps (suc (suc (suc (suc (suc (suc (suc (suc v)))))))) l = absurd (omega arith)
