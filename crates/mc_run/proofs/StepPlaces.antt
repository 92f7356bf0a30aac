-- The places that a step takes from are there, and its sums stay low.
use Rattle.std.proofs.Common.{◌≡◌, ℕ, ◌+◌, ◌^◌, ◌<◌, ◌≤◌, Bool, true, false, ℤ, List, length, sym}
use Rattle.std.proofs.Common.{subst, ap, ◌∙◌, arith}
use Rattle.std.proofs.Math.Nat.{two-pow-succ, pow-suc}
use Rattle.mc_model.specs.Bits.{Bits}
use Rattle.mc_model.specs.Numbers.{is_member}
use Rattle.mc_model.specs.Pattern as plain
use Rattle.mc_run.specs.Settings.{weight, with_digit, with_more, without}
use Rattle.mc_run.specs.Sources.{entry, source, CanTake, ArePairs, IsLongFor}
use Rattle.mc_run.specs.Gates.{gate_step, IsGateReady, AreLow, IsLowFor, IsLowBefore, command_step}
use Rattle.mc_run.specs.Gates.{live_behind, IsReady}
use Rattle.mc_run.proofs.Digits.{with_below, more_below, length-without}
use Rattle.mc_run.proofs.Pairs.{live_pairs}

module _ (height : List ℤ → ℕ) (half : ℕ) (live : List ℕ) (v : List (List ℤ))
    (long : length v ≡ 2 ^ length live) where
  both_low : AreLow height v → (i j : ℕ) → i < length v → j < length v →
      (i < length v) × (j < length v) × (height (entry v i) + height (entry v j) ≤ 2 ^ 60)
  both_low low i j h k = let a = low i h in let b = low j k in (h, k, omega arith)

  with_there : (q i : ℕ) (b : Bool) → is_member live q ≡ true → i < 2 ^ length live →
      with_digit (weight live q) b i < length v
  with_there q i b m h =
      subst (λ n. with_digit (weight live q) b i < n) (sym long) (with_below live q b i m h)

  more_there : (q i : ℕ) (b : Bool) → is_member live q ≡ true →
      i < 2 ^ length (without live q) → with_more (weight live q) b i < length v
  more_there q i b m h =
      subst (λ n. with_more (weight live q) b i < n) (sym long) (more_below live q b i m h)

  pub gate_there : (gate : plain.Gate) → IsGateReady live gate → IsLowFor height v gate →
      (i : ℕ) → i < 2 ^ length live → CanTake height v (source half (gate_step live gate) i)
  gate_there (plain.J q a) ready low i h =
      both_low low _ _ (with_there q i false ready h) (with_there q i true ready h)
  gate_there (plain.CZ q r) ready low i h = omega arith

  pub gate_long : (gate : plain.Gate) → IsGateReady live gate →
      IsLongFor (gate_step live gate) (length v) (2 ^ length live)
  gate_long (plain.J q a) ready =
      (long, subst (λ n. ArePairs n (weight live q)) (sym long) (live_pairs live q ready))
  gate_long (plain.CZ q r) ready = long

  pub command_long : (o : Bits) (c : plain.Command) (n : ℕ) → IsReady live n c →
      IsLongFor (command_step half live o c) (length v) (2 ^ length (live_behind live c))
  command_long o (plain.Prep q) n ready = tt
  command_long o (plain.Ent q r) n ready = long
  command_long o (plain.FixX q s) n ready =
      (long, subst (λ n. ArePairs n (weight live q)) (sym long) (live_pairs live q ready.0))
  command_long o (plain.FixZ q s) n ready = long
  command_long o (plain.Meas q a s t) n ready = (
    long ∙ ap (λ n. 2 ^ n) (sym (length-without live q ready.0))
        ∙ pow-suc 2 (length (without live q)) ∙ omega arith,
    subst (λ n. ArePairs n (weight live q)) (sym long) (live_pairs live q ready.0),
  )

  pub command_there : (o : Bits) (c : plain.Command) (n : ℕ) → IsReady live n c →
      IsLowBefore height v c → (i : ℕ) → i < 2 ^ length (live_behind live c) →
      CanTake height v (source half (command_step half live o c) i)
  command_there o (plain.Prep q) n ready low i h =
      let p = two-pow-succ (length live) in omega arith
  command_there o (plain.Ent q r) n ready low i h = omega arith
  command_there o (plain.FixX q s) n ready low i h = with_there q i _ ready.0 h
  command_there o (plain.FixZ q s) n ready low i h = omega arith
  command_there o (plain.Meas q a s t) n ready low i h =
      both_low low _ _ (more_there q i false ready.0 h) (more_there q i true ready.0 h)
