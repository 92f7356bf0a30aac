-- The commands of a `J` may stand where they are added.
use Rattle.std.proofs.Common.{◌≡◌, ℕ, ◌+◌, ◌<◌, ◌≤◌, length, length-append, false, true, List, []}
use Rattle.std.proofs.Common.{◌∷◌, ◌++◌, sym, ◌∙◌, ap, arith}
use Rattle.mc_model.specs.Bits.{Bits}
use Rattle.mc_model.specs.Signals.{Signal, no_signal, signal_of}
use Rattle.mc_model.specs.Pattern.{Command, Prep, Ent, Meas, FixX}
use Rattle.mc_model.specs.Valid.{prepared, measured, IsLive, FitsBehind}
use Rattle.mc_model.proofs.ValidLemmas.{next_measured}
use Rattle.mc_model.proofs.BitLemmas.{replaced_same, replaced_other}
use Rattle.mc_translate.proofs.WireQubits.{prepared-prep, measured-prep, prepared-ent, measured-ent}
use Rattle.mc_translate.proofs.WireQubits.{prepared-meas}

-- two qubits that may be acted on
record AreLive (inputs q r : ℕ) (cs : List Command) : Type 0 where
  first : IsLive inputs cs q
  second : IsLive inputs cs r
  apart : q ≡ r → ⊥

behind_prep : (inputs q next : ℕ) (cs : List Command) → IsLive inputs cs q →
    next ≡ inputs + prepared cs → measured cs next ≡ false →
    AreLive inputs q next (cs ++ (Prep next ∷ []))
behind_prep inputs q next cs live size unborn =
    let below = live.is_there in
    let more = prepared-prep cs next in
    record {
      first = record {
        is_there = omega arith;
        is_not_measured = measured-prep cs next q ∙ live.is_not_measured;
      };
      second = record {
        is_there = omega arith;
        is_not_measured = measured-prep cs next next ∙ unborn;
      };
      apart = λ e. absurd (omega arith);
    }

behind_ent : (inputs q r i j : ℕ) (cs : List Command) → AreLive inputs q r cs →
    AreLive inputs q r (cs ++ (Ent i j ∷ []))
behind_ent inputs q r i j cs h =
    let left = h.first.is_there in
    let right = h.second.is_there in
    let same = prepared-ent cs i j in
    record {
      first = record {
        is_there = omega arith;
        is_not_measured = measured-ent cs i j q ∙ h.first.is_not_measured;
      };
      second = record {
        is_there = omega arith;
        is_not_measured = measured-ent cs i j r ∙ h.second.is_not_measured;
      };
      apart = h.apart;
    }

-- the fresh qubit is entangled, the old one measured, and the fresh one corrected by its outcome
pub ent_fits : (inputs q next : ℕ) (cs : List Command) → IsLive inputs cs q →
    next ≡ inputs + prepared cs → measured cs next ≡ false →
    FitsBehind inputs (cs ++ (Prep next ∷ [])) (Ent q next)
ent_fits inputs q next cs live size unborn =
    let h = behind_prep inputs q next cs live size unborn in (h.first, h.second, h.apart)

pub meas_fits : (inputs q next a : ℕ) (cs : List Command) → IsLive inputs cs q →
    next ≡ inputs + prepared cs → measured cs next ≡ false →
    FitsBehind inputs ((cs ++ (Prep next ∷ [])) ++ (Ent q next ∷ [])) (Meas q a no_signal no_signal)
meas_fits inputs q next a cs live size unborn =
    let h = behind_prep inputs q next cs live size unborn in
    let k = behind_ent inputs q next q next (cs ++ (Prep next ∷ [])) h in
    (k.first, record { is_set = tt; is_done = tt }, record { is_set = tt; is_done = tt })

pub fix_fits : (inputs q next a : ℕ) (s t : Signal) (cs : List Command) → IsLive inputs cs q →
    next ≡ inputs + prepared cs → measured cs next ≡ false →
    FitsBehind inputs
    (((cs ++ (Prep next ∷ [])) ++ (Ent q next ∷ [])) ++ (Meas q a s t ∷ []))
    (FixX next (signal_of q))
fix_fits inputs q next a s t cs live size unborn =
    let before : List Command = (cs ++ (Prep next ∷ [])) ++ (Ent q next ∷ []) in
    let h = behind_prep inputs q next cs live size unborn in
    let k = behind_ent inputs q next q next (cs ++ (Prep next ∷ [])) h in
    let below = k.second.is_there in
    let same = prepared-meas before q a s t in
    let after : (r : ℕ) → measured (before ++ (Meas q a s t ∷ [])) r ≡ _ =
    λ r. ap (λ (done : Bits). done r) (next_measured before q a s t) in (
      record {
        is_there = omega arith;
        is_not_measured =
            after next
            ∙ replaced_other (measured before) q true next (λ e. k.apart (sym e))
            ∙ k.second.is_not_measured;
      },
      record {
        is_set = (tt, tt);
        is_done = (after q ∙ replaced_same (measured before) q true, tt);
      },
    )

-- there is room for each of the four commands
pub room_two : (cs : List Command) (c : Command) → length cs + 4 ≤ 262144 →
    length (cs ++ (c ∷ [])) < 262144
room_two cs c room = let one = length-append cs (c ∷ []) in omega arith

pub room_three : (cs : List Command) (c d : Command) → length cs + 4 ≤ 262144 →
    length ((cs ++ (c ∷ [])) ++ (d ∷ [])) < 262144
room_three cs c d room =
    let one = length-append cs (c ∷ []) in
    let two = length-append (cs ++ (c ∷ [])) (d ∷ []) in
    omega arith

pub room_four : (cs : List Command) (c d e : Command) → length cs + 4 ≤ 262144 →
    length (((cs ++ (c ∷ [])) ++ (d ∷ [])) ++ (e ∷ [])) < 262144
room_four cs c d e room =
    let one = length-append cs (c ∷ []) in
    let two = length-append (cs ++ (c ∷ [])) (d ∷ []) in
    let three = length-append ((cs ++ (c ∷ [])) ++ (d ∷ [])) (e ∷ []) in
    omega arith
