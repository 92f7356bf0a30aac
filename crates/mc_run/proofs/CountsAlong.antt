-- Counts along a list of gates or commands, and the outputs of circuits.
use Rattle.std.proofs.Common.{◌≡◌, ℕ, suc, ◌+◌, ◌<◌, ◌≤◌, Bool, List, [], ◌∷◌, length, map, drop}
use Rattle.std.proofs.Common.{slice_index_or, refl, sym, ap, ap₂, ◌∙◌, arith}
use Rattle.std.specs.Prelude.{All}
use Rattle.std.proofs.Math.Seq.{drop-cons}
use Rattle.mc_run.specs.Settings.{numbers_below}
use Rattle.mc_model.specs.Numbers.{ListsOnce}
use Rattle.mc_model.specs.Pattern.{Gate, J, CZ, Circuit, wires, Command, Prep, Ent, Meas, FixX}
use Rattle.mc_model.specs.Pattern.{FixZ}
use Rattle.mc_model.specs.Amplitude.{j_count, halvings}
use Rattle.mc_model.specs.Valid.{IsValidCircuit}
use Rattle.mc_pattern.proofs.Listed.{length-listed, count_either}
use Rattle.mc_run.specs.Gates.{IsLiving}
use Rattle.mc_run.proofs.GatesLeft.{member_below}

-- what is left from an index on begins with what is there
pub left_from : {G P : Type 0} (plain : G → P) (gs : List G) (i : ℕ) (gate : G) →
    i < length gs → gate ≡ slice_index_or gs i gate →
    map plain (drop i gs) ≡ plain gate ∷ map plain (drop (i + 1) gs)
left_from plain gs i gate h e =
    let one : suc i ≡ i + 1 = omega arith in
    ap (map plain) (drop-cons gs i gate h ∙ ap₂ (λ g n. g ∷ drop n gs) (sym e) one)

pub j_counted : (gs : List Gate) (q a : ℕ) → j_count (J q a ∷ gs) ≡ suc (j_count gs)
unfolding j_count
j_counted gs q a = refl

pub cz_counted : (gs : List Gate) (q r : ℕ) → j_count (CZ q r ∷ gs) ≡ j_count gs
unfolding j_count
cz_counted gs q r = refl

pub none_counted : j_count [] ≡ 0
unfolding j_count
none_counted = refl

pub outputs_living : (c : Circuit) → IsValidCircuit c →
    All (IsLiving (numbers_below (wires c))) c.outputs
outputs_living c valid = λ k d h. member_below (wires c) _ (valid.outputs.below k d h)

pub listed_few : (n : ℕ) (p : ℕ → Bool) (qs : List ℕ) → ListsOnce n p qs → length qs ≤ n
listed_few n p qs h = omega (arith, length-listed n p qs h, count_either n p)

pub halves_first : (c : Command) (cs : List Command) →
    halvings (c ∷ cs) ≡ halvings (c ∷ []) + halvings cs
unfolding halvings
halves_first (Prep q) cs = omega arith
halves_first (Ent q r) cs = omega arith
halves_first (FixX q s) cs = omega arith
halves_first (FixZ q s) cs = omega arith
halves_first (Meas q a s t) cs = omega arith

pub none_halves : halvings [] ≡ 0
unfolding halvings
none_halves = refl
