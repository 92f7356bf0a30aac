-- The parts of the code as commands of the definitions.
use Rattle.std.specs.Prelude.{ℕ, List, ◌++◌, map}
use Rattle.mc_model.specs.Pattern.{Command, Prep, Ent, Meas, FixX, FixZ}
use Rattle.mc_standard.specs.declared.standard.Measure.{Measure}
use Rattle.mc_standard.specs.declared.standard.Fix.{Fix}
use Rattle.mc_standard.specs.declared.standard.Fix.TheVariants as fix

abbrev pub plain_edge : ℕ × ℕ → Command
plain_edge e = Ent e.0 e.1

abbrev pub plain_measure : {h : ℕ} → Measure h → Command
plain_measure m = Meas m.q m.angle m.s m.t

abbrev pub plain_fix : Fix → Command
plain_fix (fix.X q s) = FixX q s
plain_fix (fix.Z q s) = FixZ q s

-- the four parts one after the other
abbrev pub in_parts : {h : ℕ} → List ℕ → List (ℕ × ℕ) → List (Measure h) → List Fix → List Command
in_parts preps edges measures fixes =
    map Prep preps
    ++ (map plain_edge edges ++ (map plain_measure measures ++ map plain_fix fixes))
