-- The parts of the code are those of the list of commands that they make.
use Rattle.std.proofs.Common.{◌≡◌, ℕ, List, ◌++◌, map, refl, sym, ap₂}
use Rattle.mc_model.specs.Names.{Name}
use Rattle.mc_model.specs.Pattern.{Command, Prep}
use Rattle.mc_model.specs.Derivation.{part}
use Rattle.mc_standard.specs.declared.standard.Measure.{Measure}
use Rattle.mc_standard.specs.declared.standard.Fix.{Fix}
use Rattle.mc_standard.specs.declared.standard.Fix.TheVariants as fix
use Rattle.mc_pattern.specs.Patterns.{begun, with_outputs}
use Rattle.mc_rules.specs.Parts.{HasParts, IsInParts, with_signals}
use Rattle.mc_standard.specs.Plain.{plain_edge, plain_measure, plain_fix, in_parts}
use Rattle.mc_standard.proofs.InParts.{has_parts, all_of_map, in_parts_by}

fix_part : (f : Fix) → part (plain_fix f) ≡ 3
fix_part (fix.X q s) = refl
fix_part (fix.Z q s) = refl

pub code_parts : (h : ℕ) (preps : List ℕ) (edges : List (ℕ × ℕ)) (measures : List (Measure h))
    (fixes : List Fix) →
    HasParts (map Prep preps) (map plain_edge edges) (map (plain_measure {h = h}) measures)
    (map plain_fix fixes) (in_parts preps edges measures fixes)
code_parts h preps edges measures fixes =
    has_parts (map Prep preps) (map plain_edge edges) (map (plain_measure {h = h}) measures)
    (map plain_fix fixes)
    (all_of_map 0 Prep (λ q. refl) preps)
    (all_of_map 1 plain_edge (λ e. refl) edges)
    (all_of_map 2 (plain_measure {h = h}) (λ m. refl) measures)
    (all_of_map 3 plain_fix fix_part fixes)

pub code_in_parts : (h : ℕ) (preps : List ℕ) (edges : List (ℕ × ℕ)) (measures : List (Measure h))
    (fixes : List Fix) → IsInParts (in_parts preps edges measures fixes)
code_in_parts h preps edges measures fixes =
    in_parts_by (map Prep preps) (map plain_edge edges) (map (plain_measure {h = h}) measures)
    (map plain_fix fixes) (in_parts preps edges measures fixes)
    (code_parts h preps edges measures fixes) refl

-- the pattern with other signals, where its parts are those of the code
pub code_with_signals : (h : ℕ) (names : List Name) (inputs : ℕ) (outputs : List ℕ)
    (preps : List ℕ) (edges : List (ℕ × ℕ)) (measures : List (Measure h)) (fixes : List Fix)
    (ms fs : List Command) →
    with_outputs (begun names inputs (map Prep preps ++ (map plain_edge edges ++ (ms ++ fs)))) outputs
    ≡ with_signals
    (with_outputs (begun names inputs (in_parts preps edges measures fixes)) outputs) ms fs
code_with_signals h names inputs outputs preps edges measures fixes ms fs =
    let parts = code_parts h preps edges measures fixes in
    ap₂ (λ (ps es : List Command).
    with_outputs (begun names inputs (ps ++ (es ++ (ms ++ fs)))) outputs)
    (sym parts.preparations) (sym parts.entanglings)
