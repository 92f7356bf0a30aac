-- The first wires of a circuit as qubits.
use Rattle.std.proofs.Common.{◌≡◌, ℕ, zero, suc, ◌+◌, ◌-◌, ◌≤◌, List, [], ◌∷◌, ◌++◌, sym}
use Rattle.std.proofs.Common.{◌∙◌, ap}
use Rattle.std.proofs.Common.{ap₂, arith, length, take, Some}
use Rattle.std.specs.Prelude.{slice_get}
use Rattle.std.specs.List.{IsDistinct}
use Rattle.std.proofs.lemmas.List.{length-take-le, take_all}
use Rattle.std.proofs.lemmas.Option.{slice_get_within}
use Rattle.mc_model.specs.Names.{Name, name_eq}
use Rattle.mc_model.specs.Pattern.{Command, Prep, Pattern}
use Rattle.mc_model.specs.Translation.{preparations}
use Rattle.mc_model.proofs.PreparationLemmas.{length-preparations}
use Rattle.mc_pattern.specs.Patterns.{begun, IsFree}
use Rattle.mc_translate.proofs.FreeNames.{new_name, take_next}

pub preparation_next : (q n : ℕ) →
    preparations q (suc n) ≡ preparations q n ++ (Prep (q + n) ∷ [])
unfolding preparations
preparation_next q zero = let e : q ≡ q + 0 = omega arith in ap (λ (r : ℕ). Prep r ∷ []) e
preparation_next q (suc n) =
    let e : suc q + n ≡ q + suc n = omega arith in
    ap (λ (cs : List Command). Prep q ∷ cs)
    (preparation_next (suc q) n ∙ ap (λ (r : ℕ). preparations (suc q) n ++ (Prep r ∷ [])) e)

-- a pattern of the first `v` wires, of which `inputs` are inputs
abbrev pub first_wires : List Name → ℕ → ℕ → Pattern
first_wires names inputs v = begun (take v names) inputs (preparations inputs (v - inputs))

pub first_none : (names : List Name) (inputs : ℕ) → inputs ≤ length names →
    begun (take inputs names) (length (take inputs names)) [] ≡ first_wires names inputs inputs
unfolding preparations
first_none names inputs le =
    let none : inputs - inputs ≡ 0 = omega arith in
    ap₂ (λ (n : ℕ) (m : ℕ). begun (take inputs names) n (preparations inputs m))
    (length-take-le inputs names le)
    (sym none)

pub first_free : (names : List Name) (inputs v : ℕ) (name : Name) → IsDistinct name_eq names →
    length names ≤ 256 → slice_get names v ≡ Some name → IsFree (first_wires names inputs v) name
first_free names inputs v name distinct few e =
    let within = slice_get_within names v name e in
    let short = length-take-le v names (omega arith) in
    let prepared = length-preparations inputs (v - inputs) in
    record {
      new = new_name names v name distinct e;
      few = omega arith;
      room = omega arith;
    }

pub first_next : (names : List Name) (inputs v : ℕ) (name : Name) → inputs ≤ v →
    slice_get names v ≡ Some name →
    begun (take v names ++ (name ∷ [])) inputs
    (preparations inputs (v - inputs) ++ (Prep (length (take v names)) ∷ []))
    ≡ first_wires names inputs (v + 1)
first_next names inputs v name le e =
    let within = slice_get_within names v name e in
    let short = length-take-le v names (omega arith) in
    let more : suc (v - inputs) ≡ v + 1 - inputs = omega arith in
    let next : length (take v names) ≡ inputs + (v - inputs) = omega arith in
    ap₂ (λ (ns : List Name) (cs : List Command). begun ns inputs cs)
    (sym (take_next names v name e))
    (ap (λ (q : ℕ). preparations inputs (v - inputs) ++ (Prep q ∷ [])) next
    ∙ sym (preparation_next inputs (v - inputs))
    ∙ ap (preparations inputs) more)

pub first_all : (names : List Name) (inputs v : ℕ) → v ≡ length names →
    first_wires names inputs v ≡ begun names inputs (preparations inputs (length names - inputs))
first_all names inputs v e =
    ap₂ (λ (ns : List Name) (n : ℕ). begun ns inputs (preparations inputs (n - inputs)))
    (take_all v names (omega arith))
    e
