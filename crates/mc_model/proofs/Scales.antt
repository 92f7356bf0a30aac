-- The preparations and measurements of lists, and of the pattern of a graph.
use Rattle.std.proofs.Common.{◌≡◌, ℕ, suc, ◌+◌, ◌-◌, Bool, true, false, cond, not, map, length}
use Rattle.std.proofs.Common.{List, [], ◌∷◌, ◌++◌, refl, ◌∙◌, ap, ap₂, arith}
use Rattle.std.specs.Prelude.{flat_map}
use Rattle.mc_model.specs.Numbers.{numbers_from, numbers_where}
use Rattle.mc_model.specs.Signals.{one_signal}
use Rattle.mc_model.specs.Pattern.{Command, Prep, Ent, Meas, FixX, FixZ}
use Rattle.mc_model.specs.Amplitude.{halvings, pattern_scale}
use Rattle.mc_model.specs.Translation.{preparations}
use Rattle.mc_model.specs.Graph.{Edge, OpenGraph, size, is_output, fixed_at, entanglings}
use Rattle.mc_model.specs.Graph.{graph_state, bare_measurement, corrections_at, fixed_corrections}
use Rattle.mc_model.specs.Graph.{zero_pattern}
use Rattle.mc_model.proofs.PreparationLemmas.{halvings-preparations}

pub halvings-append : (cs ds : List Command) → halvings (cs ++ ds) ≡ halvings cs + halvings ds
unfolding halvings
halvings-append [] ds = omega arith
halvings-append (Prep q ∷ cs) ds = let h = halvings-append cs ds in omega arith
halvings-append (Ent q r ∷ cs) ds = halvings-append cs ds
halvings-append (Meas q a s t ∷ cs) ds = let h = halvings-append cs ds in omega arith
halvings-append (FixX q s ∷ cs) ds = halvings-append cs ds
halvings-append (FixZ q s ∷ cs) ds = halvings-append cs ds

halvings-entanglings : (es : List Edge) → halvings (entanglings es) ≡ 0
unfolding halvings
halvings-entanglings [] = refl
halvings-entanglings (e ∷ es) = halvings-entanglings es

halvings-measurements : (g : OpenGraph) (qs : List ℕ) →
    halvings (map (bare_measurement g) qs) ≡ length qs
unfolding halvings
halvings-measurements g [] = refl
halvings-measurements g (q ∷ qs) = ap suc (halvings-measurements g qs)

halvings-x : (b : Bool) (q : ℕ) → halvings (cond b (FixX q one_signal ∷ []) []) ≡ 0
unfolding halvings
halvings-x true q = refl
halvings-x false q = refl

halvings-z : (b : Bool) (q : ℕ) → halvings (cond b (FixZ q one_signal ∷ []) []) ≡ 0
unfolding halvings
halvings-z true q = refl
halvings-z false q = refl

halvings-fixes : (g : OpenGraph) (qs : List ℕ) → halvings (flat_map (corrections_at g) qs) ≡ 0
unfolding halvings
halvings-fixes g [] = refl
halvings-fixes g (q ∷ qs) =
    let x : List Command = cond (fixed_at g q).x (FixX q one_signal ∷ []) [] in
    let z : List Command = cond (fixed_at g q).z (FixZ q one_signal ∷ []) [] in
    let parts : halvings (x ++ z) ≡ 0 =
    (let a = halvings-append x z in
    let b = halvings-x (fixed_at g q).x q in
    let c = halvings-z (fixed_at g q).z q in
    omega arith) in
    halvings-append (x ++ z) (flat_map (corrections_at g) qs)
    ∙ ap₂ (λ (m n : ℕ). m + n) parts (halvings-fixes g qs)

-- a list of measurements and corrections between the graph's state and its fixed corrections
pub halvings-between : (g : OpenGraph) (cs : List Command) →
    halvings (graph_state g ++ (cs ++ fixed_corrections g)) ≡ (size g - g.inputs) + halvings cs
unfolding fixed_corrections
halvings-between g cs =
    let preps : List Command = preparations g.inputs (size g - g.inputs) in
    let a = halvings-append (graph_state g) (cs ++ fixed_corrections g) in
    let b = halvings-append preps (entanglings g.edges) in
    let c = halvings-append cs (fixed_corrections g) in
    let d = halvings-preparations g.inputs (size g - g.inputs) in
    let e = halvings-entanglings g.edges in
    let f = halvings-fixes g (numbers_from 0 (size g)) in
    omega arith

pub zero_scale : (g : OpenGraph) →
    pattern_scale (zero_pattern g)
    ≡ (size g - g.inputs) + length (numbers_where (λ v. not (is_output g v)) (size g))
unfolding zero_pattern
zero_scale g =
    let qs : List ℕ = numbers_where (λ v. not (is_output g v)) (size g) in
    halvings-between g (map (bare_measurement g) qs)
    ∙ ap (λ (m : ℕ). (size g - g.inputs) + m) (halvings-measurements g qs)
