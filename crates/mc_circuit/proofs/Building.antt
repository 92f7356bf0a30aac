-- What builders of circuits keep.
use Rattle.std.proofs.Common.{◌≡◌, ℕ, ◌≤◌, ◌<◌, ◌↔◌, Bool, true, false, nat_lt, nat_eq, List, []}
use Rattle.std.proofs.Common.{◌∷◌, ◌++◌, length, take, replicate, slice_index_or, None, sym, ◌∙◌}
use Rattle.std.proofs.Common.{refl, arith, length-append}
use Rattle.std.proofs.lemmas.Bool.{ltb-true, eq-eqb, true≢false}
use Rattle.std.proofs.lemmas.List.{length-take-le, get_or-take, get_or-replicate}
use Rattle.mc_model.specs.Names.{Name}
use Rattle.mc_model.specs.Numbers.{ListsOnce}
use Rattle.mc_lists.proofs.Counted.{ListsOnce-same}
use Rattle.mc_model.specs.Pattern.{Gate, J, CZ}
use Rattle.mc_model.specs.Valid.{GatesFit}
use Rattle.mc_circuit.specs.Circuits.{IsBegun, AnglesFit, broken_rule}

-- a gate that breaks no rule
fits_by : (wires v u : ℕ) (t s r : Bool) → nat_lt v wires ≡ t → nat_lt u wires ≡ s → nat_eq v u ≡ r
    → broken_rule wires (CZ v u) ≡ None → GatesFit wires (CZ v u ∷ [])
fits_by wires v u true true true e f g none = let none' = rw (e, f, g) at none in absurd (cc none')
fits_by wires v u true true false e f g none =
    (ltb-true v wires e, ltb-true u wires f, λ same. true≢false (sym (eq-eqb v u same) ∙ g), tt)
fits_by wires v u true false r e f g none = let none' = rw (e, f) at none in absurd (cc none')
fits_by wires v u false s r e f g none = let none' = rw e at none in absurd (cc none')

wire_by : (wires v a : ℕ) (t : Bool) → nat_lt v wires ≡ t → broken_rule wires (J v a) ≡ None → v < wires
wire_by wires v a true e none = ltb-true v wires e
wire_by wires v a false e none = let none' = rw e at none in absurd (cc none')

pub fits_unbroken : (wires : ℕ) (g : Gate) → broken_rule wires g ≡ None → GatesFit wires (g ∷ [])
fits_unbroken wires (J v a) none = (wire_by wires v a (nat_lt v wires) refl none, tt)
fits_unbroken wires (CZ v u) none =
    fits_by wires v u (nat_lt v wires) (nat_lt u wires) (nat_eq v u) refl refl refl none

pub GatesFit-append : (wires : ℕ) (gs hs : List Gate)
    → GatesFit wires gs → GatesFit wires hs → GatesFit wires (gs ++ hs)
GatesFit-append wires [] hs f g = g
GatesFit-append wires (J v a ∷ gs) hs f g = (f.0, GatesFit-append wires gs hs f.1 g)
GatesFit-append wires (CZ v u ∷ gs) hs f g = (f.0, f.1, f.2, GatesFit-append wires gs hs f.3 g)

pub AnglesFit-append : (half : ℕ) (gs hs : List Gate)
    → AnglesFit half gs → AnglesFit half hs → AnglesFit half (gs ++ hs)
AnglesFit-append half [] hs f g = g
AnglesFit-append half (J v a ∷ gs) hs f g = (f.0, AnglesFit-append half gs hs f.1 g)
AnglesFit-append half (CZ v u ∷ gs) hs f g = AnglesFit-append half gs hs f g

pub begun_more : (half : ℕ) (names : List Name) (inputs : ℕ) (gates : List Gate) (g : Gate)
    → IsBegun half (record { names = names; inputs = inputs; outputs = []; gates = gates })
    → broken_rule (length names) g ≡ None → AnglesFit half (g ∷ []) → length gates < 32768
    → IsBegun half (record { names = names; inputs = inputs; outputs = []; gates = gates ++ g ∷ [] })
begun_more half names inputs gates g h none angle room = record {
  permitted = h.permitted;
  names = h.names;
  inputs = h.inputs;
  gates = GatesFit-append (length names) gates (g ∷ []) h.gates (fits_unbroken (length names) g none);
  few = let n = length-append gates (g ∷ []) in omega arith;
  angles = AnglesFit-append half gates (g ∷ []) h.angles angle;
}

-- where each number is due
pub each_due : (n : ℕ) (qs : List ℕ) → n ≤ 256 → let due = take n (replicate 256 true) in
    ListsOnce (length due) (λ q. slice_index_or due q false) qs ↔ ListsOnce n (λ v. true) qs
each_due n qs few =
    let due = take n (replicate 256 true) in
    let long : length due ≡ n = length-take-le n (replicate 256 true) few in
    let all = λ (q : ℕ) (lt : q < n).
    get_or-take n (replicate 256 true) q false lt ∙ get_or-replicate 256 q true false (omega arith) in
    rw long (
      ListsOnce-same n (λ q. slice_index_or due q false) (λ v. true) qs all,
      ListsOnce-same n (λ v. true) (λ q. slice_index_or due q false) qs (λ q lt. sym (all q lt)),
    )
