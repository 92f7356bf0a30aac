-- The lowered circuit is one that the code holds, where its gates are few enough.
use Rattle.std.proofs.Common.{ℕ, refl, ◌*◌, ◌<◌, ◌≤◌, List, [], ◌∷◌, ◌++◌, arith}
use Rattle.mc_model.specs.Pattern.{Gate, J, CZ}
use Rattle.mc_circuit.specs.Circuits.{AnglesFit, IsCircuit}
use Rattle.mc_gates.specs.Gates.{Op, H, X, Z, S, Sdg, T, Tdg, Cx, Cz, Swap, Ccx, GateList}
use Rattle.mc_gates.specs.Gates.{IsValidGateList}
use Rattle.mc_gates.specs.Lowering.{gates_of, wires_behind, lowered_gates, lowered, lowered_count}
use Rattle.mc_gates.proofs.LoweredValid.{lowered_circuits_are_valid, lowered_gates_are_counted}

angles-append : (half : ℕ) (gs hs : List Gate) → AnglesFit half gs → AnglesFit half hs →
    AnglesFit half (gs ++ hs)
angles-append half [] hs a b = b
angles-append half (J v k ∷ gs) hs a b = (a.0, angles-append half gs hs a.1 b)
angles-append half (CZ v u ∷ gs) hs a b = angles-append half gs hs a b

none : 0 < 2 * 4
none = omega arith

one : 1 < 2 * 4
one = omega arith

seven : 7 < 2 * 4
seven = omega arith

angles_fit : (at : ℕ → ℕ) (g : Op) → AnglesFit 4 (gates_of at g)
unfolding gates_of
angles_fit at (H q) = (none, tt)
angles_fit at (X q) = (none, (omega arith, tt))
angles_fit at (Z q) = (omega arith, (none, tt))
angles_fit at (S q) = (omega arith, (none, tt))
angles_fit at (Sdg q) = (omega arith, (none, tt))
angles_fit at (T q) = (one, (none, tt))
angles_fit at (Tdg q) = (seven, (none, tt))
angles_fit at (Cx p q) = (none, (none, tt))
angles_fit at (Cz p q) = tt
angles_fit at (Swap p q) = tt
angles_fit at (Ccx p q r) = (
  none,
  (
    seven,
    (
      none,
      (
        one,
        (
          none,
          (
            seven,
            (
              none,
              (
                one,
                (
                  one,
                  (
                    none,
                    (
                      seven,
                      (
                        none,
                        (
                          one,
                          (none, tt),
                        ),
                      ),
                    ),
                  ),
                ),
              ),
            ),
          ),
        ),
      ),
    ),
  ),
)

lowered_angles : (gs : List Op) (at : ℕ → ℕ) → AnglesFit 4 (lowered_gates gs at)
unfolding lowered_gates
lowered_angles [] at = tt
lowered_angles (g ∷ gs) at =
    angles-append 4 (gates_of at g) (lowered_gates gs (wires_behind at g)) (angles_fit at g)
    (lowered_angles gs (wires_behind at g))

pub lowered_circuits_are_held : (g : GateList) → IsValidGateList g →
    lowered_count g.ops ≤ 32768 → IsCircuit 4 (lowered g)
unfolding lowered
lowered_circuits_are_held g v few =
    let count = lowered_gates_are_counted g in
    record {
      valid = lowered_circuits_are_valid g v;
      few = omega arith;
      angles = lowered_angles g.ops (λ u. u);
      permitted = refl;
    }
