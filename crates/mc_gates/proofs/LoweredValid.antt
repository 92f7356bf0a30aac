-- The lowered circuit is valid, and its gates are counted.
use Rattle.std.proofs.Common.{◌≡◌, ℕ, ◌+◌, ◌*◌, length, length-append, List, [], ◌∷◌, ◌++◌, refl}
use Rattle.std.proofs.Common.{◌∙◌, ap₂, arith}
use Rattle.mc_model.specs.Pattern.{Gate, J, CZ}
use Rattle.mc_model.specs.Amplitude.{j_count, circuit_scale}
use Rattle.mc_model.specs.Valid.{GatesFit, IsValidCircuit}
use Rattle.mc_gates.specs.Gates.{Op, H, X, Z, S, Sdg, T, Tdg, Cx, Cz, Swap, Ccx, GateList, OpFits}
use Rattle.mc_gates.specs.Gates.{OpsFit, IsValidGateList, hadamards, hadamard_count, gate_scale}
use Rattle.mc_gates.specs.Lowering.{gates_of, wires_behind, lowered_gates, last_wires, lowered}
use Rattle.mc_gates.specs.Lowering.{gate_cost, lowered_count, doublings, doubling_count}
use Rattle.mc_gates.proofs.Wires.{IsReordering, in_order, behind_reorders, last_reorders}
use Rattle.mc_gates.proofs.Wires.{outputs_through}

fit-append : (n : ℕ) (gs hs : List Gate) → GatesFit n gs → GatesFit n hs → GatesFit n (gs ++ hs)
fit-append n [] hs a b = b
fit-append n (J v k ∷ gs) hs a b = (a.0, fit-append n gs hs a.1 b)
fit-append n (CZ v u ∷ gs) hs a b = (a.0, a.1, a.2, fit-append n gs hs a.3 b)

toffoli_fits : (n : ℕ) (at : ℕ → ℕ) (p q r : ℕ) → IsReordering n at → OpFits n (Ccx p q r) →
    GatesFit n (gates_of at (Ccx p q r))
unfolding gates_of OpFits
toffoli_fits n at p q r h fit =
    let lp = h.below p fit.0 in
    let lq = h.below q fit.1 in
    let lr = h.below r fit.2 in
    let pq : at p ≡ at q → ⊥ = λ e. fit.3 (h.apart p q fit.0 fit.1 e) in
    let pr : at p ≡ at r → ⊥ = λ e. fit.4 (h.apart p r fit.0 fit.2 e) in
    let qr : at q ≡ at r → ⊥ = λ e. fit.5 (h.apart q r fit.1 fit.2 e) in
    let ending : GatesFit n
    (J (at q) 1 ∷ CZ (at p) (at q) ∷ J (at q) 0 ∷ J (at q) 7 ∷ CZ (at p) (at q) ∷ J (at q) 0
    ∷ J (at p) 1 ∷ J (at p) 0 ∷ []) =
    (lq, (lp, lq, pq, (lq, (lq, (lp, lq, pq, (lq, (lp, (lp, tt)))))))) in (
      lq,
      lr,
      qr,
      (
        lr,
        (
          lr,
          (
            lp,
            lr,
            pr,
            (
              lr,
              (
                lr,
                (
                  lq,
                  lr,
                  qr,
                  (
                    lr,
                    (
                      lr,
                      (
                        lp,
                        lr,
                        pr,
                        (lr, (lr, ending)),
                      ),
                    ),
                  ),
                ),
              ),
            ),
          ),
        ),
      ),
    )

gates_fit : (n : ℕ) (at : ℕ → ℕ) (g : Op) → IsReordering n at → OpFits n g →
    GatesFit n (gates_of at g)
unfolding gates_of OpFits
gates_fit n at (H q) h fit = (h.below q fit, tt)
gates_fit n at (X q) h fit = (h.below q fit, (h.below q fit, tt))
gates_fit n at (Z q) h fit = (h.below q fit, (h.below q fit, tt))
gates_fit n at (S q) h fit = (h.below q fit, (h.below q fit, tt))
gates_fit n at (Sdg q) h fit = (h.below q fit, (h.below q fit, tt))
gates_fit n at (T q) h fit = (h.below q fit, (h.below q fit, tt))
gates_fit n at (Tdg q) h fit = (h.below q fit, (h.below q fit, tt))
gates_fit n at (Cx p q) h fit = (
  h.below q fit.1,
  (
    h.below p fit.0,
    h.below q fit.1,
    λ e. fit.2 (h.apart p q fit.0 fit.1 e),
    (h.below q fit.1, tt),
  ),
)
gates_fit n at (Cz p q) h fit =
    (h.below p fit.0, h.below q fit.1, λ e. fit.2 (h.apart p q fit.0 fit.1 e), tt)
gates_fit n at (Swap p q) h fit = tt
gates_fit n at (Ccx p q r) h fit = toffoli_fits n at p q r h fit

lowered_fit : (n : ℕ) (gs : List Op) (at : ℕ → ℕ) → IsReordering n at → OpsFit n gs →
    GatesFit n (lowered_gates gs at)
unfolding lowered_gates
lowered_fit n [] at h fit = tt
lowered_fit n (g ∷ gs) at h fit =
    fit-append n (gates_of at g) (lowered_gates gs (wires_behind at g))
    (gates_fit n at g h fit.0)
    (lowered_fit n gs (wires_behind at g) (behind_reorders n at g fit.0 h) fit.1)

pub lowered_circuits_are_valid : (g : GateList) → IsValidGateList g → IsValidCircuit (lowered g)
unfolding lowered
lowered_circuits_are_valid g v =
    let n : ℕ = length g.names in
    record {
      names = v.names;
      inputs = v.inputs;
      gates = lowered_fit n g.ops (λ u. u) (in_order n) v.ops;
      outputs =
          outputs_through n (last_wires g.ops (λ u. u)) g.outputs
          (last_reorders n (λ u. u) g.ops v.ops (in_order n)) v.outputs;
    }

-- ---- counts

length-gates_of : (at : ℕ → ℕ) (g : Op) → length (gates_of at g) ≡ gate_cost g
unfolding gates_of gate_cost
length-gates_of at (H q) = refl
length-gates_of at (X q) = refl
length-gates_of at (Z q) = refl
length-gates_of at (S q) = refl
length-gates_of at (Sdg q) = refl
length-gates_of at (T q) = refl
length-gates_of at (Tdg q) = refl
length-gates_of at (Cx p q) = refl
length-gates_of at (Cz p q) = refl
length-gates_of at (Swap p q) = refl
length-gates_of at (Ccx p q r) = refl

pub length-lowered_gates : (gs : List Op) (at : ℕ → ℕ) →
    length (lowered_gates gs at) ≡ lowered_count gs
unfolding lowered_gates
length-lowered_gates [] at = refl
length-lowered_gates (g ∷ gs) at =
    length-append (gates_of at g) (lowered_gates gs (wires_behind at g))
    ∙ ap₂ (λ (k l : ℕ). k + l)
    (length-gates_of at g)
    (length-lowered_gates gs (wires_behind at g))

pub lowered_gates_are_counted : (g : GateList) → length (lowered g).gates ≡ lowered_count g.ops
unfolding lowered
lowered_gates_are_counted g = length-lowered_gates g.ops (λ v. v)

j_count-append : (gs hs : List Gate) → j_count (gs ++ hs) ≡ j_count gs + j_count hs
unfolding j_count
j_count-append [] hs = omega arith
j_count-append (J v a ∷ gs) hs = let h = j_count-append gs hs in omega arith
j_count-append (CZ v u ∷ gs) hs = j_count-append gs hs

j_count-gates_of : (at : ℕ → ℕ) (g : Op) → j_count (gates_of at g) ≡ hadamards g + 2 * doublings g
unfolding j_count gates_of hadamards doublings
j_count-gates_of at (H q) = refl
j_count-gates_of at (X q) = refl
j_count-gates_of at (Z q) = refl
j_count-gates_of at (S q) = refl
j_count-gates_of at (Sdg q) = refl
j_count-gates_of at (T q) = refl
j_count-gates_of at (Tdg q) = refl
j_count-gates_of at (Cx p q) = refl
j_count-gates_of at (Cz p q) = refl
j_count-gates_of at (Swap p q) = refl
j_count-gates_of at (Ccx p q r) = refl

j_count-lowered : (gs : List Op) (at : ℕ → ℕ) →
    j_count (lowered_gates gs at) ≡ hadamard_count gs + 2 * doubling_count gs
unfolding lowered_gates j_count
j_count-lowered [] at = refl
j_count-lowered (g ∷ gs) at =
    let parts = j_count-append (gates_of at g) (lowered_gates gs (wires_behind at g)) in
    let here = j_count-gates_of at g in
    let rest = j_count-lowered gs (wires_behind at g) in
    omega arith

pub lowering_keeps_scale : (g : GateList) →
    circuit_scale (lowered g) ≡ gate_scale g + 2 * doubling_count g.ops
unfolding lowered
lowering_keeps_scale g = let count = j_count-lowered g.ops (λ v. v) in omega arith
