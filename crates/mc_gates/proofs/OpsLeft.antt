-- What is left to be lowered.
use Rattle.std.proofs.Common.{◌≡◌, ℕ, List, [], ◌∷◌, refl, sym, ◌∙◌, ap, ap₂, length, map}
use Rattle.std.proofs.Common.{append_assoc, append-nil, subst}
use Rattle.mc_model.specs.Pattern.{Circuit, Gate}
use Rattle.mc_model.specs.Numbers.{numbers_from}
use Rattle.mc_gates.specs.Gates.{Op, OpsFit, GateList}
use Rattle.mc_gates.specs.Lowering.{gates_of, wires_behind, lowered_gates, last_wires, lowered}
use Rattle.mc_gates.specs.Steps.{wire_at, with_gates}
use Rattle.mc_gates.proofs.Standing.{wires_in_order}

-- with what is left the circuit and the wires become those behind all operations
pub record AreOpsLeft (start : Circuit) (from : List ℕ) (all : List Op) (circuit : Circuit)
    (at : List ℕ) (rest : List Op) : Type 0 where
  pub gates : with_gates circuit (lowered_gates rest (wire_at at))
      ≡ with_gates start (lowered_gates all (wire_at from))
  pub wires : last_wires rest (wire_at at) ≡ last_wires all (wire_at from)
  pub fit : OpsFit (length at) rest
  pub long : length at ≡ length from

pub left_at_start : (start : Circuit) (from : List ℕ) (all : List Op) → OpsFit (length from) all
    → AreOpsLeft start from all start from all
left_at_start start from all fit = record { gates = refl; wires = refl; fit = fit; long = refl }

pub left_behind : (start : Circuit) (from : List ℕ) (all : List Op) (circuit : Circuit)
    (at : List ℕ) (g : Op) (rest : List Op) (next : Circuit) (traded : List ℕ)
    → AreOpsLeft start from all circuit at (g ∷ rest)
    → next ≡ with_gates circuit (gates_of (wire_at at) g)
    → wire_at traded ≡ wires_behind (wire_at at) g → length traded ≡ length at
    → AreOpsLeft start from all next traded rest
unfolding lowered_gates last_wires
left_behind start from all circuit at g rest next traded left pushed wires long = record {
  gates =
      ap₂ (λ (c : Circuit) (f : ℕ → ℕ). with_gates c (lowered_gates rest f)) pushed wires
      ∙ ap (λ (gs : List Gate). record circuit { gates = gs })
      (append_assoc circuit.gates (gates_of (wire_at at) g)
      (lowered_gates rest (wires_behind (wire_at at) g)))
      ∙ left.gates;
  wires = ap (λ (f : ℕ → ℕ). last_wires rest f) wires ∙ left.wires;
  fit = subst (λ (n : ℕ). OpsFit n rest) (sym long) left.fit.1;
  long = long ∙ left.long;
}

pub left_none : (start : Circuit) (from : List ℕ) (all : List Op) (circuit : Circuit)
    (at : List ℕ) → AreOpsLeft start from all circuit at []
    → (circuit ≡ with_gates start (lowered_gates all (wire_at from)))
    × (wire_at at ≡ last_wires all (wire_at from))
unfolding lowered_gates last_wires
left_none start from all circuit at left = (
  ap (λ (gs : List Gate). record circuit { gates = gs }) (sym (append-nil circuit.gates))
      ∙ left.gates,
  left.wires,
)

-- all operations behind a circuit without gates, and the outputs
pub whole : (g : GateList) (start now : Circuit) (from at out : List ℕ)
    → start ≡ record { names = g.names; inputs = g.inputs; outputs = []; gates = [] }
    → from ≡ numbers_from 0 (length g.names)
    → now ≡ with_gates start (lowered_gates g.ops (wire_at from))
    → wire_at at ≡ last_wires g.ops (wire_at from) → out ≡ map (wire_at at) g.outputs
    → record now { outputs = out } ≡ lowered g
unfolding lowered
whole g start now from at out begun order pushed wires listed =
    let own : wire_at from ≡ λ v. v = ap wire_at order ∙ wires_in_order (length g.names) in
    let last : wire_at at ≡ last_wires g.ops (λ v. v) =
    wires ∙ ap (λ (f : ℕ → ℕ). last_wires g.ops f) own in
    let made : now ≡ record {
      names = g.names;
      inputs = g.inputs;
      outputs = [];
      gates = lowered_gates g.ops (λ v. v);
    } =
    pushed
    ∙ ap₂ (λ (c : Circuit) (f : ℕ → ℕ). with_gates c (lowered_gates g.ops f)) begun own in
    ap₂ (λ (c : Circuit) (qs : List ℕ). record c { outputs = qs }) made
    (listed ∙ ap (λ (f : ℕ → ℕ). map f g.outputs) last)
