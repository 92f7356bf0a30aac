use Rattle.std.proofs.Common.{◌≡◌, ℕ, ◌+◌, ◌^◌, List, ℤ, [], ◌∷◌, length, map, drop, sym, ap, ◌∙◌}
use Rattle.std.proofs.Common.{subst, arith}
use Rattle.std.proofs.lemmas.List.{length-map, drop_all}
use Rattle.mc_model.specs.Bits.{bits_of}
use Rattle.mc_model.specs.Amplitude.{Amps, start, after_gates}
use Rattle.mc_model.specs.Pattern.{Gate, wires}
use Rattle.mc_circuit.specs.Gates.{plain_gate}
use Rattle.mc_run.specs.Exact.{Exact, exact, phases}
use Rattle.mc_run.specs.Settings.{spelled, numbers_below}
use Rattle.mc_run.specs.Sources.{IsStepped}
use Rattle.mc_run.specs.Gates.{gate_step, IsGateReady}
use Rattle.mc_run.proofs.Turns.{obeys}
use Rattle.mc_run.proofs.InputVectors.{length-below}
use Rattle.mc_run.proofs.GatesLeft.{GatesLeft, left_at, gate_ready, gate_low, gate_next, gates_over}
use Rattle.mc_run.proofs.gates.circuit_state.Goals as goal

pub gated-requires : goal.gated-requires
gated-requires g c =
    let permitted = c.requires.permitted in
    let seen = g.R.Ring.seen in
    let ring : Exact =
    exact g.R.Ring.nought g.R.Ring.unit g.R.Ring.sum_of g.R.Ring.negative_of
    g.R.PhaseRing.turned_by g.R.PhaseRing.HALF g.R.PhaseRing.height_of in
    let laws =
    obeys g.R.Ring.IsElement g.R.Ring.InRange g.R.Ring.nought g.R.Ring.unit g.R.Ring.sum_of
    g.R.Ring.product_of g.R.Ring.negative_of g.R.PhaseRing.HALF g.R.PhaseRing.turned_by
    g.R.PhaseRing.height_of (g.met.R.Ring.ring_laws permitted)
    (g.met.R.PhaseRing.turn_laws permitted) (g.met.R.PhaseRing.height_laws permitted) in
    let n : ℕ = wires c.args.circuit.now in
    let gs = c.gates-gate-items.result.now in
    let gate : Gate = plain_gate {h = g.row.H} c.gate-item.result in
    let left : List Gate = map (plain_gate {h = g.row.H}) (drop (c.gates.gate-index + 1) gs) in
    let end : Amps (List ℤ) =
    after_gates (phases ring) c.args.circuit.now.gates
    (start (phases ring) c.args.circuit.now.inputs
    (bits_of (spelled c.args.circuit.now.inputs c.args.b))) in
    let v : List (List ℤ) = map seen c.gates.state.entries.items in
    let here : GatesLeft ring g.R.Ring.IsElement n end (gate ∷ left) v =
    left_at (plain_gate {h = g.row.H}) gs c.gates.gate-index c.gate-item.result ring
    g.R.Ring.IsElement n end v c.gates-test.true c.gate-item.is c.gates.invariant.left in
    let live : c.gates.state.live.items ≡ numbers_below n = c.gates.invariant.live in (
      omega arith,
      (
        permitted,
        (
          c.requires.half,
          (
            subst (λ l. IsGateReady l gate) (sym live)
                (gate_ready ring g.R.Ring.IsElement laws n end v gate left here),
            (
              omega (arith, ap length live, length-below n, c.requires.few),
              (
                sym (length-map c.gates.state.entries.items seen) ∙ here.holds.long
                    ∙ ap (λ l. 2 ^ length l) (sym live),
                gate_low ring g.R.Ring.IsElement laws n end v gate left here,
              ),
            ),
          ),
        ),
      ),
    )

pub gates-preserved : goal.gates-preserved
gates-preserved g c =
    let permitted = c.requires.permitted in
    let seen = g.R.Ring.seen in
    let ring : Exact =
    exact g.R.Ring.nought g.R.Ring.unit g.R.Ring.sum_of g.R.Ring.negative_of
    g.R.PhaseRing.turned_by g.R.PhaseRing.HALF g.R.PhaseRing.height_of in
    let laws =
    obeys g.R.Ring.IsElement g.R.Ring.InRange g.R.Ring.nought g.R.Ring.unit g.R.Ring.sum_of
    g.R.Ring.product_of g.R.Ring.negative_of g.R.PhaseRing.HALF g.R.PhaseRing.turned_by
    g.R.PhaseRing.height_of (g.met.R.Ring.ring_laws permitted)
    (g.met.R.PhaseRing.turn_laws permitted) (g.met.R.PhaseRing.height_laws permitted) in
    let n : ℕ = wires c.args.circuit.now in
    let gs = c.gates-gate-items.result.now in
    let gate : Gate = plain_gate {h = g.row.H} c.gate-item.result in
    let left : List Gate = map (plain_gate {h = g.row.H}) (drop (c.gates.gate-index + 1) gs) in
    let end : Amps (List ℤ) =
    after_gates (phases ring) c.args.circuit.now.gates
    (start (phases ring) c.args.circuit.now.inputs
    (bits_of (spelled c.args.circuit.now.inputs c.args.b))) in
    let v : List (List ℤ) = map seen c.gates.state.entries.items in
    let next : List (List ℤ) = map seen c.in_ok-state-2.state.entries.items in
    let here : GatesLeft ring g.R.Ring.IsElement n end (gate ∷ left) v =
    left_at (plain_gate {h = g.row.H}) gs c.gates.gate-index c.gate-item.result ring
    g.R.Ring.IsElement n end v c.gates-test.true c.gate-item.is c.gates.invariant.left in
    let live : c.gates.state.live.items ≡ numbers_below n = c.gates.invariant.live in
    record {
      live = c.in_ok-state-2.ensures.live ∙ live;
      left =
          gate_next ring g.R.Ring.IsElement laws n end v gate left next here
          (length-map c.in_ok-state-2.state.entries.items seen ∙ c.in_ok-state-2.ensures.long
          ∙ sym (length-map c.gates.state.entries.items seen))
          (subst (λ l. IsStepped ring g.R.Ring.IsElement (gate_step l gate) v next) live
          c.in_ok-state-2.ensures.stepped);
    }

pub returns-clause-holds : goal.returns-clause-holds
returns-clause-holds g c =
    let permitted = c.requires.permitted in
    let ring : Exact =
    exact g.R.Ring.nought g.R.Ring.unit g.R.Ring.sum_of g.R.Ring.negative_of
    g.R.PhaseRing.turned_by g.R.PhaseRing.HALF g.R.PhaseRing.height_of in
    let laws =
    obeys g.R.Ring.IsElement g.R.Ring.InRange g.R.Ring.nought g.R.Ring.unit g.R.Ring.sum_of
    g.R.Ring.product_of g.R.Ring.negative_of g.R.PhaseRing.HALF g.R.PhaseRing.turned_by
    g.R.PhaseRing.height_of (g.met.R.Ring.ring_laws permitted)
    (g.met.R.PhaseRing.turn_laws permitted) (g.met.R.PhaseRing.height_laws permitted) in
    let n : ℕ = wires c.args.circuit.now in
    let gs = c.gates-gate-items.result.now in
    let end : Amps (List ℤ) =
    after_gates (phases ring) c.args.circuit.now.gates
    (start (phases ring) c.args.circuit.now.inputs
    (bits_of (spelled c.args.circuit.now.inputs c.args.b))) in
    let v : List (List ℤ) = map g.R.Ring.seen c.gates.state.entries.items in
    let none : drop c.gates.gate-index gs ≡ [] = drop_all _ _ c.gates-test.false in
    gates_over ring g.R.Ring.IsElement laws n end v
    (subst (λ t. GatesLeft ring g.R.Ring.IsElement n end (map (plain_gate {h = g.row.H}) t) v) none
    c.gates.invariant.left)
