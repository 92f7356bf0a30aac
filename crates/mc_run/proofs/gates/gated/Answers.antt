use Rattle.std.proofs.Common.{◌≡◌, ℕ, ◌^◌, List, ℤ, length, map, sym, ap, ◌∙◌, subst}
use Rattle.std.proofs.lemmas.List.{length-map}
use Rattle.mc_circuit.specs.Gates.{plain_gate}
use Rattle.mc_run.specs.Sources.{source, CanTake, IsLongFor}
use Rattle.mc_run.specs.Gates.{gate_step}
use Rattle.mc_run.proofs.StepPlaces.{gate_there, gate_long}
use Rattle.mc_run.proofs.gates.gated.Goals as goal

pub advanced-requires-clause-fits : goal.advanced-requires-clause-fits
advanced-requires-clause-fits g c =
    let live : List ℕ = c.args.state.live.items in
    let v : List (List ℤ) = map g.R.Ring.seen c.args.state.entries.items in
    let n : length v ≡ length c.args.state.entries.items =
    length-map c.args.state.entries.items g.R.Ring.seen in
    let s : gate_step live (plain_gate c.args.gate.now) ≡ c.step_of-step.result =
    sym (c.step_of-step.ensures.step
    ∙ ap (λ l. gate_step l (plain_gate c.args.gate.now)) c.deref.ensures.value) in
    subst (λ t. IsLongFor t (length c.args.state.entries.items) (2 ^ length live)) s
    (subst (λ m. IsLongFor (gate_step live (plain_gate c.args.gate.now)) m (2 ^ length live)) n
    (gate_long g.R.PhaseRing.height_of g.R.PhaseRing.HALF live v (n ∙ c.requires.long)
    (plain_gate c.args.gate.now) c.requires.ready))

pub advanced-requires-clause-there : goal.advanced-requires-clause-there
advanced-requires-clause-there g c = λ i h.
    let seen = g.R.Ring.seen in
    let live : List ℕ = c.args.state.live.items in
    let v : List (List ℤ) = map seen c.args.state.entries.items in
    let n : length v ≡ length c.args.state.entries.items = length-map c.args.state.entries.items seen in
    let s : gate_step live (plain_gate c.args.gate.now) ≡ c.step_of-step.result =
    sym (c.step_of-step.ensures.step
    ∙ ap (λ l. gate_step l (plain_gate c.args.gate.now)) c.deref.ensures.value) in
    subst (λ t. CanTake g.R.PhaseRing.height_of v (source g.R.PhaseRing.HALF t i)) s
    (gate_there g.R.PhaseRing.height_of g.R.PhaseRing.HALF live v (n ∙ c.requires.long)
    (plain_gate c.args.gate.now) c.requires.ready c.requires.low i h)
