use Rattle.std.proofs.Common.{◌≡◌, [], arith, drop}
use Rattle.std.proofs.lemmas.List.{drop_all}
use Rattle.mc_circuit.specs.Gates.{plain_gate}
use Rattle.mc_pattern.proofs.Lent.{come_back}
use Rattle.mc_translate.specs.Steps.{qubit_of}
use Rattle.mc_translate.proofs.GatesLeft.{left_at_start, left_from, left_behind, left_ready}
use Rattle.mc_translate.proofs.GatesLeft.{left_none}
use Rattle.mc_translate.proofs.Outputs.{outputs_listed}
use Rattle.mc_translate.proofs.translation.build.Goals as goal

pub gates-init : goal.gates-init
gates-init g c =
    rw (
      c.in_ok-at.ensures,
      c.len.ensures.len,
      c.names.ensures.names,
      c.in_ok-builder.ensures,
      c.gates-gate-items.ensures,
    )
    (left_at_start g.row.H c.args.circuit.now c.names.ensures.valid)

pub push_gate-requires : goal.push_gate-requires
push_gate-requires g c =
    let circuit = c.args.circuit.now in
    let gates = c.gates-gate-items.result.now in
    let here =
    left_from (plain_gate {h = g.row.H}) g.row.H circuit c.gates.at.items c.gates.builder gates
    c.gates.gate-index c.gate-item.result c.gates-test.true c.gate-item.is c.gates.invariant in
    let ready = left_ready g.row.H circuit c.gates.at.items c.gates.builder _ _ c.requires here in
    (omega arith, (omega arith, rw c.deref_mut.ensures.value ready))

pub gates-preserved : goal.gates-preserved
gates-preserved g c =
    let circuit = c.args.circuit.now in
    let gates = c.gates-gate-items.result.now in
    let here =
    left_from (plain_gate {h = g.row.H}) g.row.H circuit c.gates.at.items c.gates.builder gates
    c.gates.gate-index c.gate-item.result c.gates-test.true c.gate-item.is c.gates.invariant in
    let next = left_behind g.row.H circuit c.gates.at.items c.gates.builder _ _ here in
    let lent = c.push_gate.auto.at in
    let long = rw c.deref_mut.ensures.value at lent in
    let back = come_back c.gates.at.items c.push_gate.new.at _ c.gates.at.ok.0 long in
    rw (
      back,
      c.in_ok-push_gate.ensures.added,
      c.in_ok-push_gate.ensures.moved,
      c.deref_mut.ensures.value,
    ) next

pub finish_listing-requires : goal.finish_listing-requires
finish_listing-requires g c =
    let outputs = c.names.ensures.valid.valid.outputs in
    let listed =
    outputs_listed _ _ (qubit_of c.gates.at.items) _ _ c.args.circuit.now.outputs
    c.gates.invariant.standing outputs in (
      omega arith,
      (
        omega arith,
        rw (
          c.deref-2.ensures.value,
          c.in_ok-outputs.ensures,
          c.deref.ensures.value,
          c.out.ensures,
        ) listed,
      ),
    )

pub returns : goal.returns
returns g c =
    let over = c.gates-test.false in
    let none : drop c.gates.gate-index c.gates-gate-items.result.now ≡ [] = drop_all _ _ over in
    let done = rw none at c.gates.invariant in
    let valid = c.names.ensures.valid in
    let ended = left_none g.row.H c.args.circuit.now c.gates.at.items c.gates.builder valid done in
    rw (
      c.deref-2.ensures.value,
      c.in_ok-outputs.ensures,
      c.deref.ensures.value,
      c.out.ensures,
      ended,
    ) at c.finish_listing.ensures
