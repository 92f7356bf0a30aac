use Rattle.std.proofs.Common.{◌≡◌, ◌<◌, None, length, map, arith}
use Rattle.std.proofs.lemmas.List.{map-append, length-map}
use Rattle.mc_circuit.specs.Gates.{plain_gate}
use Rattle.mc_circuit.specs.Circuits.{broken_rule}
use Rattle.mc_circuit.proofs.Building.{begun_more}
use Rattle.mc_circuit.proofs.builder.CircuitBuilder.push.Goals as goal

pub invariant_of-self-2 : goal.invariant_of-self-2
invariant_of-self-2 g c =
    let before = c.self.inside in
    let gates = map (plain_gate {h = g.row.H}) before.gates.items in
    let none : broken_rule (length before.names) (plain_gate c.args.gate) ≡ None = cc in
    let room : length gates < 32768 = rw length-map (omega (arith, c.len-2.ensures)) in
    let more = begun_more g.row.H before.names before.inputs gates (plain_gate c.args.gate)
    c.self.invariant none c.rule_of.ensures.angle room in
    rw (c.in-Ok.ensures.items, map-append) more
