use Rattle.std.proofs.Common.{◌∙◌}
use Rattle.std.proofs.lemmas.List.{take_all}
use Rattle.mc_circuit.specs.Gates.{plain_gate}
use Rattle.mc_translate.proofs.JCounts.{j_count-map}
use Rattle.mc_translate.proofs.translation.count_j.Goals as goal

pub returns : goal.returns
returns g c =
    let h = c.gates-test.false in
    let all = rw (take_all _ _ h) at c.gates.invariant in
    all ∙ j_count-map (plain_gate {h = g.row.H}) c.args.gates.now
