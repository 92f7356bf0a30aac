use Rattle.std.proofs.Common.{◌≡◌, ◌+◌, List, ◌∷◌, [], map, drop, ap, ◌∙◌, arith}
use Rattle.std.proofs.lemmas.List.{drop_all}
use Rattle.mc_model.specs.Pattern.{Gate}
use Rattle.mc_model.specs.Amplitude.{j_count}
use Rattle.mc_circuit.specs.Gates.{plain_gate}
use Rattle.mc_run.proofs.CountsAlong.{left_from, j_counted, cz_counted, none_counted}
use Rattle.mc_run.proofs.circuit.count_j.Goals as goal
use Rattle.mc_run.proofs.circuit.count_j.Goals.{in-J, in-Cz}

pub gates-preserved : goal.gates-preserved
gates-preserved g c =
    let plain = plain_gate {h = g.row.H} in
    let rest : List Gate = map plain (drop (c.gates.gate-index + 1) c.args.gates.now) in
    let here : j_count (map plain (drop c.gates.gate-index c.args.gates.now))
    ≡ j_count (plain c.gate-item.result ∷ rest) =
    ap j_count (left_from plain c.args.gates.now c.gates.gate-index c.gate-item.result
    c.gates-test.true c.gate-item.is) in
    elim c.match-gate.branch [
      | in-J w ↦
          let e = ap (λ x. j_count (plain x ∷ rest)) w.in-J.is ∙ j_counted rest _ _ in
          let s = c.gates.invariant.sum in
          let b = c.gates.invariant.below in
          let k = w.count-is in
          record { sum = omega arith; below = omega arith }
      | in-Cz w ↦
          let e = ap (λ x. j_count (plain x ∷ rest)) w.in-Cz.is ∙ cz_counted rest _ _ in
          let s = c.gates.invariant.sum in
          let b = c.gates.invariant.below in
          let k = w.count-is in
          record { sum = omega arith; below = omega arith }
    ]

pub returns : goal.returns
returns g c =
    let plain = plain_gate {h = g.row.H} in
    let none : drop c.gates.gate-index c.args.gates.now ≡ [] = drop_all _ _ c.gates-test.false in
    let e = ap (λ t. j_count (map plain t)) none ∙ none_counted in
    omega (arith, c.gates.invariant.sum, e)
