use Rattle.std.proofs.Common.{◌≡◌, IfOk, subst}
use Rattle.mc_model.specs.Pattern.{Circuit}
use Rattle.mc_circuit.specs.Canonical.{circuit_text}
use Rattle.mc_top.proofs.extract.print_extracted.Goals as goal

pub returns : goal.returns
returns g c =
    subst (λ (made : Circuit). IfOk c.print_circuit.result (λ text. text.items ≡ circuit_text g.row.H made))
    c.in_ok-circuit.ensures.circuit c.print_circuit.ensures
