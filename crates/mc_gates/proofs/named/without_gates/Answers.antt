use Rattle.std.proofs.Common.{◌∙◌, ap, sym, List, [], ◌∷◌, ◌++◌}
use Rattle.mc_model.specs.Names.{Name}
use Rattle.mc_model.specs.Pattern.{Circuit}
use Rattle.mc_gates.proofs.FirstNames.{take_next}
use Rattle.mc_gates.proofs.named.without_gates.Goals as goal

pub wires-preserved : goal.wires-preserved
wires-preserved c =
    c.in_ok-plus.ensures
    ∙ ap (λ (circuit : Circuit). record circuit {
      names = circuit.names ++ (c.name.result ∷ []);
    }) c.wires.invariant
    ∙ ap (λ (names : List Name). record {
      names = names;
      inputs = c.inputs-inputs.result;
      outputs = [];
      gates = [];
    })
    (sym (take_next c.names-names.result.now c.wires.v c.name.result c.name.ensures))
