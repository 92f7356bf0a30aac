use Rattle.std.proofs.Common.{◌∙◌, ap, ap₂, refl, List, [], ◌∷◌, ◌++◌, cond, length}
use Rattle.std.specs.Prelude.{ℕ}
use Rattle.mc_model.specs.Pattern.{Circuit}
use Rattle.mc_extract.specs.Written.{name_at}
use Rattle.mc_extract.proofs.FinderLemmas.{length_numbers}
use Rattle.mc_extract.proofs.WholeCircuits.{names_at_first, names_more}
use Rattle.mc_extract.proofs.named.without_gates.Goals as goal

pub vertices-init : goal.vertices-init
vertices-init g c =
    let inputs = c.in_ok-names.ensures in
    c.new-circuit.ensures
    ∙ ap₂ (λ (names : List (List ℕ)) (n : ℕ). record {
      names = names;
      inputs = n;
      outputs = [];
      gates = [];
    })
    (names_at_first c.args.g.now c.args.first.now c.in_ok-names.names c.inputs-v.result
    c.requires.inputs inputs c.inputs-v.ensures)
    (ap length inputs ∙ length_numbers (name_at c.args.g.now) 0 c.args.g.now.inputs)

pub vertices-preserved : goal.vertices-preserved
vertices-preserved g c =
    c.in_ok-plus_if.ensures
    ∙ ap (λ (circuit : Circuit). record circuit {
      names = circuit.names ++ cond c.is_one_of.result (c.name_of.result ∷ []) [];
    }) c.vertices.invariant
    ∙ ap (λ (names : List (List ℕ)). record {
      names = names;
      inputs = c.args.g.now.inputs;
      outputs = [];
      gates = [];
    })
    (names_more c.args.g.now c.args.first.now c.vertices.v c.is_one_of.result c.name_of.result
    _ refl c.is_one_of.ensures c.name_of.ensures)
