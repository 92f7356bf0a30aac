-- The standard form of a pattern of the code is one of the code.
use Rattle.std.proofs.Common.{◌≡◌, ℕ, false, List, [], length, map, ◌∙◌, ap, subst, arith}
use Rattle.mc_model.specs.Numbers.{pairs_below}
use Rattle.mc_model.specs.Pattern.{Command, Prep, Ent, Pattern}
use Rattle.mc_model.specs.StandardForm.{corrections_below, standard_commands, standard_form}
use Rattle.mc_pattern.specs.Patterns.{IsPattern, begun, with_outputs}
use Rattle.mc_rules.specs.Laws.{StandardIsStandard}
use Rattle.mc_rules.specs.OnePass.{OnePass}
use Rattle.mc_standard.specs.declared.pass.Pass.{Pass}
use Rattle.mc_standard.specs.declared.standard.Fix.{Fix}
use Rattle.mc_standard.specs.OddPairs.{is_odd}
use Rattle.mc_standard.specs.Plain.{plain_edge, plain_measure, plain_fix, in_parts}
use Rattle.mc_standard.specs.Running.{signals_of, AllBelow, LeadsTo}
use Rattle.mc_standard.specs.StandardForms.{IsStandardForm}
use Rattle.mc_standard.proofs.RunningPass.{comes_to_standard, valid_below}
use Rattle.mc_standard.proofs.StandardTyped.{typed_standard}

pub standard_pattern : StandardIsStandard → (half : ℕ) (p : Pattern) → IsPattern half p →
    IsStandardForm half (standard_form p)
standard_pattern law half p h =
    let s = law p h.valid in
    record {
      pattern = record {
        permitted = h.permitted;
        valid = s.valid;
        few = s.few;
        typed = typed_standard half p h.typed;
      };
      own = s.own;
    }

-- what a pass over a pattern's commands has made are the parts of the standard form
pub form_made : (half : ℕ) → OnePass → (p : Pattern) → IsPattern half p → (pass : Pass half)
    (edges : List (ℕ × ℕ)) (fixes : List Fix) (n : ℕ) (cs : List Command) → cs ≡ p.commands →
    LeadsTo pass [] cs → n ≡ length p.names →
    map plain_edge edges ≡ pairs_below Ent (is_odd pass.odd.items) n n →
    map plain_fix fixes
    ≡ corrections_below (λ q. false) (signals_of pass.xs.items) (signals_of pass.zs.items) n →
    in_parts pass.preps.items edges pass.measures.items fixes
    ≡ standard_commands p.inputs p.commands
form_made half law p h pass edges fixes n cs same leads size is_edges is_fixes =
    let qubits = h.valid.qubits in
    let few = h.valid.names.few in
    comes_to_standard law p.inputs n p.commands (map Prep pass.preps.items) (map plain_edge edges)
    (map (plain_measure {h = half}) pass.measures.items) (map plain_fix fixes) pass.odd.items
    (signals_of pass.xs.items) (signals_of pass.zs.items) h.valid.commands (size ∙ qubits)
    (omega arith)
    (subst (λ (ds : List Command). LeadsTo pass [] ds) same leads) is_edges is_fixes

pub operands_below : (half : ℕ) (p : Pattern) → IsPattern half p → AllBelow 256 p.commands
operands_below half p h =
    let qubits = h.valid.qubits in
    let few = h.valid.names.few in
    valid_below p.inputs p.commands h.valid.commands (omega arith)

-- with the commands of the standard form it is the standard form
pub form_of : (p : Pattern) (cs : List Command) → cs ≡ standard_commands p.inputs p.commands →
    with_outputs (begun p.names p.inputs cs) p.outputs ≡ standard_form p
unfolding standard_form
form_of p cs e =
    ap (λ (ds : List Command). with_outputs (begun p.names p.inputs ds) p.outputs) e
