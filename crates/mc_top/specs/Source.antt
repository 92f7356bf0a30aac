-- The pattern of a document.
use Rattle.std.specs.Prelude.{ℕ, List, nat_lt, if◌then◌else◌, Option, None, Some}
use Rattle.std.specs.Option.{option_and_then, option_map, option_or}
use Rattle.mc_lex.specs.declared.end.TextEnd.{TextEnd}
use Rattle.mc_lex.specs.declared.end.TextEnd.TheVariants as end
use Rattle.mc_model.specs.Pattern.{Circuit, Pattern}
use Rattle.mc_model.specs.Graph.{zero_pattern}
use Rattle.mc_model.specs.Translation.{translation}
use Rattle.mc_model.specs.Translation.{qubit_count}
use Rattle.mc_model.specs.Limits.{most_qubits}
use Rattle.mc_document.specs.Documents.{PlainDocument, circuit_in, graph_in, pattern_in}
use Rattle.mc_top.specs.Due.{Due, due_unless, holding}

-- a translation has at most 256 qubits
abbrev pub translation_limit : Circuit → Option TextEnd
translation_limit c =
    if nat_lt most_qubits (qubit_count c) then Some (end.Limit 2 (qubit_count c)) else None

-- the pattern of a document, where a circuit counts as its translation
abbrev pub source_in : ℕ → PlainDocument → Option Pattern
source_in half d = option_or (option_map (translation half) (circuit_in d)) (pattern_in d)

abbrev pub source_limit : PlainDocument → Option TextEnd
source_limit d = option_and_then translation_limit (circuit_in d)

-- what is due where the answer is made of the pattern of a document
abbrev pub due_from : ℕ → PlainDocument → (Pattern → List ℕ) → Option Due
due_from half d text_for =
    option_map (λ p. due_unless (source_limit d) (holding (text_for p))) (source_in half d)

-- the pattern that is run for a document that is no circuit: a graph counts as its pattern without
-- a flow
abbrev pub run_source_in : PlainDocument → Option Pattern
run_source_in d = option_or (pattern_in d) (option_map zero_pattern (graph_in d))
