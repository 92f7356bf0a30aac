-- `run` with outcomes: the table of one branch of a pattern or of a graph.
use Rattle.std.specs.Prelude.{ℕ, Bool, List, codes, length, nat_eq, if◌then◌else◌, Option, ◌≡◌}
use Rattle.std.specs.Prelude.{Some}
use Rattle.std.specs.Prelude.{IsSomeAnd}
use Rattle.std.specs.Option.{option_map}
use Rattle.mc_lex.specs.declared.end.TextEnd.TheVariants as end
use Rattle.mc_model.specs.Amplitude.{placed}
use Rattle.mc_model.specs.Pattern.{Pattern}
use Rattle.mc_text.specs.Judged.{Place}
use Rattle.mc_pattern.specs.Patterns.{measured_count}
use Rattle.mc_run.specs.Limits.{branch_limit}
use Rattle.mc_model.specs.Pattern.{measured_order}
use Rattle.mc_run_text.specs.Runs.{branch_run}
use Rattle.mc_document.specs.Documents.{PlainDocument}
use Rattle.mc_document.specs.Documents.{patterns_and_graphs}
use Rattle.mc_top.specs.Due.{Due, refusal, due_unless, holding, run_limit}
use Rattle.mc_top.specs.Run.{MeansBranch}
use Rattle.mc_top.specs.Source.{run_source_in}
use Rattle.mc_top.specs.Command.{Command}

-- the table of the branch, with an outcome for each measured qubit, in measuring order; what else
-- is asked for is refused at the first word of the text
abbrev pub due_outcomes : ℕ → Place → List Bool → Pattern → Due
due_outcomes half place outcomes p =
    if nat_eq (length outcomes) (measured_count p)
    then due_unless (run_limit (branch_limit p)) (holding (branch_run half p outcomes))
    else refusal (end.Refused 25 place.0 place.1)

abbrev pub due_branch : ℕ → Place → List Bool → PlainDocument → Option Due
due_branch half place outcomes d = option_map (due_outcomes half place outcomes) (run_source_in d)

abbrev pub MeansOutcomes : ℕ → List Bool → PlainDocument → Type 0
MeansOutcomes half outcomes d =
    IsSomeAnd (run_source_in d) (λ p.
    MeansBranch half p (placed (measured_order p.commands) outcomes))

abbrev pub branch_command : List Bool → Command
branch_command outcomes = record {
  word = codes "run";
  takes = patterns_and_graphs;
  IsDue = λ half place d due. due_branch half place outcomes d ≡ Some due;
  Means = λ half d. MeansOutcomes half outcomes d;
}
