-- `check`: whether a certificate holds of the graph before it, or a trace of the pattern.
use Rattle.std.specs.Prelude.{◌≡◌, ◌↔◌, ◌⊎◌, ℕ, List, [], ◌∷◌, codes, Option, None, Some, is_none}
use Rattle.std.specs.Prelude.{IsSomeAnd}
use Rattle.std.specs.Option.{option_and_then, option_map}
use Rattle.std.specs.Fmt.{decimal}
use Rattle.mc_model.specs.Derivation.{Use}
use Rattle.mc_model.specs.Numbers.{is_member}
use Rattle.mc_model.specs.Pattern.{Pattern}
use Rattle.mc_model.specs.StandardForm.{standard_commands}
use Rattle.mc_model.specs.Graph.{OpenGraph}
use Rattle.mc_model.specs.Flow.{IsCausalFlow, IsStuckSet}
use Rattle.mc_rules.specs.Laws.{KeepsPattern}
use Rattle.mc_derivations.specs.Checks.{IsTrace}
use Rattle.mc_trace.specs.Judging.{Judges}
use Rattle.mc_graph.specs.Refuters.{RefuterLine, IsRefuterOf}
use Rattle.mc_gflow.specs.Answers.{HasNoFlow}
use Rattle.mc_cert.specs.Rules.{Breach, first_broken}
use Rattle.mc_cert_text.specs.Certs.{PlainCert}
use Rattle.mc_cert_text.specs.Holding.{HoldsOf, rules_of}
use Rattle.mc_write.specs.Text.{Line, line_text}
use Rattle.mc_document.specs.Documents.{PlainDocument, cert_in, graph_in, pattern_in}
use Rattle.mc_document.specs.Documents.{traced_in}
use Rattle.mc_document.specs.Documents.{certified_kinds}
use Rattle.mc_top.specs.Due.{Due, IsDueUnless, answer}
use Rattle.mc_top.specs.Trace.{trace_limit}
use Rattle.mc_top.specs.Command.{Command}
use Rattle.mc_top.specs.Least.{BoundsHold}

-- the graph and the certificate of a document that has one
abbrev pub certified_in : PlainDocument → Option (OpenGraph × PlainCert)
certified_in d =
    option_and_then (λ g. option_map (λ cert. (g, cert)) (cert_in d)) (graph_in d)

-- the first row that breaks a rule, and the least rule that it breaks
abbrev pub breach_in : OpenGraph × PlainCert → Option Breach
breach_in certified = first_broken 1 (rules_of certified.0 certified.1)

-- the line `yes`, or the line that names the breach
abbrev pub verdict_line : Option Breach → Line
verdict_line None = codes "yes" ∷ []
verdict_line (Some breach) =
    codes "no" ∷ codes "row" ∷ decimal breach.row ∷ codes "rule" ∷ decimal breach.rule ∷ []

abbrev pub verdict_text : Option Breach → List ℕ
verdict_text breach = line_text (verdict_line breach)

abbrev pub due_verdict : Option Breach → Due
due_verdict breach = answer (verdict_text breach) (is_none breach)

abbrev pub IsDueCertified : PlainDocument → Due → Type 0
IsDueCertified d due =
    IsSomeAnd (certified_in d) (λ certified. due ≡ due_verdict (breach_in certified))

-- the pattern and the uses of a document that has a trace
abbrev pub traced_pattern_in : PlainDocument → Option (Pattern × List Use)
traced_pattern_in d =
    option_and_then (λ p. option_map (λ uses. (p, uses)) (traced_in d)) (pattern_in d)

-- the verdict on the uses: they are a derivation of the standard form, or a row breaks a rule
pub record IsTraceVerdict (p : Pattern) (uses : List Use) (due : Due) : Type 0 where
  pub found : Option Breach
  pub judges : Judges found p.inputs uses p.commands
  pub text : due ≡ due_verdict found

abbrev pub IsDueTraced : Pattern × List Use → Due → Type 0
IsDueTraced traced = IsDueUnless (trace_limit traced.0) (IsTraceVerdict traced.0 traced.1)

-- a document has a certificate or a trace, and not both
abbrev pub IsDueCheck : PlainDocument → Due → Type 0
IsDueCheck d due =
    IsDueCertified d due
    ⊎ IsSomeAnd (traced_pattern_in d) (λ traced. IsDueTraced traced due)

-- no rule is broken exactly where the certificate holds; where a refuter holds no flow exists, where
-- a stuck set holds no causal flow, and where a bound holds every flow has at least its depth
pub record MeansVerdict (certified : OpenGraph × PlainCert) : Type 0 where
  pub yes : (breach_in certified ≡ None) ↔ HoldsOf certified.0 certified.1
  pub refuters : (rows : List RefuterLine) → IsRefuterOf certified.0 rows → HasNoFlow certified.0
  pub stuck : (set : List ℕ) → IsStuckSet certified.0 (is_member set) → (next layer : ℕ → ℕ) →
      IsCausalFlow certified.0 next layer → ⊥
  pub bounds : BoundsHold certified.0

-- where the uses are a derivation of the standard form, the branch maps of its two ends are alike
-- at every outcome list
abbrev pub MeansTraceVerdict : ℕ → Pattern × List Use → Type 0
MeansTraceVerdict half traced =
    let p = traced.0 in
    IsTrace p.inputs traced.1 p.commands →
    KeepsPattern half p (standard_commands p.inputs p.commands)

abbrev pub MeansCheck : ℕ → PlainDocument → Type 0
MeansCheck half d =
    IsSomeAnd (certified_in d) MeansVerdict
    ⊎ IsSomeAnd (traced_pattern_in d) (MeansTraceVerdict half)

abbrev pub check_command : Command
check_command = record {
  word = codes "check";
  takes = certified_kinds;
  IsDue = λ half place d. IsDueCheck d;
  Means = MeansCheck;
}
