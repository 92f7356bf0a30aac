-- `trace`: a pattern with a derivation of its standard form behind it.
use Rattle.std.specs.Prelude.{◌≡◌, ℕ, List, length, nat_lt, codes, Option, Some, None}
use Rattle.std.specs.Prelude.{IsSomeAnd, if◌then◌else◌}
use Rattle.mc_lex.specs.declared.end.TextEnd.{TextEnd}
use Rattle.mc_lex.specs.declared.end.TextEnd.TheVariants as end
use Rattle.mc_model.specs.Derivation.{Use}
use Rattle.mc_model.specs.Pattern.{Pattern}
use Rattle.mc_model.specs.StandardForm.{standard_commands}
use Rattle.mc_rules.specs.Laws.{KeepsPattern}
use Rattle.mc_derivations.specs.Derivations.{LeadsToStandard}
use Rattle.mc_trace_text.specs.Traces.{CanBeWritten}
use Rattle.mc_document.specs.Documents.{PlainDocument, document_text, traced}
use Rattle.mc_document.specs.Documents.{circuits_and_patterns}
use Rattle.mc_top.specs.Due.{Due, IsDueUnless, holding}
use Rattle.mc_top.specs.Source.{source_in, source_limit}
use Rattle.mc_top.specs.Command.{Command}

-- a pattern of which derivations are made and checked has at most 64 commands
abbrev pub trace_limit : Pattern → Option TextEnd
trace_limit p =
    if nat_lt 64 (length p.commands) then Some (end.Limit 6 (length p.commands)) else None

-- the pattern with a derivation of its standard form behind it; which one is free
pub record IsTracedText (half : ℕ) (p : Pattern) (due : Due) : Type 0 where
  pub uses : List Use
  pub leads : LeadsToStandard p.inputs uses p.commands
  pub fits : CanBeWritten uses
  pub text : due ≡ holding (document_text half (traced p uses))

abbrev pub IsTraceDue : ℕ → Pattern → Due → Type 0
IsTraceDue half p = IsDueUnless (trace_limit p) (IsTracedText half p)

abbrev pub IsDueTrace : ℕ → PlainDocument → Due → Type 0
IsDueTrace half d due =
    IsSomeAnd (source_in half d) (λ p. IsDueUnless (source_limit d) (IsTraceDue half p) due)

-- a derivation of the standard form has it for its end, and at every outcome list the branch maps
-- of its two ends are alike
abbrev pub MeansTraced : ℕ → Pattern → Type 0
MeansTraced half p = (uses : List Use) → LeadsToStandard p.inputs uses p.commands →
    KeepsPattern half p (standard_commands p.inputs p.commands)

abbrev pub MeansTrace : ℕ → PlainDocument → Type 0
MeansTrace half d = IsSomeAnd (source_in half d) (MeansTraced half)

abbrev pub trace_command : Command
trace_command = record {
  word = codes "trace";
  takes = circuits_and_patterns;
  IsDue = λ half place d. IsDueTrace half d;
  Means = MeansTrace;
}
