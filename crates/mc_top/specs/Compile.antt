-- `compile`: the pattern that a circuit is compiled into.
use Rattle.std.specs.Prelude.{◌≡◌, ℕ, codes, IsSomeAnd}
use Rattle.mc_model.specs.Pattern.{Circuit, Pattern}
use Rattle.mc_compile.specs.Compilations.{IsCompilation}
use Rattle.mc_compile.specs.Laws.{IsCompiled}
use Rattle.mc_pattern_text.specs.Canonical.{pattern_text}
use Rattle.mc_document.specs.Documents.{PlainDocument, circuit_in}
use Rattle.mc_document.specs.Documents.{only_circuits}
use Rattle.mc_top.specs.Due.{Due, IsDueUnless, holding}
use Rattle.mc_top.specs.Source.{translation_limit}
use Rattle.mc_top.specs.Command.{Command}

-- the text of the pattern that is compiled from a circuit: by the chosen flow of its graph
pub record IsCompiledText (half : ℕ) (c : Circuit) (due : Due) : Type 0 where
  pub compiled : Pattern
  pub edges : ℕ
  pub depth : ℕ
  pub compilation : IsCompilation half c compiled edges depth
  pub text : due ≡ holding (pattern_text half compiled)

abbrev pub IsDueCompiled : ℕ → Circuit → Due → Type 0
IsDueCompiled half c = IsDueUnless (translation_limit c) (IsCompiledText half c)

abbrev pub IsDueCompile : ℕ → PlainDocument → Due → Type 0
IsDueCompile half d due = IsSomeAnd (circuit_in d) (λ c. IsDueCompiled half c due)

-- what is compiled from a circuit has its table at every branch up to a phase, and at the zero
-- branch exactly, and is no deeper than any flow
abbrev pub CompilesTo : ℕ → Circuit → Type 0
CompilesTo half c = (compiled : Pattern) (edges depth : ℕ) →
    IsCompilation half c compiled edges depth → IsCompiled half c compiled

abbrev pub MeansCompile : ℕ → PlainDocument → Type 0
MeansCompile half d = IsSomeAnd (circuit_in d) (CompilesTo half)

abbrev pub compile_command : Command
compile_command = record {
  word = codes "compile";
  takes = only_circuits;
  IsDue = λ half place d due. IsDueCompile half d due;
  Means = MeansCompile;
}
