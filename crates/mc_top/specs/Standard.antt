-- `standard`: the standard form of a pattern.
use Rattle.std.specs.Prelude.{ℕ, codes, Option, IsSomeAnd, ◌≡◌, Some}
use Rattle.mc_model.specs.Bits.{Bits}
use Rattle.mc_model.specs.Ring.{ring}
use Rattle.mc_model.specs.Pattern.{Pattern}
use Rattle.mc_model.specs.Alike.{AlikeBranches}
use Rattle.mc_model.specs.StandardForm.{standard_form}
use Rattle.mc_pattern_text.specs.Canonical.{pattern_text}
use Rattle.mc_document.specs.Documents.{PlainDocument}
use Rattle.mc_document.specs.Documents.{circuits_and_patterns}
use Rattle.mc_top.specs.Due.{Due}
use Rattle.mc_top.specs.Source.{source_in, due_from}
use Rattle.mc_top.specs.Command.{Command}

abbrev pub due_standard : ℕ → PlainDocument → Option Due
due_standard half d = due_from half d (λ p. pattern_text half (standard_form p))

-- at every outcome list a pattern and its standard form have branch maps that are alike
abbrev pub IsAlikeStandardised : ℕ → Pattern → Type 0
IsAlikeStandardised half p = (o : Bits) → AlikeBranches (ring half) p o (standard_form p) o

abbrev pub MeansStandard : ℕ → PlainDocument → Type 0
MeansStandard half d = IsSomeAnd (source_in half d) (IsAlikeStandardised half)

abbrev pub standard_command : Command
standard_command = record {
  word = codes "standard";
  takes = circuits_and_patterns;
  IsDue = λ half place d due. due_standard half d ≡ Some due;
  Means = MeansStandard;
}
