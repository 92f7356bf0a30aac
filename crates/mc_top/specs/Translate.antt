-- `translate`: the pattern of a circuit.
use Rattle.std.specs.Prelude.{ℕ, codes, Option, IsSomeAnd, ◌≡◌, Some}
use Rattle.std.specs.Option.{option_map}
use Rattle.mc_model.specs.Ring.{ring}
use Rattle.mc_model.specs.Pattern.{Circuit}
use Rattle.mc_model.specs.Amplitude.{HasTableAtEachBranch}
use Rattle.mc_model.specs.Translation.{translation}
use Rattle.mc_pattern_text.specs.Canonical.{pattern_text}
use Rattle.mc_document.specs.Documents.{PlainDocument, circuit_in}
use Rattle.mc_document.specs.Documents.{only_circuits}
use Rattle.mc_top.specs.Due.{Due, due_unless, holding}
use Rattle.mc_top.specs.Source.{translation_limit}
use Rattle.mc_top.specs.Command.{Command}

-- the text of its translation
abbrev pub due_translation : ℕ → Circuit → Due
due_translation half c =
    due_unless (translation_limit c) (holding (pattern_text half (translation half c)))

abbrev pub due_translate : ℕ → PlainDocument → Option Due
due_translate half d = option_map (due_translation half) (circuit_in d)

-- at every outcome list the branch map of the translation is the table of the circuit
abbrev pub MeansTranslate : ℕ → PlainDocument → Type 0
MeansTranslate half d =
    IsSomeAnd (circuit_in d) (λ c. HasTableAtEachBranch (ring half) c (translation half c))

abbrev pub translate_command : Command
translate_command = record {
  word = codes "translate";
  takes = only_circuits;
  IsDue = λ half place d due. due_translate half d ≡ Some due;
  Means = MeansTranslate;
}
