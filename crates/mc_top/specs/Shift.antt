-- `shift`: the shifted form of a pattern's standard form, and the change of outcomes.
use Rattle.std.specs.Prelude.{ℕ, List, ◌++◌, codes, Option, IsSomeAnd, ◌≡◌, Some}
use Rattle.mc_model.specs.Bits.{Bits}
use Rattle.mc_model.specs.Ring.{ring}
use Rattle.mc_model.specs.Pattern.{Pattern}
use Rattle.mc_model.specs.Alike.{AlikeBranches}
use Rattle.mc_model.specs.StandardForm.{standard_form}
use Rattle.mc_model.specs.Shift.{new_outcomes, change_of, IsShiftedForm}
use Rattle.mc_pattern_text.specs.Canonical.{pattern_text}
use Rattle.mc_change_text.specs.Canonical.{change_text}
use Rattle.mc_shift.specs.Shifted.{shifted_form}
use Rattle.mc_document.specs.Documents.{PlainDocument}
use Rattle.mc_document.specs.Documents.{circuits_and_patterns}
use Rattle.mc_top.specs.Due.{Due}
use Rattle.mc_top.specs.Source.{source_in, due_from}
use Rattle.mc_top.specs.Command.{Command}

-- the text of the shifted form of a standard form, with the change of outcomes behind it
abbrev pub shifted_text : ℕ → Pattern → List ℕ
shifted_text half p =
    pattern_text half (shifted_form p) ++ change_text (shifted_form p) (change_of p.commands)

abbrev pub due_shift : ℕ → PlainDocument → Option Due
due_shift half d = due_from half d (λ p. shifted_text half (standard_form p))

-- the second is the shifted form of the standard form; at every outcome list the pattern has a
-- branch map that is alike with that of the second at the new outcomes
pub record IsShiftedBy (half : ℕ) (p q : Pattern) : Type 0 where
  pub form : IsShiftedForm (standard_form p) q
  pub alike : (o : Bits) →
      AlikeBranches (ring half) p o q (new_outcomes (change_of (standard_form p).commands) o)

abbrev pub MeansShift : ℕ → PlainDocument → Type 0
MeansShift half d =
    IsSomeAnd (source_in half d) (λ p. IsShiftedBy half p (shifted_form (standard_form p)))

abbrev pub shift_command : Command
shift_command = record {
  word = codes "shift";
  takes = circuits_and_patterns;
  IsDue = λ half place d due. due_shift half d ≡ Some due;
  Means = MeansShift;
}
