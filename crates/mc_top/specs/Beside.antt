-- `beside`: two patterns as one, side by side.
use Rattle.std.specs.Prelude.{◌≡◌, ℕ, codes, Option, Some, IsSomeAnd}
use Rattle.std.specs.Option.{option_map}
use Rattle.mc_model.specs.Bits.{Bits}
use Rattle.mc_model.specs.Pattern.{Pattern}
use Rattle.mc_compose.specs.Composed.{AreJoined, place_left, place_right, side_by_side}
use Rattle.mc_compose.specs.Maps.{MultipliesEntries}
use Rattle.mc_document.specs.Documents.{PlainDocument, two_in}
use Rattle.mc_document.specs.Documents.{two_patterns}
use Rattle.mc_top.specs.Due.{Due}
use Rattle.mc_top.specs.TwoPatterns.{due_pattern}
use Rattle.mc_top.specs.Command.{Command}

-- the text of the two patterns side by side
abbrev pub due_beside : ℕ → PlainDocument → Option Due
due_beside half d = option_map (λ two. due_pattern half (side_by_side two.0 two.1)) (two_in d)

-- whatever the outcomes of the two, some outcomes of the whole are made of them, and at all that
-- are the entries of its branch map are the products of theirs
pub record MeansSides (half : ℕ) (first second : Pattern) : Type 0 where
  pub joined : (o1 o2 : Bits) →
      (o : Bits)
      × AreJoined first second (place_left first second) (place_right first second) o1 o2 o
  pub maps : MultipliesEntries half first second (side_by_side first second)

abbrev pub MeansBeside : ℕ → PlainDocument → Type 0
MeansBeside half d = IsSomeAnd (two_in d) (λ two. MeansSides half two.0 two.1)

abbrev pub beside_command : Command
beside_command = record {
  word = codes "beside";
  takes = two_patterns;
  IsDue = λ half place d due. due_beside half d ≡ Some due;
  Means = MeansBeside;
}
