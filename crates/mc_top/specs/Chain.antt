-- `chain`: two patterns as one, the second behind the first.
use Rattle.std.specs.Prelude.{◌≡◌, ℕ, codes, length, nat_eq, if◌then◌else◌, Option, Some, IsSomeAnd}
use Rattle.std.specs.Option.{option_map}
use Rattle.mc_lex.specs.declared.end.TextEnd.TheVariants as end
use Rattle.mc_model.specs.Bits.{Bits}
use Rattle.mc_model.specs.Pattern.{Pattern}
use Rattle.mc_compose.specs.Composed.{AreJoined, chained, place_behind}
use Rattle.mc_compose.specs.Maps.{MultipliesMaps}
use Rattle.mc_document.specs.Documents.{PlainDocument, two_in}
use Rattle.mc_document.specs.Documents.{two_patterns}
use Rattle.mc_top.specs.Due.{Due, refusal}
use Rattle.mc_top.specs.TwoPatterns.{due_pattern}
use Rattle.mc_top.specs.Command.{Command}

-- the text of the chained pattern; where the first has not as many outputs as the second has
-- inputs, the refusal at the word with which the second begins
abbrev pub due_chained : ℕ → Pattern → Pattern → ℕ → ℕ → Due
due_chained half first second line column =
    if nat_eq (length first.outputs) second.inputs
    then due_pattern half (chained first second)
    else refusal (end.Refused 27 line column)

abbrev pub due_chain : ℕ → PlainDocument → Option Due
due_chain half d = option_map (λ two. due_chained half two.0 two.1 two.2 two.3) (two_in d)

-- the first has as many outputs as the second has inputs; whatever the outcomes of the two, some
-- outcomes of the chained pattern are made of them, and at all that are its branch map is the
-- product of theirs
pub record MeansChained (half : ℕ) (first second : Pattern) : Type 0 where
  pub fit : length first.outputs ≡ second.inputs
  pub joined : (o1 o2 : Bits) →
      (o : Bits) × AreJoined first second (λ q. q) (place_behind first second) o1 o2 o
  pub maps : MultipliesMaps half first second (chained first second)

abbrev pub MeansChain : ℕ → PlainDocument → Type 0
MeansChain half d = IsSomeAnd (two_in d) (λ two. MeansChained half two.0 two.1)

abbrev pub chain_command : Command
chain_command = record {
  word = codes "chain";
  takes = two_patterns;
  IsDue = λ half place d due. due_chain half d ≡ Some due;
  Means = MeansChain;
}
