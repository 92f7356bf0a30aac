-- The kind of rows of the tests: any order, lines of `o` and `g`, and no rules of its own.
use Rattle.std.specs.Prelude.{true, Option, None, Some}
use Rattle.mc_text.specs.declared.head.Head.{Head}
use Rattle.mc_text.specs.declared.head.Head.TheVariants.{O, G}
use Rattle.mc_rows.specs.declared.row.Shape.{Shape}
use Rattle.mc_rows.specs.declared.row.Shape.TheVariants.{Bare, Listed, RankedSet}
use Rattle.mc_rows.specs.Judge.{Kind}

abbrev pub counted_shape : Option Head → Shape
counted_shape (Some O) = Listed
counted_shape (Some G) = RankedSet
counted_shape _ = Bare

abbrev pub counted : Kind
counted = record {
  follows = λ last head. true;
  shape = counted_shape;
  bars = record {
    head = λ rows head. None;
    named = λ rows head number q. None;
    listed = λ rows q. None;
  };
  second = true;
}
