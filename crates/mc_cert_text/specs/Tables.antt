-- The tables of certificates' sections: which record words may follow one another, and what the
-- rows behind them are.
use Rattle.std.specs.Prelude.{Bool, true, false, Option, None, Some}
use Rattle.mc_text.specs.declared.head.Head.{Head}
use Rattle.mc_text.specs.declared.head.Head.TheVariants.{Depth, G, Y, B, L, End}
use Rattle.mc_rows.specs.declared.row.Shape.TheVariants.{Bare, Numbered, Ranked, Set, NamedSet}
use Rattle.mc_rows.specs.declared.row.Shape.TheVariants.{RankedSet}
use Rattle.mc_rows.specs.Rows.{Shapes}

-- the depth, and behind it the rows of vertices
abbrev pub follows_in_flow : Option Head → Option Head → Bool
follows_in_flow None (Some Depth) = true
follows_in_flow (Some Depth) (Some G) = true
follows_in_flow (Some Depth) (Some End) = true
follows_in_flow (Some G) (Some G) = true
follows_in_flow (Some G) (Some End) = true
follows_in_flow _ _ = false

-- `depth NUMBER` and `g NUMBER NAME : NAMES`
abbrev pub flow_shape : Shapes
flow_shape (Some Depth) = Numbered
flow_shape (Some G) = RankedSet
flow_shape _ = Bare

abbrev pub is_flow_row : Option Head → Bool
is_flow_row (Some G) = true
is_flow_row _ = false

abbrev pub follows_in_refuter : Option Head → Option Head → Bool
follows_in_refuter None (Some Y) = true
follows_in_refuter None (Some End) = true
follows_in_refuter (Some Y) (Some Y) = true
follows_in_refuter (Some Y) (Some End) = true
follows_in_refuter _ _ = false

-- `y NAME : NAMES`
abbrev pub refuter_shape : Shapes
refuter_shape (Some Y) = NamedSet
refuter_shape _ = Bare

-- the rows that give the sets of a refuter, or of a bound
abbrev pub is_set_row : Option Head → Bool
is_set_row (Some Y) = true
is_set_row _ = false

-- one line
abbrev pub follows_in_stuck : Option Head → Option Head → Bool
follows_in_stuck None (Some B) = true
follows_in_stuck (Some B) (Some End) = true
follows_in_stuck _ _ = false

-- `b NAMES`
abbrev pub stuck_shape : Shapes
stuck_shape (Some B) = Set
stuck_shape _ = Bare

-- the depth, behind it the layers of vertices, and behind these the sets
abbrev pub follows_in_least : Option Head → Option Head → Bool
follows_in_least None (Some Depth) = true
follows_in_least (Some Depth) (Some L) = true
follows_in_least (Some Depth) (Some Y) = true
follows_in_least (Some Depth) (Some End) = true
follows_in_least (Some L) (Some L) = true
follows_in_least (Some L) (Some Y) = true
follows_in_least (Some L) (Some End) = true
follows_in_least (Some Y) (Some Y) = true
follows_in_least (Some Y) (Some End) = true
follows_in_least _ _ = false

-- `depth NUMBER`, `l NUMBER NAME` and `y NUMBER NAME : NAMES`
abbrev pub least_shape : Shapes
least_shape (Some Depth) = Numbered
least_shape (Some L) = Ranked
least_shape (Some Y) = RankedSet
least_shape _ = Bare

abbrev pub is_layer_row : Option Head → Bool
is_layer_row (Some L) = true
is_layer_row _ = false
