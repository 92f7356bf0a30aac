-- The kind of a change's section: its table, its rules, and the change that lines spell.
use Rattle.std.specs.Prelude.{ℕ, List, [], ◌∷◌, Bool, true, false, not, ◌&&◌, ◌==◌, nat_eq, nat_lt}
use Rattle.std.specs.Prelude.{length, map, slice_get, Option, None, Some}
use Rattle.mc_model.specs.Names.{Name}
use Rattle.mc_model.specs.Numbers.{is_member}
use Rattle.mc_model.specs.Pattern.{Pattern, measured_order}
use Rattle.mc_model.specs.Shift.{ChangeRow}
use Rattle.mc_text.specs.declared.head.Head.{Head}
use Rattle.mc_text.specs.declared.head.Head.TheVariants.{O, End}
use Rattle.mc_text.specs.declared.fault.Fault.TheVariants.{NotMeasured, OtherRow}
use Rattle.mc_text.specs.Heads.{is_end}
use Rattle.mc_text.specs.Judged.{Lines, Rules}
use Rattle.mc_text.specs.Rules.{broken}
use Rattle.mc_rows.specs.declared.row.Shape.TheVariants.{Bare, Listed}
use Rattle.mc_rows.specs.declared.row.Row.{Row}
use Rattle.mc_rows.specs.Rows.{Shapes, rows_in}
use Rattle.mc_rows.specs.Judge.{Bars, Kind, row_rules}

-- rows, and behind them `end`
abbrev pub follows_in_change : Option Head → Option Head → Bool
follows_in_change None (Some O) = true
follows_in_change None (Some End) = true
follows_in_change (Some O) (Some O) = true
follows_in_change (Some O) (Some End) = true
follows_in_change _ _ = false

-- `o NAME NAMES`
abbrev pub change_shape : Shapes
change_shape (Some O) = Listed
change_shape _ = Bare

-- whether a qubit is this one, where there is one
abbrev pub is_this : Option ℕ → ℕ → Bool
is_this None q = false
is_this (Some due) q = nat_eq due q

abbrev pub names_of : List Row → List ℕ
names_of rows = map (λ row. row.name) rows

-- behind a pattern that measures these qubits in this order: the rows are theirs, in the same
-- order, so that the qubits measured before that of a row are those of the rows before; and each
-- member of its signal is one of them
abbrev pub row_each : List ℕ → Bars
row_each order = record {
  head = λ rows head. broken ((is_end head && nat_lt (length rows) (length order), OtherRow) ∷ []);
  named = λ rows head number q.
      broken ((not (is_this (slice_get order (length rows)) q), OtherRow) ∷ []);
  listed = λ rows q. broken ((not (is_member (names_of rows) q), NotMeasured) ∷ []);
}

-- whether `!` may stand among the members
abbrev pub change_kind : Bool → List ℕ → Kind
change_kind second order = record {
  follows = follows_in_change;
  shape = change_shape;
  bars = row_each order;
  second = second;
}

-- the rules of a version behind a pattern
abbrev pub change_rules : ℕ → Pattern → Rules
change_rules version p =
    row_rules (change_kind (version == 2) (measured_order p.commands)) p.names

abbrev pub change_row : Row → ChangeRow
change_row row = record {
  qubit = row.name;
  signal = record { members = row.set; constant = row.constant };
}

-- the change that the lines behind a pattern with these names spell
abbrev pub rows_of : List Name → Lines → List ChangeRow
rows_of names lines = map change_row (rows_in change_shape names lines)
