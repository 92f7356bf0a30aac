-- The canonical text of a change.
use Rattle.std.specs.Prelude.{ℕ, List, ◌∷◌, map, Some}
use Rattle.mc_lex.specs.declared.kind.Kind.TheVariants.{Change}
use Rattle.mc_model.specs.Names.{Name}
use Rattle.mc_model.specs.Pattern.{Pattern}
use Rattle.mc_model.specs.Shift.{ChangeRow}
use Rattle.mc_text.specs.declared.head.Head.TheVariants.{O}
use Rattle.mc_text.specs.Headers.{header_words}
use Rattle.mc_text.specs.Judged.{Words, Lines}
use Rattle.mc_write.specs.Text.{text_of}
use Rattle.mc_rows.specs.declared.row.Row.{Row}
use Rattle.mc_rows.specs.Written.{rows_lines}
use Rattle.mc_change_text.specs.Changes.{change_version}
use Rattle.mc_change_text.specs.Kinds.{change_shape}

-- the members by rising number, and behind them the constant
abbrev pub written_row : ChangeRow → Row
written_row row = record {
  head = Some O;
  number = 0;
  name = row.qubit;
  set = row.signal.members;
  constant = row.signal.constant;
}

-- it never says a step
abbrev pub change_header : List ChangeRow → Words
change_header rows = header_words Change (change_version rows) 4

-- the lines behind the header
abbrev pub change_lines : List Name → List ChangeRow → Lines
change_lines names rows = rows_lines change_shape names (map written_row rows)

-- the text, with its header, behind a pattern
abbrev pub change_text : Pattern → List ChangeRow → List ℕ
change_text p rows = text_of (change_header rows ∷ change_lines p.names rows)
