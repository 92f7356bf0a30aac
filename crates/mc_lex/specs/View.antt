-- Where a reader of words stands in its text.
use Rattle.std.specs.Prelude.{◌≡◌, ℕ, ◌+◌, ◌≤◌, List, Bool, true, false, length, Option, IfSome}
use Rattle.mc_model.specs.Limits.{most_bytes}
use Rattle.mc_lex.specs.declared.part.Part.{Part}
use Rattle.mc_lex.specs.Lines.{past_items, end_of}
use Rattle.mc_lex.specs.Left.{Left, before}
use Rattle.mc_lex.specs.Parts.{tokens_in, later_lines}

-- `part` is left of the text: it stands in the current line, or before a line
abbrev pub left_of : List ℕ → Part → Bool → Left
left_of text part true = record {
  here = tokens_in part;
  lack = (part.line, past_items part.column (tokens_in part));
  later = later_lines true part;
  last = end_of text;
}
left_of text part false = before (later_lines false part) (end_of text)

-- lines and columns are no more than the text is long
pub record IsPlaced (text : List ℕ) (part : Part) (end : Option (ℕ × ℕ)) : Type 0 where
  pub short : length text ≤ most_bytes
  pub lines : part.line + length part.bytes.now ≤ length text + 1
  pub columns : part.column + length part.bytes.now ≤ length text + 1
  pub within : length part.bytes.now ≤ length text
  pub counted : IfSome end (λ place. place ≡ end_of text)
