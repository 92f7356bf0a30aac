-- The canonical text of a trace.
use Rattle.std.specs.Prelude.{ℕ, List, [], ◌∷◌, ◌++◌, map, codes}
use Rattle.std.specs.Fmt.{decimal}
use Rattle.mc_lex.specs.declared.kind.Kind.TheVariants.{Trace}
use Rattle.mc_model.specs.Derivation.{Use}
use Rattle.mc_text.specs.Headers.{header_words}
use Rattle.mc_text.specs.Judged.{Words, Lines}
use Rattle.mc_write.specs.Text.{text_of}
use Rattle.mc_trace_text.specs.Words.{rule_word}

abbrev pub use_line : Use → Words
use_line u = codes "u" ∷ decimal u.place ∷ rule_word u.rule ∷ []

-- it never says a step
abbrev pub trace_header : Words
trace_header = header_words Trace 1 4

-- the lines behind the header
abbrev pub trace_lines : List Use → Lines
trace_lines uses = map use_line uses ++ (codes "end" ∷ []) ∷ []

-- the text, with its header, behind a pattern
abbrev pub trace_text : List Use → List ℕ
trace_text uses = text_of (trace_header ∷ trace_lines uses)
