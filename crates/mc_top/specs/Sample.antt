-- `sample`: a summary of what a sample circuit is compiled into. No document is asked for it.
use Rattle.std.specs.Prelude.{◌≡◌, ℕ, ◌%◌, List, [], ◌∷◌, Bool, false, not, ◌&&◌, codes, length}
use Rattle.std.specs.Prelude.{sum, nat_eq, nat_le, if◌then◌else◌, Option, None, Some}
use Rattle.std.specs.Fmt.{decimal}
use Rattle.mc_angle.specs.Number.{is_number, number_of}
use Rattle.mc_model.specs.Pattern.{Pattern}
use Rattle.mc_write.specs.Text.{Line, text_of}
use Rattle.mc_pattern_text.specs.Canonical.{pattern_text}
use Rattle.mc_compile.specs.Compilations.{IsCompilation}
use Rattle.mc_sample.specs.Generator.{sample_circuit}
use Rattle.mc_top.specs.declared.sample.Summary.{Summary}
use Rattle.mc_top.specs.Due.{Due, holding}

-- the number that a word spells: 1 to 200, without a leading zero
abbrev pub begins_with_zero : List ℕ → Bool
begins_with_zero [] = false
begins_with_zero (digit ∷ digits) = nat_eq digit 48

abbrev pub is_sample : ℕ → Bool
is_sample n = nat_le 1 n && nat_le n 200

abbrev pub sample_number : List ℕ → Option ℕ
sample_number word =
    if not (begins_with_zero word) && (is_number word && is_sample (number_of word))
    then Some (number_of word) else None

-- the summary of a pattern, with the edges of the graph that it is made from and the depth of the
-- flow; how many bytes its text has, and their sum modulo 65,536, stand for the text
abbrev pub summary_of : Pattern → ℕ → ℕ → Summary
summary_of p edges depth =
    let text = pattern_text 4 p in
    record {
      qubits = length p.names;
      edges = edges;
      depth = depth;
      commands = length p.commands;
      bytes = length text;
      sum = sum text % 65536;
    }

-- a line of a word and a number
abbrev pub counted : List ℕ → ℕ → Line
counted word number = word ∷ decimal number ∷ []

abbrev pub summary_text : Summary → List ℕ
summary_text s =
    text_of (counted (codes "qubits") s.qubits ∷ counted (codes "edges") s.edges
    ∷ counted (codes "depth") s.depth ∷ counted (codes "commands") s.commands
    ∷ counted (codes "bytes") s.bytes ∷ counted (codes "sum") s.sum ∷ [])

-- the summary of the pattern that the sample circuit of a number is compiled into
pub record IsDueSample (n : ℕ) (due : Due) : Type 0 where
  pub compiled : Pattern
  pub edges : ℕ
  pub depth : ℕ
  pub compilation : IsCompilation 4 (sample_circuit n) compiled edges depth
  pub text : due ≡ holding (summary_text (summary_of compiled edges depth))
