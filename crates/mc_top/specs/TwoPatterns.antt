-- What is due for the one pattern that two make.
use Rattle.std.specs.Prelude.{ℕ, Option}
use Rattle.std.specs.Option.{option_map}
use Rattle.mc_lex.specs.declared.end.TextEnd.{TextEnd}
use Rattle.mc_lex.specs.declared.end.TextEnd.TheVariants as end
use Rattle.mc_model.specs.Pattern.{Pattern}
use Rattle.mc_pattern_text.specs.Canonical.{pattern_text}
use Rattle.mc_compose.specs.Limits.{pattern_limit}
use Rattle.mc_top.specs.Due.{Due, due_unless, holding}

-- the limit that a pattern passes, by its number and what passes it
abbrev pub limit_of_pattern : Pattern → Option TextEnd
limit_of_pattern p = option_map (λ (l : ℕ × ℕ). end.Limit l.0 l.1) (pattern_limit p)

-- its text, unless it passes a limit
abbrev pub due_pattern : ℕ → Pattern → Due
due_pattern half p = due_unless (limit_of_pattern p) (holding (pattern_text half p))
