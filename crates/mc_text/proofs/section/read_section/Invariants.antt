use Rattle.std.proofs.Common.{◌≡◌, length}
use Rattle.mc_lex.specs.Left.{IsFurther}
use Rattle.mc_text.proofs.Done.{Done}
use Rattle.mc_text.proofs.section.read_section.Given as goal

abbrev pub invariant-lines : goal.invariant-lines
invariant-lines g l = record {
  done : Done g.S.Section.rules g.S.Section.means (g.S.Section.rules l.initial.section) l.section
      l.last l.initial.words.later l.words.later l.initial.words.last;
  given : g.S.Section.given l.section ≡ g.S.Section.given l.initial.section;
  last : l.words.last ≡ l.initial.words.last;
  further : IsFurther l.initial.words l.words;
}

abbrev pub decreases-lines : goal.decreases-lines
decreases-lines g l = length l.words.later
