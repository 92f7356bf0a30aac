use Rattle.std.proofs.Common.{sym, ◌∙◌, refl, arith}
use Rattle.mc_lex.specs.Lines.{bad}
use Rattle.mc_lex.proofs.Firsts.{bad_first}
use Rattle.mc_lex.proofs.part.stray_at.Goals as goal

pub returns-else-is_end-clause-first : goal.returns-else-is_end-clause-first
returns-else-is_end-clause-first c =
    let part = c.args.part in
    let first = bad_first part.line part.column part.bytes.now c.in-len1-up.len_at_least
    (sym c.is_end.ensures ∙ c.if-is_end.false) c.requires.no_blank c.requires.no_word in
    let shorter = first.within in
    record {
      item = bad part.line part.column;
      given = refl;
      tokens_are = first.tokens_are;
      line = refl;
      past = refl;
      behind = first.behind;
      within = omega arith;
      shorter = omega arith;
    }
