use Rattle.std.proofs.Common.{◌+◌, ◌<◌, ap, refl, arith}
use Rattle.mc_lex.specs.Lines.{word}
use Rattle.mc_lex.proofs.Firsts.{word_first}
use Rattle.mc_lex.proofs.part.token_at.Goals as goal

pub returns-clause-first : goal.returns-clause-first
returns-clause-first c =
    let part = c.args.part in
    let front = c.split_at.ensures.front in
    let back = c.split_at.ensures.back in
    let some : 0 < c.word_len-len.result = omega arith in
    let first = word_first part.line part.column part.bytes.now c.word_len-len.result
    c.word_len-len.ensures.len some c.word_len-len.ensures.within in
    let size = first.size in
    let shorter = first.within in
    record {
      item = word c.split_at.result.0.now part.line part.column;
      given = refl;
      tokens_are = rw (front, back) first.tokens_are;
      line = refl;
      past = rw front (ap (λ k. part.column + k) size);
      behind = rw back first.behind;
      within = rw back (omega arith);
      shorter = rw back (omega arith);
    }
