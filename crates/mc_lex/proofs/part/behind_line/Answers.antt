use Rattle.std.proofs.Common.{arith}
use Rattle.mc_lex.proofs.Firsts.{behind_last, behind_first}
use Rattle.mc_lex.proofs.part.behind_line.Goals as goal

pub returns-in-empty-clause-behind : goal.returns-in-empty-clause-behind
returns-in-empty-clause-behind c =
    behind_last c.args.text.now c.split_at.result.1.now c.line_len.result c.line_len.ensures.len
    c.split_at.ensures.back (let few = c.in-empty.len_below in omega arith)

pub returns-in-len1-up-clause-behind : goal.returns-in-len1-up-clause-behind
returns-in-len1-up-clause-behind c =
    behind_first c.args.text.now c.split_at.result.1.now c.line_len.result c.line_len.ensures.len
    c.split_at.ensures.back c.in-len1-up.len_at_least
