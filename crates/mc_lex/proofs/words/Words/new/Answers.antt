use Rattle.mc_lex.proofs.Spots.{words_are_slices}
use Rattle.mc_lex.proofs.Order.{lines_in_order}
use Rattle.mc_lex.proofs.words.Words.new.Goals as goal

pub returns-clause-slices : goal.returns-clause-slices
returns-clause-slices c = words_are_slices c.args.text.now

pub returns-clause-in_order : goal.returns-clause-in_order
returns-clause-in_order c = lines_in_order c.args.text.now
