use Rattle.mc_bits.proofs.BitsFrom.{none_left, first_left}
use Rattle.mc_bits.proofs.words.next_in_word.Goals as goal

pub returns-then-rest-eq0 : goal.returns-then-rest-eq0
returns-then-rest-eq0 c = none_left c.args.word c.args.low c.if-rest-eq0.true

pub returns : goal.returns
returns c = first_left c.args.word c.args.low c.ranges.word.fits c.if-rest-eq0.false
