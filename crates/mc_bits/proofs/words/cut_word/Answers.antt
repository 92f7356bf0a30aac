use Rattle.mc_bits.proofs.BitsFrom.{cut_bit}
use Rattle.mc_bits.proofs.words.cut_word.Goals as goal

pub returns : goal.returns
returns c = λ j l.
    cut_bit c.args.word c.args.next c.args.k j c.ranges.word.fits c.ranges.next.fits l
