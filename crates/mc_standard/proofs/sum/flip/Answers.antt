use Rattle.std.proofs.Common.{arith}
use Rattle.mc_bits.proofs.BitsOfWords.{flip_word}
use Rattle.mc_standard.proofs.sum.flip.Goals as goal

pub returns : goal.returns
returns c = λ k. flip_word c.args.words.now c.args.q k (omega arith)
