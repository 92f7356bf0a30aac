use Rattle.std.proofs.Common.{arith}
use Rattle.mc_bits.proofs.BitsOfWords.{flip_word}
use Rattle.mc_bits.proofs.words.flip_in.Goals as goal

pub returns : goal.returns
returns c = λ r. flip_word c.args.words.now c.args.k r (omega arith)
