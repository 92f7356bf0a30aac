use Rattle.std.proofs.Common.{arith, rules, ap, ◌∙◌, ℕ, nat_eq, length-set}
use Rattle.mc_bits.proofs.BitsFrom.{bit_from, one_more_word, all_words}
use Rattle.mc_bits.proofs.words.words_from.Goals as goal

pub words-preserved : goal.words-preserved
words-preserved c =
    let words = c.args.words.now in
    let low = c.args.low in
    let i = c.words.i in
    record {
      length = length-set c.words.moved i c.cut_word.result ∙ c.words.invariant.length;
      done =
          one_more_word words low c.words.moved i c.cut_word.result (omega arith)
          c.words.invariant.done (λ j l.
          ap (λ (b : ℕ). nat_eq b 1) (c.cut_word.ensures j l)
          ∙ bit_from words low i j c.word_at.result c.word_at-in-words.result c.word_at.ensures
          (search rules) c.word_at-in-words.ensures l);
    }

pub returns : goal.returns
returns c =
    all_words c.args.words.now c.args.low c.words.moved c.words.i (omega arith) (omega arith)
    c.words.invariant.done
