use Rattle.std.proofs.Common.{◌<◌, ◌/◌, ◌^◌, ℕ, arith, inl, inr, subst, sym}
use Rattle.std.specs.Prelude.{slice_index}
use Rattle.std.proofs.lemmas.Bool.{cases_lt}
use Rattle.mc_bits.specs.Words.{word_bit}
use Rattle.mc_standard.specs.NextBits.{IsNext}
use Rattle.mc_standard.proofs.NextOnes.{none_here, next_here}
use Rattle.mc_standard.proofs.bits.next_one.Goals as goal

pub returns-then-rest-ne0 : goal.returns-then-rest-ne0
returns-then-rest-ne0 c =
    let words = c.args.words.now in
    let place = c.words.place in
    let fits : slice_index words (place / 64) < 2 ^ 64 = (c.type_inv.words (place / 64)).fits in
    subst (λ (n : ℕ). IsNext (word_bit words) c.args.from c.args.end n) (sym c.min.ensures)
    (next_here words c.args.from c.args.end place c.words.invariant.none c.words.invariant.order
    c.words-test.true fits c.if-rest-ne0.true)

pub words-preserved : goal.words-preserved
words-preserved c =
    let order = c.words.invariant.order in
    record {
      order = omega arith;
      none = λ k le lt. elim (cases_lt k c.words.place) [
        | inl before ↦ c.words.invariant.none k le before
        | inr behind ↦
            none_here c.args.words.now c.words.place c.if-rest-ne0.false k behind lt
      ];
    }

pub returns : goal.returns
returns c =
    let order = c.requires.order in
    let past = c.words-test.false in
    record {
      order = order;
      within = omega arith;
      none = λ k le lt. c.words.invariant.none k le (omega arith);
      one = λ h. absurd (omega arith);
    }
