use Rattle.std.proofs.Common.{◌-◌, take, slice_index_or, refl}
use Rattle.std.proofs.lemmas.List.{take_more}
use Rattle.mc_angle.proofs.Digits.{digit_at, number_of-push, next_small}
use Rattle.mc_angle.proofs.number.value_of.Goals as goal

pub digits-preserved : goal.digits-preserved
digits-preserved c =
    let word = c.args.digits.now in
    let i = c.digits.digit-index in
    let digit = digit_at word i c.requires c.digits-test.true in
    record {
      value =
          rw (
            take_more word i 0 c.digits-test.true,
            number_of-push (take i word) (slice_index_or word i 0),
            ← c.digits.invariant.value,
          ) refl;
      small =
          next_small i c.digits.sum (slice_index_or word i 0 - 48) c.digits.invariant.small digit;
    }
