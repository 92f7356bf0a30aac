use Rattle.std.proofs.Common.{◌+◌, ◌||◌, ◌∙◌, ℕ, arith, sym, subst, refl}
use Rattle.mc_elim.specs.Tables.{CountsUpTo}
use Rattle.mc_elim.proofs.RowsReduced.{clear_none, clear_more, nothing_counted, count_more}
use Rattle.mc_elim.proofs.RowsReduced.{nothing_more}
use Rattle.mc_elim.proofs.reduce.clear_others.Goals as goal

pub vectors-init : goal.vectors-init
vectors-init g c = record {
  cleared = clear_none c.args.rows.now c.args.k c.args.t;
  counted = nothing_counted c.args.steps.now;
  same = λ _. refl;
}

pub clear-added-requires-clause-within : goal.clear-added-requires-clause-within
clear-added-requires-clause-within g c =
    let count = c.vectors.invariant.cleared.count in
    let within = c.requires.within in
    (omega arith, omega arith)

pub clear-added-requires-clause-alike : goal.clear-added-requires-clause-alike
clear-added-requires-clause-alike g c =
    let width = c.vectors.invariant.cleared.width in
    width c.args.k
    ∙ sym (c.requires.alike c.vectors.i c.vectors-test.true)
    ∙ sym (width c.vectors.i)

pub clear-added-requires-clause-bit : goal.clear-added-requires-clause-bit
clear-added-requires-clause-bit g c =
    let width = c.vectors.invariant.cleared.width c.vectors.i in
    let alike = c.requires.alike c.vectors.i c.vectors-test.true in
    let bit = c.requires.bit in
    omega arith

pub vectors-preserved : goal.vectors-preserved
vectors-preserved g c =
    let i = c.vectors.i in
    let done = c.vectors.invariant in
    let more = c.clear-added.ensures in
    record {
      cleared =
          clear_more c.args.rows.now c.args.k c.args.t i c.vectors-test.true c.vectors.rows
          c.clear-added.new.rows done.cleared more.cleared;
      counted =
          subst (λ (s : ℕ). CountsUpTo c.args.steps.now s (i + 1)
          (c.vectors.added || c.clear-added.result))
          (sym more.counted)
          (count_more c.args.steps.now c.vectors.steps i c.vectors.added c.clear-added.result
          done.counted);
      same = λ e.
          let still = nothing_more c.args.steps.now c.vectors.steps i c.vectors.added
          c.clear-added.result done.counted (sym more.counted ∙ e) in
          more.same still.1 ∙ done.same still.0;
    }
