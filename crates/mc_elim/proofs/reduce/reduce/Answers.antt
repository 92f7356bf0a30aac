use Rattle.std.proofs.Common.{◌≢◌, ◌+◌, ◌||◌, ◌∙◌, ℕ, arith, sym, ap, subst, List}
use Rattle.std.proofs.Common.{Bool, length, refl}
use Rattle.mc_bits.specs.Words.{IsNextBit, HasNoBit}
use Rattle.mc_bits.specs.Rows.{bit_of}
use Rattle.mc_elim.specs.Tables.{CountsUpTo}
use Rattle.mc_elim.proofs.RowsReduced.{reduce_none, reduce_more, reduce_whole, nothing_counted}
use Rattle.mc_elim.proofs.RowsReduced.{count_to, nothing_more}
use Rattle.mc_elim.proofs.reduce.reduce.Goals as goal

pub bits-init : goal.bits-init
bits-init g c = record {
  reduced = reduce_none c.args.rows.now c.args.firsts.now c.args.k;
  counted = nothing_counted c.args.steps.now;
  same = λ _. refl;
  within = omega arith;
}

pub reduce_at-added-requires : goal.reduce_at-added-requires
reduce_at-added-requires g c =
    let done = c.bits.invariant.reduced in
    let count = done.count in
    let within = c.requires.within in
    let next = subst (λ (row : List Bool). IsNextBit (bit_of row) c.bits.low c.args.n c.in-Some.u)
    c.row.ensures c.in-Some.ensures in
    let below = next.below in
    record {
      within = (omega arith, omega arith, omega arith);
      alike = λ i l.
          let apart : i ≢ c.args.k = omega arith in
          ap (λ (row : List Bool). length row) (done.others i apart)
          ∙ c.requires.alike i l
          ∙ sym done.width;
      numbered = c.requires.numbered;
      bit = next.has;
    }

pub bits-preserved : goal.bits-preserved
bits-preserved g c =
    let u = c.in-Some.u in
    let low = c.bits.low in
    let done = c.bits.invariant in
    let more = c.reduce_at-added.ensures in
    let told = c.reduce_at-added.result in
    let next = subst (λ (row : List Bool). IsNextBit (bit_of row) low c.args.n u) c.row.ensures
    c.in-Some.ensures in
    let below = next.below in
    record {
      reduced =
          reduce_more c.args.rows.now c.args.firsts.now c.args.k c.args.n c.requires.apart
          c.requires.own c.bits.rows low done.reduced u next c.reduce_at-added.new.rows told
          more.reduced;
      counted =
          subst (λ (s : ℕ). CountsUpTo c.args.steps.now s (u + 1) (c.bits.added || told))
          (sym more.counted)
          (count_to c.args.steps.now c.bits.steps low u c.bits.added told next.above done.counted);
      same = λ e.
          let still = nothing_more c.args.steps.now c.bits.steps low c.bits.added told done.counted
          (sym more.counted ∙ e) in
          more.same still.1 ∙ done.same still.0;
      within = omega arith;
    }

pub returns-clause-reduced : goal.returns-clause-reduced
returns-clause-reduced g c =
    let none = subst (λ (row : List Bool). HasNoBit (bit_of row) c.bits.low c.args.n) c.row.ensures
    c.in_default.ensures in
    reduce_whole c.args.rows.now c.args.firsts.now c.args.k c.args.n c.requires.apart
    c.requires.own c.bits.rows c.bits.low c.bits.invariant.reduced c.bits.invariant.within none

pub returns-clause-counted : goal.returns-clause-counted
returns-clause-counted g c =
    let counted = c.bits.invariant.counted in
    let most = counted.most in
    let within = c.bits.invariant.within in
    record { rise = counted.rise; most = omega arith; added_is = counted.added_is }
