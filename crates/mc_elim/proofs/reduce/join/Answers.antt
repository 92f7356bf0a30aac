use Rattle.std.proofs.Common.{◌<◌, ℕ, arith, sym, ap, subst, List, Bool, length, slice_set}
use Rattle.std.proofs.Common.{get_or-set_same}
use Rattle.mc_bits.specs.Words.{IsNextBit}
use Rattle.mc_bits.specs.Rows.{bit_of}
use Rattle.mc_elim.proofs.RowsReduced.{next_vector, room_left}
use Rattle.mc_elim.proofs.reduce.join.Goals as goal

pub bounds-firsts-k : goal.bounds-firsts-k
bounds-firsts-k g c =
    let rows = c.args.rows in
    let k = c.args.k in
    let within = c.requires.within in
    let bit = subst (λ (row : List Bool). IsNextBit (bit_of row) 0 rows c.in-Some.t) c.row.ensures
    c.in-Some.ensures in
    let room : k < rows =
    room_left rows k c.in-Some.t c.args.firsts.now c.args.vectors.now c.reduce.new.rows
    c.requires.apart c.requires.own c.reduce.ensures.reduced bit in
    omega arith

pub returns-in-Some-clause-vector : goal.returns-in-Some-clause-vector
returns-in-Some-clause-vector g c = λ _.
    let rows = c.args.rows in
    let k = c.args.k in
    let firsts = c.args.firsts.now in
    let old = c.args.vectors.now in
    let within = c.requires.within in
    let bit = subst (λ (row : List Bool). IsNextBit (bit_of row) 0 rows c.in-Some.t) c.row.ensures
    c.in-Some.ensures in
    let room : k < rows =
    room_left rows k c.in-Some.t firsts old c.reduce.new.rows
    c.requires.apart c.requires.own c.reduce.ensures.reduced bit in
    let inside : k < length firsts = omega arith in (
      next_vector rows k c.in-Some.t firsts old c.reduce.new.rows c.clear_others.new.rows inside
          c.reduce.ensures.reduced bit c.clear_others.ensures.cleared,
      room,
      ap (λ (a : ℕ). slice_set c.args.numbers.now a k)
          (sym (get_or-set_same firsts k c.in-Some.t 0 inside)),
    )
