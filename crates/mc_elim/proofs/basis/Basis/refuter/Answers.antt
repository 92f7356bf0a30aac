use Rattle.std.proofs.Common.{◌≡◌, ◌≢◌, ◌+◌, ◌<◌, ◌∙◌, ℕ, sym, ap, subst, List, Bool, refl}
use Rattle.std.specs.Prelude.{slice_index}
use Rattle.mc_bits.specs.Words.{IsNextBit, HasNoBit}
use Rattle.mc_bits.specs.Rows.{bit_of}
use Rattle.mc_elim.specs.Reduced.{null_set}
use Rattle.mc_elim.specs.Tables.{entry}
use Rattle.mc_elim.specs.Basis.{Inserted, IsLeastRefuter, HasSolution, HasNoRefuter}
use Rattle.mc_elim.proofs.BasisAnswers.{free_refuter, next_refuter, alone_no_refuter}
use Rattle.mc_elim.proofs.BasisAnswers.{alone_has_solution}
use Rattle.mc_elim.proofs.basis.Basis.refuter.Goals as goal

pub returns-in-Some-next_bit-clause-yes : goal.returns-in-Some-next_bit-clause-yes
returns-in-Some-next_bit-clause-yes c = λ _.
    let b = c.self.inside in
    let u = c.args.u in
    let f = c.in-Some-next_bit.f in
    let view = c.self.view_is in
    let within : u < b.rows = subst (λ (s : Inserted). u < s.rows) (sym view) c.requires.row in
    let first : slice_index b.firsts.items c.in-Some.i ≡ u =
    ap (λ (f : List ℕ). slice_index f c.in-Some.i) (sym c.deref.ensures.value)
    ∙ c.in-Some.ensures.1 in
    let next = subst (λ (row : List Bool). IsNextBit (bit_of row) (u + 1) b.rows f) c.row.ensures
    c.in-Some-next_bit.ensures in
    subst (λ (s : Inserted). IsLeastRefuter s u (bit_of c.write_null_set.new.out)) view
    (next_refuter b.rows b.room b.inserted b.len b.vectors b.columns
    b.firsts.items b.numbers.items b.has_added
    c.self.invariant u within c.in-Some.i c.in-Some.ensures.0 first f next c.write_null_set.new.out
    (λ r. c.write_null_set.ensures.bits r
    ∙ ap (λ (firsts : List ℕ). null_set b.len (slice_index firsts) (entry b.vectors) f r)
    c.deref-in-Some-next_bit.ensures.value))

pub returns-in-None-next_bit-clause-no : goal.returns-in-None-next_bit-clause-no
returns-in-None-next_bit-clause-no c = λ _.
    let b = c.self.inside in
    let u = c.args.u in
    let view = c.self.view_is in
    let within : u < b.rows = subst (λ (s : Inserted). u < s.rows) (sym view) c.requires.row in
    let first : slice_index b.firsts.items c.in-Some.i ≡ u =
    ap (λ (f : List ℕ). slice_index f c.in-Some.i) (sym c.deref.ensures.value)
    ∙ c.in-Some.ensures.1 in
    let none = subst (λ (row : List Bool). HasNoBit (bit_of row) (u + 1) b.rows) c.row.ensures
    c.in-None-next_bit.ensures in (
      subst (λ (s : Inserted). HasNoRefuter s u) view
          (alone_no_refuter b.rows b.room b.inserted b.len b.vectors b.columns b.firsts.items
          b.numbers.items b.has_added
          c.self.invariant u within c.in-Some.i c.in-Some.ensures.0 first none),
      refl,
    )

pub returns-in-None-next_bit-clause-solved : goal.returns-in-None-next_bit-clause-solved
returns-in-None-next_bit-clause-solved c = λ _.
    let b = c.self.inside in
    let u = c.args.u in
    let view = c.self.view_is in
    let within : u < b.rows = subst (λ (s : Inserted). u < s.rows) (sym view) c.requires.row in
    let first : slice_index b.firsts.items c.in-Some.i ≡ u =
    ap (λ (f : List ℕ). slice_index f c.in-Some.i) (sym c.deref.ensures.value)
    ∙ c.in-Some.ensures.1 in
    let none = subst (λ (row : List Bool). HasNoBit (bit_of row) (u + 1) b.rows) c.row.ensures
    c.in-None-next_bit.ensures in
    subst (λ (s : Inserted). HasSolution s u) view
    (alone_has_solution b.rows b.room b.inserted b.len b.vectors b.columns b.firsts.items
    b.numbers.items b.has_added
    c.self.invariant u within c.in-Some.i c.in-Some.ensures.0 first none)

pub returns-in-None-clause-yes : goal.returns-in-None-clause-yes
returns-in-None-clause-yes c = λ _.
    let b = c.self.inside in
    let u = c.args.u in
    let view = c.self.view_is in
    let within : u < b.rows = subst (λ (s : Inserted). u < s.rows) (sym view) c.requires.row in
    let free : (i : ℕ) → i < b.len → slice_index b.firsts.items i ≢ u =
    λ i l e. c.in-None.ensures i l
    (ap (λ (f : List ℕ). slice_index f i) c.deref.ensures.value ∙ e) in
    subst (λ (s : Inserted). IsLeastRefuter s u (bit_of c.write_null_set-in-None.new.out)) view
    (free_refuter b.rows b.room b.inserted b.len b.vectors b.columns
    b.firsts.items b.numbers.items b.has_added
    c.self.invariant u within free c.write_null_set-in-None.new.out
    (λ r. c.write_null_set-in-None.ensures.bits r
    ∙ ap (λ (firsts : List ℕ). null_set b.len (slice_index firsts) (entry b.vectors) u r)
    c.deref-in-None.ensures.value))
