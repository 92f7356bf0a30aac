use Rattle.std.proofs.Common.{◌≡◌, ◌≢◌, ◌+◌, ◌<◌, ◌∙◌, ℕ, sym, ap, subst, List, Bool, refl}
use Rattle.std.specs.Prelude.{slice_index}
use Rattle.mc_bits.specs.Words.{IsNextBit, HasNoBit}
use Rattle.mc_bits.specs.Rows.{bit_of}
use Rattle.mc_elim.specs.Basis.{Inserted, IsLeastSolution, HasNoSolution, HasOneColumn}
use Rattle.mc_elim.proofs.BasisAnswers.{free_no_solution, next_no_solution, alone_solution}
use Rattle.mc_elim.proofs.BasisAnswers.{alone_one_column}
use Rattle.mc_elim.proofs.basis.Basis.single.Goals as goal

pub returns-in-Some-next_bit-clause-no : goal.returns-in-Some-next_bit-clause-no
returns-in-Some-next_bit-clause-no c = λ _.
    let b = c.self.inside in
    let u = c.args.u in
    let view = c.self.view_is in
    let within : u < b.rows = subst (λ (s : Inserted). u < s.rows) (sym view) c.requires.row in
    let first : slice_index b.firsts.items c.in-Some.i ≡ u =
    ap (λ (f : List ℕ). slice_index f c.in-Some.i) (sym c.deref.ensures.value)
    ∙ c.in-Some.ensures.1 in
    let next = subst (λ (row : List Bool). IsNextBit (bit_of row) (u + 1) b.rows c.in-Some-next_bit.field-0)
    c.row.ensures c.in-Some-next_bit.ensures in (
      subst (λ (s : Inserted). HasNoSolution s u) view
          (next_no_solution b.rows b.room b.inserted b.len b.vectors b.columns b.firsts.items
          b.numbers.items b.has_added
          c.self.invariant u within c.in-Some.i c.in-Some.ensures.0 first
          c.in-Some-next_bit.field-0 next),
      refl,
    )

pub returns-in-None-next_bit-clause-yes : goal.returns-in-None-next_bit-clause-yes
returns-in-None-next_bit-clause-yes c = λ _.
    let b = c.self.inside in
    let u = c.args.u in
    let view = c.self.view_is in
    let within : u < b.rows = subst (λ (s : Inserted). u < s.rows) (sym view) c.requires.row in
    let first : slice_index b.firsts.items c.in-Some.i ≡ u =
    ap (λ (f : List ℕ). slice_index f c.in-Some.i) (sym c.deref.ensures.value)
    ∙ c.in-Some.ensures.1 in
    let none = subst (λ (row : List Bool). HasNoBit (bit_of row) (u + 1) b.rows) c.row.ensures
    c.in-None-next_bit.ensures in
    subst (λ (s : Inserted). IsLeastSolution s u (bit_of c.tail.result)) view
    (alone_solution b.rows b.room b.inserted b.len b.vectors b.columns
    b.firsts.items b.numbers.items b.has_added
    c.self.invariant u within c.in-Some.i c.in-Some.ensures.0 first none c.tail.result
    (λ j. c.tail.ensures.bits j
    ∙ ap (λ (row : List Bool). bit_of row (b.rows + j)) c.row-in-None-next_bit.ensures))

pub returns-in-None-next_bit-clause-alone : goal.returns-in-None-next_bit-clause-alone
returns-in-None-next_bit-clause-alone c = λ _ unadded.
    let b = c.self.inside in
    let u = c.args.u in
    let view = c.self.view_is in
    let within : u < b.rows = subst (λ (s : Inserted). u < s.rows) (sym view) c.requires.row in
    let first : slice_index b.firsts.items c.in-Some.i ≡ u =
    ap (λ (f : List ℕ). slice_index f c.in-Some.i) (sym c.deref.ensures.value)
    ∙ c.in-Some.ensures.1 in
    let none = subst (λ (row : List Bool). HasNoBit (bit_of row) (u + 1) b.rows) c.row.ensures
    c.in-None-next_bit.ensures in
    subst (λ (s : Inserted). HasOneColumn s (bit_of c.tail.result)) view
    (alone_one_column b.rows b.room b.inserted b.len b.vectors b.columns
    b.firsts.items b.numbers.items b.has_added
    c.self.invariant u within c.in-Some.i c.in-Some.ensures.0 first none c.tail.result
    (λ j. c.tail.ensures.bits j
    ∙ ap (λ (row : List Bool). bit_of row (b.rows + j)) c.row-in-None-next_bit.ensures)
    (ap (λ (s : Inserted). s.has_added) view ∙ unadded))

pub returns-in-None-clause-no : goal.returns-in-None-clause-no
returns-in-None-clause-no c = λ _.
    let b = c.self.inside in
    let u = c.args.u in
    let view = c.self.view_is in
    let within : u < b.rows = subst (λ (s : Inserted). u < s.rows) (sym view) c.requires.row in
    let free : (i : ℕ) → i < b.len → slice_index b.firsts.items i ≢ u =
    λ i l e. c.in-None.ensures i l
    (ap (λ (f : List ℕ). slice_index f i) c.deref.ensures.value ∙ e) in (
      subst (λ (s : Inserted). HasNoSolution s u) view
          (free_no_solution b.rows b.room b.inserted b.len b.vectors b.columns b.firsts.items
          b.numbers.items b.has_added
          c.self.invariant u within free),
      refl,
    )
