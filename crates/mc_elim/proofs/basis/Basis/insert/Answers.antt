use Rattle.std.proofs.Common.{◌≡◌, ◌+◌, ◌-◌, ◌<◌, ◌≤◌, ◌++◌, ◌↔◌, ◌∙◌, ℕ, arith, sym}
use Rattle.std.proofs.Common.{ap, subst}
use Rattle.std.proofs.Common.{List, Bool, false, length, take, drop, slice_set}
use Rattle.std.specs.Prelude.{slice_index, nat_lt}
use Rattle.std.proofs.lemmas.Bool.{ltb-false}
use mir.Val.{bool_byte}
use Rattle.mc_bits.specs.Rows.{bit_of}
use Rattle.mc_elim.specs.Reduced.{AreApart, IsNumberedBy}
use Rattle.mc_elim.specs.Basis.{Inserted, HoldsBasis, IsSumOfInserted, count_of}
use Rattle.mc_elim.proofs.BasisAnswers.{firsts_apart, taken}
use Rattle.mc_elim.proofs.BasisGrows.{Step, basis_more, dependence, all_zero_column, written_whole}
use Rattle.mc_elim.proofs.BasisGrows.{byte_is, or_parts}
use Rattle.mc_elim.proofs.BitSums.{clash}
use Rattle.mc_elim.proofs.basis.Basis.insert.Goals as goal

pub join-joined-requires-clause-apart : goal.join-joined-requires-clause-apart
join-joined-requires-clause-apart g c =
    let b = c.self.inside in
    subst (λ (f : List ℕ). AreApart b.rows b.len (slice_index f)) (sym c.deref_mut.ensures.value)
    (firsts_apart b.rows b.inserted b.len _ _ _ _ c.self.invariant.reduced)

pub join-joined-requires-clause-numbered : goal.join-joined-requires-clause-numbered
join-joined-requires-clause-numbered g c =
    let b = c.self.inside in
    subst (λ (f : List ℕ). IsNumberedBy b.len (slice_index f)
    (slice_index c.deref_mut-2.result.now)) (sym c.deref_mut.ensures.value)
    (subst (λ (f : List ℕ). IsNumberedBy b.len (slice_index b.firsts.items) (slice_index f))
    (sym c.deref_mut-2.ensures.value) c.self.invariant.numbered)

pub invariant_of-self : goal.invariant_of-self
invariant_of-self g c =
    let b = c.self.inside in
    let join = c.join-joined.ensures in
    let now = c.join-joined.new in
    let firsts = c.deref_mut.result.now in
    let numbers = c.deref_mut-2.result.now in
    let column = c.args.column.now in
    let joins = c.join-joined.result in
    let counted : ℕ = now.steps - c.args.steps.now in
    let rise = join.counted.0 in
    let view = c.self.view_is in
    let width : length column ≡ b.rows =
    c.requires.width ∙ ap (λ (s : Inserted). s.rows) (sym view) in
    let count : length (take b.inserted b.columns) < b.room =
    subst (λ (s : Inserted). count_of s < s.room) (sym view) c.requires.room in
    let held : HoldsBasis b.rows b.room b.inserted b.len b.vectors b.columns firsts numbers
    b.has_added =
    subst (λ (f : List ℕ). HoldsBasis b.rows b.room b.inserted b.len b.vectors b.columns f numbers
    b.has_added) (sym c.deref_mut.ensures.value)
    (subst (λ (f : List ℕ). HoldsBasis b.rows b.room b.inserted b.len b.vectors b.columns
    b.firsts.items f b.has_added) (sym c.deref_mut-2.ensures.value) c.self.invariant) in
    let free : b.inserted < b.room =
    let e = taken b.rows b.room b.inserted b.len b.vectors b.columns firsts numbers b.has_added
    held in
    omega arith in
    let step : Step b.rows b.room b.inserted b.len b.vectors now.vectors firsts now.firsts
    numbers now.numbers column joins counted =
    record {
      mark = c.marked.result;
      mark_bits = c.marked.ensures.bits;
      mark_length = c.marked.ensures.length;
      nothing = join.nothing;
      vector = join.vector;
      same = λ z. join.same (omega arith);
      count = join.shape.0;
      width = join.shape.1;
    } in
    let columns' : slice_set b.columns b.inserted c.copy.result ≡ slice_set b.columns b.inserted
    column =
    ap (λ (row : List Bool). slice_set b.columns b.inserted row) c.copy.ensures in
    let whole : length now.firsts ≡ length firsts = c.join-joined.auto.firsts in
    let whole' : length now.numbers ≡ length numbers = c.join-joined.auto.numbers in
    let unadded : now.added ≡ false → (b.has_added ≡ false) × (counted ≡ 0) = λ e.
    let parts = or_parts b.has_added (nat_lt c.args.steps.now now.steps) (sym join.added ∙ e) in
    let low = ltb-false c.args.steps.now now.steps parts.1 in
    let none : counted ≡ 0 = omega arith in
    (parts.0, none) in
    let basis = basis_more b.rows b.room b.inserted b.len b.vectors b.columns firsts numbers
    b.has_added held
    column width free now.vectors now.firsts now.numbers joins counted step
    (slice_set b.columns b.inserted c.copy.result) columns' whole whole'
    now.added unadded in
    let written : take b.firsts.len (now.firsts ++ drop (length now.firsts) b.firsts.items)
    ≡ now.firsts =
    written_whole b.firsts.len b.firsts.items firsts now.firsts c.deref_mut.ensures.value
    c.deref_mut.ensures.len whole in
    let written' : take b.numbers.len (now.numbers ++ drop (length now.numbers) b.numbers.items)
    ≡ now.numbers =
    written_whole b.numbers.len b.numbers.items numbers now.numbers c.deref_mut-2.ensures.value
    c.deref_mut-2.ensures.len whole' in
    subst (λ (f : List ℕ). HoldsBasis b.rows b.room (b.inserted + 1) (b.len + bool_byte joins)
    now.vectors (slice_set b.columns b.inserted c.copy.result) f (take b.numbers.len
    (now.numbers ++ drop (length now.numbers) b.numbers.items)) now.added) (sym written)
    (subst (λ (f : List ℕ). HoldsBasis b.rows b.room (b.inserted + 1) (b.len + bool_byte joins)
    now.vectors (slice_set b.columns b.inserted c.copy.result) now.firsts f now.added)
    (sym written')
    (subst (λ (k : ℕ). HoldsBasis b.rows b.room (b.inserted + 1) (b.len + k) now.vectors
    (slice_set b.columns b.inserted c.copy.result) now.firsts now.numbers now.added)
    (sym (byte_is joins)) basis))

pub returns-clause-sum : goal.returns-clause-sum
returns-clause-sum g c =
    let b = c.self.inside in
    let join = c.join-joined.ensures in
    let now = c.join-joined.new in
    let firsts = c.deref_mut.result.now in
    let numbers = c.deref_mut-2.result.now in
    let column = c.args.column.now in
    let joins = c.join-joined.result in
    let counted : ℕ = now.steps - c.args.steps.now in
    let rise = join.counted.0 in
    let view = c.self.view_is in
    let width : length column ≡ b.rows =
    c.requires.width ∙ ap (λ (s : Inserted). s.rows) (sym view) in
    let count : length (take b.inserted b.columns) < b.room =
    subst (λ (s : Inserted). count_of s < s.room) (sym view) c.requires.room in
    let held : HoldsBasis b.rows b.room b.inserted b.len b.vectors b.columns firsts numbers
    b.has_added =
    subst (λ (f : List ℕ). HoldsBasis b.rows b.room b.inserted b.len b.vectors b.columns f numbers
    b.has_added) (sym c.deref_mut.ensures.value)
    (subst (λ (f : List ℕ). HoldsBasis b.rows b.room b.inserted b.len b.vectors b.columns
    b.firsts.items f b.has_added) (sym c.deref_mut-2.ensures.value) c.self.invariant) in
    let free : b.inserted < b.room =
    let e = taken b.rows b.room b.inserted b.len b.vectors b.columns firsts numbers b.has_added
    held in
    omega arith in
    let step : Step b.rows b.room b.inserted b.len b.vectors now.vectors firsts now.firsts
    numbers now.numbers column joins counted =
    record {
      mark = c.marked.result;
      mark_bits = c.marked.ensures.bits;
      mark_length = c.marked.ensures.length;
      nothing = join.nothing;
      vector = join.vector;
      same = λ z. join.same (omega arith);
      count = join.shape.0;
      width = join.shape.1;
    } in
    subst (λ (s : Inserted). (joins ≡ false) ↔ IsSumOfInserted s column) view
    (dependence b.rows b.room b.inserted b.len b.vectors b.columns firsts numbers b.has_added held
    column width free now.vectors now.firsts now.numbers joins counted step)

pub returns-clause-some : goal.returns-clause-some
returns-clause-some g c = λ no r has.
    let b = c.self.inside in
    let join = c.join-joined.ensures in
    let now = c.join-joined.new in
    let firsts = c.deref_mut.result.now in
    let numbers = c.deref_mut-2.result.now in
    let column = c.args.column.now in
    let joins = c.join-joined.result in
    let counted : ℕ = now.steps - c.args.steps.now in
    let rise = join.counted.0 in
    let view = c.self.view_is in
    let width : length column ≡ b.rows =
    c.requires.width ∙ ap (λ (s : Inserted). s.rows) (sym view) in
    let count : length (take b.inserted b.columns) < b.room =
    subst (λ (s : Inserted). count_of s < s.room) (sym view) c.requires.room in
    let held : HoldsBasis b.rows b.room b.inserted b.len b.vectors b.columns firsts numbers
    b.has_added =
    subst (λ (f : List ℕ). HoldsBasis b.rows b.room b.inserted b.len b.vectors b.columns f numbers
    b.has_added) (sym c.deref_mut.ensures.value)
    (subst (λ (f : List ℕ). HoldsBasis b.rows b.room b.inserted b.len b.vectors b.columns
    b.firsts.items f b.has_added) (sym c.deref_mut-2.ensures.value) c.self.invariant) in
    let free : b.inserted < b.room =
    let e = taken b.rows b.room b.inserted b.len b.vectors b.columns firsts numbers b.has_added
    held in
    omega arith in
    let step : Step b.rows b.room b.inserted b.len b.vectors now.vectors firsts now.firsts
    numbers now.numbers column joins counted =
    record {
      mark = c.marked.result;
      mark_bits = c.marked.ensures.bits;
      mark_length = c.marked.ensures.length;
      nothing = join.nothing;
      vector = join.vector;
      same = λ z. join.same (omega arith);
      count = join.shape.0;
      width = join.shape.1;
    } in
    let some : (now.steps ≤ c.args.steps.now) → ⊥ = λ low.
    let none : counted ≡ 0 = omega arith in
    clash (bit_of column r) has
    (all_zero_column b.rows b.room b.inserted b.len b.vectors b.columns firsts numbers b.has_added
    held
    column width free now.vectors now.firsts now.numbers joins counted step no none r) in
    omega arith
