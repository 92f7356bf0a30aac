-- A valid pattern without second signals is its own shifted form.
use Rattle.std.proofs.Common.{◌≡◌, ℕ, Bool, true, false, cond, List, [], ◌∷◌, ◌++◌, refl, sym, ◌∙◌}
use Rattle.std.proofs.Common.{ap}
use Rattle.std.specs.Prelude.{nat_eq}
use Rattle.std.specs.List.{AllByRecursion}
use Rattle.std.proofs.lemmas.List.Elements.{All-from_recursion}
use mathlib.Core.Path.{fun_ext}
use Rattle.mc_model.specs.Bits.{◌⊻◌, Bits, parity}
use Rattle.mc_model.specs.Signals.{Signal, value, no_signal, IsRising}
use Rattle.mc_model.specs.Pattern.{Command, Prep, Ent, Meas, FixX, FixZ, Pattern}
use Rattle.mc_model.specs.Valid.{IsValid, IsValidPattern}
use Rattle.mc_model.specs.Shift.{ChangeRow, new_outcomes, change_of, IsShiftedSignal, IsShifted}
use Rattle.mc_model.specs.Shift.{IsShiftedForm, HasNoSecondSignals}
use Rattle.mc_model.proofs.ValidLemmas.{moved_on}
use Rattle.mc_shift.specs.Laws.{HasOneShiftedForm, IsUnshifted}

abbrev IsEmptyRow : ChangeRow → Type 0
IsEmptyRow row = row.signal ≡ no_signal

-- the list without its first command
no_second_behind : (c : Command) (cs : List Command) → HasNoSecondSignals (c ∷ cs) →
    HasNoSecondSignals cs
no_second_behind c cs none before q a s t behind e =
    none (c ∷ before) q a s t behind (ap (λ (ds : List Command). c ∷ ds) e)

empty_rows : (cs : List Command) → HasNoSecondSignals cs → AllByRecursion IsEmptyRow (change_of cs)
unfolding change_of
empty_rows [] none = tt
empty_rows (Prep q ∷ cs) none = empty_rows cs (no_second_behind (Prep q) cs none)
empty_rows (Ent q r ∷ cs) none = empty_rows cs (no_second_behind (Ent q r) cs none)
empty_rows (Meas q a s t ∷ cs) none =
    (none [] q a s t cs refl, empty_rows cs (no_second_behind (Meas q a s t) cs none))
empty_rows (FixX q s ∷ cs) none = empty_rows cs (no_second_behind (FixX q s) cs none)
empty_rows (FixZ q s ∷ cs) none = empty_rows cs (no_second_behind (FixZ q s) cs none)

outcomes_stay : (rows : List ChangeRow) (o : Bits) (k : ℕ) → AllByRecursion IsEmptyRow rows →
    new_outcomes rows o k ≡ o k
unfolding new_outcomes value parity
outcomes_stay [] o k all = refl
outcomes_stay (row ∷ rows) o k all =
    ap (λ (b : Bool). b ⊻ new_outcomes rows o k) (no_change (nat_eq k row.qubit) row.signal all.0)
    ∙ outcomes_stay rows o k all.1
  where
    no_change : (b : Bool) (s : Signal) → s ≡ no_signal → cond b (value s o) false ≡ false
    no_change true s e = ap (λ (t : Signal). value t o) e
    no_change false s e = refl

same_signal : (rows : List ChangeRow) (s : Signal) → AllByRecursion IsEmptyRow rows →
    IsRising s.members → IsShiftedSignal rows s s
same_signal rows s all rising = record {
  is_set = rising;
  same_value = λ o. ap (value s) (fun_ext λ k. outcomes_stay rows o k all);
}

shifted_itself : (inputs : ℕ) (before cs : List Command) (rows : List ChangeRow) →
    IsValid inputs (before ++ cs) → AllByRecursion IsEmptyRow rows → HasNoSecondSignals cs →
    IsShifted rows cs cs
shifted_itself inputs before [] rows v all none = tt
shifted_itself inputs before (Prep q ∷ cs) rows v all none =
    let c : Command = Prep q in (
      refl,
      shifted_itself inputs (before ++ (c ∷ [])) cs rows (moved_on inputs before c cs v) all
          (no_second_behind c cs none),
    )
shifted_itself inputs before (Ent q r ∷ cs) rows v all none =
    let c : Command = Ent q r in (
      refl,
      refl,
      shifted_itself inputs (before ++ (c ∷ [])) cs rows (moved_on inputs before c cs v) all
          (no_second_behind c cs none),
    )
shifted_itself inputs before (Meas q a s t ∷ cs) rows v all none =
    let c : Command = Meas q a s t in (
      refl,
      refl,
      same_signal rows s all (v.at before c cs refl).1.is_set,
      none [] q a s t cs refl,
      shifted_itself inputs (before ++ (c ∷ [])) cs rows (moved_on inputs before c cs v) all
          (no_second_behind c cs none),
    )
shifted_itself inputs before (FixX q s ∷ cs) rows v all none =
    let c : Command = FixX q s in (
      refl,
      same_signal rows s all (v.at before c cs refl).1.is_set,
      shifted_itself inputs (before ++ (c ∷ [])) cs rows (moved_on inputs before c cs v) all
          (no_second_behind c cs none),
    )
shifted_itself inputs before (FixZ q s ∷ cs) rows v all none =
    let c : Command = FixZ q s in (
      refl,
      same_signal rows s all (v.at before c cs refl).1.is_set,
      shifted_itself inputs (before ++ (c ∷ [])) cs rows (moved_on inputs before c cs v) all
          (no_second_behind c cs none),
    )

pub unshifted : HasOneShiftedForm → (p : Pattern) → IsValidPattern p →
    HasNoSecondSignals p.commands → IsUnshifted p
unshifted one p v none =
    let all = empty_rows p.commands none in
    let own : IsShiftedForm p p = record {
      names = refl;
      inputs = refl;
      outputs = refl;
      commands =
          shifted_itself p.inputs [] p.commands (change_of p.commands) v.commands all none;
    } in
    let form = one p v in
    record {
      own = own;
      only = λ q h. form.only q h ∙ sym (form.only p own);
      empty = All-from_recursion IsEmptyRow (change_of p.commands) all;
      same_outcomes = λ o. fun_ext λ k. outcomes_stay (change_of p.commands) o k all;
    }
