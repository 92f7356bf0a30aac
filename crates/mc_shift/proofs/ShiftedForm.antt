-- A valid pattern has one shifted form: the signal of each measured qubit is put in for it.
use Rattle.std.proofs.Common.{◌≡◌, ℕ, Bool, true, false, List, [], ◌∷◌, ◌++◌, refl, sym, ◌∙◌, ap}
use Rattle.std.proofs.Common.{ap₂, arith}
use Rattle.std.specs.Prelude.{⊤}
use Rattle.std.proofs.lemmas.Bool.{eq-eqb, ne_eqb, cases_eq, true≢false}
use mathlib.Core.Path.{subst, fun_ext}
use mathlib.Core.Logic.{inl, inr}
use Rattle.mc_model.specs.Names.{Name}
use Rattle.mc_model.specs.Bits.{◌⊻◌, Bits, all_zero, replaced, parity}
use Rattle.mc_model.specs.Signals.{Signal, Signals, value, signal_of, signal_sum, IsRising}
use Rattle.mc_model.specs.Pattern.{Command, Prep, Ent, Meas, FixX, FixZ, Pattern}
use Rattle.mc_model.specs.Valid.{measured, AllDone, IsValid, IsValidPattern}
use Rattle.mc_model.specs.Shift.{ChangeRow, new_outcomes, change_of, IsShiftedSignal, IsShifted}
use Rattle.mc_model.specs.Shift.{IsShiftedForm}
use Rattle.mc_model.proofs.BitLemmas.{xor_false, xor_assoc, xor_twice}
use Rattle.mc_model.proofs.SignalLemmas.{value-sum, same_values, toggled_all_rising, reset}
use Rattle.mc_model.proofs.ValidLemmas.{none_measured, next_measured, moved_on}
use Rattle.mc_shift.specs.Laws.{IsBijection, HasOne}
use Rattle.mc_shift.specs.Shifted.{expanded, shifted_signal, shifted, none_yet, shifted_form}
use Rattle.mc_shift.proofs.Changed.{ChangedBy, changed_by}
use Rattle.mc_shift.proofs.NewOutcomes.{new_outcomes_bijection}

-- each member of a signal was measured before
abbrev pub SignalsDone : Bits → List Command → Type 0
SignalsDone done [] = ⊤
SignalsDone done (Prep q ∷ cs) = SignalsDone done cs
SignalsDone done (Ent q r ∷ cs) = SignalsDone done cs
SignalsDone done (FixX q s ∷ cs) = AllDone done s.members × SignalsDone done cs
SignalsDone done (FixZ q s ∷ cs) = AllDone done s.members × SignalsDone done cs
SignalsDone done (Meas i a s t ∷ cs) =
    AllDone done s.members × AllDone done t.members × SignalsDone (replaced done i true) cs

pub signals_done : (inputs : ℕ) (before cs : List Command) → IsValid inputs (before ++ cs) →
    SignalsDone (measured before) cs
unfolding measured
signals_done inputs before [] v = tt
signals_done inputs before (Prep q ∷ cs) v =
    subst (λ (m : Bits). SignalsDone m cs) (none_measured before (Prep q) (λ k. refl))
    (signals_done inputs (before ++ (Prep q ∷ [])) cs (moved_on inputs before (Prep q) cs v))
signals_done inputs before (Ent q r ∷ cs) v =
    subst (λ (m : Bits). SignalsDone m cs) (none_measured before (Ent q r) (λ k. refl))
    (signals_done inputs (before ++ (Ent q r ∷ [])) cs (moved_on inputs before (Ent q r) cs v))
signals_done inputs before (FixX q s ∷ cs) v = (
  (v.at before (FixX q s) cs refl).1.is_done,
  subst (λ (m : Bits). SignalsDone m cs) (none_measured before (FixX q s) (λ k. refl))
      (signals_done inputs (before ++ (FixX q s ∷ [])) cs (moved_on inputs before (FixX q s) cs v)),
)
signals_done inputs before (FixZ q s ∷ cs) v = (
  (v.at before (FixZ q s) cs refl).1.is_done,
  subst (λ (m : Bits). SignalsDone m cs) (none_measured before (FixZ q s) (λ k. refl))
      (signals_done inputs (before ++ (FixZ q s ∷ [])) cs (moved_on inputs before (FixZ q s) cs v)),
)
signals_done inputs before (Meas q a s t ∷ cs) v =
    let here = v.at before (Meas q a s t) cs refl in (
      here.1.is_done,
      here.2.is_done,
      subst (λ (m : Bits). SignalsDone m cs) (next_measured before q a s t)
          (signals_done inputs (before ++ (Meas q a s t ∷ [])) cs
          (moved_on inputs before (Meas q a s t) cs v)),
    )

-- at each measured qubit the signal of `d` tells how the outcome changed
pub record Tells (done : Bits) (d : Signals) (o new : Bits) : Type 0 where
  pub at : (q : ℕ) → done q ≡ true → new q ⊻ value (d q) new ≡ o q

members_told : (done : Bits) (d : Signals) (o new : Bits) → Tells done d o new →
    (qs : List ℕ) → AllDone done qs → value (expanded d qs) new ≡ parity qs o
unfolding expanded parity value
members_told done d o new t [] all = refl
members_told done d o new t (q ∷ qs) all =
    value-sum (signal_sum (signal_of q) (d q)) (expanded d qs) new
    ∙ ap₂ (λ (a b : Bool). a ⊻ b)
    (value-sum (signal_of q) (d q) new
    ∙ ap (λ (a : Bool). a ⊻ value (d q) new) (xor_false (new q))
    ∙ t.at q all.0)
    (members_told done d o new t qs all.1)

signal_told : (done : Bits) (d : Signals) (o new : Bits) → Tells done d o new →
    (s : Signal) → AllDone done s.members → value (shifted_signal d s) new ≡ value s o
unfolding value
signal_told done d o new t s all =
    xor_assoc s.constant (expanded d s.members).constant _
    ∙ ap (λ (b : Bool). s.constant ⊻ b) (members_told done d o new t s.members all)

undone : (a b : Bool) → (a ⊻ b) ⊻ b ≡ a
undone a b = grind arith

measured_told : (done : Bits) (d : Signals) (o new : Bits) (i : ℕ) (t : Signal) →
    Tells done d o new → AllDone done t.members → new i ≡ o i ⊻ value t o →
    Tells (replaced done i true) (reset d i (shifted_signal d t)) o new
measured_told done d o new i t told all change = record {
  at = λ q h. elim (cases_eq q i) [
    | inl e ↦
        rw (e, eq-eqb i i refl, signal_told done d o new told t all, change)
        (undone (o i) (value t o))
    | inr ne ↦ rw (ne_eqb q i ne) (told.at q (rw (ne_eqb q i ne) at h))
  ];
}

pub expanded_rising : (d : Signals) (qs : List ℕ) → IsRising (expanded d qs).members
unfolding expanded
expanded_rising d [] = tt
expanded_rising d (q ∷ qs) =
    toggled_all_rising (signal_sum (signal_of q) (d q)).members (expanded d qs).members
    (expanded_rising d qs)

-- the signals of `d` tell every change of outcomes
abbrev TellsAll : Bits → Signals → List ChangeRow → Type 0
TellsAll done d rows = (o : Bits) → Tells done d o (new_outcomes rows o)

abbrev ChangesAll : List Command → List ChangeRow → Type 0
ChangesAll cs rows = (o : Bits) → ChangedBy cs o (new_outcomes rows o)

signal_shifted : (done : Bits) (d : Signals) (rows : List ChangeRow) (s : Signal) →
    TellsAll done d rows → AllDone done s.members → IsShiftedSignal rows s (shifted_signal d s)
signal_shifted done d rows s told all = record {
  is_set = expanded_rising d s.members;
  same_value = λ o. signal_told done d o (new_outcomes rows o) (told o) s all;
}

shifted_is : (done : Bits) (d : Signals) (rows : List ChangeRow) (cs : List Command) →
    TellsAll done d rows → SignalsDone done cs → ChangesAll cs rows →
    IsShifted rows cs (shifted d cs)
unfolding shifted
shifted_is done d rows [] told known change = tt
shifted_is done d rows (Prep q ∷ cs) told known change =
    (refl, shifted_is done d rows cs told known change)
shifted_is done d rows (Ent q r ∷ cs) told known change =
    (refl, refl, shifted_is done d rows cs told known change)
shifted_is done d rows (FixX q s ∷ cs) told known change =
    (refl, signal_shifted done d rows s told known.0, shifted_is done d rows cs told known.1 change)
shifted_is done d rows (FixZ q s ∷ cs) told known change =
    (refl, signal_shifted done d rows s told known.0, shifted_is done d rows cs told known.1 change)
shifted_is done d rows (Meas i a s t ∷ cs) told known change = (
  refl,
  refl,
  signal_shifted done d rows s told known.0,
  refl,
  shifted_is (replaced done i true) (reset d i (shifted_signal d t)) rows cs
      (λ o. measured_told done d o (new_outcomes rows o) i t (told o) known.1 (change o).0)
      known.2 (λ o. (change o).1),
)

-- ---- no other signal is a shifted one

parity-all_zero : (qs : List ℕ) → parity qs all_zero ≡ false
unfolding parity
parity-all_zero [] = refl
parity-all_zero (q ∷ qs) = parity-all_zero qs

-- two signals with equal values at all outcomes are one
same_signal : (s t : Signal) → IsRising s.members → IsRising t.members →
    ((o : Bits) → value s o ≡ value t o) → s ≡ t
unfolding value
same_signal s t rs rt h =
    let constants : s.constant ≡ t.constant =
    sym (ap (λ (b : Bool). s.constant ⊻ b) (parity-all_zero s.members) ∙ xor_false s.constant)
    ∙ h all_zero
    ∙ ap (λ (b : Bool). t.constant ⊻ b) (parity-all_zero t.members) ∙ xor_false t.constant in
    ap₂ (λ (ms : List ℕ) (c : Bool). record { members = ms; constant = c })
    (same_values s.members t.members rs rt (λ o.
    sym (xor_twice s.constant (parity s.members o))
    ∙ ap₂ (λ (b c : Bool). b ⊻ c) constants (h o)
    ∙ xor_twice t.constant (parity t.members o)))
    constants

one_signal : (rows : List ChangeRow) (s a b : Signal) → IsBijection (new_outcomes rows) →
    IsShiftedSignal rows s a → IsShiftedSignal rows s b → a ≡ b
one_signal rows s a b onto ha hb = same_signal a b ha.is_set hb.is_set (λ n.
    let found = onto.reached n in
    let e : new_outcomes rows found.0 ≡ n = fun_ext found.1 in
    ap (value a) (sym e) ∙ ha.same_value found.0 ∙ sym (hb.same_value found.0) ∙ ap (value b) e)

one_list : (rows : List ChangeRow) (cs ds es : List Command) → IsBijection (new_outcomes rows) →
    IsShifted rows cs ds → IsShifted rows cs es → ds ≡ es
one_list rows [] [] [] onto h k = refl
one_list rows (Prep q ∷ cs) (Prep r ∷ ds) (Prep u ∷ es) onto h k =
    ap₂ (λ (i : ℕ) (rest : List Command). Prep i ∷ rest) (h.0 ∙ sym k.0)
    (one_list rows cs ds es onto h.1 k.1)
one_list rows (Ent q r ∷ cs) (Ent q' r' ∷ ds) (Ent q'' r'' ∷ es) onto h k =
    ap₂ (λ (i j : ℕ). Ent i j ∷ ds) (h.0 ∙ sym k.0) (h.1 ∙ sym k.1)
    ∙ ap (λ (rest : List Command). Ent q'' r'' ∷ rest) (one_list rows cs ds es onto h.2 k.2)
one_list rows (FixX q s ∷ cs) (FixX q' s' ∷ ds) (FixX q'' s'' ∷ es) onto h k =
    ap₂ (λ (i : ℕ) (u : Signal). FixX i u ∷ ds) (h.0 ∙ sym k.0)
    (one_signal rows s s' s'' onto h.1 k.1)
    ∙ ap (λ (rest : List Command). FixX q'' s'' ∷ rest) (one_list rows cs ds es onto h.2 k.2)
one_list rows (FixZ q s ∷ cs) (FixZ q' s' ∷ ds) (FixZ q'' s'' ∷ es) onto h k =
    ap₂ (λ (i : ℕ) (u : Signal). FixZ i u ∷ ds) (h.0 ∙ sym k.0)
    (one_signal rows s s' s'' onto h.1 k.1)
    ∙ ap (λ (rest : List Command). FixZ q'' s'' ∷ rest) (one_list rows cs ds es onto h.2 k.2)
one_list rows (Meas q a s t ∷ cs) (Meas q' a' s' t' ∷ ds) (Meas q'' a'' s'' t'' ∷ es) onto h k =
    ap₂ (λ (i b : ℕ). Meas i b s' t' ∷ ds) (h.0 ∙ sym k.0) (h.1 ∙ sym k.1)
    ∙ ap₂ (λ (u w : Signal). Meas q'' a'' u w ∷ ds) (one_signal rows s s' s'' onto h.2 k.2)
    (h.3 ∙ sym k.3)
    ∙ ap (λ (rest : List Command). Meas q'' a'' s'' t'' ∷ rest)
    (one_list rows cs ds es onto h.4 k.4)
one_list rows [] [] es onto h k = absurd k
one_list rows (Prep q ∷ cs) (Prep r ∷ ds) es onto h k = absurd k
one_list rows (Ent q r ∷ cs) (Ent q' r' ∷ ds) es onto h k = absurd k
one_list rows (FixX q s ∷ cs) (FixX q' s' ∷ ds) es onto h k = absurd k
one_list rows (FixZ q s ∷ cs) (FixZ q' s' ∷ ds) es onto h k = absurd k
one_list rows (Meas q a s t ∷ cs) (Meas q' a' s' t' ∷ ds) es onto h k = absurd k
one_list rows cs ds es onto h k = absurd h

-- ---- the shifted form

pub form_exists : (p : Pattern) → IsValidPattern p → IsShiftedForm p (shifted_form p)
unfolding shifted_form measured
form_exists p valid = record {
  names = refl;
  inputs = refl;
  outputs = refl;
  commands =
      shifted_is (measured []) none_yet (change_of p.commands) p.commands
      (λ o. record { at = λ q d. absurd (true≢false (sym d)) })
      (signals_done p.inputs [] p.commands valid.commands)
      (λ o. changed_by p.inputs [] p.commands o valid.commands);
}

pub form_unique : (p q r : Pattern) → IsValidPattern p → IsShiftedForm p q →
    IsShiftedForm p r → q ≡ r
form_unique p q r valid hq hr =
    let onto = new_outcomes_bijection p valid in
    ap₂ (λ (ns : List Name) (n : ℕ). record {
      names = ns;
      inputs = n;
      outputs = q.outputs;
      commands = q.commands;
    })
    (hq.names ∙ sym hr.names) (hq.inputs ∙ sym hr.inputs)
    ∙ ap₂ (λ (os : List ℕ) (cs : List Command). record {
      names = r.names;
      inputs = r.inputs;
      outputs = os;
      commands = cs;
    })
    (hq.outputs ∙ sym hr.outputs)
    (one_list (change_of p.commands) p.commands q.commands r.commands onto
    hq.commands hr.commands)

pub one_shifted_form : (p : Pattern) → IsValidPattern p → HasOne (IsShiftedForm p)
one_shifted_form p valid = record {
  the_one = shifted_form p;
  has = form_exists p valid;
  only = λ q h. form_unique p q (shifted_form p) valid h (form_exists p valid);
}
