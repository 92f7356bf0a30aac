-- The shifted form of a standard form is its own standard form.
use Rattle.std.proofs.Common.{◌≡◌, ℕ, suc, ◌+◌, true, false, List, [], ◌∷◌, ◌++◌, length, refl, sym}
use Rattle.std.proofs.Common.{◌∙◌, ap, subst, arith}
use Rattle.std.specs.Prelude.{nat_eq}
use Rattle.std.proofs.lemmas.Bool.{cases_Bool, true≢false}
use mathlib.Core.Logic.{inl, inr}
use Rattle.mc_model.specs.Bits.{Bits, parity}
use Rattle.mc_model.specs.Signals.{Signal, Signals, value, no_signal, signal_of, signal_sum}
use Rattle.mc_model.specs.Signals.{is_empty, IsRising}
use Rattle.mc_model.specs.Pattern.{Command, Prep, Ent, Meas, FixX, FixZ, Pattern}
use Rattle.mc_model.specs.Valid.{prepared, IsValidPattern}
use Rattle.mc_model.specs.StandardForm.{preparations_of, standard_form}
use Rattle.mc_model.specs.Shift.{ChangeRow, new_outcomes, change_of, IsShiftedSignal, IsShifted}
use Rattle.mc_model.specs.Shift.{IsShiftedForm}
use Rattle.mc_model.proofs.SignalLemmas.{reset, toggled_all_rising}
use Rattle.mc_model.proofs.ValidInPlace.{WellMade, InPlace, valid_in_place}
use Rattle.mc_model.proofs.SignalValues.{same_signals, empty_signal}
use Rattle.mc_pattern.specs.Typed.{IsSet, AllTyped}
use Rattle.mc_rules.specs.Parts.{IsInParts, entanglings_of, measurements_of, corrections_of}
use Rattle.mc_rules.specs.Parts.{with_signals}
use Rattle.mc_standard.specs.StandardForms.{IsStandardForm}
use Rattle.mc_rules.specs.Laws.{SettledIsStandard}
use Rattle.mc_rules.specs.Settled.{IsTidy, Follows, FirstFollows, IsSettled}
use Rattle.mc_shift.specs.Shifted.{expanded, shifted_signal, shifted, none_yet, shifted_form}
use Rattle.mc_shift.proofs.ShiftedForm.{form_exists, form_unique}
use Rattle.mc_shift.proofs.ShiftedValid.{shifted_forms_valid}
use Rattle.mc_shift.proofs.Halfway.{shifted_append, shifted_front}

-- ---- a signal that is not empty stays so

none_value : (o : Bits) → value no_signal o ≡ false
unfolding value parity
none_value o = refl

stays_empty : (rows : List ChangeRow) (s s' : Signal) → IsShiftedSignal rows s s' →
    IsRising s.members → is_empty s' ≡ true → s ≡ no_signal
unfolding value
stays_empty rows s s' h rising e =
    same_signals s no_signal rising tt (λ o.
    sym (h.same_value o)
    ∙ empty_signal (new_outcomes rows o) s' e
    ∙ sym (none_value o))

stays_full : (rows : List ChangeRow) (s s' : Signal) → IsShiftedSignal rows s s' →
    IsRising s.members → is_empty s ≡ false → is_empty s' ≡ false
stays_full rows s s' h rising full = elim (cases_Bool (is_empty s')) [
  | inl e ↦
      absurd (true≢false (sym (ap (λ (u : Signal). is_empty u) (stays_empty rows s s' h rising e))
      ∙ full))
  | inr e ↦ e
]

-- ---- a shifted list is settled where the list is

-- the two commands are alike but for their signals
abbrev Shifts : List ChangeRow → Command → Command → Type 0
Shifts rows c d = IsShifted rows (c ∷ []) (d ∷ [])

shifted_head : (rows : List ChangeRow) (c d : Command) (cs ds : List Command) →
    IsShifted rows (c ∷ cs) (d ∷ ds) → Shifts rows c d
shifted_head rows (Prep q) (Prep q') cs ds h = (h.0, tt)
shifted_head rows (Ent q r) (Ent q' r') cs ds h = (h.0, h.1, tt)
shifted_head rows (Meas q a s t) (Meas q' a' s' t') cs ds h = (h.0, h.1, h.2, h.3, tt)
shifted_head rows (FixX q s) (FixX q' s') cs ds h = (h.0, h.1, tt)
shifted_head rows (FixZ q s) (FixZ q' s') cs ds h = (h.0, h.1, tt)
shifted_head rows c d cs ds h = absurd h

shifted_tail : (rows : List ChangeRow) (c d : Command) (cs ds : List Command) →
    IsShifted rows (c ∷ cs) (d ∷ ds) → IsShifted rows cs ds
shifted_tail rows (Prep q) (Prep q') cs ds h = h.1
shifted_tail rows (Ent q r) (Ent q' r') cs ds h = h.2
shifted_tail rows (Meas q a s t) (Meas q' a' s' t') cs ds h = h.4
shifted_tail rows (FixX q s) (FixX q' s') cs ds h = h.2
shifted_tail rows (FixZ q s) (FixZ q' s') cs ds h = h.2
shifted_tail rows c d cs ds h = absurd h

tidy_shifted : (n : ℕ) (rows : List ChangeRow) (c d : Command) → WellMade n c →
    Shifts rows c d → IsTidy c → IsTidy d
tidy_shifted n rows (Prep q) (Prep q') w h tidy = tt
tidy_shifted n rows (Ent q r) (Ent q' r') w h tidy =
    let e = h.0 in let f = h.1 in omega arith
tidy_shifted n rows (Meas q a s t) (Meas q' a' s' t') w h tidy = tt
tidy_shifted n rows (FixX q s) (FixX q' s') w h tidy = stays_full rows s s' h.1 w.1 tidy
tidy_shifted n rows (FixZ q s) (FixZ q' s') w h tidy = stays_full rows s s' h.1 w.1 tidy
tidy_shifted n rows c d w h tidy = absurd h

follows_ent : (rows : List ChangeRow) (i j i' j' : ℕ) (d d' : Command) → i' ≡ i → j' ≡ j →
    Shifts rows d d' → Follows (Ent i j) d → Follows (Ent i' j') d'
follows_ent rows i j i' j' (Prep q) (Prep q') a b k f = absurd f
follows_ent rows i j i' j' (Ent q r) (Ent q' r') a b k f = rw (a, b, k.0, k.1) f
follows_ent rows i j i' j' (Meas q c s t) (Meas q' c' s' t') a b k f = tt
follows_ent rows i j i' j' (FixX q s) (FixX q' s') a b k f = tt
follows_ent rows i j i' j' (FixZ q s) (FixZ q' s') a b k f = tt
follows_ent rows i j i' j' d d' a b k f = absurd k

follows_meas : (rows : List ChangeRow) (i a i' a' : ℕ) (s t s' t' : Signal) (d d' : Command) →
    Shifts rows d d' → Follows (Meas i a s t) d → Follows (Meas i' a' s' t') d'
follows_meas rows i a i' a' s t s' t' (Prep q) (Prep q') k f = absurd f
follows_meas rows i a i' a' s t s' t' (Ent q r) (Ent q' r') k f = absurd f
follows_meas rows i a i' a' s t s' t' (Meas q c u w) (Meas q' c' u' w') k f = tt
follows_meas rows i a i' a' s t s' t' (FixX q u) (FixX q' u') k f = tt
follows_meas rows i a i' a' s t s' t' (FixZ q u) (FixZ q' u') k f = tt
follows_meas rows i a i' a' s t s' t' d d' k f = absurd k

follows_x : (rows : List ChangeRow) (i i' : ℕ) (s s' : Signal) (d d' : Command) → i' ≡ i →
    Shifts rows d d' → Follows (FixX i s) d → Follows (FixX i' s') d'
follows_x rows i i' s s' (Prep q) (Prep q') e k f = absurd f
follows_x rows i i' s s' (Ent q r) (Ent q' r') e k f = absurd f
follows_x rows i i' s s' (Meas q c u w) (Meas q' c' u' w') e k f = absurd f
follows_x rows i i' s s' (FixX q u) (FixX q' u') e k f = let b = k.0 in omega arith
follows_x rows i i' s s' (FixZ q u) (FixZ q' u') e k f = let b = k.0 in omega arith
follows_x rows i i' s s' d d' e k f = absurd k

follows_z : (rows : List ChangeRow) (i i' : ℕ) (s s' : Signal) (d d' : Command) → i' ≡ i →
    Shifts rows d d' → Follows (FixZ i s) d → Follows (FixZ i' s') d'
follows_z rows i i' s s' (Prep q) (Prep q') e k f = absurd f
follows_z rows i i' s s' (Ent q r) (Ent q' r') e k f = absurd f
follows_z rows i i' s s' (Meas q c u w) (Meas q' c' u' w') e k f = absurd f
follows_z rows i i' s s' (FixX q u) (FixX q' u') e k f = let b = k.0 in omega arith
follows_z rows i i' s s' (FixZ q u) (FixZ q' u') e k f = let b = k.0 in omega arith
follows_z rows i i' s s' d d' e k f = absurd k

follows_shifted : (rows : List ChangeRow) (c d c' d' : Command) → Shifts rows c c' →
    Shifts rows d d' → Follows c d → Follows c' d'
follows_shifted rows (Prep i) d (Prep i') d' h k f = tt
follows_shifted rows (Ent i j) d (Ent i' j') d' h k f =
    follows_ent rows i j i' j' d d' h.0 h.1 k f
follows_shifted rows (Meas i a s t) d (Meas i' a' s' t') d' h k f =
    follows_meas rows i a i' a' s t s' t' d d' k f
follows_shifted rows (FixX i s) d (FixX i' s') d' h k f = follows_x rows i i' s s' d d' h.0 k f
follows_shifted rows (FixZ i s) d (FixZ i' s') d' h k f = follows_z rows i i' s s' d d' h.0 k f
follows_shifted rows c d c' d' h k f = absurd h

first_shifted : (rows : List ChangeRow) (c d : Command) (cs ds : List Command) →
    Shifts rows c d → IsShifted rows cs ds → FirstFollows c cs → FirstFollows d ds
first_shifted rows c d [] [] h k f = tt
first_shifted rows c d (e ∷ cs) (e' ∷ ds) h k f =
    follows_shifted rows c e d e' h (shifted_head rows e e' cs ds k) f
first_shifted rows c d [] (e' ∷ ds) h k f = absurd k
first_shifted rows c d (e ∷ cs) [] h k f = tt

settled_shifted : (n : ℕ) (rows : List ChangeRow) (cs ds : List Command) → InPlace n cs →
    IsShifted rows cs ds → IsSettled cs → IsSettled ds
settled_shifted n rows [] [] p h s = tt
settled_shifted n rows (c ∷ cs) (d ∷ ds) p h s =
    let head = shifted_head rows c d cs ds h in
    let tail = shifted_tail rows c d cs ds h in (
      tidy_shifted n rows c d p.0 head s.0,
      first_shifted rows c d cs ds head tail s.1,
      settled_shifted n rows cs ds p.2 tail s.2,
    )
settled_shifted n rows [] (d ∷ ds) p h s = absurd h
settled_shifted n rows (c ∷ cs) [] p h s = tt

shifted_own : SettledIsStandard → (p q : Pattern) → IsValidPattern p → standard_form p ≡ p → IsShiftedForm p q →
    standard_form q ≡ q
unfolding standard_form
shifted_own law p q valid own form =
    let n : ℕ = p.inputs + prepared p.commands in
    let place : InPlace n p.commands =
    valid_in_place p.inputs n [] p.commands valid.commands (omega arith) in
    let settled : IsSettled q.commands =
    settled_shifted n (change_of p.commands) p.commands q.commands place form.commands
    ((law p.inputs p.commands valid.commands).1 (ap (λ (r : Pattern). r.commands) own)) in
    ap (λ (cs : List Command). record {
      names = q.names;
      inputs = q.inputs;
      outputs = q.outputs;
      commands = cs;
    })
    ((law q.inputs q.commands (shifted_forms_valid p q valid form).valid.commands).0 settled)

-- ---- the shifted form is a pattern of the code

length-shifted : (rows : List ChangeRow) (cs ds : List Command) → IsShifted rows cs ds →
    length ds ≡ length cs
length-shifted rows [] [] h = refl
length-shifted rows (Prep q ∷ cs) (Prep q' ∷ ds) h = ap suc (length-shifted rows cs ds h.1)
length-shifted rows (Ent q r ∷ cs) (Ent q' r' ∷ ds) h = ap suc (length-shifted rows cs ds h.2)
length-shifted rows (Meas q a s t ∷ cs) (Meas q' a' s' t' ∷ ds) h =
    ap suc (length-shifted rows cs ds h.4)
length-shifted rows (FixX q s ∷ cs) (FixX q' s' ∷ ds) h = ap suc (length-shifted rows cs ds h.2)
length-shifted rows (FixZ q s ∷ cs) (FixZ q' s' ∷ ds) h = ap suc (length-shifted rows cs ds h.2)
length-shifted rows cs ds h = absurd h

-- a set for each qubit
abbrev AllSets : Signals → Type 0
AllSets d = (q : ℕ) → IsSet (d q)

expanded_set : (d : Signals) (qs : List ℕ) → AllSets d → IsSet (expanded d qs)
unfolding expanded
expanded_set d [] sets = tt
expanded_set d (q ∷ qs) sets =
    toggled_all_rising (signal_sum (signal_of q) (d q)).members (expanded d qs).members
    (expanded_set d qs sets)

signal_set : (d : Signals) (s : Signal) → AllSets d → IsSet s → IsSet (shifted_signal d s)
signal_set d s sets one = expanded_set d s.members sets

reset_set : (d : Signals) (i : ℕ) (t : Signal) → AllSets d → IsSet t → AllSets (reset d i t)
reset_set d i t sets one q = elim (cases_Bool (nat_eq q i))
    [ inl e ↦ rw e one | inr e ↦ rw e (sets q) ]

typed_shifted : (half : ℕ) (d : Signals) (cs : List Command) → AllSets d → AllTyped half cs →
    AllTyped half (shifted d cs)
unfolding shifted
typed_shifted half d [] sets t = tt
typed_shifted half d (Prep q ∷ cs) sets t = (tt, typed_shifted half d cs sets t.1)
typed_shifted half d (Ent q r ∷ cs) sets t = (tt, typed_shifted half d cs sets t.1)
typed_shifted half d (FixX q s ∷ cs) sets t =
    (signal_set d s sets t.0, typed_shifted half d cs sets t.1)
typed_shifted half d (FixZ q s ∷ cs) sets t =
    (signal_set d s sets t.0, typed_shifted half d cs sets t.1)
typed_shifted half d (Meas i a s u ∷ cs) sets t = (
  (t.0.0, signal_set d s sets t.0.1, tt),
  typed_shifted half (reset d i (shifted_signal d u)) cs
      (reset_set d i (shifted_signal d u) sets (signal_set d u sets t.0.2)) t.1,
)

form_typed : (half : ℕ) (p q : Pattern) → IsValidPattern p → AllTyped half p.commands →
    IsShiftedForm p q → AllTyped half q.commands
unfolding shifted_form
form_typed half p q valid typed form =
    subst (λ (r : Pattern). AllTyped half r.commands)
    (sym (form_unique p q (shifted_form p) valid form (form_exists p valid)))
    (typed_shifted half none_yet p.commands (λ k. tt) typed)

pub shifted_standard : SettledIsStandard → (half : ℕ) (p q : Pattern) → IsStandardForm half p →
    IsShiftedForm p q → IsStandardForm half q
shifted_standard law half p q h form =
    let few = h.pattern.few in
    let size = length-shifted (change_of p.commands) p.commands q.commands form.commands in
    record {
      pattern = record {
        permitted = h.pattern.permitted;
        valid = (shifted_forms_valid p q h.pattern.valid form).valid;
        few = omega arith;
        typed = form_typed half p q h.pattern.valid h.pattern.typed form;
      };
      own = shifted_own law p q h.pattern.valid h.own form;
    }

-- ---- the parts together

pub shifted_parts : (p : Pattern) (ms fs : List Command) → IsInParts p.commands →
    IsShifted (change_of p.commands) (measurements_of p.commands) ms →
    IsShifted (change_of p.commands) (corrections_of p.commands) fs →
    IsShiftedForm p (with_signals p ms fs)
shifted_parts p ms fs parts measures fixes =
    let cs : List Command = p.commands in
    let rows : List ChangeRow = change_of cs in
    let ps : List Command = preparations_of cs in
    let es : List Command = entanglings_of cs in
    record {
      names = refl;
      inputs = refl;
      outputs = refl;
      commands =
          subst (λ (xs : List Command). IsShifted rows xs (ps ++ (es ++ (ms ++ fs)))) (sym parts.whole)
          (shifted_append rows ps ps (es ++ (measurements_of cs ++ corrections_of cs))
          (es ++ (ms ++ fs)) (shifted_front rows 0 ps (omega arith) parts.preparations)
          (shifted_append rows es es (measurements_of cs ++ corrections_of cs) (ms ++ fs)
          (shifted_front rows 1 es (omega arith) parts.entanglings)
          (shifted_append rows (measurements_of cs) ms (corrections_of cs) fs measures fixes)));
    }
