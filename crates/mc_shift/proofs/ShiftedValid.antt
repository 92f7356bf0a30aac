-- The shifted form of a valid pattern is valid, and prepares and measures what the pattern does.
use Rattle.std.proofs.Common.{◌≡◌, ℕ, suc, ◌+◌, Bool, true, false, not, ◌||◌, List, [], ◌∷◌, ◌++◌}
use Rattle.std.proofs.Common.{length, refl, sym, ◌∙◌, ap, ap₂, append_assoc, append-nil, arith}
use Rattle.std.specs.Prelude.{nat_eq}
use Rattle.std.proofs.lemmas.Bool.{eq-eqb, ne_eqb, cases_eq}
use mathlib.Core.Path.{subst, fun_ext}
use mathlib.Core.Logic.{inl, inr}
use Rattle.mc_model.specs.Numbers.{ListsOnce}
use Rattle.mc_model.specs.Bits.{Bits, replaced}
use Rattle.mc_model.specs.Signals.{Signal, Signals, no_signal, toggled_all}
use Rattle.mc_model.specs.Pattern.{Command, Prep, Ent, Meas, FixX, FixZ, Pattern}
use Rattle.mc_model.specs.Amplitude.{halvings, pattern_scale}
use Rattle.mc_model.specs.Valid.{prepared, measured, SignalFits, AllDone, IsValid, IsValidPattern}
use Rattle.mc_model.specs.Shift.{ChangeRow, change_of, IsShifted, IsShiftedForm}
use Rattle.mc_model.proofs.BitLemmas.{replaced_same, replaced_other}
use Rattle.mc_model.proofs.SignalLemmas.{reset}
use Rattle.mc_model.proofs.ValidLemmas.{measured-append, prepared-append, next_measured}
use Rattle.mc_model.proofs.ValidLemmas.{none_measured, moved_on, valid_with, nothing_valid}
use Rattle.mc_model.proofs.ValidLemmas.{done_sum, live_same}
use Rattle.mc_shift.specs.Laws.{IsValidShiftedForm}
use Rattle.mc_shift.specs.Shifted.{expanded, shifted_signal, shifted, none_yet, shifted_form}
use Rattle.mc_shift.proofs.ShiftedForm.{expanded_rising, form_exists, form_unique}

-- ---- the members of shifted signals were measured before

done_more : (m : Bits) (i : ℕ) (qs : List ℕ) → AllDone m qs → AllDone (replaced m i true) qs
done_more m i [] d = tt
done_more m i (q ∷ qs) d = (still, done_more m i qs d.1)
  where
    still : replaced m i true q ≡ true
    still = elim (cases_eq q i) [
      | inl e ↦ ap (replaced m i true) e ∙ replaced_same m i true
      | inr ne ↦ replaced_other m i true q ne ∙ d.0
    ]

-- the signal of each measured qubit has members that were measured
abbrev Known : Bits → Signals → Type 0
Known m d = (q : ℕ) → m q ≡ true → AllDone m (d q).members

expanded_done : (m : Bits) (d : Signals) (qs : List ℕ) → Known m d → AllDone m qs →
    AllDone m (expanded d qs).members
unfolding expanded
expanded_done m d [] known all = tt
expanded_done m d (q ∷ qs) known all =
    done_sum m (toggled_all (q ∷ []) (d q).members) (expanded d qs).members
    (done_sum m (q ∷ []) (d q).members (all.0, tt) (known q all.0))
    (expanded_done m d qs known all.1)

known_more : (m : Bits) (d : Signals) (i : ℕ) (t : Signal) → Known m d → AllDone m t.members →
    Known (replaced m i true) (reset d i (shifted_signal d t))
known_more m d i t known all q h = elim (cases_eq q i) [
  | inl e ↦
      rw (eq-eqb q i e)
      (done_more m i (expanded d t.members).members (expanded_done m d t.members known all))
  | inr ne ↦
      rw (ne_eqb q i ne)
      (done_more m i (d q).members (known q (sym (replaced_other m i true q ne) ∙ h)))
]

-- ---- a list that is built beside another

-- the two lists prepare and measure the same
record SameSoFar (before built : List Command) : Type 0 where
  preparations : prepared before ≡ prepared built
  measurements : measured before ≡ measured built

same_on : (before built : List Command) (c d : Command) → SameSoFar before built →
    SameSoFar (c ∷ []) (d ∷ []) → SameSoFar (before ++ (c ∷ [])) (built ++ (d ∷ []))
same_on before built c d h k = record {
  preparations =
      prepared-append before (c ∷ [])
      ∙ ap₂ (λ (m n : ℕ). m + n) h.preparations k.preparations
      ∙ sym (prepared-append built (d ∷ []));
  measurements = fun_ext λ q.
      measured-append before (c ∷ []) q
      ∙ ap₂ (λ (m n : Bits). m q || n q) h.measurements k.measurements
      ∙ sym (measured-append built (d ∷ []) q);
}

shifted_fits : (before built : List Command) (d : Signals) (s : Signal) → SameSoFar before built →
    Known (measured before) d → SignalFits before s → SignalFits built (shifted_signal d s)
shifted_fits before built d s h known fits = record {
  is_set = expanded_rising d s.members;
  is_done =
      subst (λ (m : Bits). AllDone m (expanded d s.members).members) h.measurements
      (expanded_done (measured before) d s.members known fits.is_done);
}

none_fits : (built : List Command) → SignalFits built no_signal
none_fits built = record { is_set = tt; is_done = tt }

same_prep : (q : ℕ) → SameSoFar (Prep q ∷ []) (Prep q ∷ [])
same_prep q = record { preparations = refl; measurements = refl }

same_ent : (q r : ℕ) → SameSoFar (Ent q r ∷ []) (Ent q r ∷ [])
same_ent q r = record { preparations = refl; measurements = refl }

same_x : (q : ℕ) (s s' : Signal) → SameSoFar (FixX q s ∷ []) (FixX q s' ∷ [])
unfolding prepared measured
same_x q s s' = record { preparations = refl; measurements = fun_ext λ k. refl }

same_z : (q : ℕ) (s s' : Signal) → SameSoFar (FixZ q s ∷ []) (FixZ q s' ∷ [])
unfolding prepared measured
same_z q s s' = record { preparations = refl; measurements = fun_ext λ k. refl }

same_measured : (i a : ℕ) (s t s' t' : Signal) →
    SameSoFar (Meas i a s t ∷ []) (Meas i a s' t' ∷ [])
unfolding prepared measured
same_measured i a s t s' t' = record { preparations = refl; measurements = fun_ext λ k. refl }

still_known : (before : List Command) (c : Command) (d : Signals) →
    ((k : ℕ) → measured (c ∷ []) k ≡ false) → Known (measured before) d →
    Known (measured (before ++ (c ∷ []))) d
still_known before c d none known =
    subst (λ (m : Bits). Known m d) (sym (none_measured before c none)) known

-- one more command on the built list, and then the rest
one_more : (inputs : ℕ) (built : List Command) (c : Command) (rest : List Command) →
    IsValid inputs ((built ++ (c ∷ [])) ++ rest) → IsValid inputs (built ++ (c ∷ rest))
one_more inputs built c rest v = subst (IsValid inputs) (append_assoc built (c ∷ []) rest) v

shifted_valid : (inputs : ℕ) (before built : List Command) (d : Signals) (cs : List Command) →
    IsValid inputs (before ++ cs) → IsValid inputs built → SameSoFar before built →
    Known (measured before) d → IsValid inputs (built ++ shifted d cs)
unfolding shifted measured
shifted_valid inputs before built d [] v w same known =
    subst (IsValid inputs) (sym (append-nil built)) w
shifted_valid inputs before built d (Prep q ∷ cs) v w same known =
    let fits = v.at before (Prep q) cs refl in
    let counts = same.preparations in
    one_more inputs built (Prep q) (shifted d cs)
    (shifted_valid inputs (before ++ (Prep q ∷ [])) (built ++ (Prep q ∷ [])) d cs
    (moved_on inputs before (Prep q) cs v)
    (valid_with inputs built (Prep q) w (omega arith))
    (same_on before built (Prep q) (Prep q) same (same_prep q))
    (still_known before (Prep q) d (λ k. refl) known))
shifted_valid inputs before built d (Ent q r ∷ cs) v w same known =
    let fits = v.at before (Ent q r) cs refl in
    let new : Command = Ent q r in
    one_more inputs built new (shifted d cs)
    (shifted_valid inputs (before ++ (Ent q r ∷ [])) (built ++ (new ∷ [])) d cs
    (moved_on inputs before (Ent q r) cs v)
    (valid_with inputs built new w (
      live_same inputs before built q same.preparations same.measurements fits.0,
      live_same inputs before built r same.preparations same.measurements fits.1,
      fits.2,
    ))
    (same_on before built (Ent q r) new same (same_ent q r))
    (still_known before (Ent q r) d (λ k. refl) known))
shifted_valid inputs before built d (FixX q s ∷ cs) v w same known =
    let fits = v.at before (FixX q s) cs refl in
    let new : Command = FixX q (shifted_signal d s) in
    one_more inputs built new (shifted d cs)
    (shifted_valid inputs (before ++ (FixX q s ∷ [])) (built ++ (new ∷ [])) d cs
    (moved_on inputs before (FixX q s) cs v)
    (valid_with inputs built new w (
      live_same inputs before built q same.preparations same.measurements fits.0,
      shifted_fits before built d s same known fits.1,
    ))
    (same_on before built (FixX q s) new same (same_x q s (shifted_signal d s)))
    (still_known before (FixX q s) d (λ k. refl) known))
shifted_valid inputs before built d (FixZ q s ∷ cs) v w same known =
    let fits = v.at before (FixZ q s) cs refl in
    let new : Command = FixZ q (shifted_signal d s) in
    one_more inputs built new (shifted d cs)
    (shifted_valid inputs (before ++ (FixZ q s ∷ [])) (built ++ (new ∷ [])) d cs
    (moved_on inputs before (FixZ q s) cs v)
    (valid_with inputs built new w (
      live_same inputs before built q same.preparations same.measurements fits.0,
      shifted_fits before built d s same known fits.1,
    ))
    (same_on before built (FixZ q s) new same (same_z q s (shifted_signal d s)))
    (still_known before (FixZ q s) d (λ k. refl) known))
shifted_valid inputs before built d (Meas i a s t ∷ cs) v w same known =
    let fits = v.at before (Meas i a s t) cs refl in
    let new : Command = Meas i a (shifted_signal d s) no_signal in
    let now : Signals = reset d i (shifted_signal d t) in
    one_more inputs built new (shifted now cs)
    (shifted_valid inputs (before ++ (Meas i a s t ∷ [])) (built ++ (new ∷ [])) now cs
    (moved_on inputs before (Meas i a s t) cs v)
    (valid_with inputs built new w (
      live_same inputs before built i same.preparations same.measurements fits.0,
      shifted_fits before built d s same known fits.1,
      none_fits built,
    ))
    (same_on before built (Meas i a s t) new same
    (same_measured i a s t (shifted_signal d s) no_signal))
    (subst (λ (m : Bits). Known m now) (sym (next_measured before i a s t))
    (known_more (measured before) d i t known fits.2.is_done)))

-- ---- what the shifted list counts

prepared-shifted : (d : Signals) (cs : List Command) → prepared (shifted d cs) ≡ prepared cs
unfolding shifted prepared
prepared-shifted d [] = refl
prepared-shifted d (Prep q ∷ cs) = ap suc (prepared-shifted d cs)
prepared-shifted d (Ent q r ∷ cs) = prepared-shifted d cs
prepared-shifted d (FixX q s ∷ cs) = prepared-shifted d cs
prepared-shifted d (FixZ q s ∷ cs) = prepared-shifted d cs
prepared-shifted d (Meas i a s t ∷ cs) = prepared-shifted (reset d i (shifted_signal d t)) cs

measured-shifted : (d : Signals) (cs : List Command) (k : ℕ) →
    measured (shifted d cs) k ≡ measured cs k
unfolding shifted measured
measured-shifted d [] k = refl
measured-shifted d (Prep q ∷ cs) k = measured-shifted d cs k
measured-shifted d (Ent q r ∷ cs) k = measured-shifted d cs k
measured-shifted d (FixX q s ∷ cs) k = measured-shifted d cs k
measured-shifted d (FixZ q s ∷ cs) k = measured-shifted d cs k
measured-shifted d (Meas i a s t ∷ cs) k =
    ap (λ (b : Bool). nat_eq k i || b) (measured-shifted (reset d i (shifted_signal d t)) cs k)

halvings-shifted : (d : Signals) (cs : List Command) → halvings (shifted d cs) ≡ halvings cs
unfolding shifted halvings
halvings-shifted d [] = refl
halvings-shifted d (Prep q ∷ cs) = ap suc (halvings-shifted d cs)
halvings-shifted d (Ent q r ∷ cs) = halvings-shifted d cs
halvings-shifted d (FixX q s ∷ cs) = halvings-shifted d cs
halvings-shifted d (FixZ q s ∷ cs) = halvings-shifted d cs
halvings-shifted d (Meas i a s t ∷ cs) =
    ap suc (halvings-shifted (reset d i (shifted_signal d t)) cs)

form_valid : (p : Pattern) → IsValidPattern p → IsValidPattern (shifted_form p)
unfolding shifted_form
form_valid p valid = record {
  names = valid.names;
  qubits =
      valid.qubits
      ∙ ap (λ (n : ℕ). p.inputs + n) (sym (prepared-shifted none_yet p.commands));
  commands =
      shifted_valid p.inputs [] [] none_yet p.commands valid.commands (nothing_valid p.inputs)
      (record { preparations = refl; measurements = refl }) (λ q h. tt);
  outputs =
      subst (λ (m : Bits). ListsOnce (length p.names) (λ q. not (m q)) p.outputs)
      (fun_ext λ k. sym (measured-shifted none_yet p.commands k)) valid.outputs;
}

-- a shifted list has no second signal at any place
no_second : (rows : List ChangeRow) (cs before : List Command) (q a : ℕ) (s t : Signal)
    (behind : List Command) → IsShifted rows cs (before ++ (Meas q a s t ∷ behind)) → t ≡ no_signal
no_second rows [] [] q a s t behind h = absurd h
no_second rows [] (b ∷ before) q a s t behind h = absurd h
no_second rows (Meas q' a' s' t' ∷ cs) [] q a s t behind h = h.3
no_second rows (Prep r ∷ cs) (Prep r' ∷ before) q a s t behind h =
    no_second rows cs before q a s t behind h.1
no_second rows (Ent r u ∷ cs) (Ent r' u' ∷ before) q a s t behind h =
    no_second rows cs before q a s t behind h.2
no_second rows (FixX r u ∷ cs) (FixX r' u' ∷ before) q a s t behind h =
    no_second rows cs before q a s t behind h.2
no_second rows (FixZ r u ∷ cs) (FixZ r' u' ∷ before) q a s t behind h =
    no_second rows cs before q a s t behind h.2
no_second rows (Meas r b u w ∷ cs) (Meas r' b' u' w' ∷ before) q a s t behind h =
    no_second rows cs before q a s t behind h.4
no_second rows cs before q a s t behind h = absurd h

pub shifted_forms_valid : (p q : Pattern) → IsValidPattern p → IsShiftedForm p q →
    IsValidShiftedForm p q
unfolding shifted_form
shifted_forms_valid p q valid form =
    let same = form_unique p q (shifted_form p) valid form (form_exists p valid) in
    record {
      valid = subst IsValidPattern (sym same) (form_valid p valid);
      no_second = λ before i a s t behind e.
          no_second (change_of p.commands) p.commands before i a s t behind
          (subst (IsShifted (change_of p.commands) p.commands) e form.commands);
      scale = ap pattern_scale same ∙ halvings-shifted none_yet p.commands;
    }
