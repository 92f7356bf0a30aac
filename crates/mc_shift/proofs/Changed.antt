-- Each qubit is measured once, so its outcome is changed by the second signal of its measurement.
use Rattle.std.proofs.Common.{◌≡◌, ℕ, Bool, true, false, ◌||◌, List, [], ◌∷◌, ◌++◌, refl, sym, ◌∙◌}
use Rattle.std.proofs.Common.{ap, append_assoc}
use Rattle.std.specs.Prelude.{⊤, nat_eq}
use Rattle.std.proofs.lemmas.Bool.{eq-eqb, ne_eqb, cases_Bool, true≢false}
use mathlib.Core.Path.{subst}
use mathlib.Core.Logic.{inl, inr}
use Rattle.mc_model.specs.Bits.{◌⊻◌, Bits}
use Rattle.mc_model.specs.Signals.{Signal, value}
use Rattle.mc_model.specs.Pattern.{Command, Prep, Ent, Meas, FixX, FixZ}
use Rattle.mc_model.specs.Valid.{measured, IsValid}
use Rattle.mc_model.specs.Shift.{new_outcomes, change_of}
use Rattle.mc_model.proofs.BitLemmas.{xor_comm}
use Rattle.mc_model.proofs.ValidLemmas.{measured-append, gone_or_live, moved_on}

-- at each measured qubit the new outcome is the old one plus the value of the second signal
abbrev pub ChangedBy : List Command → Bits → Bits → Type 0
ChangedBy [] o new = ⊤
ChangedBy (Prep q ∷ cs) o new = ChangedBy cs o new
ChangedBy (Ent q r ∷ cs) o new = ChangedBy cs o new
ChangedBy (Meas i a s t ∷ cs) o new = (new i ≡ o i ⊻ value t o) × ChangedBy cs o new
ChangedBy (FixX q s ∷ cs) o new = ChangedBy cs o new
ChangedBy (FixZ q s ∷ cs) o new = ChangedBy cs o new

still_measured : (before : List Command) (c : Command) (k : ℕ) →
    measured before k ≡ true → measured (before ++ (c ∷ [])) k ≡ true
still_measured before c k m =
    measured-append before (c ∷ []) k ∙ ap (λ (b : Bool). b || measured (c ∷ []) k) m

here_measured : (before : List Command) (i a : ℕ) (s t : Signal) →
    measured (before ++ (Meas i a s t ∷ [])) i ≡ true
unfolding measured
here_measured before i a s t =
    measured-append before (Meas i a s t ∷ []) i
    ∙ ap (λ (b : Bool). measured before i || (b || false)) (eq-eqb i i refl)
    ∙ or_true (measured before i)
  where
    or_true : (b : Bool) → b || (true || false) ≡ true
    or_true true = refl
    or_true false = refl

-- a qubit that was measured is not measured again
pub measured_once : (inputs : ℕ) (before cs : List Command) (k : ℕ) →
    IsValid inputs (before ++ cs) → measured before k ≡ true → measured cs k ≡ false
unfolding measured
measured_once inputs before [] k v m = refl
measured_once inputs before (Prep q ∷ cs) k v m =
    measured_once inputs (before ++ (Prep q ∷ [])) cs k
    (moved_on inputs before (Prep q) cs v) (still_measured before (Prep q) k m)
measured_once inputs before (Ent q r ∷ cs) k v m =
    measured_once inputs (before ++ (Ent q r ∷ [])) cs k
    (moved_on inputs before (Ent q r) cs v) (still_measured before (Ent q r) k m)
measured_once inputs before (Meas q a s t ∷ cs) k v m =
    let live = (v.at before (Meas q a s t) cs refl).0 in
    rw (ne_eqb k q (gone_or_live inputs before k q m live))
    (measured_once inputs (before ++ (Meas q a s t ∷ [])) cs k
    (moved_on inputs before (Meas q a s t) cs v) (still_measured before (Meas q a s t) k m))
measured_once inputs before (FixX q s ∷ cs) k v m =
    measured_once inputs (before ++ (FixX q s ∷ [])) cs k
    (moved_on inputs before (FixX q s) cs v) (still_measured before (FixX q s) k m)
measured_once inputs before (FixZ q s ∷ cs) k v m =
    measured_once inputs (before ++ (FixZ q s ∷ [])) cs k
    (moved_on inputs before (FixZ q s) cs v) (still_measured before (FixZ q s) k m)

-- a qubit that is not measured keeps its bit
pub new-unmeasured : (cs : List Command) (o : Bits) (k : ℕ) →
    measured cs k ≡ false → new_outcomes (change_of cs) o k ≡ o k
unfolding measured new_outcomes change_of
new-unmeasured [] o k m = refl
new-unmeasured (Prep q ∷ cs) o k m = new-unmeasured cs o k m
new-unmeasured (Ent q r ∷ cs) o k m = new-unmeasured cs o k m
new-unmeasured (FixX q s ∷ cs) o k m = new-unmeasured cs o k m
new-unmeasured (FixZ q s ∷ cs) o k m = new-unmeasured cs o k m
new-unmeasured (Meas q a s t ∷ cs) o k m = elim (cases_Bool (nat_eq k q)) [
  | inl e ↦ absurd (true≢false (ap (λ (b : Bool). b || measured cs k) (sym e) ∙ m))
  | inr e ↦ rw e (new-unmeasured cs o k (ap (λ (b : Bool). b || measured cs k) (sym e) ∙ m))
]

-- a qubit that is measured at one place has its bit changed by the signal there
new-measured : (before : List Command) (i a : ℕ) (s t : Signal) (behind : List Command) (o : Bits) →
    measured before i ≡ false → measured behind i ≡ false →
    new_outcomes (change_of (before ++ (Meas i a s t ∷ behind))) o i ≡ o i ⊻ value t o
unfolding measured new_outcomes change_of
new-measured [] i a s t behind o m n =
    rw (eq-eqb i i refl, new-unmeasured behind o i n) (xor_comm (value t o) (o i))
new-measured (Prep q ∷ before) i a s t behind o m n = new-measured before i a s t behind o m n
new-measured (Ent q r ∷ before) i a s t behind o m n = new-measured before i a s t behind o m n
new-measured (FixX q u ∷ before) i a s t behind o m n = new-measured before i a s t behind o m n
new-measured (FixZ q u ∷ before) i a s t behind o m n = new-measured before i a s t behind o m n
new-measured (Meas q b u w ∷ before) i a s t behind o m n = elim (cases_Bool (nat_eq i q)) [
  | inl e ↦ absurd (true≢false (ap (λ (b : Bool). b || measured before i) (sym e) ∙ m))
  | inr e ↦ rw e (new-measured before i a s t behind o
      (ap (λ (b : Bool). b || measured before i) (sym e) ∙ m) n)
]

changed_behind : (before : List Command) (c : Command) (cs : List Command) (o : Bits) →
    ChangedBy cs o (new_outcomes (change_of ((before ++ (c ∷ [])) ++ cs)) o) →
    ChangedBy cs o (new_outcomes (change_of (before ++ (c ∷ cs))) o)
changed_behind before c cs o h =
    subst (λ (all : List Command). ChangedBy cs o (new_outcomes (change_of all) o))
    (append_assoc before (c ∷ []) cs) h

pub changed_by : (inputs : ℕ) (before cs : List Command) (o : Bits) →
    IsValid inputs (before ++ cs) →
    ChangedBy cs o (new_outcomes (change_of (before ++ cs)) o)
changed_by inputs before [] o v = tt
changed_by inputs before (Prep q ∷ cs) o v =
    changed_behind before (Prep q) cs o
    (changed_by inputs (before ++ (Prep q ∷ [])) cs o (moved_on inputs before (Prep q) cs v))
changed_by inputs before (Ent q r ∷ cs) o v =
    changed_behind before (Ent q r) cs o
    (changed_by inputs (before ++ (Ent q r ∷ [])) cs o (moved_on inputs before (Ent q r) cs v))
changed_by inputs before (FixX q s ∷ cs) o v =
    changed_behind before (FixX q s) cs o
    (changed_by inputs (before ++ (FixX q s ∷ [])) cs o (moved_on inputs before (FixX q s) cs v))
changed_by inputs before (FixZ q s ∷ cs) o v =
    changed_behind before (FixZ q s) cs o
    (changed_by inputs (before ++ (FixZ q s ∷ [])) cs o (moved_on inputs before (FixZ q s) cs v))
changed_by inputs before (Meas i a s t ∷ cs) o v =
    let live = (v.at before (Meas i a s t) cs refl).0 in
    let on = moved_on inputs before (Meas i a s t) cs v in (
      new-measured before i a s t cs o live.is_not_measured
          (measured_once inputs (before ++ (Meas i a s t ∷ [])) cs i on
          (here_measured before i a s t)),
      changed_behind before (Meas i a s t) cs o
          (changed_by inputs (before ++ (Meas i a s t ∷ [])) cs o on),
    )
