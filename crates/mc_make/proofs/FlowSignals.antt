-- The signals of a list whose entanglings stand before its corrections, and those of its standard
-- form.
use Rattle.std.proofs.Common.{◌≡◌, ℕ, zero, suc, ◌+◌, Bool, true, false, cond, List, [], ◌∷◌, ◌++◌}
use Rattle.std.proofs.Common.{refl, ◌∙◌, ap, ap₂}
use Rattle.std.specs.Prelude.{⊤, nat_eq}
use Rattle.std.specs.List.{AllByRecursion}
use Rattle.std.proofs.lemmas.Bool.{eq-eqb, ne_eqb, cases_eq, cases_Bool}
use mathlib.Core.Logic.{inl, inr}
use Rattle.mc_model.specs.Bits.{Bits}
use Rattle.mc_model.specs.Numbers.{pairs_at, pairs_below}
use Rattle.mc_model.specs.Signals.{Signal, Signals, no_signal, signal_sum, toggled_all, is_empty}
use Rattle.mc_model.specs.Pattern.{Command, Prep, Ent, Meas, FixX, FixZ}
use Rattle.mc_model.specs.Valid.{AllDone, measured, prepared}
use Rattle.mc_model.specs.StandardForm.{where_same, sum_over_places, x_part, x_sum, first_part}
use Rattle.mc_model.specs.StandardForm.{second_part, first_sum, second_sum, preparations_of}
use Rattle.mc_model.specs.StandardForm.{is_edge, measurements_with, fix_x, fix_z, corrections_below}
use Rattle.mc_model.specs.StandardForm.{standard_commands}
use Rattle.mc_model.proofs.ValidLemmas.{done_sum}
use Rattle.mc_make.proofs.MeasuringOrder.{all-append}

pub all_at : {A : Type 0} (P : A → Type 0) (before : List A) (c : A) (behind : List A) →
    AllByRecursion P (before ++ (c ∷ behind)) → P c
all_at P [] c behind all = all.0
all_at P (b ∷ before) c behind all = all_at P before c behind all.1

none_where : (q r : ℕ) → where_same q r no_signal ≡ no_signal
none_where q r = elim (cases_Bool (nat_eq q r)) [ inl e ↦ rw e refl | inr e ↦ rw e refl ]

other_where : (q r : ℕ) (s : Signal) → (q ≡ r → ⊥) → where_same q r s ≡ no_signal
other_where q r s ne = ap (λ (b : Bool). cond b s no_signal) (ne_eqb q r ne)

none_and : (s t : Signal) → s ≡ no_signal → t ≡ no_signal → signal_sum s t ≡ no_signal
unfolding toggled_all
none_and s t e f = ap₂ signal_sum e f

-- ---- second signals

-- the command is no correction by X
abbrev pub IsNoX : Command → Type 0
IsNoX (FixX q s) = ⊥
IsNoX c = ⊤

-- the command prepares or entangles
abbrev pub IsOpening : Command → Type 0
IsOpening (Prep q) = ⊤
IsOpening (Ent q r) = ⊤
IsOpening c = ⊥

-- the command entangles nothing, and gives `q` no second signal
abbrev pub GivesNoSecond : ℕ → Command → Type 0
GivesNoSecond q (Prep r) = ⊤
GivesNoSecond q (Ent r u) = ⊥
GivesNoSecond q (Meas r a s t) = t ≡ no_signal
GivesNoSecond q (FixX r s) = ⊤
GivesNoSecond q (FixZ r s) = q ≡ r → ⊥

no_x_sum : (u : ℕ) (before cs : List Command) → AllByRecursion IsNoX cs →
    sum_over_places (x_part u) before cs ≡ no_signal
unfolding sum_over_places x_part
no_x_sum u before [] all = refl
no_x_sum u before (Prep q ∷ cs) all = none_and no_signal _ refl (no_x_sum u _ cs all.1)
no_x_sum u before (Ent q r ∷ cs) all = none_and no_signal _ refl (no_x_sum u _ cs all.1)
no_x_sum u before (Meas q a s t ∷ cs) all = none_and no_signal _ refl (no_x_sum u _ cs all.1)
no_x_sum u before (FixX q s ∷ cs) all = absurd all.0
no_x_sum u before (FixZ q s ∷ cs) all = none_and no_signal _ refl (no_x_sum u _ cs all.1)

no_second_behind : (q : ℕ) (before cs : List Command) → AllByRecursion (GivesNoSecond q) cs →
    sum_over_places (second_part q) before cs ≡ no_signal
unfolding sum_over_places second_part
no_second_behind q before [] all = refl
no_second_behind q before (Prep r ∷ cs) all =
    none_and no_signal _ refl (no_second_behind q _ cs all.1)
no_second_behind q before (Ent r u ∷ cs) all = absurd all.0
no_second_behind q before (Meas r a s t ∷ cs) all =
    none_and (where_same q r t) _ (ap (where_same q r) all.0 ∙ none_where q r)
    (no_second_behind q _ cs all.1)
no_second_behind q before (FixX r s ∷ cs) all =
    none_and no_signal _ refl (no_second_behind q _ cs all.1)
no_second_behind q before (FixZ r s ∷ cs) all =
    none_and (where_same q r s) _ (other_where q r s all.0) (no_second_behind q _ cs all.1)

-- entanglings before all corrections by X give no second signal
no_second_opening : (q : ℕ) (before es cs : List Command) → AllByRecursion IsNoX before →
    AllByRecursion IsOpening es → AllByRecursion (GivesNoSecond q) cs →
    sum_over_places (second_part q) before (es ++ cs) ≡ no_signal
unfolding sum_over_places second_part x_sum
no_second_opening q before [] cs no_x opening all = no_second_behind q before cs all
no_second_opening q before (Prep r ∷ es) cs no_x opening all =
    none_and no_signal _ refl
    (no_second_opening q (before ++ (Prep r ∷ [])) es cs
    (all-append IsNoX before (Prep r ∷ []) no_x (tt, tt)) opening.1 all)
no_second_opening q before (Ent r u ∷ es) cs no_x opening all =
    none_and _ _
    (none_and _ _ (ap (where_same q r) (no_x_sum u [] before no_x) ∙ none_where q r)
    (ap (where_same q u) (no_x_sum r [] before no_x) ∙ none_where q u))
    (no_second_opening q (before ++ (Ent r u ∷ [])) es cs
    (all-append IsNoX before (Ent r u ∷ []) no_x (tt, tt)) opening.1 all)
no_second_opening q before (Meas r a s t ∷ es) cs no_x opening all = absurd opening.0
no_second_opening q before (FixX r s ∷ es) cs no_x opening all = absurd opening.0
no_second_opening q before (FixZ r s ∷ es) cs no_x opening all = absurd opening.0

pub no_second_sum : (q : ℕ) (es cs : List Command) → AllByRecursion IsOpening es →
    AllByRecursion (GivesNoSecond q) cs → second_sum (es ++ cs) q ≡ no_signal
unfolding second_sum
no_second_sum q es cs opening all = no_second_opening q [] es cs tt opening all

-- ---- first signals

-- where the command gives `q` a first signal, each member has the bit 1
abbrev pub GivesFirstIn : Bits → ℕ → Command → Type 0
GivesFirstIn m q (Prep r) = ⊤
GivesFirstIn m q (Ent r u) = ⊤
GivesFirstIn m q (Meas r a s t) = q ≡ r → AllDone m s.members
GivesFirstIn m q (FixX r s) = q ≡ r → AllDone m s.members
GivesFirstIn m q (FixZ r s) = ⊤

where_in : (m : Bits) (q r : ℕ) (s : Signal) → (q ≡ r → AllDone m s.members) →
    AllDone m (where_same q r s).members
where_in m q r s h = elim (cases_eq q r) [
  | inl e ↦ rw (eq-eqb q r e) (h e)
  | inr ne ↦ rw (ne_eqb q r ne) tt
]

first_in : (m : Bits) (q : ℕ) (before cs : List Command) → AllByRecursion (GivesFirstIn m q) cs →
    AllDone m (sum_over_places (first_part q) before cs).members
unfolding sum_over_places first_part
first_in m q before [] all = tt
first_in m q before (Prep r ∷ cs) all = done_sum m [] _ tt (first_in m q _ cs all.1)
first_in m q before (Ent r u ∷ cs) all = done_sum m [] _ tt (first_in m q _ cs all.1)
first_in m q before (Meas r a s t ∷ cs) all =
    done_sum m (where_same q r s).members _ (where_in m q r s all.0) (first_in m q _ cs all.1)
first_in m q before (FixX r s ∷ cs) all =
    done_sum m (where_same q r s).members _ (where_in m q r s all.0) (first_in m q _ cs all.1)
first_in m q before (FixZ r s ∷ cs) all = done_sum m [] _ tt (first_in m q _ cs all.1)

pub first_sum_in : (m : Bits) (q : ℕ) (cs : List Command) →
    AllByRecursion (GivesFirstIn m q) cs → AllDone m (first_sum cs q).members
unfolding first_sum
first_sum_in m q cs all = first_in m q [] cs all

-- ---- the measurements of the standard form

-- a measured qubit has the property
abbrev pub Measures : (ℕ → Type 0) → Command → Type 0
Measures M (Meas q a s t) = M q
Measures M c = ⊤

-- moreover its signals are these
abbrev pub MeasuresWith : (ℕ → Type 0) → Signals → Signals → Command → Type 0
MeasuresWith M ss ts (Meas q a s t) = M q × (s ≡ ss q) × (t ≡ ts q)
MeasuresWith M ss ts c = ⊤

module _ (M : ℕ → Type 0) (ss ts : Signals) where
  preparations_measure : (cs : List Command) →
      AllByRecursion (MeasuresWith M ss ts) (preparations_of cs)
  unfolding preparations_of
  preparations_measure [] = tt
  preparations_measure (Prep q ∷ cs) = (tt, preparations_measure cs)
  preparations_measure (Ent q r ∷ cs) = preparations_measure cs
  preparations_measure (Meas q a s t ∷ cs) = preparations_measure cs
  preparations_measure (FixX q s ∷ cs) = preparations_measure cs
  preparations_measure (FixZ q s ∷ cs) = preparations_measure cs

  pairs_at_measure : (p : ℕ → ℕ → Bool) (i n : ℕ) →
      AllByRecursion (MeasuresWith M ss ts) (pairs_at Ent p i n)
  unfolding pairs_at
  pairs_at_measure p i zero = tt
  pairs_at_measure p i (suc n) =
      all-append (MeasuresWith M ss ts) (pairs_at Ent p i n) _ (pairs_at_measure p i n) (one _)
    where
      one : (b : Bool) → AllByRecursion (MeasuresWith M ss ts) (cond b (Ent i n ∷ []) [])
      one true = (tt, tt)
      one false = tt

  pairs_measure : (p : ℕ → ℕ → Bool) (n m : ℕ) →
      AllByRecursion (MeasuresWith M ss ts) (pairs_below Ent p n m)
  unfolding pairs_below
  pairs_measure p n zero = tt
  pairs_measure p n (suc m) =
      all-append (MeasuresWith M ss ts) (pairs_below Ent p n m) (pairs_at Ent p m n)
      (pairs_measure p n m) (pairs_at_measure p m n)

  measurements_measure : (cs : List Command) → AllByRecursion (Measures M) cs →
      AllByRecursion (MeasuresWith M ss ts) (measurements_with ss ts cs)
  unfolding measurements_with
  measurements_measure [] all = tt
  measurements_measure (Prep q ∷ cs) all = measurements_measure cs all.1
  measurements_measure (Ent q r ∷ cs) all = measurements_measure cs all.1
  measurements_measure (Meas q a s t ∷ cs) all =
      ((all.0, refl, refl), measurements_measure cs all.1)
  measurements_measure (FixX q s ∷ cs) all = measurements_measure cs all.1
  measurements_measure (FixZ q s ∷ cs) all = measurements_measure cs all.1

  corrections_measure : (gone : Bits) (n : ℕ) →
      AllByRecursion (MeasuresWith M ss ts) (corrections_below gone ss ts n)
  unfolding corrections_below
  corrections_measure gone zero = tt
  corrections_measure gone (suc q) =
      all-append (MeasuresWith M ss ts) (corrections_below gone ss ts q) _
      (corrections_measure gone q) (both (gone q))
    where
      one_x : (b : Bool) →
          AllByRecursion (MeasuresWith M ss ts) (cond b [] (FixX q (ss q) ∷ []))
      one_x true = tt
      one_x false = (tt, tt)

      one_z : (b : Bool) →
          AllByRecursion (MeasuresWith M ss ts) (cond b [] (FixZ q (ts q) ∷ []))
      one_z true = tt
      one_z false = (tt, tt)

      both : (b : Bool) →
          AllByRecursion (MeasuresWith M ss ts) (cond b [] (fix_x q (ss q) ++ fix_z q (ts q)))
      both true = tt
      both false =
          all-append (MeasuresWith M ss ts) (fix_x q (ss q)) (fix_z q (ts q))
          (one_x (is_empty (ss q))) (one_z (is_empty (ts q)))

-- the measurements of the standard form are those of the list, with the sums as signals
pub standard_measures : (M : ℕ → Type 0) (inputs : ℕ) (cs : List Command) →
    AllByRecursion (Measures M) cs →
    AllByRecursion (MeasuresWith M (first_sum cs) (second_sum cs)) (standard_commands inputs cs)
unfolding standard_commands
standard_measures M inputs cs all =
    let ss : Signals = first_sum cs in
    let ts : Signals = second_sum cs in
    let n : ℕ = inputs + prepared cs in
    let P : Command → Type 0 = MeasuresWith M ss ts in
    all-append P (preparations_of cs) _ (preparations_measure M ss ts cs)
    (all-append P (pairs_below Ent (is_edge cs) n n) _ (pairs_measure M ss ts (is_edge cs) n n)
    (all-append P (measurements_with ss ts cs) (corrections_below (measured cs) ss ts n)
    (measurements_measure M ss ts cs all) (corrections_measure M ss ts (measured cs) n)))
