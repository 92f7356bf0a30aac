-- One pass with two running signals for each qubit comes to the closed sums over places.
use Rattle.std.proofs.Common.{◌≡◌, ℕ, Bool, true, false, ◌&&◌, ◌||◌, List, [], ◌∷◌, ◌++◌, refl, sym}
use Rattle.std.proofs.Common.{◌∙◌, ap, ap₂, arith}
use Rattle.std.specs.Prelude.{nat_eq}
use Rattle.std.proofs.lemmas.Bool.{eq-eqb, ne_eqb, cases_Bool, cases_eq, eqb-true, false≢true}
use Rattle.std.proofs.lemmas.Bool.{true≢false, or_parts}
use mathlib.Core.Path.{fun_ext}
use mathlib.Core.Logic.{inl, inr}
use Rattle.mc_model.specs.Bits.{◌⊻◌, Bits, parity}
use Rattle.mc_model.specs.Signals.{Signal, value, no_signal, signal_sum, IsRising, Signals}
use Rattle.mc_model.specs.Pattern.{Command, Prep, Ent, Meas, FixX, FixZ}
use Rattle.mc_model.proofs.SignalLemmas.{reset, value-sum, toggled_all_rising}
use Rattle.mc_rules.specs.OnePass.{joined, handed, carried}
use Rattle.mc_rules.proofs.Stripped.{stripped, OperandsFit}
use Rattle.mc_model.specs.Valid.{measured}
use Rattle.mc_model.specs.StandardForm.{sum_over_places, first_part, second_part, first_sum}
use Rattle.mc_model.specs.StandardForm.{second_sum, measurements_with}
use Rattle.mc_model.proofs.BitLemmas.{xor_assoc, xor_false}
use Rattle.mc_model.proofs.ValidInPlace.{AllMiss, WellMade, Final, InPlace, missed_unmeasured}
use Rattle.mc_model.proofs.SignalValues.{same_signals}
use Rattle.mc_rules.proofs.PlaceSums.{total, first_bit, second_bit, x_bit, onward, second_total}
use Rattle.mc_rules.proofs.PlaceSums.{first_all_missed, second_all_missed, second_all_unread}
use Rattle.mc_rules.proofs.CorrectionFrames.{values}

-- each signal is a set
abbrev pub AllRising : Signals → Type 0
AllRising xs = (q : ℕ) → IsRising (xs q).members

pub places_rising : (part : List Command → Command → Signal) (before cs : List Command) →
    IsRising (sum_over_places part before cs).members
unfolding sum_over_places
places_rising part before [] = tt
places_rising part before (c ∷ cs) =
    toggled_all_rising (part before c).members
    (sum_over_places part (before ++ (c ∷ [])) cs).members
    (places_rising part (before ++ (c ∷ [])) cs)

pub first_rising : (cs : List Command) → AllRising (first_sum cs)
unfolding first_sum
first_rising cs q = places_rising (first_part q) [] cs

pub second_rising : (cs : List Command) → AllRising (second_sum cs)
unfolding second_sum
second_rising cs q = places_rising (second_part q) [] cs

pub reset_rising : (xs : Signals) (q : ℕ) (s : Signal) → AllRising xs → IsRising s.members →
    AllRising (reset xs q s)
reset_rising xs q s r rs k = elim (cases_Bool (nat_eq k q)) [ inl e ↦ rw e rs | inr e ↦ rw e (r k) ]

joined_rising : (xs : Signals) (q : ℕ) (s : Signal) → AllRising xs → IsRising s.members →
    AllRising (joined xs q s)
joined_rising xs q s r rs =
    reset_rising xs q (signal_sum (xs q) s) r (toggled_all_rising (xs q).members s.members rs)

pub operands_fit : (n : ℕ) (cs : List Command) → InPlace n cs → OperandsFit n cs
operands_fit n [] p = tt
operands_fit n (Prep q ∷ cs) p = operands_fit n cs p.2
operands_fit n (Ent i j ∷ cs) p = (p.0.0, p.0.1, operands_fit n cs p.2)
operands_fit n (Meas i a s t ∷ cs) p = (p.0.0, operands_fit n cs p.2)
operands_fit n (FixX q s ∷ cs) p = (p.0.0, operands_fit n cs p.2)
operands_fit n (FixZ q s ∷ cs) p = (p.0.0, operands_fit n cs p.2)

-- the running signals behind one more command
unfoldable pub next_x : Signals → Command → Signals
next_x xs (Prep q) = xs
next_x xs (Ent i j) = xs
next_x xs (Meas i a s t) = reset xs i no_signal
next_x xs (FixX q s) = joined xs q s
next_x xs (FixZ q s) = xs

unfoldable pub next_z : Signals → Signals → Command → Signals
next_z xs zs (Prep q) = zs
next_z xs zs (Ent i j) = handed xs zs i j
next_z xs zs (Meas i a s t) = reset zs i no_signal
next_z xs zs (FixX q s) = zs
next_z xs zs (FixZ q s) = joined zs q s

pub next_x_rising : (n : ℕ) (xs : Signals) (c : Command) → WellMade n c → AllRising xs →
    AllRising (next_x xs c)
unfolding next_x
next_x_rising n xs (Prep q) w r = r
next_x_rising n xs (Ent i j) w r = r
next_x_rising n xs (Meas i a s t) w r = reset_rising xs i no_signal r tt
next_x_rising n xs (FixX q s) w r = joined_rising xs q s r w.1
next_x_rising n xs (FixZ q s) w r = r

pub next_z_rising : (n : ℕ) (xs zs : Signals) (c : Command) → WellMade n c → AllRising xs →
    AllRising zs → AllRising (next_z xs zs c)
unfolding next_z
next_z_rising n xs zs (Prep q) w rx r = r
next_z_rising n xs zs (Ent i j) w rx r =
    joined_rising (joined zs i (xs j)) j (xs i) (joined_rising zs i (xs j) r (rx j)) (rx i)
next_z_rising n xs zs (Meas i a s t) w rx r = reset_rising zs i no_signal r tt
next_z_rising n xs zs (FixX q s) w rx r = r
next_z_rising n xs zs (FixZ q s) w rx r = joined_rising zs q s r w.1

value-joined : (o : Bits) (xs : Signals) (q r : ℕ) (s : Signal) →
    value (joined xs r s q) o ≡ value (xs q) o ⊻ (nat_eq q r && value s o)
value-joined o xs q r s = elim (cases_eq q r) [
  | inl e ↦ rw (e, eq-eqb r r refl) (value-sum (xs r) s o)
  | inr ne ↦ rw (ne_eqb q r ne) (sym (xor_false (value (xs q) o)))
]

value-kept : (o : Bits) (xs : Signals) (q i : ℕ) (b : Bool) → nat_eq q i || false ≡ false →
    value (reset xs i no_signal q) o ≡ value (xs q) o ⊻ (nat_eq q i && b)
value-kept o xs q i b e = elim (cases_Bool (nat_eq q i)) [
  | inl f ↦ absurd (true≢false (sym (ap (λ (t : Bool). t || false) f) ∙ e))
  | inr f ↦ rw f (sym (xor_false (value (xs q) o)))
]

-- the values behind one more command that does not measure the qubit
pub next_x_value : (o : Bits) (xs : Signals) (q : ℕ) (c : Command) → measured (c ∷ []) q ≡ false →
    value (next_x xs c q) o ≡ value (xs q) o ⊻ first_bit o q c
unfolding next_x first_bit measured
next_x_value o xs q (Prep r) m = sym (xor_false (value (xs q) o))
next_x_value o xs q (Ent i j) m = sym (xor_false (value (xs q) o))
next_x_value o xs q (Meas i a s t) m = value-kept o xs q i (value s o) m
next_x_value o xs q (FixX r s) m = value-joined o xs q r s
next_x_value o xs q (FixZ r s) m = sym (xor_false (value (xs q) o))

pub next_z_value : (o : Bits) (xs zs : Signals) (q : ℕ) (c : Command) →
    measured (c ∷ []) q ≡ false →
    value (next_z xs zs c q) o ≡ value (zs q) o ⊻ second_bit o q (values o xs) c
unfolding next_z second_bit measured values
next_z_value o xs zs q (Prep r) m = sym (xor_false (value (zs q) o))
next_z_value o xs zs q (Ent i j) m =
    value-joined o (joined zs i (xs j)) q j (xs i)
    ∙ ap (λ (b : Bool). b ⊻ (nat_eq q j && value (xs i) o)) (value-joined o zs q i (xs j))
    ∙ xor_assoc (value (zs q) o) (nat_eq q i && value (xs j) o) (nat_eq q j && value (xs i) o)
next_z_value o xs zs q (Meas i a s t) m = value-kept o zs q i (value t o) m
next_z_value o xs zs q (FixX r s) m = sym (xor_false (value (zs q) o))
next_z_value o xs zs q (FixZ r s) m = value-joined o zs q r s

-- the rest of the list cannot tell the running signals from the sum of all `X` so far
pub next_unread : (o : Bits) (xs : Signals) (q : ℕ) (c : Command) (cs : List Command) → Final c cs →
    second_total o q (values o (next_x xs c)) cs ≡ second_total o q (onward o (values o xs) c) cs
unfolding next_x onward x_bit values
next_unread o xs q (Prep r) cs m =
    ap (λ (p : Bits). second_total o q p cs) (fun_ext λ k. sym (xor_false (value (xs k) o)))
next_unread o xs q (Ent i j) cs m =
    ap (λ (p : Bits). second_total o q p cs) (fun_ext λ k. sym (xor_false (value (xs k) o)))
next_unread o xs q (Meas i a s t) cs m =
    second_all_unread o q i _ _ cs m (λ k ne. rw (ne_eqb k i ne) (sym (xor_false (value (xs k) o))))
next_unread o xs q (FixX r s) cs m =
    ap (λ (p : Bits). second_total o q p cs) (fun_ext λ k. value-joined o xs k r s)
next_unread o xs q (FixZ r s) cs m =
    ap (λ (p : Bits). second_total o q p cs) (fun_ext λ k. sym (xor_false (value (xs k) o)))

carried_on : (xs zs : Signals) (c : Command) (cs : List Command) →
    carried xs zs (c ∷ cs) ≡ carried (next_x xs c) (next_z xs zs c) cs
unfolding carried next_x next_z
carried_on xs zs (Prep q) cs = refl
carried_on xs zs (Ent i j) cs = refl
carried_on xs zs (Meas i a s t) cs = refl
carried_on xs zs (FixX q s) cs = refl
carried_on xs zs (FixZ q s) cs = refl

pub measured-cons : (c : Command) (cs : List Command) (q : ℕ) →
    measured (c ∷ cs) q ≡ measured (c ∷ []) q || measured cs q
unfolding measured
measured-cons (Prep r) cs q = refl
measured-cons (Ent i j) cs q = refl
measured-cons (Meas i a s t) cs q = either (nat_eq q i) (measured cs q)
  where
    either : (a b : Bool) → a || b ≡ (a || false) || b
    either true b = refl
    either false b = refl
measured-cons (FixX r s) cs q = refl
measured-cons (FixZ r s) cs q = refl

first_none : (o : Bits) (xs zs : Signals) (q : ℕ) →
    value ((carried xs zs []).0 q) o ≡ value (xs q) o ⊻ false
unfolding carried
first_none o xs zs q = sym (xor_false (value (xs q) o))

second_none : (o : Bits) (xs zs : Signals) (q : ℕ) →
    value ((carried xs zs []).1 q) o ≡ value (zs q) o ⊻ false
unfolding carried
second_none o xs zs q = sym (xor_false (value (zs q) o))

-- what is carried at the end for a qubit that the list does not measure
pub carried_x : (o : Bits) (xs zs : Signals) (cs : List Command) (q : ℕ) → measured cs q ≡ false →
    value ((carried xs zs cs).0 q) o ≡ value (xs q) o ⊻ total (first_bit o q) cs
unfolding total
carried_x o xs zs [] q m = first_none o xs zs q
carried_x o xs zs (c ∷ cs) q m =
    let parts = or_parts (measured (c ∷ []) q) (measured cs q) (sym (measured-cons c cs q) ∙ m) in
    ap (λ (p : Signals × Signals). value (p.0 q) o) (carried_on xs zs c cs)
    ∙ carried_x o (next_x xs c) (next_z xs zs c) cs q parts.1
    ∙ ap (λ (b : Bool). b ⊻ total (first_bit o q) cs) (next_x_value o xs q c parts.0)
    ∙ xor_assoc (value (xs q) o) (first_bit o q c) (total (first_bit o q) cs)

pub carried_z : (o : Bits) (n : ℕ) (xs zs : Signals) (cs : List Command) (q : ℕ) → InPlace n cs →
    measured cs q ≡ false →
    value ((carried xs zs cs).1 q) o ≡ value (zs q) o ⊻ second_total o q (values o xs) cs
unfolding second_total
carried_z o n xs zs [] q p m = second_none o xs zs q
carried_z o n xs zs (c ∷ cs) q p m =
    let parts = or_parts (measured (c ∷ []) q) (measured cs q) (sym (measured-cons c cs q) ∙ m) in
    ap (λ (r : Signals × Signals). value (r.1 q) o) (carried_on xs zs c cs)
    ∙ carried_z o n (next_x xs c) (next_z xs zs c) cs q p.2 parts.1
    ∙ ap₂ (λ (a b : Bool). a ⊻ b) (next_z_value o xs zs q c parts.0) (next_unread o xs q c cs p.1)
    ∙ xor_assoc (value (zs q) o) (second_bit o q (values o xs) c)
    (second_total o q (onward o (values o xs) c) cs)

-- nothing is carried at the end for a qubit that the list measures
gone_here : (xs : Signals) (i : ℕ) (o : Bits) → value (reset xs i no_signal i) o ≡ false
unfolding value parity
gone_here xs i o = rw (eq-eqb i i refl)

gone_case : (o : Bits) (n : ℕ) (xs zs : Signals) (c : Command) (cs : List Command) (q : ℕ) →
    Final c cs → InPlace n cs → measured (c ∷ []) q ≡ true →
    (value ((carried (next_x xs c) (next_z xs zs c) cs).0 q) o ≡ false)
    × (value ((carried (next_x xs c) (next_z xs zs c) cs).1 q) o ≡ false)
unfolding next_x next_z measured
gone_case o n xs zs (Prep r) cs q f p m = absurd (false≢true m)
gone_case o n xs zs (Ent i j) cs q f p m = absurd (false≢true m)
gone_case o n xs zs (FixX r s) cs q f p m = absurd (false≢true m)
gone_case o n xs zs (FixZ r s) cs q f p m = absurd (false≢true m)
gone_case o n xs zs (Meas i a s t) cs q f p m =
    let e : q ≡ i = eqb-true q i (sym (right (nat_eq q i)) ∙ m) in
    rw e (
      carried_x o (reset xs i no_signal) (reset zs i no_signal) cs i (missed_unmeasured cs i f)
          ∙ ap₂ (λ (a b : Bool). a ⊻ b) (gone_here xs i o) (first_all_missed o i cs f),
      carried_z o n (reset xs i no_signal) (reset zs i no_signal) cs i p (missed_unmeasured cs i f)
          ∙ ap₂ (λ (a b : Bool). a ⊻ b) (gone_here zs i o)
          (second_all_missed o i (values o (reset xs i no_signal)) cs f),
    )
  where
    right : (a : Bool) → a || false ≡ a
    right true = refl
    right false = refl

none_there : (q : ℕ) → measured [] q ≡ true → ⊥
unfolding measured
none_there q m = false≢true m

pub carried_gone : (o : Bits) (n : ℕ) (xs zs : Signals) (cs : List Command) (q : ℕ) → InPlace n cs →
    measured cs q ≡ true →
    (value ((carried xs zs cs).0 q) o ≡ false) × (value ((carried xs zs cs).1 q) o ≡ false)
carried_gone o n xs zs [] q p m = absurd (none_there q m)
carried_gone o n xs zs (c ∷ cs) q p m =
    rw (carried_on xs zs c cs) (elim (cases_Bool (measured (c ∷ []) q)) [
      | inl e ↦ gone_case o n xs zs c cs q p.1 p.2 e
      | inr e ↦ carried_gone o n (next_x xs c) (next_z xs zs c) cs q p.2
          (sym (ap (λ (b : Bool). b || measured cs q) e) ∙ sym (measured-cons c cs q) ∙ m)
    ])

pub carried_rising : (n : ℕ) (xs zs : Signals) (cs : List Command) → InPlace n cs → AllRising xs →
    AllRising zs →
    AllRising (carried xs zs cs).0 × AllRising (carried xs zs cs).1
unfolding carried
carried_rising n xs zs [] p rx rz = (rx, rz)
carried_rising n xs zs (c ∷ cs) p rx rz =
    rw (carried_on xs zs c cs)
    (carried_rising n (next_x xs c) (next_z xs zs c) cs p.2 (next_x_rising n xs c p.0 rx)
    (next_z_rising n xs zs c p.0 rx rz))

-- the signals `ss`, `ts` of the measured qubits have the values that the pass comes to
abbrev pub FirstFits : Signals → Signals → List Command → Type 0
FirstFits ss xs cs = (o : Bits) (q : ℕ) → measured cs q ≡ true →
    value (ss q) o ≡ value (xs q) o ⊻ total (first_bit o q) cs

abbrev pub SecondFits : Signals → Signals → Signals → List Command → Type 0
SecondFits ts xs zs cs = (o : Bits) (q : ℕ) → measured cs q ≡ true →
    value (ts q) o ≡ value (zs q) o ⊻ second_total o q (values o xs) cs

not_again : (c : Command) (cs : List Command) (q : ℕ) → Final c cs → measured cs q ≡ true →
    measured (c ∷ []) q ≡ false
unfolding measured
not_again (Prep r) cs q f m = refl
not_again (Ent i j) cs q f m = refl
not_again (Meas i a s t) cs q f m = elim (cases_eq q i) [
  | inl e ↦ absurd (false≢true (sym (missed_unmeasured cs i f) ∙ ap (measured cs) (sym e) ∙ m))
  | inr ne ↦ rw (ne_eqb q i ne)
]
not_again (FixX r s) cs q f m = refl
not_again (FixZ r s) cs q f m = refl

still_measured : (c : Command) (cs : List Command) (q : ℕ) → measured cs q ≡ true →
    measured (c ∷ cs) q ≡ true
still_measured c cs q m = measured-cons c cs q ∙ ap (λ (b : Bool). measured (c ∷ []) q || b) m
    ∙ or_true (measured (c ∷ []) q)
  where
    or_true : (a : Bool) → a || true ≡ true
    or_true true = refl
    or_true false = refl

first_on : (ss xs : Signals) (c : Command) (cs : List Command) → Final c cs →
    FirstFits ss xs (c ∷ cs) → FirstFits ss (next_x xs c) cs
unfolding total
first_on ss xs c cs f h = λ o q m.
    h o q (still_measured c cs q m)
    ∙ sym (xor_assoc (value (xs q) o) (first_bit o q c) (total (first_bit o q) cs))
    ∙ ap (λ (b : Bool). b ⊻ total (first_bit o q) cs)
    (sym (next_x_value o xs q c (not_again c cs q f m)))

second_on : (ts xs zs : Signals) (c : Command) (cs : List Command) → Final c cs →
    SecondFits ts xs zs (c ∷ cs) → SecondFits ts (next_x xs c) (next_z xs zs c) cs
unfolding second_total
second_on ts xs zs c cs f h = λ o q m.
    h o q (still_measured c cs q m)
    ∙ sym (xor_assoc (value (zs q) o) (second_bit o q (values o xs) c)
    (second_total o q (onward o (values o xs) c) cs))
    ∙ ap₂ (λ (a b : Bool). a ⊻ b) (sym (next_z_value o xs zs q c (not_again c cs q f m)))
    (sym (next_unread o xs q c cs f))

-- the measurements of a list
unfoldable pub measurements_of : List Command → List Command
measurements_of [] = []
measurements_of (Prep q ∷ cs) = measurements_of cs
measurements_of (Ent q r ∷ cs) = measurements_of cs
measurements_of (Meas q a s t ∷ cs) = Meas q a s t ∷ measurements_of cs
measurements_of (FixX q s ∷ cs) = measurements_of cs
measurements_of (FixZ q s ∷ cs) = measurements_of cs

here_measured : (i a : ℕ) (s t : Signal) (cs : List Command) → measured (Meas i a s t ∷ cs) i ≡ true
unfolding measured
here_measured i a s t cs = ap (λ (b : Bool). b || measured cs i) (eq-eqb i i refl)

first_here : (o : Bits) (i a : ℕ) (s t : Signal) (cs : List Command) → AllMiss i cs →
    total (first_bit o i) (Meas i a s t ∷ cs) ≡ value s o
unfolding total first_bit
first_here o i a s t cs m =
    ap₂ (λ (b c : Bool). (b && value s o) ⊻ c) (eq-eqb i i refl) (first_all_missed o i cs m)
    ∙ xor_false (value s o)

second_here : (o : Bits) (i a : ℕ) (s t : Signal) (px : Bits) (cs : List Command) → AllMiss i cs →
    second_total o i px (Meas i a s t ∷ cs) ≡ value t o
unfolding second_total second_bit
second_here o i a s t px cs m =
    ap₂ (λ (b c : Bool). (b && value t o) ⊻ c) (eq-eqb i i refl)
    (second_all_missed o i (onward o px (Meas i a s t)) cs m) ∙ xor_false (value t o)

xor_comm : (a b : Bool) → a ⊻ b ≡ b ⊻ a
xor_comm a b = grind arith

-- the measurements of the pass are those of the list with the signals `ss`, `ts`
pub measurements_same : (n : ℕ) (ss ts xs zs : Signals) (cs : List Command) → InPlace n cs →
    AllRising ss → AllRising ts → AllRising xs → AllRising zs → FirstFits ss xs cs →
    SecondFits ts xs zs cs →
    measurements_of (stripped xs zs cs) ≡ measurements_with ss ts cs
unfolding measurements_of stripped measurements_with next_x next_z
measurements_same n ss ts xs zs [] p rs rt rx rz fs ft = refl
measurements_same n ss ts xs zs (Prep q ∷ cs) p rs rt rx rz fs ft =
    measurements_same n ss ts xs zs cs p.2 rs rt rx rz (first_on ss xs (Prep q) cs tt fs)
    (second_on ts xs zs (Prep q) cs tt ft)
measurements_same n ss ts xs zs (Ent i j ∷ cs) p rs rt rx rz fs ft =
    measurements_same n ss ts xs (handed xs zs i j) cs p.2 rs rt rx
    (next_z_rising n xs zs (Ent i j) p.0 rx rz)
    (first_on ss xs (Ent i j) cs tt fs) (second_on ts xs zs (Ent i j) cs tt ft)
measurements_same n ss ts xs zs (FixX q s ∷ cs) p rs rt rx rz fs ft =
    measurements_same n ss ts (joined xs q s) zs cs p.2 rs rt (next_x_rising n xs (FixX q s) p.0 rx)
    rz
    (first_on ss xs (FixX q s) cs tt fs) (second_on ts xs zs (FixX q s) cs tt ft)
measurements_same n ss ts xs zs (FixZ q s ∷ cs) p rs rt rx rz fs ft =
    measurements_same n ss ts xs (joined zs q s) cs p.2 rs rt rx
    (next_z_rising n xs zs (FixZ q s) p.0 rx rz)
    (first_on ss xs (FixZ q s) cs tt fs) (second_on ts xs zs (FixZ q s) cs tt ft)
measurements_same n ss ts xs zs (Meas i a s t ∷ cs) p rs rt rx rz fs ft =
    let first : signal_sum s (xs i) ≡ ss i =
    same_signals _ _ (toggled_all_rising s.members (xs i).members (rx i)) (rs i) (λ o.
    value-sum s (xs i) o ∙ xor_comm (value s o) (value (xs i) o)
    ∙ ap (λ (b : Bool). value (xs i) o ⊻ b) (sym (first_here o i a s t cs p.1))
    ∙ sym (fs o i (here_measured i a s t cs))) in
    let second : signal_sum t (zs i) ≡ ts i =
    same_signals _ _ (toggled_all_rising t.members (zs i).members (rz i)) (rt i) (λ o.
    value-sum t (zs i) o ∙ xor_comm (value t o) (value (zs i) o)
    ∙ ap (λ (b : Bool). value (zs i) o ⊻ b) (sym (second_here o i a s t (values o xs) cs p.1))
    ∙ sym (ft o i (here_measured i a s t cs))) in
    ap₂ (λ (c : Command) (rest : List Command). c ∷ rest)
    (ap₂ (λ (u v : Signal). Meas i a u v) first second)
    (measurements_same n ss ts (reset xs i no_signal) (reset zs i no_signal) cs p.2 rs rt
    (reset_rising xs i no_signal rx tt) (reset_rising zs i no_signal rz tt)
    (first_on ss xs (Meas i a s t) cs p.1 fs) (second_on ts xs zs (Meas i a s t) cs p.1 ft))
