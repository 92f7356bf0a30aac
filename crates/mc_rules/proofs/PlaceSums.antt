-- The values of the sums over places, as sums of bits along a list.
use Rattle.std.proofs.Common.{◌≡◌, ℕ, Bool, true, false, cond, ◌&&◌, List, [], ◌∷◌, ◌++◌, refl, sym}
use Rattle.std.proofs.Common.{◌∙◌, ap, ap₂}
use Rattle.std.specs.Prelude.{nat_eq}
use Rattle.std.proofs.lemmas.Bool.{ne_eqb}
use mathlib.Core.Path.{fun_ext}
use Rattle.mc_model.specs.Bits.{◌⊻◌, Bits, parity}
use Rattle.mc_model.specs.Signals.{Signal, value, no_signal}
use Rattle.mc_model.specs.Pattern.{Command, Prep, Ent, Meas, FixX, FixZ}
use Rattle.mc_model.specs.Alike.{Misses}
use Rattle.mc_model.specs.StandardForm.{where_same, sum_over_places, x_part, x_sum, first_part}
use Rattle.mc_model.specs.StandardForm.{second_part, first_sum, second_sum}
use Rattle.mc_model.proofs.BitLemmas.{xor_assoc, xor_false}
use Rattle.mc_model.proofs.SignalLemmas.{value-sum}
use Rattle.mc_model.proofs.ValidInPlace.{AllMiss}

-- the sum of a bit of each command
unfoldable pub total : (Command → Bool) → List Command → Bool
total p [] = false
total p (c ∷ cs) = p c ⊻ total p cs

pub total-append : (p : Command → Bool) (cs ds : List Command) →
    total p (cs ++ ds) ≡ total p cs ⊻ total p ds
unfolding total
total-append p [] ds = refl
total-append p (c ∷ cs) ds = ap (λ (b : Bool). p c ⊻ b) (total-append p cs ds)
    ∙ sym (xor_assoc (p c) (total p cs) (total p ds))

-- what a command adds to the `X` signal of `q`; to `S(q)`; and to `T(q)` behind `X` signals with
-- the values `px`
unfoldable pub x_bit : Bits → ℕ → Command → Bool
x_bit o q (Prep r) = false
x_bit o q (Ent r u) = false
x_bit o q (Meas r a s t) = false
x_bit o q (FixX r s) = nat_eq q r && value s o
x_bit o q (FixZ r s) = false

unfoldable pub first_bit : Bits → ℕ → Command → Bool
first_bit o q (Prep r) = false
first_bit o q (Ent r u) = false
first_bit o q (Meas r a s t) = nat_eq q r && value s o
first_bit o q (FixX r s) = nat_eq q r && value s o
first_bit o q (FixZ r s) = false

unfoldable pub second_bit : Bits → ℕ → Bits → Command → Bool
second_bit o q px (Prep r) = false
second_bit o q px (Ent r u) = (nat_eq q r && px u) ⊻ (nat_eq q u && px r)
second_bit o q px (Meas r a s t) = nat_eq q r && value t o
second_bit o q px (FixX r s) = false
second_bit o q px (FixZ r s) = nat_eq q r && value s o

-- the values of the `X` signals behind one more command
unfoldable pub onward : Bits → Bits → Command → Bits
onward o px c = λ k. px k ⊻ x_bit o k c

-- the values of the `X` signals behind a list
unfoldable pub behind_all : Bits → Bits → List Command → Bits
behind_all o px cs = λ k. px k ⊻ total (x_bit o k) cs

unfoldable pub second_total : Bits → ℕ → Bits → List Command → Bool
second_total o q px [] = false
second_total o q px (c ∷ cs) = second_bit o q px c ⊻ second_total o q (onward o px c) cs

onward_all : (o px : Bits) (c : Command) (cs : List Command) →
    behind_all o (onward o px c) cs ≡ behind_all o px (c ∷ cs)
unfolding behind_all onward total
onward_all o px c cs = fun_ext λ k. xor_assoc (px k) (x_bit o k c) (total (x_bit o k) cs)

behind_none : (o px : Bits) → px ≡ behind_all o px []
unfolding behind_all total
behind_none o px = fun_ext λ k. sym (xor_false (px k))

pub second-append : (o : Bits) (q : ℕ) (px : Bits) (cs ds : List Command) →
    second_total o q px (cs ++ ds)
    ≡ second_total o q px cs ⊻ second_total o q (behind_all o px cs) ds
unfolding second_total
second-append o q px [] ds = ap (λ (p : Bits). second_total o q p ds) (behind_none o px)
second-append o q px (c ∷ cs) ds =
    ap (λ (b : Bool). second_bit o q px c ⊻ b)
    (second-append o q (onward o px c) cs ds
    ∙ ap (λ (p : Bits). second_total o q (onward o px c) cs ⊻ second_total o q p ds)
    (onward_all o px c cs))
    ∙ sym (xor_assoc (second_bit o q px c) (second_total o q (onward o px c) cs)
    (second_total o q (behind_all o px (c ∷ cs)) ds))

value-cond : (b : Bool) (s : Signal) (o : Bits) → value (cond b s no_signal) o ≡ b && value s o
unfolding value parity
value-cond true s o = refl
value-cond false s o = refl

value-where : (q r : ℕ) (s : Signal) (o : Bits) →
    value (where_same q r s) o ≡ nat_eq q r && value s o
value-where q r s o = value-cond (nat_eq q r) s o

none : (o : Bits) → value no_signal o ≡ false
unfolding value parity
none o = refl

value-x_part : (o : Bits) (q : ℕ) (before : List Command) (c : Command) →
    value (x_part q before c) o ≡ x_bit o q c
unfolding x_part x_bit
value-x_part o q before (Prep r) = none o
value-x_part o q before (Ent r u) = none o
value-x_part o q before (Meas r a s t) = none o
value-x_part o q before (FixX r s) = value-where q r s o
value-x_part o q before (FixZ r s) = none o

value-first_part : (o : Bits) (q : ℕ) (before : List Command) (c : Command) →
    value (first_part q before c) o ≡ first_bit o q c
unfolding first_part first_bit
value-first_part o q before (Prep r) = none o
value-first_part o q before (Ent r u) = none o
value-first_part o q before (Meas r a s t) = value-where q r s o
value-first_part o q before (FixX r s) = value-where q r s o
value-first_part o q before (FixZ r s) = none o

-- a sum over places whose parts have the values `p`, whatever stands before
value-places : (part : List Command → Command → Signal) (p : Command → Bool) (o : Bits) →
    ((before : List Command) (c : Command) → value (part before c) o ≡ p c) →
    (before cs : List Command) → value (sum_over_places part before cs) o ≡ total p cs
unfolding sum_over_places total
value-places part p o h before [] = none o
value-places part p o h before (c ∷ cs) =
    value-sum (part before c) (sum_over_places part (before ++ (c ∷ [])) cs) o
    ∙ ap₂ (λ (a b : Bool). a ⊻ b) (h before c) (value-places part p o h (before ++ (c ∷ [])) cs)

pub value-x_sum : (o : Bits) (q : ℕ) (cs : List Command) →
    value (x_sum q cs) o ≡ total (x_bit o q) cs
unfolding x_sum
value-x_sum o q cs = value-places (x_part q) (x_bit o q) o (value-x_part o q) [] cs

pub value-first_sum : (o : Bits) (q : ℕ) (cs : List Command) →
    value (first_sum cs q) o ≡ total (first_bit o q) cs
unfolding first_sum
value-first_sum o q cs = value-places (first_part q) (first_bit o q) o (value-first_part o q) [] cs

-- the values of the `X` signals behind a list that nothing stands before
fresh : Bits → List Command → Bits
fresh o cs = λ k. total (x_bit o k) cs

value-second_part : (o : Bits) (q : ℕ) (before : List Command) (c : Command) →
    value (second_part q before c) o ≡ second_bit o q (fresh o before) c
unfolding second_part second_bit fresh
value-second_part o q before (Prep r) = none o
value-second_part o q before (Ent r u) =
    value-sum (where_same q r (x_sum u before)) (where_same q u (x_sum r before)) o
    ∙ ap₂ (λ (a b : Bool). a ⊻ b)
    (value-where q r (x_sum u before) o
    ∙ ap (λ (b : Bool). nat_eq q r && b) (value-x_sum o u before))
    (value-where q u (x_sum r before) o
    ∙ ap (λ (b : Bool). nat_eq q u && b) (value-x_sum o r before))
value-second_part o q before (Meas r a s t) = value-where q r t o
value-second_part o q before (FixX r s) = none o
value-second_part o q before (FixZ r s) = value-where q r s o

fresh_onward : (o : Bits) (before : List Command) (c : Command) →
    fresh o (before ++ (c ∷ [])) ≡ onward o (fresh o before) c
unfolding fresh onward total
fresh_onward o before c = fun_ext λ k.
    total-append (x_bit o k) before (c ∷ [])
    ∙ ap (λ (b : Bool). total (x_bit o k) before ⊻ b) (xor_false (x_bit o k c))

value-second_from : (o : Bits) (q : ℕ) (before cs : List Command) →
    value (sum_over_places (second_part q) before cs) o ≡ second_total o q (fresh o before) cs
unfolding sum_over_places second_total
value-second_from o q before [] = none o
value-second_from o q before (c ∷ cs) =
    value-sum (second_part q before c) (sum_over_places (second_part q) (before ++ (c ∷ [])) cs) o
    ∙ ap₂ (λ (a b : Bool). a ⊻ b) (value-second_part o q before c)
    (value-second_from o q (before ++ (c ∷ [])) cs
    ∙ ap (λ (p : Bits). second_total o q p cs) (fresh_onward o before c))

pub value-second_sum : (o : Bits) (q : ℕ) (cs : List Command) →
    value (second_sum cs q) o ≡ second_total o q (λ k. false) cs
unfolding second_sum fresh total
value-second_sum o q cs = value-second_from o q [] cs

missed : (q r : ℕ) (b : Bool) → (q ≡ r → ⊥) → (nat_eq q r && b) ≡ false
missed q r b ne = ap (λ (t : Bool). t && b) (ne_eqb q r ne)

pub x_missed : (o : Bits) (q : ℕ) (c : Command) → Misses q c → x_bit o q c ≡ false
unfolding x_bit
x_missed o q (Prep r) m = refl
x_missed o q (Ent r u) m = refl
x_missed o q (Meas r a s t) m = refl
x_missed o q (FixX r s) m = missed q r (value s o) m
x_missed o q (FixZ r s) m = refl

first_missed : (o : Bits) (q : ℕ) (c : Command) → Misses q c → first_bit o q c ≡ false
unfolding first_bit
first_missed o q (Prep r) m = refl
first_missed o q (Ent r u) m = refl
first_missed o q (Meas r a s t) m = missed q r (value s o) m
first_missed o q (FixX r s) m = missed q r (value s o) m
first_missed o q (FixZ r s) m = refl

second_missed : (o : Bits) (q : ℕ) (px : Bits) (c : Command) → Misses q c →
    second_bit o q px c ≡ false
unfolding second_bit
second_missed o q px (Prep r) m = refl
second_missed o q px (Ent r u) m =
    ap₂ (λ (a b : Bool). a ⊻ b) (missed q r (px u) m.0) (missed q u (px r) m.1)
second_missed o q px (Meas r a s t) m = missed q r (value t o) m
second_missed o q px (FixX r s) m = refl
second_missed o q px (FixZ r s) m = missed q r (value s o) m

pub first_all_missed : (o : Bits) (q : ℕ) (cs : List Command) → AllMiss q cs →
    total (first_bit o q) cs ≡ false
unfolding total
first_all_missed o q [] m = refl
first_all_missed o q (c ∷ cs) m =
    ap₂ (λ (a b : Bool). a ⊻ b) (first_missed o q c m.0) (first_all_missed o q cs m.1)

pub second_all_missed : (o : Bits) (q : ℕ) (px : Bits) (cs : List Command) → AllMiss q cs →
    second_total o q px cs ≡ false
unfolding second_total
second_all_missed o q px [] m = refl
second_all_missed o q px (c ∷ cs) m =
    ap₂ (λ (a b : Bool). a ⊻ b) (second_missed o q px c m.0)
    (second_all_missed o q (onward o px c) cs m.1)

pub second_unread : (o : Bits) (q i : ℕ) (px py : Bits) (c : Command) → Misses i c →
    ((k : ℕ) → (k ≡ i → ⊥) → px k ≡ py k) → second_bit o q px c ≡ second_bit o q py c
unfolding second_bit
second_unread o q i px py (Prep r) m h = refl
second_unread o q i px py (Ent r u) m h =
    ap₂ (λ (a b : Bool). (nat_eq q r && a) ⊻ (nat_eq q u && b)) (h u (λ e. m.1 (sym e)))
    (h r (λ e. m.0 (sym e)))
second_unread o q i px py (Meas r a s t) m h = refl
second_unread o q i px py (FixX r s) m h = refl
second_unread o q i px py (FixZ r s) m h = refl

-- where nothing stands on a qubit, its `X` signal counts for nothing
pub second_all_unread : (o : Bits) (q i : ℕ) (px py : Bits) (cs : List Command) → AllMiss i cs →
    ((k : ℕ) → (k ≡ i → ⊥) → px k ≡ py k) → second_total o q px cs ≡ second_total o q py cs
unfolding second_total onward
second_all_unread o q i px py [] m h = refl
second_all_unread o q i px py (c ∷ cs) m h =
    ap₂ (λ (a b : Bool). a ⊻ b) (second_unread o q i px py c m.0 h)
    (second_all_unread o q i (onward o px c) (onward o py c) cs m.1
    (λ k ne. ap (λ (b : Bool). b ⊻ x_bit o k c) (h k ne)))
