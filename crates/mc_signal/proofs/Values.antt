-- Sums of outcomes over a sum of sets, and over a set in which a member is replaced.
use Rattle.std.proofs.Common.{◌≡◌, ℕ, Bool, true, false, ◌&&◌, ◌||◌, List, [], ◌∷◌, refl, sym, ◌∙◌}
use Rattle.std.proofs.Common.{ap, arith, not, length, get_or, drop, ◌+◌, ◌<◌, ◌≤◌, add-one}
use Rattle.std.specs.Prelude.{nat_eq, if◌then◌else◌}
use Rattle.std.proofs.Math.Bool.{beq}
use Rattle.std.proofs.Math.Seq.{drop-cons}
use Rattle.std.proofs.lemmas.List.{drop_all}
use Rattle.std.proofs.lemmas.Bool.{eqb-true, eqb-false, eq-eqb, ne_eqb, or_parts}
use Rattle.mc_model.specs.Numbers.{is_member}
use Rattle.mc_model.specs.Bits.{◌⊻◌, Bits, parity, replaced}
use Rattle.mc_model.specs.Signals.{Signal, value, one_signal, signal_of, signal_sum, toggled}
use Rattle.mc_model.specs.Signals.{toggled_all, AllAbove, IsRising}
use Rattle.mc_model.proofs.SignalLemmas.{value-sum}
use Rattle.mc_signal.proofs.Members.{is_member-above}

abbrev pub set_of : List ℕ → Signal
set_of ps = record { members = ps; constant = false }

pub parity-toggled_all : (ps qs : List ℕ) (o : Bits)
    → parity (toggled_all ps qs) o ≡ (parity ps o ⊻ parity qs o)
unfolding value
parity-toggled_all ps qs o = value-sum (set_of ps) (set_of qs) o

and_nothing : (b : Bool) → (b ⊻ false) ≡ b
and_nothing b = grind arith

pub parity-toggled : (q : ℕ) (ps : List ℕ) (o : Bits)
    → parity (toggled q ps) o ≡ (o q ⊻ parity ps o)
unfolding toggled_all parity
parity-toggled q ps o =
    parity-toggled_all (q ∷ []) ps o ∙ ap (λ (b : Bool). b ⊻ parity ps o) (and_nothing (o q))

taken_out : (b c n m : Bool) → (b ⊻ (n ⊻ (false && (c ⊻ b)))) ≡ ((c ⊻ n) ⊻ ((true || m) && (c ⊻ b)))
taken_out b c n m = grind arith

left_in : (a n m d : Bool) → (a ⊻ (n ⊻ (m && d))) ≡ ((a ⊻ n) ⊻ ((false || m) && d))
left_in a n m d = grind arith

parity_by : (q : ℕ) (b : Bool) (p : ℕ) (ps : List ℕ) (o : Bits) (t : Bool)
    → nat_eq p q ≡ t → AllAbove p ps
    → parity ps (replaced o q b) ≡ (parity ps o ⊻ (is_member ps q && (o q ⊻ b)))
    → parity (p ∷ ps) (replaced o q b) ≡ (parity (p ∷ ps) o ⊻ (is_member (p ∷ ps) q && (o q ⊻ b)))
unfolding parity
parity_by q b p ps o true e above rest =
    let same : p ≡ q = eqb-true p q e in
    let none : is_member ps q ≡ false = rw (← same) (is_member-above p ps above) in
    rw (e, rest, none, same, eq-eqb q q refl) (taken_out b (o q) (parity ps o) false)
parity_by q b p ps o false e above rest =
    let other : nat_eq q p ≡ false = ne_eqb q p (λ f. absurd (eqb-false p q e (sym f))) in
    rw (e, rest, other) (left_in (o p) (parity ps o) (is_member ps q) (o q ⊻ b))

-- with a bit in the place of a member's outcome, that outcome is taken out and the bit is added
pub parity-replaced : (q : ℕ) (b : Bool) (ps : List ℕ) (o : Bits) → IsRising ps
    → parity ps (replaced o q b) ≡ (parity ps o ⊻ (is_member ps q && (o q ⊻ b)))
unfolding parity
parity-replaced q b [] o rising = refl
parity-replaced q b (p ∷ ps) o rising =
    parity_by q b p ps o (nat_eq p q) refl rising.0 (parity-replaced q b ps o rising.1)

substituted : (d a m n c : Bool) → c ≡ true
    → (d ⊻ ((a ⊻ m) ⊻ n)) ≡ (m ⊻ (c && (a ⊻ (d ⊻ n))))
substituted d a m n c e = grind arith

-- the sum over a set in which `q` is replaced by another set and a constant
pub parity-replaced_sum : (q : ℕ) (d : Bool) (ps qs : List ℕ) (o : Bits) → IsRising ps
    → is_member ps q ≡ true
    → (d ⊻ parity (toggled_all (toggled q ps) qs) o) ≡ parity ps (replaced o q (d ⊻ parity qs o))
parity-replaced_sum q d ps qs o rising member =
    rw (
      parity-toggled_all (toggled q ps) qs o,
      parity-toggled q ps o,
      parity-replaced q (d ⊻ parity qs o) ps o rising,
    )
    (substituted d (o q) (parity ps o) (parity qs o) (is_member ps q) member)

-- the outcome of a number that is no member does not matter
pub parity-lacks : (q : ℕ) (b : Bool) (ps : List ℕ) (o : Bits) → is_member ps q ≡ false
    → parity ps (replaced o q b) ≡ parity ps o
unfolding parity
parity-lacks q b [] o lacks = refl
parity-lacks q b (p ∷ ps) o lacks =
    let parts = or_parts (nat_eq q p) (is_member ps q) lacks in
    let other : nat_eq p q ≡ false = ne_eqb p q (λ e. absurd (eqb-false q p parts.0 (sym e))) in
    rw (other, parity-lacks q b ps o parts.1) refl

-- the sum of two bits, as the code adds them
added_bits : (a b : Bool) → not (beq a b) ≡ (a ⊻ b)
added_bits a b = grind arith

added_next : (s g r : Bool) → (not (beq s g) ⊻ r) ≡ (s ⊻ (g ⊻ r))
added_next s g r = grind arith

-- the sum so far with one more outcome
pub parity_step : (s g t : Bool) (ps : List ℕ) (i : ℕ) (o : Bits) → i < length ps
    → g ≡ o (get_or ps i 0)
    → (s ⊻ parity (drop i ps) o) ≡ t → (not (beq s g) ⊻ parity (drop (i + 1) ps) o) ≡ t
unfolding parity
parity_step s g t ps i o lt read same =
    rw (added_next s g (parity (drop (i + 1) ps) o), read, add-one i)
    (rw (drop-cons ps i 0 lt) at same)

pub parity_end : (s t : Bool) (ps : List ℕ) (i : ℕ) (o : Bits) → length ps ≤ i
    → (s ⊻ parity (drop i ps) o) ≡ t → s ≡ t
unfolding parity
parity_end s t ps i o none same = sym (and_nothing s) ∙ (rw (drop_all i ps none) at same)

-- ---- with a constant

abbrev pub with_constant : List ℕ → Bool → Signal
with_constant ps c = record { members = ps; constant = c }

pub value-of : (ps : List ℕ) (c b : Bool) (o : Bits) → b ≡ parity ps o
    → not (beq c b) ≡ value (with_constant ps c) o
unfolding value
value-of ps c b o same = rw same (added_bits c (parity ps o))

pub value-lacks : (q : ℕ) (b c : Bool) (ps : List ℕ) (o : Bits) → is_member ps q ≡ false
    → value (with_constant ps c) o ≡ value (with_constant ps c) (replaced o q b)
unfolding value
value-lacks q b c ps o lacks = ap (λ (n : Bool). c ⊻ n) (sym (parity-lacks q b ps o lacks))

pub flipped : (ps : List ℕ) (c : Bool)
    → with_constant ps (not c) ≡ signal_sum one_signal (with_constant ps c)
unfolding toggled_all
flipped ps c = refl

-- a signal in which a member is replaced by another signal
pub signal-replaced : (q : ℕ) (ps qs new : List ℕ) (c d : Bool) → is_member ps q ≡ true
    → new ≡ toggled_all (toggled q ps) qs
    → with_constant new (not (beq c d))
    ≡ (if is_member ps q
    then signal_sum (signal_sum (signal_of q) (with_constant ps c)) (with_constant qs d)
    else with_constant ps c)
unfolding toggled_all
signal-replaced q ps qs new c d member same = rw (same, member, added_bits c d) refl

pub value-replaced : (q : ℕ) (ps qs new : List ℕ) (c d : Bool) (o : Bits)
    → (d ⊻ parity new o) ≡ parity ps (replaced o q (d ⊻ parity qs o))
    → value (with_constant new (not (beq c d))) o
    ≡ value (with_constant ps c) (replaced o q (value (with_constant qs d) o))
unfolding value
value-replaced q ps qs new c d o same =
    rw (added_bits c d) (moved c d (parity new o) ∙ ap (λ (n : Bool). c ⊻ n) same)
  where
    moved : (c d n : Bool) → ((c ⊻ d) ⊻ n) ≡ (c ⊻ (d ⊻ n))
    moved c d n = grind arith
