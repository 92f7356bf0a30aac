-- The members of a toggled set and of a sum, and bits that are changed member by member.
use Rattle.std.proofs.Common.{◌≡◌, ℕ, ◌<◌, Bool, true, false, ◌||◌, List, [], ◌∷◌, refl, ◌∙◌, arith}
use Rattle.std.proofs.Common.{suc, ◌+◌, ◌≤◌, get_or, length, drop, All, sym, ap, ap₂, subst}
use Rattle.std.specs.Prelude.{Some, nat_eq, nat_lt, slice_get}
use Rattle.std.proofs.lemmas.Bool.{ne_eqb, eqb-true, ltb-true, cases_Bool}
use Rattle.std.proofs.lemmas.List.{drop_all}
use Rattle.std.proofs.lemmas.Option.{slice_get_within, get_or_from_slice_get}
use Rattle.std.proofs.Math.Seq.{drop-cons}
use mathlib.Core.Logic.{inl, inr}
use Rattle.mc_model.specs.Numbers.{is_member}
use Rattle.mc_model.specs.Bits.{◌⊻◌}
use Rattle.mc_model.specs.Signals.{toggled, toggled_all, AllAbove, IsRising}
use Rattle.mc_model.proofs.BitLemmas.{xor_false}
use Rattle.mc_model.proofs.SignalLemmas.{toggled_rising, toggled_all_rising}
use Rattle.mc_signal.proofs.Rising.{AllAbove-lower, rising_drop}

pub is_member-above : (q : ℕ) (ps : List ℕ) → AllAbove q ps → is_member ps q ≡ false
is_member-above q [] above = refl
is_member-above q (p ∷ ps) above =
    let less = above.0 in
    rw (ne_eqb q p (λ e. absurd (omega arith)), is_member-above q ps above.1) refl

-- whether a number is the first or a later one, of which it is never both
or_xor : (a b : Bool) → (a ≡ true → b ≡ false) → (a || b) ≡ (a ⊻ b)
or_xor a b apart = grind arith

pub is_member-first : (q k : ℕ) (ps : List ℕ) → AllAbove q ps
    → is_member (q ∷ ps) k ≡ (nat_eq k q ⊻ is_member ps k)
is_member-first q k ps above =
    or_xor (nat_eq k q) (is_member ps k) (λ e. rw (eqb-true k q e) (is_member-above q ps above))

moved_last : (e m : Bool) → (e ⊻ m) ≡ (m ⊻ e)
moved_last e m = grind arith

out_again : (e m : Bool) → m ≡ ((e ⊻ m) ⊻ e)
out_again e m = grind arith

regrouped : (e m f : Bool) → (e ⊻ (m ⊻ f)) ≡ ((e ⊻ m) ⊻ f)
regrouped e m f = grind arith

first_last : (e m n : Bool) → ((m ⊻ n) ⊻ e) ≡ ((e ⊻ m) ⊻ n)
first_last e m n = grind arith

-- by where the toggled number stands to the first one
member_toggled_by : (q p : ℕ) (ps : List ℕ) (k : ℕ) (s t : Bool)
    → nat_lt q p ≡ s → nat_eq q p ≡ t → IsRising (p ∷ ps)
    → is_member (toggled q ps) k ≡ (is_member ps k ⊻ nat_eq k q)
    → is_member (toggled q (p ∷ ps)) k ≡ (is_member (p ∷ ps) k ⊻ nat_eq k q)
unfolding toggled
member_toggled_by q p ps k true t e f rising rest =
    let less = ltb-true q p e in
    rw e
    (is_member-first q k (p ∷ ps) (less, AllAbove-lower q p ps less rising.0)
    ∙ moved_last (nat_eq k q) (is_member (p ∷ ps) k))
member_toggled_by q p ps k false true e f rising rest =
    let same : q ≡ p = eqb-true q p f in
    rw (e, f, is_member-first p k ps rising.0, same) (out_again (nat_eq k p) (is_member ps k))
member_toggled_by q p ps k false false e f rising rest =
    let all = rw (e, f) at (toggled_rising q (p ∷ ps) rising) in
    rw (e, f, is_member-first p k (toggled q ps) all.0, is_member-first p k ps rising.0, rest)
    (regrouped (nat_eq k p) (is_member ps k) (nat_eq k q))

pub is_member-toggled : (q : ℕ) (ps : List ℕ) (k : ℕ) → IsRising ps
    → is_member (toggled q ps) k ≡ (is_member ps k ⊻ nat_eq k q)
unfolding toggled
is_member-toggled q [] k rising =
    or_xor (nat_eq k q) false (λ e. refl) ∙ moved_last (nat_eq k q) false
is_member-toggled q (p ∷ ps) k rising =
    member_toggled_by q p ps k (nat_lt q p) (nat_eq q p) refl refl rising
    (is_member-toggled q ps k rising.1)

pub is_member-toggled_all : (ps qs : List ℕ) (k : ℕ) → IsRising ps → IsRising qs
    → is_member (toggled_all ps qs) k ≡ (is_member ps k ⊻ is_member qs k)
unfolding toggled_all
is_member-toggled_all [] qs k left right = refl
is_member-toggled_all (p ∷ ps) qs k left right =
    rw (
      is_member-toggled p (toggled_all ps qs) k (toggled_all_rising ps qs right),
      is_member-toggled_all ps qs k left.1 right,
      is_member-first p k ps left.0,
    )
    (first_last (nat_eq k p) (is_member ps k) (is_member qs k))

small_by : (q : ℕ) (ps : List ℕ) → ((i : ℕ) → i < length ps → get_or ps i 0 < 256)
    → is_member ps q ≡ true → q < 256
small_by q [] small member = absurd (cc member)
small_by q (p ∷ ps) small member = elim (cases_Bool (nat_eq q p)) [
  | inl e ↦ let same = eqb-true q p e in let first = small 0 (omega arith) in omega arith
  | inr e ↦ small_by q ps (λ i lt. small (suc i) (omega arith)) (rw e at member)
]

pub is_member-small : (q : ℕ) (ps : List ℕ) → All (λ p. p < 256) ps
    → is_member ps q ≡ true → q < 256
is_member-small q ps small member = small_by q ps (λ i lt. small i 0 lt) member

pub toggled_all-single : (q : ℕ) (ps : List ℕ) → toggled_all (q ∷ []) ps ≡ toggled q ps
unfolding toggled_all
toggled_all-single q ps = refl

-- ---- bits that are changed member by member

-- one more bit was changed
pub flipped_more : (qs : List ℕ) (i q k : ℕ) (a b x : Bool) → IsRising qs →
    slice_get qs i ≡ Some q → b ≡ (a ⊻ nat_eq k q) → (a ⊻ is_member (drop i qs) k) ≡ x →
    (b ⊻ is_member (drop (i + 1) qs) k) ≡ x
flipped_more qs i q k a b x rising at changed h =
    let next : suc i ≡ i + 1 = omega arith in
    let rest : drop i qs ≡ q ∷ drop (i + 1) qs =
    drop-cons qs i 0 (slice_get_within qs i q at)
    ∙ ap₂ (λ (r n : ℕ). r ∷ drop n qs) (get_or_from_slice_get qs i q 0 at) next in
    let rise : IsRising (q ∷ drop (i + 1) qs) = subst IsRising rest (rising_drop i qs rising) in
    ap (λ (y : Bool). y ⊻ is_member (drop (i + 1) qs) k) changed
    ∙ sym (regrouped a (nat_eq k q) (is_member (drop (i + 1) qs) k))
    ∙ ap (λ (y : Bool). a ⊻ y) (sym (is_member-first q k (drop (i + 1) qs) rise.0))
    ∙ ap (λ (rs : List ℕ). a ⊻ is_member rs k) (sym rest)
    ∙ h

-- all bits were changed
pub flipped_all : (qs : List ℕ) (i k : ℕ) (a x : Bool) → length qs ≤ i →
    (a ⊻ is_member (drop i qs) k) ≡ x → a ≡ x
flipped_all qs i k a x over h =
    sym (xor_false a) ∙ ap (λ (rs : List ℕ). a ⊻ is_member rs k) (sym (drop_all i qs over)) ∙ h
