-- The rules of the builder are those of valid patterns.
use Rattle.std.proofs.Common.{◌≡◌, ℕ, ◌+◌, ◌<◌, ◌≤◌, Bool, true, false, cond, not, List, [], ◌∷◌}
use Rattle.std.proofs.Common.{◌++◌, refl, ◌∙◌, ap, arith, None, Some, Option}
use Rattle.std.specs.Prelude.{nat_eq, nat_lt, count_by, All, if◌then◌else◌, ⊤}
use Rattle.std.specs.List.{list_any}
use Rattle.std.proofs.lemmas.Bool.{ne_eqb, eqb-false, ltb-true, ltb-false, lt-ltb, le-ltb, or_parts}
use Rattle.std.proofs.lemmas.Bool.{or_from, not-false, not_from_true}
use Rattle.std.proofs.lemmas.List.Elements.{All-nil, All-cons}
use Rattle.mc_model.specs.Bits.{Bits}
use Rattle.mc_model.specs.Numbers.{is_member, ListsOnce}
use Rattle.mc_model.specs.Pattern.{Command, Prep, Ent, Meas, FixX, FixZ}
use Rattle.mc_model.specs.Valid.{AllDone, IsLive, FitsBehind, measured, prepared}
use Rattle.mc_pattern.specs.Rules.{first_rule, command_rule, output_rule, is_prep, is_stranger}
use Rattle.mc_pattern.specs.Rules.{is_undone, is_twice, is_missing}
use Rattle.mc_pattern.specs.Typed.{IsTyped}
use Rattle.mc_pattern.proofs.Members.{any_by, none_by, fails_by, member_counts, counts_member}
use Rattle.mc_pattern.proofs.Members.{no_member, below_by, no_number, number_fails}

-- the number of the first of four tests that holds
abbrev first_of : (ℕ → ℕ) → Bool → Bool → Bool → Bool → Option ℕ
first_of rule a b c d =
    if a then Some (rule 1) else (if b then Some (rule 2)
    else (if c then Some (rule 3) else (if d then Some (rule 4) else None)))

record NoneOf (a b c d : Bool) : Type 0 where
  first : a ≡ false
  second : b ≡ false
  third : c ≡ false
  fourth : d ≡ false

none_of : (rule : ℕ → ℕ) (a b c d : Bool) → first_of rule a b c d ≡ None → NoneOf a b c d
none_of rule true b c d e = absurd (cc e)
none_of rule false true c d e = absurd (cc e)
none_of rule false false true d e = absurd (cc e)
none_of rule false false false true e = absurd (cc e)
none_of rule false false false false e =
    record { first = refl; second = refl; third = refl; fourth = refl }

of_none : (rule : ℕ → ℕ) (a b c d : Bool) → NoneOf a b c d → first_of rule a b c d ≡ None
of_none rule a b c d h = rw (h.first, h.second, h.third, h.fourth) refl

all_done : (done : Bits) (qs : List ℕ) → list_any (is_undone done) qs ≡ false → AllDone done qs
all_done done [] e = tt
all_done done (q ∷ qs) e =
    let parts = or_parts (not (done q)) (list_any (is_undone done) qs) e in
    (not-false (done q) parts.0, all_done done qs parts.1)

done_all : (done : Bits) (qs : List ℕ) → AllDone done qs → list_any (is_undone done) qs ≡ false
done_all done [] h = refl
done_all done (q ∷ qs) h =
    or_from (not (done q)) (list_any (is_undone done) qs)
    (not_from_true (done q) h.0)
    (done_all done qs h.1)

-- operands that break neither of the first two rules may be acted on
abbrev AllLive : ℕ → List Command → List ℕ → Type 0
AllLive inputs before [] = ⊤
AllLive inputs before (q ∷ qs) = IsLive inputs before q × AllLive inputs before qs

lives : (inputs : ℕ) (before : List Command) (n : ℕ) (qs : List ℕ) → n ≡ inputs + prepared before →
    list_any (is_stranger n) qs ≡ false → list_any (measured before) qs ≡ false →
    AllLive inputs before qs
lives inputs before n [] size there free = tt
lives inputs before n (q ∷ qs) size there free =
    let here = or_parts (is_stranger n q) (list_any (is_stranger n) qs) there in
    let unmarked = or_parts (measured before q) (list_any (measured before) qs) free in
    let below = ltb-true q n (not-false (nat_lt q n) here.0) in (
      record { is_there = omega arith; is_not_measured = unmarked.0 },
      lives inputs before n qs size here.1 unmarked.1,
    )

there : (inputs : ℕ) (before : List Command) (n : ℕ) (qs : List ℕ) → n ≡ inputs + prepared before →
    AllLive inputs before qs → list_any (is_stranger n) qs ≡ false
there inputs before n [] size h = refl
there inputs before n (q ∷ qs) size h =
    let below : q < n = rw size h.0.is_there in
    or_from (is_stranger n q) (list_any (is_stranger n) qs)
    (not_from_true (nat_lt q n) (lt-ltb q n below))
    (there inputs before n qs size h.1)

free : (inputs : ℕ) (before : List Command) (qs : List ℕ) → AllLive inputs before qs →
    list_any (measured before) qs ≡ false
free inputs before [] h = refl
free inputs before (q ∷ qs) h =
    or_from (measured before q) (list_any (measured before) qs)
    h.0.is_not_measured
    (free inputs before qs h.1)

-- behind a pattern so far
kept_by : (inputs : ℕ) (before : List Command) (n : ℕ) (qs : List ℕ) (is_loop : Bool)
    (members : List ℕ) → n ≡ inputs + prepared before →
    first_rule n (measured before) qs is_loop members ≡ None →
    AllLive inputs before qs × (is_loop ≡ false) × AllDone (measured before) members
kept_by inputs before n qs is_loop members size e =
    let done = measured before in
    let h : NoneOf (list_any (is_stranger n) qs) (list_any done qs) is_loop
    (list_any (is_undone done) members) = none_of (λ i. i) _ _ _ _ e in
    (lives inputs before n qs size h.first h.second, h.third, all_done done members h.fourth)

by_kept : (inputs : ℕ) (before : List Command) (n : ℕ) (qs : List ℕ) (is_loop : Bool)
    (members : List ℕ) → n ≡ inputs + prepared before → AllLive inputs before qs →
    is_loop ≡ false → AllDone (measured before) members →
    first_rule n (measured before) qs is_loop members ≡ None
by_kept inputs before n qs is_loop members size live apart fits = of_none (λ i. i) _ _ _ _ (record {
  first = there inputs before n qs size live;
  second = free inputs before qs live;
  third = apart;
  fourth = done_all (measured before) members fits;
})

AllDone-append : (done : Bits) (ps qs : List ℕ) → AllDone done ps → AllDone done qs →
    AllDone done (ps ++ qs)
AllDone-append done [] qs h k = k
AllDone-append done (p ∷ ps) qs h k = (h.0, AllDone-append done ps qs h.1 k)

AllDone-left : (done : Bits) (ps qs : List ℕ) → AllDone done (ps ++ qs) → AllDone done ps
AllDone-left done [] qs h = tt
AllDone-left done (p ∷ ps) qs h = (h.0, AllDone-left done ps qs h.1)

AllDone-right : (done : Bits) (ps qs : List ℕ) → AllDone done (ps ++ qs) → AllDone done qs
AllDone-right done [] qs h = h
AllDone-right done (p ∷ ps) qs h = AllDone-right done ps qs h.1

pub fits_by : (half inputs : ℕ) (before : List Command) (n : ℕ) (c : Command) →
    n ≡ inputs + prepared before → is_prep c ≡ false → IsTyped half c →
    command_rule n (measured before) c ≡ None → FitsBehind inputs before c
fits_by half inputs before n (Prep q) size no_prep typed e = absurd (cc no_prep)
fits_by half inputs before n (Ent q r) size no_prep typed e =
    let h = kept_by inputs before n (q ∷ r ∷ []) (nat_eq q r) [] size e in
    (h.0.0, h.0.1.0, eqb-false q r h.1)
fits_by half inputs before n (Meas q a s t) size no_prep typed e =
    let done = measured before in
    let h = kept_by inputs before n (q ∷ []) false (s.members ++ t.members) size e in (
      h.0.0,
      record { is_set = typed.1; is_done = AllDone-left done s.members t.members h.2 },
      record { is_set = typed.2; is_done = AllDone-right done s.members t.members h.2 },
    )
fits_by half inputs before n (FixX q s) size no_prep typed e =
    let h = kept_by inputs before n (q ∷ []) false s.members size e in
    (h.0.0, record { is_set = typed; is_done = h.2 })
fits_by half inputs before n (FixZ q s) size no_prep typed e =
    let h = kept_by inputs before n (q ∷ []) false s.members size e in
    (h.0.0, record { is_set = typed; is_done = h.2 })

pub by_fits : (inputs : ℕ) (before : List Command) (n : ℕ) (c : Command) →
    n ≡ inputs + prepared before → is_prep c ≡ false → FitsBehind inputs before c →
    command_rule n (measured before) c ≡ None
by_fits inputs before n (Prep q) size no_prep h = absurd (cc no_prep)
by_fits inputs before n (Ent q r) size no_prep h =
    by_kept inputs before n (q ∷ r ∷ []) (nat_eq q r) [] size
    (h.0, (h.1, tt))
    (ne_eqb q r h.2)
    tt
by_fits inputs before n (Meas q a s t) size no_prep h =
    by_kept inputs before n (q ∷ []) false (s.members ++ t.members) size (h.0, tt) refl
    (AllDone-append (measured before) s.members t.members h.1.is_done h.2.is_done)
by_fits inputs before n (FixX q s) size no_prep h =
    by_kept inputs before n (q ∷ []) false s.members size (h.0, tt) refl h.1.is_done
by_fits inputs before n (FixZ q s) size no_prep h =
    by_kept inputs before n (q ∷ []) false s.members size (h.0, tt) refl h.1.is_done

-- outputs
all_below : (n : ℕ) (qs : List ℕ) → list_any (is_stranger n) qs ≡ false →
    All (λ q. q < n) qs
all_below n [] e = All-nil (λ q. q < n)
all_below n (q ∷ qs) e =
    let parts = or_parts (not (nat_lt q n)) (list_any (is_stranger n) qs) e in
    All-cons (λ p. p < n) q qs
    (ltb-true q n (not-false (nat_lt q n) parts.0))
    (all_below n qs parts.1)

-- no number is listed twice
pub once_by : (qs : List ℕ) → ((k : ℕ) → count_by (nat_eq k) qs ≤ 1) →
    list_any (is_twice qs) qs ≡ false
once_by qs few =
    none_by (is_twice qs) qs (λ q member. le-ltb 1 (count_by (nat_eq q) qs) (few q))

pub twice_by : (qs : List ℕ) (k : ℕ) → 2 ≤ count_by (nat_eq k) qs →
    list_any (is_twice qs) qs ≡ true
twice_by qs k many =
    any_by (is_twice qs) qs k (counts_member qs k (omega arith))
    (lt-ltb 1 (count_by (nat_eq k) qs) (omega arith))

by_once : (qs : List ℕ) (k : ℕ) → list_any (is_twice qs) qs ≡ false →
    is_member qs k ≡ true → count_by (nat_eq k) qs ≡ 1
by_once qs k once member =
    let less = fails_by (is_twice qs) qs k once member in
    let few = ltb-false 1 (count_by (nat_eq k) qs) less in
    let some = member_counts qs k member in
    omega arith

-- how often a qubit is listed, by whether it was measured
once_or_not : (n : ℕ) (done : Bits) (qs : List ℕ) (k : ℕ) (b m : Bool) → done k ≡ b →
    is_member qs k ≡ m →
    list_any done qs ≡ false → list_any (is_twice qs) qs ≡ false →
    is_missing done qs k ≡ false → count_by (nat_eq k) qs ≡ cond (not (done k)) 1 0
once_or_not n done qs k true true d m free once due = absurd (cc (fails_by done qs k free m, d))
once_or_not n done qs k true false d m free once due = rw d (no_member qs k m)
once_or_not n done qs k false true d m free once due = rw d (by_once qs k once m)
once_or_not n done qs k false false d m free once due =
    let e : true ≡ false = rw (d, m) at due in absurd (cc e)

pub lists_by : (n : ℕ) (done : Bits) (qs : List ℕ) → output_rule n done qs ≡ None →
    ListsOnce n (is_undone done) qs
lists_by n done qs e =
    let h = none_of (λ i. i + 4) _ _ _ _ e in
    record {
      below = all_below n qs h.first;
      once = λ k lt.
          once_or_not n done qs k (done k) (is_member qs k) refl refl h.second h.third
          (number_fails (is_missing done qs) n k h.fourth lt);
    }

-- a listed qubit was not measured, and one that was not measured is listed
not_done : (n : ℕ) (done : Bits) (qs : List ℕ) (k : ℕ) (b : Bool) → done k ≡ b →
    ListsOnce n (is_undone done) qs → is_member qs k ≡ true → done k ≡ false
not_done n done qs k false d h member = d
not_done n done qs k true d h member =
    let lt = below_by n qs k h.below member in
    let none : count_by (nat_eq k) qs ≡ 0 = h.once k lt ∙ ap (λ (b : Bool). cond (not b) 1 0) d in
    let some = member_counts qs k member in
    absurd (omega arith)

due_listed : (n : ℕ) (done : Bits) (qs : List ℕ) (k : ℕ) (b : Bool) → done k ≡ b →
    ListsOnce n (is_undone done) qs → k < n →
    is_missing done qs k ≡ false
due_listed n done qs k true d h lt = rw d refl
due_listed n done qs k false d h lt =
    let one : count_by (nat_eq k) qs ≡ 1 = h.once k lt ∙ ap (λ (b : Bool). cond (not b) 1 0) d in
    rw (d, counts_member qs k (omega arith)) refl

few_listed : (n : ℕ) (done : Bits) (qs : List ℕ) (k : ℕ) → ListsOnce n (is_undone done) qs →
    is_member qs k ≡ true → is_twice qs k ≡ false
few_listed n done qs k h member =
    let lt = below_by n qs k h.below member in
    let unmarked = not_done n done qs k (done k) refl h member in
    let one : count_by (nat_eq k) qs ≡ 1 =
    h.once k lt ∙ ap (λ (b : Bool). cond (not b) 1 0) unmarked in
    le-ltb 1 (count_by (nat_eq k) qs) (omega arith)

pub by_lists : (n : ℕ) (done : Bits) (qs : List ℕ) → ListsOnce n (is_undone done) qs →
    output_rule n done qs ≡ None
by_lists n done qs h = of_none (λ i. i + 4) _ _ _ _ (record {
  first = none_by (is_stranger n) qs
      (λ k member. not_from_true (nat_lt k n) (lt-ltb k n (below_by n qs k h.below member)));
  second = none_by done qs (λ k member. not_done n done qs k (done k) refl h member);
  third = none_by (is_twice qs) qs (λ k member. few_listed n done qs k h member);
  fourth = no_number (is_missing done qs) n (λ k lt. due_listed n done qs k (done k) refl h lt);
})
