-- The change of a valid pattern is a bijection of outcomes.
use Rattle.std.proofs.Common.{◌≡◌, ℕ, Bool, true, false, cond, List, [], ◌∷◌, ◌++◌, refl, sym, ◌∙◌}
use Rattle.std.proofs.Common.{ap, ap₂}
use Rattle.std.specs.Prelude.{⊤, nat_eq}
use Rattle.std.proofs.lemmas.Bool.{eq-eqb, ne_eqb, cases_eq, true≢false}
use mathlib.Core.Path.{subst}
use mathlib.Core.Logic.{inl, inr}
use Rattle.mc_model.specs.Bits.{◌⊻◌, Bits, replaced, parity}
use Rattle.mc_model.specs.Signals.{Signal, value}
use Rattle.mc_model.specs.Pattern.{Command, Prep, Ent, Meas, FixX, FixZ, Pattern}
use Rattle.mc_model.specs.Valid.{measured, AllDone, IsValid, IsValidPattern}
use Rattle.mc_model.specs.Shift.{ChangeRow, new_outcomes, change_of}
use Rattle.mc_model.proofs.BitLemmas.{replaced_same, replaced_other, xor_again, xor_twice}
use Rattle.mc_model.proofs.ValidLemmas.{none_measured, next_measured, moved_on}
use Rattle.mc_shift.specs.Laws.{IsBijection}

-- each row's qubit is new and the members of its signal were measured before
abbrev pub RowsFit : Bits → List ChangeRow → Type 0
RowsFit done [] = ⊤
RowsFit done (row ∷ rows) =
    (done row.qubit ≡ false)
    × AllDone done row.signal.members
    × RowsFit (replaced done row.qubit true) rows

pub rows_fit : (inputs : ℕ) (before cs : List Command) → IsValid inputs (before ++ cs) →
    RowsFit (measured before) (change_of cs)
unfolding measured change_of
rows_fit inputs before [] v = tt
rows_fit inputs before (Prep q ∷ cs) v =
    subst (λ (m : Bits). RowsFit m (change_of cs)) (none_measured before (Prep q) (λ k. refl))
    (rows_fit inputs (before ++ (Prep q ∷ [])) cs (moved_on inputs before (Prep q) cs v))
rows_fit inputs before (Ent q r ∷ cs) v =
    subst (λ (m : Bits). RowsFit m (change_of cs)) (none_measured before (Ent q r) (λ k. refl))
    (rows_fit inputs (before ++ (Ent q r ∷ [])) cs (moved_on inputs before (Ent q r) cs v))
rows_fit inputs before (FixX q s ∷ cs) v =
    subst (λ (m : Bits). RowsFit m (change_of cs)) (none_measured before (FixX q s) (λ k. refl))
    (rows_fit inputs (before ++ (FixX q s ∷ [])) cs (moved_on inputs before (FixX q s) cs v))
rows_fit inputs before (FixZ q s ∷ cs) v =
    subst (λ (m : Bits). RowsFit m (change_of cs)) (none_measured before (FixZ q s) (λ k. refl))
    (rows_fit inputs (before ++ (FixZ q s ∷ [])) cs (moved_on inputs before (FixZ q s) cs v))
rows_fit inputs before (Meas q a s t ∷ cs) v =
    let here = v.at before (Meas q a s t) cs refl in (
      here.0.is_not_measured,
      here.2.is_done,
      subst (λ (m : Bits). RowsFit m (change_of cs)) (next_measured before q a s t)
          (rows_fit inputs (before ++ (Meas q a s t ∷ [])) cs
          (moved_on inputs before (Meas q a s t) cs v)),
    )

-- outcomes that agree at what was measured
abbrev Agree : Bits → Bits → Bits → Type 0
Agree done o o' = (k : ℕ) → done k ≡ true → o k ≡ o' k

parity-agree : (done : Bits) (qs : List ℕ) (o o' : Bits) → Agree done o o' → AllDone done qs →
    parity qs o ≡ parity qs o'
unfolding parity
parity-agree done [] o o' same all = refl
parity-agree done (q ∷ qs) o o' same all =
    ap₂ (λ (a b : Bool). a ⊻ b) (same q all.0) (parity-agree done qs o o' same all.1)

pub value-agree : (done : Bits) (s : Signal) (o o' : Bits) → Agree done o o' →
    AllDone done s.members → value s o ≡ value s o'
unfolding value
value-agree done s o o' same all =
    ap (λ (b : Bool). s.constant ⊻ b) (parity-agree done s.members o o' same all)

new_or_done : (done : Bits) (q k : ℕ) → done q ≡ false → done k ≡ true → k ≡ q → ⊥
new_or_done done q k d e f = true≢false (sym e ∙ ap done f ∙ d)

still_done : (done : Bits) (q k : ℕ) → done q ≡ false → done k ≡ true →
    replaced done q true k ≡ true
still_done done q k d e = replaced_other done q true k (new_or_done done q k d e) ∙ e

-- what was measured before keeps its bit
new-done : (done : Bits) (rows : List ChangeRow) (o : Bits) (k : ℕ) → RowsFit done rows →
    done k ≡ true → new_outcomes rows o k ≡ o k
unfolding new_outcomes
new-done done [] o k fit d = refl
new-done done (row ∷ rows) o k fit d =
    rw (ne_eqb k row.qubit (new_or_done done row.qubit k fit.0 d))
    (new-done (replaced done row.qubit true) rows o k fit.2
    (still_done done row.qubit k fit.0 d))

-- outcomes whose new outcomes are the given ones
abbrev IsReached : List ChangeRow → Bits → Type 0
IsReached rows n = (o : Bits) × ((k : ℕ) → new_outcomes rows o k ≡ n k)

reached : (done : Bits) (rows : List ChangeRow) (n : Bits) → RowsFit done rows → IsReached rows n
unfolding new_outcomes
reached done [] n fit = (n, λ k. refl)
reached done (row ∷ rows) n fit =
    let q : ℕ = row.qubit in
    let s : Signal = row.signal in
    let m : Bits = replaced n q (n q ⊻ value s n) in
    let found : IsReached rows m = reached (replaced done q true) rows m fit.2 in
    let o : Bits = found.0 in
    let same : Agree done o n = λ k d.
    sym (new-done (replaced done q true) rows o k fit.2 (still_done done q k fit.0 d))
    ∙ found.1 k
    ∙ replaced_other n q (n q ⊻ value s n) k (new_or_done done q k fit.0 d) in (
      o,
      λ k. elim (cases_eq k q) [
        | inl e ↦
            rw (e, eq-eqb q q refl, found.1 q, replaced_same n q (n q ⊻ value s n))
            (ap (λ (b : Bool). b ⊻ (n q ⊻ value s n)) (value-agree done s o n same fit.1)
            ∙ xor_again (value s n) (n q))
        | inr ne ↦ rw (ne_eqb k q ne) (found.1 k ∙ replaced_other n q (n q ⊻ value s n) k ne)
      ],
    )

cancelled : (a b c d : Bool) → a ≡ b → a ⊻ c ≡ b ⊻ d → c ≡ d
cancelled a b c d e f =
    sym (xor_twice a c) ∙ ap (λ (x : Bool). a ⊻ x) f ∙ ap (λ (x : Bool). a ⊻ (x ⊻ d)) (sym e)
    ∙ xor_twice a d

-- equal new outcomes come of equal outcomes
one_to_one : (done : Bits) (rows : List ChangeRow) (o o' : Bits) → RowsFit done rows →
    Agree done o o' → ((k : ℕ) → new_outcomes rows o k ≡ new_outcomes rows o' k) →
    (k : ℕ) → o k ≡ o' k
unfolding new_outcomes
one_to_one done [] o o' fit same new = new
one_to_one done (row ∷ rows) o o' fit same new =
    let q : ℕ = row.qubit in
    let s : Signal = row.signal in
    let now : Bits = replaced done q true in
    let values = value-agree done s o o' same fit.1 in
    let rest : (k : ℕ) → new_outcomes rows o k ≡ new_outcomes rows o' k = λ k.
    cancelled (cond (nat_eq k q) (value s o) false) (cond (nat_eq k q) (value s o') false)
    (new_outcomes rows o k) (new_outcomes rows o' k)
    (ap (λ (v : Bool). cond (nat_eq k q) v false) values) (new k) in
    let agree : Agree now o o' = λ k d. elim (cases_eq k q) [
      | inl e ↦
          sym (new-done now rows o k fit.2 d) ∙ rest k ∙ new-done now rows o' k fit.2 d
      | inr ne ↦ same k (sym (replaced_other done q true k ne) ∙ d)
    ] in
    one_to_one now rows o o' fit.2 agree rest

none_measured_before : (k : ℕ) → measured [] k ≡ false
unfolding measured
none_measured_before k = refl

pub new_outcomes_bijection : (p : Pattern) → IsValidPattern p →
    IsBijection (new_outcomes (change_of p.commands))
new_outcomes_bijection p valid =
    let rows : List ChangeRow = change_of p.commands in
    let fit = rows_fit p.inputs [] p.commands valid.commands in
    record {
      reached = λ n. reached (measured []) rows n fit;
      one_to_one = λ o o'. one_to_one (measured []) rows o o' fit
          (λ k d. absurd (true≢false (sym d ∙ none_measured_before k)));
    }
