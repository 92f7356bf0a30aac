-- The change of outcomes that shifting makes has the measured qubits of the shifted form in order.
use Rattle.std.proofs.Common.{◌≡◌, ℕ, zero, suc, true, false, ◌||◌, List, [], ◌∷◌, ◌++◌, refl, sym}
use Rattle.std.proofs.Common.{◌∙◌, ap, append_assoc, take, Some}
use Rattle.std.specs.Prelude.{nat_eq, slice_get}
use Rattle.std.proofs.lemmas.Bool.{eq-eqb, ne_eqb, eqb-true, cases_eq, or_cases, or_left, or_right}
use Rattle.std.proofs.lemmas.List.Folds.{list_any-append}
use mathlib.Core.Path.{subst}
use mathlib.Core.Logic.{inl, inr}
use Rattle.mc_model.specs.Numbers.{is_member}
use Rattle.mc_model.specs.Bits.{Bits, replaced}
use Rattle.mc_model.specs.Pattern.{Command, Prep, Ent, Meas, FixX, FixZ, Pattern, measured_order}
use Rattle.mc_model.specs.Valid.{AllDone, IsValidPattern, measured}
use Rattle.mc_model.specs.Shift.{ChangeRow, change_of, IsShifted, IsShiftedForm, qubits_of}
use Rattle.mc_model.specs.Shift.{AreEarlier, IsChangeOf}
use Rattle.mc_shift.proofs.NewOutcomes.{RowsFit, rows_fit}

done_at : (done : Bits) (qs : List ℕ) → AllDone done qs → (q : ℕ) → is_member qs q ≡ true →
    done q ≡ true
done_at done [] all q member = absurd (cc member)
done_at done (p ∷ qs) all q member = elim (or_cases (nat_eq q p) (is_member qs q) member) [
  | inl e ↦ ap done (eqb-true q p e) ∙ all.0
  | inr later ↦ done_at done qs all.1 q later
]

-- a number that was in the list is in it with one more behind
still_member : (front : List ℕ) (x q : ℕ) → is_member front q ≡ true →
    is_member (front ++ x ∷ []) q ≡ true
still_member front x q member =
    list_any-append (nat_eq q) front (x ∷ [])
    ∙ or_left (is_member front q) (nat_eq q x || false) member

last_member : (front : List ℕ) (x q : ℕ) → q ≡ x → is_member (front ++ x ∷ []) q ≡ true
last_member front x q e =
    list_any-append (nat_eq q) front (x ∷ [])
    ∙ or_right (is_member front q) (nat_eq q x || false)
    (or_left (nat_eq q x) false (eq-eqb q x e))

replaced_member : (done : Bits) (front : List ℕ) (x : ℕ) →
    ((q : ℕ) → done q ≡ true → is_member front q ≡ true) →
    (q : ℕ) → replaced done x true q ≡ true → is_member (front ++ x ∷ []) q ≡ true
replaced_member done front x held q is = elim (cases_eq q x) [
  | inl e ↦ last_member front x q e
  | inr ne ↦
      let was : done q ≡ true = rw (ne_eqb q x ne) at is in
      still_member front x q (held q was)
]

-- where `front` has what was done before
earlier_from : (front : List ℕ) (done : Bits) (rows : List ChangeRow) → RowsFit done rows →
    ((q : ℕ) → done q ≡ true → is_member front q ≡ true) →
    (i : ℕ) (row : ChangeRow) → slice_get rows i ≡ Some row →
    (q : ℕ) → is_member row.signal.members q ≡ true →
    is_member (front ++ take i (qubits_of rows)) q ≡ true
earlier_from front done [] fit held i row found q member = absurd (cc found)
earlier_from front done (r ∷ rows) fit held zero row found q member =
    let same : r ≡ row = cc found in
    let at : is_member r.signal.members q ≡ true =
    ap (λ (x : ChangeRow). is_member x.signal.members q) same ∙ member in
    list_any-append (nat_eq q) front []
    ∙ or_left (is_member front q) false (held q (done_at done r.signal.members fit.1 q at))
earlier_from front done (r ∷ rows) fit held (suc i) row found q member =
    ap (λ (xs : List ℕ). is_member xs q)
    (sym (append_assoc front (r.qubit ∷ []) (take i (qubits_of rows))))
    ∙ earlier_from (front ++ r.qubit ∷ []) (replaced done r.qubit true) rows fit.2
    (replaced_member done front r.qubit held) i row found q member

-- shifting keeps the order of measuring
order_kept : (rows : List ChangeRow) (cs ds : List Command) → IsShifted rows cs ds →
    qubits_of (change_of cs) ≡ measured_order ds
unfolding change_of
order_kept rows [] [] h = refl
order_kept rows (Prep q ∷ cs) (Prep q' ∷ ds) h = order_kept rows cs ds h.1
order_kept rows (Ent q r ∷ cs) (Ent q' r' ∷ ds) h = order_kept rows cs ds h.2
order_kept rows (Meas q a s t ∷ cs) (Meas q' a' s' t' ∷ ds) h =
    ap (λ (x : ℕ). x ∷ qubits_of (change_of cs)) (sym h.0)
    ∙ ap (λ (xs : List ℕ). q' ∷ xs) (order_kept rows cs ds h.4)
order_kept rows (FixX q s ∷ cs) (FixX q' s' ∷ ds) h = order_kept rows cs ds h.2
order_kept rows (FixZ q s ∷ cs) (FixZ q' s' ∷ ds) h = order_kept rows cs ds h.2
order_kept rows cs ds h = absurd h

pub change_fits : (p q : Pattern) → IsValidPattern p → IsShiftedForm p q →
    IsChangeOf q (change_of p.commands)
unfolding measured
change_fits p q valid shifted =
    let order = order_kept (change_of p.commands) p.commands q.commands shifted.commands in
    record {
      qubits = order;
      earlier = subst (λ (xs : List ℕ). AreEarlier xs (change_of p.commands)) order
          (earlier_from [] (λ k. false) (change_of p.commands)
          (rows_fit p.inputs [] p.commands valid.commands)
          (λ q no. absurd (cc no)));
    }
