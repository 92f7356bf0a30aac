-- What is kept of the rows of a change, with one row more.
use Rattle.std.proofs.Common.{◌≡◌, ℕ, Bool, true, false, ◌||◌, List, [], ◌∷◌, ◌++◌, length}
use Rattle.std.proofs.Common.{map, refl, sym, ap, ◌∙◌, arith, nat_eq, inl, inr}
use Rattle.std.proofs.Math.Seq.{take-append_seam}
use Rattle.std.proofs.lemmas.List.{map-append, length-map, take-append-le}
use Rattle.std.proofs.lemmas.List.Elements.{All-push}
use Rattle.std.proofs.lemmas.List.Folds.{list_any-append}
use Rattle.std.proofs.lemmas.Option.{slice_get_within}
use Rattle.mc_model.specs.Numbers.{is_member}
use Rattle.mc_model.specs.Signals.{IsRising}
use Rattle.mc_model.specs.Shift.{ChangeRow, AreEarlier, qubits_of}
use Rattle.mc_rows.specs.declared.row.Row.{Row}
use Rattle.mc_change_text.specs.Kinds.{change_row, names_of}
use Rattle.mc_change_text.specs.Kept.{IsChangeSoFar}
use Rattle.mc_change_text.proofs.Lists.{more_get}

pub qubits_are : (rows : List Row) → qubits_of (map change_row rows) ≡ names_of rows
qubits_are [] = refl
qubits_are (row ∷ rows) = ap (λ (qs : List ℕ). row.name ∷ qs) (qubits_are rows)

earlier_more : (change : List ChangeRow) (row : ChangeRow) → AreEarlier (qubits_of change) change
    → ((q : ℕ) → is_member row.signal.members q ≡ true → is_member (qubits_of change) q ≡ true)
    → AreEarlier (qubits_of (change ++ row ∷ [])) (change ++ row ∷ [])
earlier_more change row earlier last i r get q is =
    let qubits = qubits_of change in
    let len : length qubits ≡ length change =
    length-map change (λ (r : ChangeRow). r.qubit) in
    let split : qubits_of (change ++ row ∷ []) ≡ qubits ++ row.qubit ∷ [] =
    map-append (λ (r : ChangeRow). r.qubit) change (row ∷ []) in
    elim (more_get change row i r get) [
      | inl before ↦
          let lt = slice_get_within change i r before in
          rw (split, take-append-le i qubits (row.qubit ∷ []) (omega arith))
          (earlier i r before q is)
      | inr here ↦
          let place : i ≡ length qubits = here.0 ∙ sym len in
          rw (split, place, take-append_seam qubits (row.qubit ∷ [])) (last q (rw here.1 is))
    ]

pub kept_more : (change change' : List ChangeRow) (done done' : List ℕ) (rows : List Row)
    (row : Row) → change' ≡ change ++ change_row row ∷ []
    → ((q : ℕ) → is_member done' q ≡ (is_member done q || nat_eq q row.name)) → IsRising row.set
    → ((q : ℕ) → is_member row.set q ≡ true → is_member (names_of rows) q ≡ true)
    → IsChangeSoFar change done rows → IsChangeSoFar change' done' (rows ++ row ∷ [])
kept_more change change' done done' rows row more joined rising listed h =
    let qubits : qubits_of change ≡ names_of rows = ap qubits_of h.change_is ∙ qubits_are rows in
    record {
      change_is = rw (more, h.change_is) (sym (map-append change_row rows (row ∷ [])));
      done_is = λ q. rw (
        joined q,
        h.done_is q,
        map-append (λ (r : Row). r.name) rows (row ∷ []),
        list_any-append (nat_eq q) (names_of rows) (row.name ∷ []),
      ) (one_more (is_member (names_of rows) q) (nat_eq q row.name));
      earlier = rw more
          (earlier_more change (change_row row) h.earlier (λ q is. rw qubits (listed q is)));
      sets = rw more
          (All-push (λ (r : ChangeRow). IsRising r.signal.members) change (change_row row) h.sets
          rising);
    }
  where
    one_more : (a b : Bool) → (a || b) ≡ (a || (b || false))
    one_more a b = grind arith
