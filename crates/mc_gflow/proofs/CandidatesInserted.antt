-- Candidates that are inserted one after another.
use Rattle.std.specs.Prelude.{◌≡◌, ◌≢◌, ◌⊎◌, ℕ, ◌+◌, ◌<◌}
use Rattle.std.specs.Prelude.{◌≤◌, Bool, true, false, ◌||◌}
use Rattle.std.specs.Prelude.{List, [], ◌∷◌, ◌++◌, length, refl}
use Rattle.std.proofs.Common.{arith, sym, ap, subst, ◌∙◌, inl, inr, length-append}
use Rattle.std.proofs.lemmas.List.{get_or_append_left, get_or_push}
use Rattle.mc_model.specs.Bits.{Bits}
use Rattle.mc_model.specs.Graph.{OpenGraph, size, is_input}
use Rattle.mc_model.specs.Choice.{IsLaterCandidate}
use Rattle.mc_bits.specs.Rows.{bit_of}
use Rattle.mc_elim.specs.Reduced.{AreApart}
use Rattle.mc_elim.specs.Tables.{row_at}
use Rattle.mc_elim.specs.Basis.{Inserted, count_of, columns_of}
use Rattle.mc_elim.proofs.NoMoreThanRows.{no_more_than, room_for_one}
use Rattle.mc_elim.proofs.BitSums.{clash, last_or_before, same_or_not, two_sides}
use Rattle.mc_gflow.specs.Layers.{IsBefore, column_of, HoldsCandidates}

module _ (g : OpenGraph) (layer : ℕ → ℕ) (k x : ℕ) (order : ℕ → ℕ) (basis : Inserted)
    (h : HoldsCandidates g layer k x order basis) where
  abbrev m : ℕ
  m = count_of basis

  later_apart : (v w : ℕ) → IsLaterCandidate layer v w → v ≢ w
  later_apart v w (inl lt) e = let same = ap layer e in absurd (omega arith)
  later_apart v w (inr f) e = let lt = f.1 in absurd (omega arith)

  pub order_apart : AreApart (size g) m order
  order_apart = record { below = h.vertices; apart = by }
    where
      by : (i j : ℕ) → i < m → j < m → order i ≡ order j → i ≡ j
      by i j im jm e = elim (same_or_not i j) [
        | inl f ↦ f
        | inr ne ↦ elim (two_sides j i ne) [
          | inl lt ↦ absurd (later_apart (order i) (order j) (h.rising i j lt jm) e)
          | inr gt ↦ absurd (later_apart (order j) (order i) (h.rising j i gt im) (sym e))
        ]
      ]

  pub no_more_columns : m ≤ size g
  no_more_columns = no_more_than (size g) m order order_apart

  earlier_apart : (v : ℕ) → IsBefore layer k x v → layer x ≡ k → v ≢ x
  earlier_apart v (inl lt) e f = let same = ap layer f in absurd (omega arith)
  earlier_apart v (inr e) _ f = let lt = e.1 in absurd (omega arith)

  -- where a candidate is due, there is room for its column
  pub room_for : x < size g → layer x ≡ k → m < size g
  room_for l e =
      room_for_one (size g) m x order order_apart l
      (λ i im. earlier_apart (order i) (h.before i im) e)

  wider : (v : ℕ) → IsBefore layer k x v → IsBefore layer k (x + 1) v
  wider v (inl lt) = inl lt
  wider v (inr e) = let lt = e.1 in inr (e.0, omega arith)

  -- the next vertex is no candidate of this layer
  pub skip : (layer x ≡ k → is_input g x ≡ true) →
      HoldsCandidates g layer k (x + 1) order basis
  skip due = record {
    rows = h.rows;
    room = h.room;
    vertices = h.vertices;
    no_input = h.no_input;
    before = λ j jm. wider (order j) (h.before j jm);
    rising = h.rising;
    complete = λ w wn free b. h.complete w wn free (narrow w free b);
    columns = h.columns;
  }
    where
      narrow : (w : ℕ) → is_input g w ≡ false → IsBefore layer k (x + 1) w → IsBefore layer k x w
      narrow w free (inl lt) = inl lt
      narrow w free (inr e) = elim (same_or_not w x) [
        | inl same ↦
            absurd (clash (is_input g w)
            (subst (λ (a : ℕ). is_input g a ≡ true) (sym same)
            (due (ap layer (sym same) ∙ e.0))) free)
        | inr ne ↦ let lt = e.1 in inr (e.0, omega arith)
      ]

  -- the next vertex is a candidate of this layer, and its column was inserted
  module _ (l : x < size g) (no : is_input g x ≡ false) (due : layer x ≡ k) (order' : ℕ → ℕ)
      (old : (j : ℕ) → j < m → order' j ≡ order j) (newest : order' m ≡ x) (column : List Bool)
      (basis' : Inserted) (columns : basis'.columns ≡ basis.columns ++ (column ∷ []))
      (rows : basis'.rows ≡ basis.rows) (room : basis'.room ≡ basis.room)
      (bits : (v : ℕ) → v < size g → bit_of column v ≡ column_of g x v) where
    pub count_more : count_of basis' ≡ m + 1
    count_more =
        ap (λ (cs : List (List Bool)). length cs) columns
        ∙ length-append basis.columns (column ∷ [])

    place : (j : ℕ) → j < count_of basis' → (j < m) ⊎ (j ≡ m)
    place j jm = let e = count_more in last_or_before j m (omega arith)

    old_column : (j : ℕ) → j < m → columns_of basis' j ≡ columns_of basis j
    old_column j jm =
        ap (λ (cs : List (List Bool)). bit_of (row_at cs j)) columns
        ∙ ap bit_of (get_or_append_left basis.columns (column ∷ []) [] j jm)

    new_column : columns_of basis' m ≡ bit_of column
    new_column =
        ap (λ (cs : List (List Bool)). bit_of (row_at cs m)) columns
        ∙ ap bit_of (get_or_push basis.columns column [] m refl)

    is_later : (v : ℕ) → IsBefore layer k x v → IsLaterCandidate layer v x
    is_later v (inl lt) = inl (omega arith)
    is_later v (inr e) = let same = e.0 in inr (omega arith, e.1)

    pub fill : HoldsCandidates g layer k (x + 1) order' basis'
    fill = record {
      rows = rows ∙ h.rows;
      room = room ∙ h.room;
      vertices = λ j jm. elim (place j jm) [
        | inl lt ↦ subst (λ (a : ℕ). a < size g) (sym (old j lt)) (h.vertices j lt)
        | inr e ↦ subst (λ (a : ℕ). a < size g) (sym (ap order' e ∙ newest)) l
      ];
      no_input = λ j jm. elim (place j jm) [
        | inl lt ↦ subst (λ (a : ℕ). is_input g a ≡ false) (sym (old j lt)) (h.no_input j lt)
        | inr e ↦ subst (λ (a : ℕ). is_input g a ≡ false) (sym (ap order' e ∙ newest)) no
      ];
      before = λ j jm. elim (place j jm) [
        | inl lt ↦
            subst (IsBefore layer k (x + 1)) (sym (old j lt)) (wider (order j) (h.before j lt))
        | inr e ↦
            subst (IsBefore layer k (x + 1)) (sym (ap order' e ∙ newest)) (inr (due, omega arith))
      ];
      rising = λ i j lt jm. elim (place j jm) [
        | inl jl ↦
            let il : i < m = omega arith in
            subst (λ (a : ℕ). IsLaterCandidate layer a (order' j)) (sym (old i il))
            (subst (IsLaterCandidate layer (order i)) (sym (old j jl)) (h.rising i j lt jl))
        | inr e ↦
            let il : i < m = omega arith in
            subst (λ (a : ℕ). IsLaterCandidate layer a (order' j)) (sym (old i il))
            (subst (IsLaterCandidate layer (order i)) (sym (ap order' e ∙ newest))
            (is_later (order i) (h.before i il)))
      ];
      complete = λ w wn nw b. find w wn nw b;
      columns = λ j v jm vn. elim (place j jm) [
        | inl lt ↦
            ap (λ (f : Bits). f v) (old_column j lt)
            ∙ h.columns j v lt vn
            ∙ ap (λ (a : ℕ). column_of g a v) (sym (old j lt))
        | inr e ↦
            ap (λ (a : ℕ). columns_of basis' a v) e
            ∙ ap (λ (f : Bits). f v) new_column
            ∙ bits v vn
            ∙ ap (λ (a : ℕ). column_of g a v) (sym (ap order' e ∙ newest))
      ];
    }
      where
        among : (w : ℕ) → w < size g → is_input g w ≡ false → IsBefore layer k x w →
            (j : ℕ) × (j < count_of basis') × (order' j ≡ w)
        among w wn nw b =
            let f = h.complete w wn nw b in
            let e = count_more in
            (f.0, omega (arith, f.1), old f.0 f.1 ∙ f.2)

        find : (w : ℕ) → w < size g → is_input g w ≡ false → IsBefore layer k (x + 1) w →
            (j : ℕ) × (j < count_of basis') × (order' j ≡ w)
        find w wn nw (inl lt) = among w wn nw (inl lt)
        find w wn nw (inr e) = elim (same_or_not w x) [
          | inl same ↦ let f = count_more in (m, omega arith, newest ∙ sym same)
          | inr ne ↦ let lt = e.1 in among w wn nw (inr (e.0, omega arith))
        ]

pub next_round : (g : OpenGraph) (layer : ℕ → ℕ) (k : ℕ) (order : ℕ → ℕ) (basis : Inserted) →
    HoldsCandidates g layer k (size g) order basis →
    HoldsCandidates g layer (k + 1) 0 order basis
next_round g layer k order basis h = record {
  rows = h.rows;
  room = h.room;
  vertices = h.vertices;
  no_input = h.no_input;
  before = λ j jm. inl (low (order j) (h.before j jm));
  rising = h.rising;
  complete = λ w wn no b. h.complete w wn no (back w wn b);
  columns = h.columns;
}
  where
    low : (w : ℕ) → IsBefore layer k (size g) w → layer w < k + 1
    low w (inl lt) = omega arith
    low w (inr e) = let same = e.0 in omega arith

    split : (a : ℕ) → a < k + 1 → (a < k) ⊎ (a ≡ k)
    split a l = grind arith

    back : (w : ℕ) → w < size g → IsBefore layer (k + 1) 0 w → IsBefore layer k (size g) w
    back w wn (inl lt) = elim (split (layer w) lt) [ inl less ↦ inl less | inr e ↦ inr (e, wn) ]
    back w wn (inr e) = absurd (let no = e.1 in omega arith)

-- ---- counts

or_false : (a : Bool) → a || false ≡ a
or_false a = grind arith
