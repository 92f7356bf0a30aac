-- The columns of all candidates before a layer and a number can be inserted.
use Rattle.std.proofs.Common.{◌≡◌, ℕ, zero, suc, ◌+◌, ◌<◌, ◌≤◌, Bool, true, false, cond}
use Rattle.std.proofs.Common.{[], ◌∷◌, ◌++◌, map, refl, arith, subst, inl, inr}
use Rattle.std.specs.Prelude.{nat_eq}
use Rattle.std.specs.List.{range_with_len}
use Rattle.std.proofs.lemmas.Bool.{eq-eqb, ne_eqb, cases_eq}
use Rattle.std.proofs.lemmas.List.FromFn.{get_or-map-range_with_len}
use Rattle.mc_model.specs.Graph.{OpenGraph, size, is_input}
use Rattle.mc_elim.specs.Basis.{Inserted, count_of}
use Rattle.mc_gflow.specs.Layers.{IsBefore, column_of, HoldsCandidates}
use Rattle.mc_gflow.proofs.CandidatesInserted.{skip, fill, next_round}

module _ (g : OpenGraph) (layer : ℕ → ℕ) where
  pub record AreInserted (k x : ℕ) : Type 0 where
    pub order : ℕ → ℕ
    pub basis : Inserted
    pub holds : HoldsCandidates g layer k x order basis

  none_yet : AreInserted 0 0
  none_yet = record {
    order = λ j. 0;
    basis = record { rows = size g; room = size g; columns = []; has_added = false };
    holds = record {
      rows = refl;
      room = refl;
      vertices = λ j jm. absurd (omega arith);
      no_input = λ j jm. absurd (omega arith);
      before = λ j jm. absurd (omega arith);
      rising = λ i j lt jm. absurd (omega arith);
      complete = λ w wn free before. absurd (nowhere w before);
      columns = λ j v jm vn. absurd (omega arith);
    };
  }
    where
      nowhere : (w : ℕ) → IsBefore layer 0 0 w → ⊥
      nowhere w (inl lt) = absurd (omega arith)
      nowhere w (inr e) = let lt = e.1 in absurd (omega arith)

  -- one more vertex
  inserted : (k x : ℕ) → x < size g → is_input g x ≡ false → layer x ≡ k → AreInserted k x →
      AreInserted k (x + 1)
  inserted k x xn free due h =
      let m = count_of h.basis in
      let column = map (column_of g x) (range_with_len 0 (size g)) in
      record {
        order = λ j. cond (nat_eq j m) x (h.order j);
        basis = record {
          rows = h.basis.rows;
          room = h.basis.room;
          columns = h.basis.columns ++ column ∷ [];
          has_added = h.basis.has_added;
        };
        holds = fill g layer k x h.order h.basis h.holds xn free due
            (λ j. cond (nat_eq j m) x (h.order j))
            (λ j lt. rw (ne_eqb j m (λ e. absurd (omega arith))) refl)
            (rw (eq-eqb m m refl) refl) column
            (record {
              rows = h.basis.rows;
              room = h.basis.room;
              columns = h.basis.columns ++ column ∷ [];
              has_added = h.basis.has_added;
            })
            refl refl refl
            (λ v vn. get_or-map-range_with_len (column_of g x) 0 (size g) v v false vn
            (omega arith));
      }

  passed : (k x : ℕ) → (layer x ≡ k → is_input g x ≡ true) → AreInserted k x →
      AreInserted k (x + 1)
  passed k x due h = record {
    order = h.order;
    basis = h.basis;
    holds = skip g layer k x h.order h.basis h.holds due;
  }

  one_more : (k x : ℕ) → x < size g → AreInserted k x → AreInserted k (x + 1)
  one_more k x xn h = elim (cases_eq (layer x) k) [
    | inl due ↦ by (is_input g x) refl due
    | inr ne ↦ passed k x (λ due. absurd (ne due)) h
  ]
    where
      by : (b : Bool) → is_input g x ≡ b → layer x ≡ k → AreInserted k (x + 1)
      by true e due = passed k x (λ d. e) h
      by false e due = inserted k x xn e due h

  up_to : (k x : ℕ) → x ≤ size g → AreInserted k 0 → AreInserted k x
  up_to k zero le h = h
  up_to k (suc x) le h =
      let next : x + 1 ≡ suc x = omega arith in
      subst (AreInserted k) next (one_more k x (omega arith) (up_to k x (omega arith) h))

  pub all_inserted : (k : ℕ) → AreInserted k 0
  all_inserted zero = none_yet
  all_inserted (suc k) =
      let next : k + 1 ≡ suc k = omega arith in
      let h = up_to k (size g) (omega arith) (all_inserted k) in
      subst (λ (a : ℕ). AreInserted a 0) next (record {
        order = h.order;
        basis = h.basis;
        holds = next_round g layer k h.order h.basis h.holds;
      })
