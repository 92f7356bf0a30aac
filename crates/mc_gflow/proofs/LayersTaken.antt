-- One more vertex is taken into the layer that is being found.
use Rattle.std.specs.Prelude.{◌≡◌, ◌≢◌, ◌⊎◌, ℕ, ◌<◌, ◌≤◌, false, refl}
use Rattle.std.proofs.Common.{arith, sym, ap, subst, ◌∙◌, inl, inr}
use Rattle.mc_model.specs.Bits.{Bits}
use Rattle.mc_model.specs.Graph.{OpenGraph, size}
use Rattle.mc_model.specs.Choice.{SameBelow, IsLess, IsLeastSet, IsLaterCandidate, CorrectsAlone}
use Rattle.mc_elim.specs.Basis.{Inserted, count_of}
use Rattle.mc_elim.proofs.BitSums.{same_or_not, not_true}
use Rattle.mc_gflow.specs.Layers.{IsCorrection, IsBefore, HoldsCandidates, HoldsLayers}
use Rattle.mc_gflow.proofs.EarliestLayers.{alone_corrects, corrects_alone}

-- below `k` the two give the same layers
pub record SameLayers (k : ℕ) (layer layer' : ℕ → ℕ) : Type 0 where
  pub to : (w : ℕ) → layer w < k → layer' w ≡ layer w
  pub from : (w : ℕ) → layer' w < k → layer' w ≡ layer w

pub same_back : (k : ℕ) (layer layer' : ℕ → ℕ) → SameLayers k layer layer' →
    SameLayers k layer' layer
same_back k layer layer' s = record { to = λ w l. sym (s.from w l); from = λ w l. sym (s.to w l) }

pub correction_alike : (g : OpenGraph) (layer layer' : ℕ → ℕ) (k u : ℕ) (s : Bits) →
    SameLayers k layer layer' → IsCorrection g layer k u s → IsCorrection g layer' k u s
correction_alike g layer layer' k u s same c = record {
  within = c.within;
  no_input = c.no_input;
  before = λ w e. let lt = c.before w e in let eq = same.to w lt in omega arith;
  alone = c.alone;
}

pub least_alike : (g : OpenGraph) (layer layer' : ℕ → ℕ) (k u : ℕ) (s : Bits) →
    SameLayers k layer layer' →
    IsLeastSet (IsLaterCandidate layer) (size g) (IsCorrection g layer k u) s →
    IsLeastSet (IsLaterCandidate layer') (size g) (IsCorrection g layer' k u) s
least_alike g layer layer' k u s same f = record {
  has = correction_alike g layer layer' k u s same f.has;
  least = λ t c'.
      let c = correction_alike g layer' layer k u t (same_back k layer layer' same) c' in
      by t c (f.least t c);
}
  where
    sides : (a : ℕ) → (a < k) ⊎ (k ≤ a)
    sides a = grind arith

    moved : (d w : ℕ) → layer d < k → layer' w < k → IsLaterCandidate layer' d w →
        IsLaterCandidate layer d w
    moved d w dk wk (inl lt) =
        let x = same.to d dk in let y = same.from w wk in inl (omega arith)
    moved d w dk wk (inr e) =
        let x = same.to d dk in let y = same.from w wk in
        let z = e.0 in inr (omega arith, e.1)

    absent : (t : Bits) → IsCorrection g layer k u t → (w : ℕ) → k ≤ layer' w → t w ≡ false
    absent t c w ge = not_true (t w) (λ e.
        let lt = c.before w e in let x = same.to w lt in absurd (omega arith))

    by : (t : Bits) → IsCorrection g layer k u t →
        SameBelow (size g) s t ⊎ IsLess (IsLaterCandidate layer) (size g) s t →
        SameBelow (size g) s t ⊎ IsLess (IsLaterCandidate layer') (size g) s t
    by t c (inl e) = inl e
    by t c (inr less) = inr (record {
      last = less.last;
      vertex = less.vertex;
      lacks = less.lacks;
      holds = less.holds;
      same_after = λ w wn later. elim (sides (layer' w)) [
        | inl lt ↦
            less.same_after w wn
            (moved less.last w (c.before less.last less.holds) lt later)
        | inr ge ↦ absent s f.has w ge ∙ sym (absent t c w ge)
      ];
    })

-- the vertex `u`, which had the layer `none`, gets the layer `k`
pub record Takes (none k u : ℕ) (layer layer' : ℕ → ℕ) : Type 0 where
  pub had : layer u ≡ none
  pub here : layer' u ≡ k
  pub others : (w : ℕ) → w ≢ u → layer' w ≡ layer w

module _ (none k u : ℕ) (layer layer' : ℕ → ℕ) (low : k < none)
    (t : Takes none k u layer layer') where
  pub same_below : (a : ℕ) → a ≤ k → SameLayers a layer layer'
  same_below a le = record {
    to = λ w l. elim (same_or_not w u) [
      | inl e ↦
          let x = ap layer e in let y = t.had in absurd (omega arith)
      | inr ne ↦ t.others w ne
    ];
    from = λ w l. elim (same_or_not w u) [
      | inl e ↦
          let x = ap layer' e in let y = t.here in absurd (omega arith)
      | inr ne ↦ t.others w ne
    ];
  }

  -- the candidates below `k` stay
  pub candidates_stay : (g : OpenGraph) (order : ℕ → ℕ) (basis : Inserted) →
      HoldsCandidates g layer k 0 order basis → HoldsCandidates g layer' k 0 order basis
  candidates_stay g order basis h =
      let same = same_below k (omega arith) in
      record {
        rows = h.rows;
        room = h.room;
        vertices = h.vertices;
        no_input = h.no_input;
        before = λ j jm. inl (moved j (strict (order j) (h.before j jm)));
        rising = λ i j l jm. later i j (omega arith) jm (h.rising i j l jm);
        complete = λ w wn no b. h.complete w wn no (inl (back w (strict' w b)));
        columns = h.columns;
      }
    where
      strict : (w : ℕ) → IsBefore layer k 0 w → layer w < k
      strict w (inl l) = l
      strict w (inr e) = absurd (let no = e.1 in omega arith)

      strict' : (w : ℕ) → IsBefore layer' k 0 w → layer' w < k
      strict' w (inl l) = l
      strict' w (inr e) = absurd (let no = e.1 in omega arith)

      moved : (j : ℕ) → layer (order j) < k → layer' (order j) < k
      moved j l =
          let x = (same_below k (omega arith)).to (order j) l in omega arith

      back : (w : ℕ) → layer' w < k → layer w < k
      back w l = let x = (same_below k (omega arith)).from w l in omega arith

      kept : (j : ℕ) → j < count_of basis → layer' (order j) ≡ layer (order j)
      kept j jm = (same_below k (omega arith)).to (order j) (strict (order j) (h.before j jm))

      later : (i j : ℕ) → i < count_of basis → j < count_of basis →
          IsLaterCandidate layer (order i) (order j) →
          IsLaterCandidate layer' (order i) (order j)
      later i j im jm (inl lt) =
          let x = kept i im in let y = kept j jm in inl (omega arith)
      later i j im jm (inr e) =
          let x = kept i im in let y = kept j jm in
          let z = e.0 in inr (omega arith, e.1)

  pub layers_more : (g : OpenGraph) (sets sets' : ℕ → Bits) → u < size g → 1 ≤ k →
      HoldsLayers g layer none k sets →
      IsLeastSet (IsLaterCandidate layer) (size g) (IsCorrection g layer k u) (sets' u) →
      ((w : ℕ) → w ≢ u → sets' w ≡ sets w) → HoldsLayers g layer' none k sets'
  layers_more g sets sets' un some h least others = record {
    outputs = λ v vn o. elim (same_or_not v u) [
      | inl e ↦
          let x = ap layer e in let y = t.had in let z = h.outputs v vn o in absurd (omega arith)
      | inr ne ↦ t.others v ne ∙ h.outputs v vn o
    ];
    positive = λ v vn o. elim (same_or_not v u) [
      | inl e ↦ let x = ap layer' e in let y = t.here in omega arith
      | inr ne ↦ let x = t.others v ne in let y = h.positive v vn o in omega arith
    ];
    taken = λ v vn. elim (same_or_not v u) [
      | inl e ↦ let x = ap layer' e in let y = t.here in inl (omega arith)
      | inr ne ↦ elim (h.taken v vn) [
        | inl le ↦ let x = t.others v ne in inl (omega arith)
        | inr z ↦ inr (t.others v ne ∙ z)
      ]
    ];
    least = λ v vn o le. elim (same_or_not v u) [
      | inl e ↦
          subst
          (λ (a : ℕ). IsLeastSet (IsLaterCandidate layer') (size g) (CorrectsAlone g layer' a)
          (sets' a))
          (sym e)
          (alone k u (sets' u) t.here
          (least_alike g layer layer' k u (sets' u) (same_below k (omega arith)) least))
      | inr ne ↦
          let x = t.others v ne in
          let low' : layer v ≤ k = omega arith in
          subst
          (λ (s : Bits). IsLeastSet (IsLaterCandidate layer') (size g) (CorrectsAlone g layer' v) s)
          (sym (others v ne))
          (alone (layer v) v (sets v) x
          (least_alike g layer layer' (layer v) v (sets v) (same_below (layer v) low')
          (correction v (sets v) (h.least v vn o low'))))
    ];
  }
    where
      alone : (a v : ℕ) (s : Bits) → layer' v ≡ a →
          IsLeastSet (IsLaterCandidate layer') (size g) (IsCorrection g layer' a v) s →
          IsLeastSet (IsLaterCandidate layer') (size g) (CorrectsAlone g layer' v) s
      alone a v s e f = record {
        has = corrects_alone g layer' a v s e f.has;
        least = λ s' c.
            f.least s' (subst (λ (b : ℕ). IsCorrection g layer' b v s') e
            (alone_corrects g layer' v s' c));
      }

      correction : (v : ℕ) (s : Bits) →
          IsLeastSet (IsLaterCandidate layer) (size g) (CorrectsAlone g layer v) s →
          IsLeastSet (IsLaterCandidate layer) (size g) (IsCorrection g layer (layer v) v) s
      correction v s f = record {
        has = alone_corrects g layer v s f.has;
        least = λ s' c. f.least s' (corrects_alone g layer (layer v) v s' refl c);
      }
