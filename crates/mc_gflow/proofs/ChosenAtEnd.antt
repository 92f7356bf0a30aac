-- The chosen flow where all vertices were taken, and the chosen refuter where some were not.
use Rattle.std.specs.Prelude.{◌≡◌, ◌≢◌, ◌⊎◌, ℕ, zero, suc, ◌+◌, ◌<◌}
use Rattle.std.specs.Prelude.{◌≤◌, Bool, true, false, not}
use Rattle.std.specs.Prelude.{◌&&◌, nat_eq, refl}
use Rattle.std.proofs.Common.{arith, sym, ap, ap₂, subst, ◌∙◌, inl, inr}
use Rattle.std.proofs.lemmas.Bool.{eq-eqb, ne_eqb, eqb-true}
use Rattle.mc_model.specs.Bits.{Bits, odd}
use Rattle.mc_model.specs.Graph.{OpenGraph, size, is_output, joins, odd_neighbourhood}
use Rattle.mc_model.specs.Flow.{single, IsFlow, IsRefuter, RefutesAt}
use Rattle.mc_model.specs.Choice.{SameBelow, IsLess, IsLeastSet, CorrectsAlone, IsChosenFlow}
use Rattle.mc_model.specs.Choice.{IsChosenRefuter}
use Rattle.mc_model.proofs.OddSums.{odd-same}
use Rattle.mc_model.proofs.Refutation.{joins_comm, refuted_at}
use Rattle.mc_elim.specs.Systems.{Refutes, IsLeast}
use Rattle.mc_elim.specs.Basis.{Inserted, count_of, columns_of}
use Rattle.mc_elim.proofs.LeastSets.{even_with_sum}
use Rattle.mc_elim.proofs.BitSums.{and_left, and_right, both_left, clash, same_or_not, not_true}
use Rattle.mc_elim.proofs.BitSums.{single_itself, odd-pick}
use Rattle.mc_gflow.specs.Layers.{IsCorrection, IsStuck, left_over}
use Rattle.mc_gflow.proofs.CandidateSets.{column_at, column_out, columns_in, correction_solves}
use Rattle.mc_gflow.proofs.EarliestLayers.{least_layers, alone_corrects, correction_later}
use Rattle.mc_gflow.proofs.EarliestLayers.{corrects_at}

module _ (g : OpenGraph) (layer : ℕ → ℕ) (none k : ℕ) (sets : ℕ → Bits) (order : ℕ → ℕ)
    (basis : Inserted) (h : IsStuck g layer none k sets order basis) where
  abbrev n : ℕ
  n = size g

  corrects : (u : ℕ) → u < n → is_output g u ≡ false → layer u ≤ k → CorrectsAlone g layer u
      (sets u)
  corrects u un o le = (h.layers.least u un o le).has

  -- ---- all were taken

  module _ (all : (v : ℕ) → v < n → layer v ≤ k) where
    sides : (a b : ℕ) → (a ≤ b) ⊎ (b < a)
    sides a b = grind arith

    earliest : (u j : ℕ) → u < n → is_output g u ≡ false → (s : Bits) →
        IsCorrection g layer j u s → layer u ≤ j
    earliest u j un o s c = elim (sides j (k + 1)) [
      | inl le ↦ h.earliest u j un o le s c
      | inr gt ↦ let low = all u un in omega arith
    ]

    flow : IsFlow g sets layer
    flow = record {
      outputs = h.layers.outputs;
      positive = h.layers.positive;
      corrects = λ u un o.
          corrects_at g layer u (sets u) un o (h.layers.positive u un o) h.layers.outputs
          (corrects u un o (all u un));
    }

    pub chosen_flow : IsChosenFlow g sets layer
    chosen_flow = record {
      least_layers = λ v vn. record {
        sets = sets;
        layer = layer;
        flow = flow;
        reached = refl;
        least = λ sets' layer' f.
            least_layers g layer sets h.layers.outputs (λ u un o. corrects u un o (all u un))
            earliest layer' sets' f v vn;
      };
      least_sets = λ u un o. h.layers.least u un o (all u un);
    }

  -- ---- some were not

  abbrev left : Bits
  left = left_over layer none

  abbrev m : ℕ
  m = count_of basis

  taken_or_left : (v : ℕ) → v < n → (layer v ≤ k) ⊎ (left v ≡ true)
  taken_or_left v vn = elim (h.layers.taken v vn) [
    | inl le ↦ inl le
    | inr e ↦ inr (eq-eqb (layer v) none e)
  ]

  not_left : (v : ℕ) → layer v < none → left v ≡ false
  not_left v lt = ne_eqb (layer v) none (λ e. absurd (omega arith))

  left_no_output : (v : ℕ) → v < n → left v ≡ true → is_output g v ≡ false
  left_no_output v vn e = not_true (is_output g v) (λ o.
      let low = h.low in
      let x = h.layers.outputs v vn o in
      let y = eqb-true (layer v) none e in
      absurd (omega arith))

  -- a set of vertices that were not taken meets a column in its vertex's neighbours
  column_meets : (s : Bits) → ((v : ℕ) → v < n → s v ≡ true → left v ≡ true) → (j : ℕ) →
      j < m → odd n (λ r. s r && columns_of basis j r) ≡ odd_neighbourhood g s (order j)
  column_meets s inside j jm =
      odd-same n (λ r. s r && columns_of basis j r) (λ r. s r && joins g.edges (order j) r)
      (λ r rn. by r rn (s r) refl)
    where
      by : (r : ℕ) → r < n → (b : Bool) → s r ≡ b →
          s r && columns_of basis j r ≡ s r && joins g.edges (order j) r
      by r rn false e =
          and_left (s r) (columns_of basis j r) e
          ∙ sym (and_left (s r) (joins g.edges (order j) r) e)
      by r rn true e =
          ap (λ (b : Bool). s r && b)
          (column_at g layer (k + 1) order basis h.candidates j r jm rn
          (left_no_output r rn (inside r rn e))
          ∙ joins_comm g.edges r (order j))

  module _ (u : ℕ) (un : u < n) (here : left u ≡ true) (y : Bits)
      (f : IsLeast n (Refutes n m (columns_of basis) u) y) where
    -- no vertex that was taken is in the set, since it is solved
    solved_not_in : (v : ℕ) → v < n → is_output g v ≡ false → layer v ≤ k → y v ≡ false
    solved_not_in v vn o le =
        let c = correction_later g layer (layer v) (k + 1) v (sets v) (omega arith)
        (alone_corrects g layer v (sets v) (corrects v vn o le)) in
        sym (odd-pick n v y vn)
        ∙ even_with_sum n m (columns_of basis) y
        (columns_in g layer (k + 1) order basis h.candidates v o (sets v)) (single v) f.has.0
        (correction_solves g layer (k + 1) order basis h.candidates v o (sets v) c)

    -- no output is in it, since it would be less without
    output_not_in : (v : ℕ) → v < n → is_output g v ≡ true → y v ≡ false
    output_not_in v vn o = by (f.least without (even, other))
      where
        without : Bits
        without = λ r. y r && not (nat_eq r v)

        term : (j : ℕ) → j < m → (r : ℕ) → r < n →
            without r && columns_of basis j r ≡ y r && columns_of basis j r
        term j jm r rn = elim (same_or_not r v) [
          | inl e ↦
              let zero : columns_of basis j r ≡ false =
              subst (λ (a : ℕ). columns_of basis j a ≡ false) (sym e)
              (column_out g layer (k + 1) order basis h.candidates j v jm vn o) in
              and_right (without r) (columns_of basis j r) zero
              ∙ sym (and_right (y r) (columns_of basis j r) zero)
          | inr ne ↦
              ap (λ (b : Bool). (y r && not b) && columns_of basis j r) (ne_eqb r v ne)
              ∙ ap (λ (b : Bool). b && columns_of basis j r) (and_true (y r))
        ]
          where
            and_true : (a : Bool) → a && true ≡ a
            and_true a = grind arith

        even : (j : ℕ) → j < m → odd n (λ r. without r && columns_of basis j r) ≡ false
        even j jm =
            odd-same n (λ r. without r && columns_of basis j r)
            (λ r. y r && columns_of basis j r) (term j jm)
            ∙ f.has.0 j jm

        other : without u ≡ true
        other =
            let ne : u ≢ v = λ e. clash (is_output g v) o
            (subst (λ (a : ℕ). is_output g a ≡ false) e (left_no_output u un here)) in
            ap₂ (λ (a b : Bool). a && not b) f.has.1 (ne_eqb u v ne)

        by : SameBelow n y without ⊎ IsLess (λ d j. d < j) n y without → y v ≡ false
        by (inl same) =
            same v vn
            ∙ ap (λ (b : Bool). y v && not b) (single_itself v) ∙ and_right (y v) false refl
        by (inr less) =
            absurd (clash (y less.last)
            (both_left (y less.last) (not (nat_eq less.last v)) less.holds) less.lacks)

    inside : (v : ℕ) → v < n → y v ≡ true → left v ≡ true
    inside v vn e = elim (taken_or_left v vn) [
      | inl le ↦ absurd (clash (y v) e (out v vn le (is_output g v) refl))
      | inr l ↦ l
    ]
      where
        out : (v : ℕ) → v < n → layer v ≤ k → (b : Bool) → is_output g v ≡ b → y v ≡ false
        out v vn le true o = output_not_in v vn o
        out v vn le false o = solved_not_in v vn o le

    refutes_at : RefutesAt g left y u
    refutes_at = record {
      holds = f.has.1;
      within = inside;
      even = λ w wn no e. elim (taken_or_left w wn) [
        | inl le ↦
            let found = h.candidates.complete w wn no (inl (omega arith)) in
            subst (λ (a : ℕ). odd_neighbourhood g y a ≡ false) found.2
            (sym (column_meets y inside found.0 found.1) ∙ f.has.0 found.0 found.1)
        | inr l ↦ absurd (clash (left w) l e)
      ];
    }

    back : (t : Bits) → RefutesAt g left t u → Refutes n m (columns_of basis) u t
    back t r = (
      λ j jm.
          column_meets t r.within j jm
          ∙ r.even (order j) (h.candidates.vertices j jm) (h.candidates.no_input j jm)
          (not_left (order j) (early j jm)),
      r.holds,
    )
      where
        early : (j : ℕ) → j < m → layer (order j) < none
        early j jm = elim (h.candidates.before j jm) [
          | inl lt ↦ let low = h.low in omega arith
          | inr e ↦ absurd (let no = e.1 in omega arith)
        ]

    pub least_refutes : IsLeastSet (λ d j. d < j) n (λ s. RefutesAt g left s u) y
    least_refutes = record { has = refutes_at; least = λ t r. f.least t (back t r) }

  -- no vertex that was taken is in a refuter: by induction on a bound on its layer
  taken_apart : (B : Bits) (y : ℕ → Bits) → IsRefuter g B y → (b v : ℕ) → v < n → layer v < b →
      layer v ≤ k → B v ≡ true → ⊥
  taken_apart B y r zero v vn lt le e = absurd (omega arith)
  taken_apart B y r (suc b) v vn lt le e =
      let o = r.uncorrected.no_output v vn e in
      refuted_at g B (y v) (sets v) layer v vn
      (corrects_at g layer v (sets v) vn o (h.layers.positive v vn o) h.layers.outputs
      (corrects v vn o le))
      (r.refutes v vn e)
      (λ w wn less. not_true (B w) (λ c.
      taken_apart B y r b w wn (omega arith) (omega arith) c))

  pub chosen_refuter : (some : (u : ℕ) × (u < n) × (left u ≡ true)) → (y : ℕ → Bits) →
      ((u : ℕ) → u < n → left u ≡ true → IsLeast n (Refutes n m (columns_of basis) u) (y u)) →
      IsChosenRefuter g left y
  chosen_refuter some y f = record {
    refuter = record {
      uncorrected = record { some = some; no_output = left_no_output };
      refutes = λ u un e. (least_refutes u un e (y u) (f u un e)).has;
    };
    greatest = λ B' y' r v vn e. elim (taken_or_left v vn) [
      | inl le ↦ absurd (taken_apart B' y' r (suc (layer v)) v vn (omega arith) le e)
      | inr l ↦ l
    ];
    least = λ u un e. least_refutes u un e (y u) (f u un e);
  }
