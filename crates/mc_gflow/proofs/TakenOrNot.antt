-- One more vertex was asked.
use Rattle.std.specs.Prelude.{◌≡◌, ◌≢◌, ◌⊎◌, ℕ, zero, suc, ◌+◌, ◌<◌}
use Rattle.std.specs.Prelude.{◌≤◌, Bool, true, false, ◌&&◌, cond}
use Rattle.std.specs.Prelude.{nat_eq, List, [], length, slice_index, slice_set, replicate, refl}
use Rattle.std.proofs.Common.{arith, sym, ap, ap₂, subst, ◌∙◌, inl, inr, get_or-set_same}
use Rattle.std.proofs.Common.{get_or-set_other}
use Rattle.std.proofs.lemmas.Bool.{eq-eqb, ne_eqb}
use Rattle.std.proofs.lemmas.List.Sums.{sum_by-set}
use mathlib.Core.Path.{fun_ext}
use Rattle.mc_model.specs.Bits.{◌⊻◌, Bits, odd}
use Rattle.mc_model.specs.Graph.{OpenGraph, size, is_output}
use Rattle.mc_model.specs.Flow.{single}
use Rattle.mc_model.specs.Choice.{IsLeastSet, IsLaterCandidate}
use Rattle.mc_model.proofs.OddSums.{odd-same, odd-none}
use Rattle.mc_bits.specs.Rows.{bit_of}
use Rattle.mc_bits.proofs.RowsByBits.{no_bits}
use Rattle.mc_elim.specs.Systems.{Solves, IsLeast}
use Rattle.mc_elim.specs.Tables.{entry}
use Rattle.mc_elim.specs.Basis.{Inserted, count_of, columns_of, IsLeastSolution, HasSolution}
use Rattle.mc_elim.specs.Basis.{HasNoSolution, HasOneColumn}
use Rattle.mc_elim.proofs.BitSums.{and_comm, last_or_before, same_or_not, odd-last, odd-pick}
use Rattle.mc_gflow.specs.Layers.{IsCorrection, HoldsLayers, TakenUpTo, IsStuck, AreAlone}
use Rattle.mc_gflow.specs.Layers.{untaken, vertices_of}
use Rattle.mc_gflow.proofs.CandidateSets.{least_correction, correction_solves, columns_in}
use Rattle.mc_gflow.proofs.CandidateSets.{solution_corrects}
use Rattle.mc_gflow.proofs.LayersTaken.{Takes, same_below, same_back, correction_alike}
use Rattle.mc_gflow.proofs.LayersTaken.{candidates_stay, layers_more}

module _ (g : OpenGraph) (layer : ℕ → ℕ) (none k x : ℕ) (sets : ℕ → Bits) (order : ℕ → ℕ)
    (basis : Inserted) (h : TakenUpTo g layer none k x sets order basis) where
  pass : ((s : Bits) → x < size g → is_output g x ≡ false → IsCorrection g layer k x s → layer x ≤
      k) →
      TakenUpTo g layer none k (x + 1) sets order basis
  pass f = record {
    low = h.low;
    some = h.some;
    layers = h.layers;
    candidates = h.candidates;
    earlier = h.earlier;
    passed = λ u un l o s c. elim (last_or_before u x (omega arith)) [
      | inl lt ↦ h.passed u un lt o s c
      | inr e ↦
          subst (λ (a : ℕ). layer a ≤ k) (sym e)
          (f s (subst (λ (a : ℕ). a < size g) e un)
          (subst (λ (a : ℕ). is_output g a ≡ false) e o)
          (subst (λ (a : ℕ). IsCorrection g layer k a s) e c))
    ];
  }

  -- it was taken before
  pub pass_taken : layer x ≢ none → TakenUpTo g layer none k (x + 1) sets order basis
  pass_taken ne = pass (λ s xn o c. elim (h.layers.taken x xn) [
    | inl le ↦ le
    | inr e ↦ absurd (ne e)
  ])

  -- it can't be corrected
  pub pass_unsolved : HasNoSolution basis x → TakenUpTo g layer none k (x + 1) sets order basis
  pass_unsolved none = pass (λ s xn o c.
      absurd (none (columns_in g layer k order basis h.candidates x o s)
      (subst (λ (n : ℕ). Solves n (count_of basis) (columns_of basis) x
      (columns_in g layer k order basis h.candidates x o s)) (sym h.candidates.rows)
      (correction_solves g layer k order basis h.candidates x o s c))))

  -- it is taken
  module _ (xn : x < size g) (layer' : ℕ → ℕ) (t : Takes none k x layer layer') (s : Bits)
      (solution : IsLeastSolution basis x s) (sets' : ℕ → Bits)
      (here : (w : ℕ) → sets' x w ≡ vertices_of (count_of basis) order s w)
      (others : (w : ℕ) → w ≢ x → sets' w ≡ sets w) where
    no_output : is_output g x ≡ false
    no_output = by (is_output g x) refl
      where
        by : (b : Bool) → is_output g x ≡ b → is_output g x ≡ false
        by false e = e
        by true e =
            let a = h.layers.outputs x xn e in
            let b = t.had in
            let c = h.low in
            absurd (omega arith)

    least : IsLeastSet (IsLaterCandidate layer) (size g) (IsCorrection g layer k x) (sets' x)
    least =
        let same : vertices_of (count_of basis) order s ≡ sets' x = fun_ext λ w. sym (here w) in
        subst (IsLeastSet (IsLaterCandidate layer) (size g) (IsCorrection g layer k x)) same
        (least_correction g layer k order basis h.candidates x no_output s
        (subst (λ (n : ℕ). IsLeast (count_of basis) (Solves n (count_of basis)
        (columns_of basis) x) s) h.candidates.rows solution))

    back : (j u : ℕ) (s : Bits) → j ≤ k → IsCorrection g layer' j u s → IsCorrection g layer j u s
    back j u s le =
        correction_alike g layer' layer j u s
        (same_back j layer layer' (same_below none k x layer layer' h.low t j le))

    pub pass_found : TakenUpTo g layer' none k (x + 1) sets' order basis
    pass_found = record {
      low = h.low;
      some = h.some;
      layers =
          layers_more none k x layer layer' h.low t g sets sets' xn h.some h.layers least others;
      candidates = candidates_stay none k x layer layer' h.low t g order basis h.candidates;
      earlier = λ u j un o lt s c.
          let le = h.earlier u j un o lt s (back j u s (omega arith) c) in
          elim (same_or_not u x) [
            | inl e ↦
                let a = ap layer e in
                let b = t.had in
                let d = h.low in
                absurd (omega arith)
            | inr ne ↦ let a = t.others u ne in omega arith
          ];
      passed = λ u un l o s c. elim (same_or_not u x) [
        | inl e ↦ let a = ap layer' e in let b = t.here in omega arith
        | inr ne ↦
            let le = h.passed u un (omega arith) o s (back k u s (omega arith) c) in
            let a = t.others u ne in
            omega arith
      ];
    }

    one_vertex : HasOneColumn basis s → (w : ℕ) × ((v : ℕ) → sets' x v ≡ single w v)
    one_vertex one = (
      order one.0,
      λ v.
          here v
          ∙ odd-same (count_of basis) (λ j. s j && nat_eq v (order j))
          (λ j. nat_eq v (order j) && single one.0 j)
          (λ j _. ap (λ (b : Bool). b && nat_eq v (order j)) (one.2 j)
          ∙ and_comm (single one.0 j) (nat_eq v (order j)))
          ∙ odd-pick (count_of basis) one.0 (λ j. nat_eq v (order j)) one.1,
    )

    pub alone_more : HasOneColumn basis s → AreAlone g layer k sets → AreAlone g layer' k sets'
    alone_more one alone v vn o le = elim (same_or_not v x) [
      | inl e ↦
          subst (λ (a : ℕ). (w : ℕ) × ((y : ℕ) → sets' a y ≡ single w y)) (sym e)
          (one_vertex one)
      | inr ne ↦
          let same = t.others v ne in
          let old = alone v vn o (omega arith) in
          (old.0, λ y. ap (λ (f : Bits). f y) (others v ne) ∙ old.1 y)
    ]

-- the layers in a list
pub takes_in : (layers : List ℕ) (none k u : ℕ) → u < length layers →
    slice_index layers u ≡ none →
    Takes none k u (slice_index layers) (slice_index (slice_set layers u k))
takes_in layers none k u l e = record {
  had = e;
  here = get_or-set_same layers u k 0 l;
  others = λ w ne. get_or-set_other layers u w k 0 ne;
}

pub fewer_untaken : (layers : List ℕ) (none k u : ℕ) → u < length layers →
    slice_index layers u ≡ none → k ≢ none →
    untaken none (slice_set layers u k) + 1 ≡ untaken none layers
fewer_untaken layers none k u l e ne =
    let f : ℕ → ℕ = λ a. cond (nat_eq none a) 1 0 in
    let one : f (slice_index layers u) ≡ 1 =
    ap (λ (b : Bool). cond b 1 0) (eq-eqb none (slice_index layers u) (sym e)) in
    let zero : f k ≡ 0 = ap (λ (b : Bool). cond b 1 0) (ne_eqb none k (λ x. ne (sym x))) in
    let sum = sum_by-set f layers u k 0 l in
    omega arith

-- where a round took none, no more can be taken
pub stuck : (g : OpenGraph) (layer : ℕ → ℕ) (none k : ℕ) (sets : ℕ → Bits) (order : ℕ → ℕ)
    (basis : Inserted) → HoldsLayers g layer none k sets →
    TakenUpTo g layer none (k + 1) (size g) sets order basis →
    IsStuck g layer none k sets order basis
stuck g layer none k sets order basis layers h = record {
  low = h.low;
  layers = layers;
  candidates = h.candidates;
  earliest = λ u j un o le s c. elim (split j (k + 1) le) [
    | inl lt ↦ h.earlier u j un o lt s c
    | inr e ↦
        subst (λ (a : ℕ). layer u ≤ a) (sym e)
        (h.passed u un un o s (subst (λ (a : ℕ). IsCorrection g layer a u s) e c))
  ];
}
  where
    split : (a b : ℕ) → a ≤ b → (a < b) ⊎ (a ≡ b)
    split a b l = grind arith

pub stuck_unsolved : (g : OpenGraph) (layer : ℕ → ℕ) (none k : ℕ) (sets : ℕ → Bits)
    (order : ℕ → ℕ) (basis : Inserted) → IsStuck g layer none k sets order basis → (u : ℕ) →
    u < size g → layer u ≡ none → HasSolution basis u → ⊥
stuck_unsolved g layer none k sets order basis h u un e f =
    let low = h.low in
    let o : is_output g u ≡ false = by (is_output g u) refl in
    let c = solution_corrects g layer (k + 1) order basis h.candidates u o f.0
    (subst (λ (n : ℕ). Solves n (count_of basis) (columns_of basis) u f.0) h.candidates.rows f.1) in
    let le = h.earliest u (k + 1) un o (omega arith) (vertices_of (count_of basis) order f.0) c in
    absurd (omega arith)
  where
    by : (b : Bool) → is_output g u ≡ b → is_output g u ≡ false
    by false e = e
    by true x =
        let a = h.layers.outputs u un x in
        let c = h.low in
        absurd (omega arith)

-- ---- rows that are written

pub row_here : (rows : List (List Bool)) (u : ℕ) (row : List Bool) → u < length rows →
    entry (slice_set rows u row) u ≡ bit_of row
row_here rows u row l = ap bit_of (get_or-set_same rows u row [] l)

pub row_other : (rows : List (List Bool)) (u w : ℕ) (row : List Bool) → w ≢ u →
    entry (slice_set rows u row) w ≡ entry rows w
row_other rows u w row ne = ap bit_of (get_or-set_other rows u w row [] ne)

pub vertices_none : (n w : ℕ) (order : ℕ → ℕ) (s : Bits) (row : List Bool) →
    row ≡ replicate n false → bit_of row w ≡ vertices_of 0 order s w
vertices_none n w order s row e =
    ap (λ (r : List Bool). bit_of r w) e
    ∙ no_bits n w
    ∙ sym (odd-none 0 (λ j. s j && nat_eq w (order j)) (λ j l. absurd (omega arith)))

odd-skipped : (n m : ℕ) (f : Bits) → n ≤ m → ((j : ℕ) → n ≤ j → j < m → f j ≡ false) →
    odd n f ≡ odd m f
odd-skipped n zero f l none = ap (λ (a : ℕ). odd a f) (omega arith)
odd-skipped n (suc m) f l none = elim (split n m l) [
  | inl le ↦
      odd-skipped n m f le (λ j g h. none j g (omega arith))
      ∙ sym (odd-last m f ∙ ap (λ (b : Bool). b ⊻ odd m f) (none m le (omega arith)))
  | inr eq ↦ ap (λ (a : ℕ). odd a f) eq
]
  where
    split : (n m : ℕ) → n ≤ suc m → (n ≤ m) ⊎ (n ≡ suc m)
    split n m l = grind arith

-- no column from `j` on and before `k` is in the set
pub vertices_skipped : (j k w : ℕ) (order : ℕ → ℕ) (s : Bits) → j ≤ k →
    ((i : ℕ) → j ≤ i → i < k → s i ≡ false) → vertices_of j order s w ≡ vertices_of k order s w
vertices_skipped j k w order s l none =
    odd-skipped j k (λ i. s i && nat_eq w (order i)) l
    (λ i g h. ap (λ (b : Bool). b && nat_eq w (order i)) (none i g h))

swapped : (a b : Bool) → a ⊻ b ≡ b ⊻ a
swapped a b = grind arith

pub vertices_more : (j w : ℕ) (order : ℕ → ℕ) (s : Bits) (told a b : Bool) → told ≡ s j →
    a ≡ vertices_of j order s w → b ≡ a ⊻ (told && nat_eq w (order j)) →
    b ≡ vertices_of (j + 1) order s w
vertices_more j w order s told a b e f g =
    let next : suc j ≡ j + 1 = omega arith in
    let term : Bits = λ i. s i && nat_eq w (order i) in
    g
    ∙ ap₂ (λ (c d : Bool). c ⊻ (d && nat_eq w (order j))) f e
    ∙ swapped (odd j term) (term j)
    ∙ sym (odd-last j term)
    ∙ ap (λ (n : ℕ). vertices_of n order s w) next
