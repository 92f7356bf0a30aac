-- Sets of columns and sets of candidates.
use Rattle.std.specs.Prelude.{◌≡◌, ◌≢◌, ◌⊎◌, ℕ, ◌<◌, Bool, true, false, not, ◌&&◌, nat_eq, refl}
use Rattle.std.proofs.Common.{arith, sym, ap, subst, ◌∙◌, inl, inr}
use Rattle.mc_model.specs.Bits.{Bits, odd}
use Rattle.mc_model.specs.Graph.{OpenGraph, size, is_input, is_output, joins, odd_neighbourhood}
use Rattle.mc_model.specs.Flow.{single}
use Rattle.mc_model.specs.Choice.{SameBelow, IsLess, IsLeastSet, IsLaterCandidate}
use Rattle.mc_model.proofs.OddSums.{odd-same, odd-none, odd-and, odd-exchange, and_swap}
use Rattle.mc_elim.specs.Systems.{Solves, IsLeast}
use Rattle.mc_elim.specs.Basis.{Inserted, count_of, columns_of}
use Rattle.mc_elim.proofs.BitSums.{and_comm, and_right, both_left, both_right, clash, same_or_not}
use Rattle.mc_elim.proofs.BitSums.{two_sides, single_itself, single_other, single_member, odd-some}
use Rattle.mc_elim.proofs.BitSums.{odd-pick}
use Rattle.mc_gflow.specs.Layers.{IsCorrection, IsBefore, HoldsCandidates, vertices_of}

-- two bits of which each implies the other
pub same_truth : (a b : Bool) → (a ≡ true → b ≡ true) → (b ≡ true → a ≡ true) → a ≡ b
same_truth true b f g = sym (f refl)
same_truth false true f g = g refl
same_truth false false f g = refl

and_three : (a b c : Bool) → (a && b) && c ≡ a && (c && b)
and_three a b c = grind arith

module _ (g : OpenGraph) (layer : ℕ → ℕ) (k : ℕ) (order : ℕ → ℕ) (basis : Inserted)
    (h : HoldsCandidates g layer k 0 order basis) where
  abbrev n : ℕ
  n = size g

  abbrev m : ℕ
  m = count_of basis

  abbrev chosen : Bits → Bits
  chosen = vertices_of m order

  below : (w : ℕ) → IsBefore layer k 0 w → layer w < k
  below w (inl lt) = lt
  below w (inr e) = absurd (let no = e.1 in omega arith)

  not_earlier : (i j : ℕ) → j < i → i < m → IsLaterCandidate layer (order i) (order j) → ⊥
  not_earlier i j l im (inl lt) = by (h.rising j i l im)
    where
      by : IsLaterCandidate layer (order j) (order i) → ⊥
      by (inl gt) = absurd (omega arith)
      by (inr e) = let same = e.0 in absurd (omega arith)
  not_earlier i j l im (inr e) = by (h.rising j i l im)
    where
      by : IsLaterCandidate layer (order j) (order i) → ⊥
      by (inl gt) = let same = e.0 in absurd (omega arith)
      by (inr f) = let lt = e.1 in let gt = f.1 in absurd (omega arith)

  not_itself : (w : ℕ) → IsLaterCandidate layer w w → ⊥
  not_itself w (inl lt) = absurd (omega arith)
  not_itself w (inr e) = let lt = e.1 in absurd (omega arith)

  -- two columns are of different candidates
  pub different : (i j : ℕ) → i < m → j < m → i ≢ j → order i ≢ order j
  different i j im jm ne e = elim (two_sides j i ne) [
    | inl lt ↦
        not_itself (order j) (subst (λ (w : ℕ). IsLaterCandidate layer w (order j)) e
        (h.rising i j lt jm))
    | inr gt ↦
        not_itself (order j)
        (subst (λ (w : ℕ). IsLaterCandidate layer (order j) w) e (h.rising j i gt im))
  ]

  -- a vertex of a set is in it where its column is
  pub chosen_at : (s : Bits) (j : ℕ) → j < m → chosen s (order j) ≡ s j
  chosen_at s j jm =
      odd-same m (λ i. s i && nat_eq (order j) (order i)) (λ i. s i && single j i)
      (λ i im. ap (λ (b : Bool). s i && b) (elim (same_or_not i j) [
        | inl e ↦
            subst (λ (a : ℕ). nat_eq (order j) (order a) ≡ single j a) (sym e)
            (single_itself (order j) ∙ sym (single_itself j))
        | inr ne ↦
            single_other (order i) (order j) (different j i jm im (λ e. ne (sym e)))
            ∙ sym (single_other j i ne)
      ]))
      ∙ odd-pick m j s jm

  -- each vertex of a set has a column
  pub chosen_has : (s : Bits) (w : ℕ) {P : Type 0} →
      ((j : ℕ) → j < m → s j ≡ true → w ≡ order j → P) → chosen s w ≡ true → P
  chosen_has s w f e =
      odd-some m (λ j. s j && nat_eq w (order j))
      (λ j jm x. f j jm (both_left (s j) (nat_eq w (order j)) x)
      (single_member (order j) w (both_right (s j) (nat_eq w (order j)) x)))
      e

  -- the odd neighbourhood is the sum of the columns
  pub chosen_odd : (s : Bits) (v : ℕ) →
      odd_neighbourhood g (chosen s) v ≡ odd m (λ j. s j && joins g.edges v (order j))
  chosen_odd s v =
      odd-same n (λ w. chosen s w && joins g.edges v w)
      (λ w. odd m (λ j. s j && (joins g.edges v w && single (order j) w)))
      (λ w _. and_comm (chosen s w) (joins g.edges v w)
      ∙ sym (odd-and m (joins g.edges v w) (λ j. s j && nat_eq w (order j)))
      ∙ odd-same m (λ j. joins g.edges v w && (s j && nat_eq w (order j)))
      (λ j. s j && (joins g.edges v w && single (order j) w))
      (λ j _. and_swap (joins g.edges v w) (s j) (nat_eq w (order j))))
      ∙ odd-exchange n m (λ w j. s j && (joins g.edges v w && single (order j) w))
      ∙ odd-same m (λ j. odd n (λ w. s j && (joins g.edges v w && single (order j) w)))
      (λ j. s j && joins g.edges v (order j))
      (λ j jm. odd-and n (s j) (λ w. joins g.edges v w && single (order j) w)
      ∙ ap (λ (b : Bool). s j && b)
      (odd-pick n (order j) (joins g.edges v) (h.vertices j jm)))

  pub column_at : (j v : ℕ) → j < m → v < n → is_output g v ≡ false →
      columns_of basis j v ≡ joins g.edges v (order j)
  column_at j v jm vn o =
      h.columns j v jm vn ∙ ap (λ (b : Bool). joins g.edges v (order j) && not b) o
      ∙ and_true (joins g.edges v (order j))
    where
      and_true : (a : Bool) → a && true ≡ a
      and_true a = grind arith

  pub column_out : (j v : ℕ) → j < m → v < n → is_output g v ≡ true → columns_of basis j v ≡ false
  column_out j v jm vn o =
      h.columns j v jm vn
      ∙ and_right (joins g.edges v (order j)) (not (is_output g v))
      (ap (λ (b : Bool). not b) o)

  sum_at : (s : Bits) (v : ℕ) → v < n → is_output g v ≡ false →
      odd m (λ j. s j && columns_of basis j v) ≡ odd_neighbourhood g (chosen s) v
  sum_at s v vn o =
      odd-same m (λ j. s j && columns_of basis j v) (λ j. s j && joins g.edges v (order j))
      (λ j jm. ap (λ (b : Bool). s j && b) (column_at j v jm vn o))
      ∙ sym (chosen_odd s v)

  module _ (u : ℕ) (no : is_output g u ≡ false) where
    -- a set of columns that solves `u` is a correction
    pub solution_corrects : (s : Bits) → Solves n m (columns_of basis) u s →
        IsCorrection g layer k u (chosen s)
    solution_corrects s f = record {
      within = λ w e. chosen_has s w
          (λ j jm _ x. subst (λ (a : ℕ). a < n) (sym x) (h.vertices j jm)) e;
      no_input = λ w e. chosen_has s w
          (λ j jm _ x. subst (λ (a : ℕ). is_input g a ≡ false) (sym x) (h.no_input j jm)) e;
      before = λ w e. chosen_has s w
          (λ j jm _ x. subst (λ (a : ℕ). layer a < k) (sym x) (below (order j) (h.before j jm))) e;
      alone = λ v vn o. sym (sum_at s v vn o) ∙ f v vn;
    }

    -- the columns of a correction
    abbrev pub columns_in : Bits → Bits
    columns_in t = λ j. t (order j)

    pub columns_back : (t : Bits) → IsCorrection g layer k u t → (w : ℕ) →
        chosen (columns_in t) w ≡ t w
    columns_back t c w =
        same_truth (chosen (columns_in t) w) (t w)
        (λ e. chosen_has (columns_in t) w
        (λ j jm x y. subst (λ (a : ℕ). t a ≡ true) (sym y) x) e)
        (λ e.
        let found = h.complete w (c.within w e) (c.no_input w e) (inl (c.before w e)) in
        subst (λ (a : ℕ). chosen (columns_in t) a ≡ true) found.2
        (chosen_at (columns_in t) found.0 found.1
        ∙ subst (λ (a : ℕ). t a ≡ true) (sym found.2) e))

    -- a correction solves `u`
    pub correction_solves : (t : Bits) → IsCorrection g layer k u t →
        Solves n m (columns_of basis) u (columns_in t)
    correction_solves t c v vn = by (is_output g v) refl
      where
        by : (b : Bool) → is_output g v ≡ b →
            odd m (λ j. columns_in t j && columns_of basis j v) ≡ single u v
        by true o =
            odd-none m (λ j. columns_in t j && columns_of basis j v)
            (λ j jm. and_right (columns_in t j) (columns_of basis j v) (column_out j v jm vn o))
            ∙ sym (single_other u v (λ e. clash (is_output g u)
            (subst (λ (a : ℕ). is_output g a ≡ true) e o) no))
        by false o =
            sum_at (columns_in t) v vn o
            ∙ odd-same n (λ w. chosen (columns_in t) w && joins g.edges v w)
            (λ w. t w && joins g.edges v w)
            (λ w _. ap (λ (b : Bool). b && joins g.edges v w) (columns_back t c w))
            ∙ c.alone v vn o

    -- and the least solution is the least correction
    pub least_correction : (s : Bits) → IsLeast m (Solves n m (columns_of basis) u) s →
        IsLeastSet (IsLaterCandidate layer) n (IsCorrection g layer k u) (chosen s)
    least_correction s f = record {
      has = solution_corrects s f.has;
      least = λ t c. by t c (f.least (columns_in t) (correction_solves t c));
    }
      where
        after_last : (t : Bits) → IsCorrection g layer k u t → (d : ℕ) → d < m →
            ((j : ℕ) → j < m → d < j → s j ≡ columns_in t j) → (w : ℕ) →
            IsLaterCandidate layer (order d) w → chosen s w ≡ t w
        after_last t c d dm same w later =
            same_truth (chosen s w) (t w)
            (λ e. chosen_has s w (λ j jm x y.
            let gt = behind j jm (subst (λ (a : ℕ). IsLaterCandidate layer (order d) a) y later) in
            subst (λ (a : ℕ). t a ≡ true) (sym y) (sym (same j jm gt) ∙ x)) e)
            (λ e.
            let found = h.complete w (c.within w e) (c.no_input w e) (inl (c.before w e)) in
            let gt = behind found.0 found.1
            (subst (λ (a : ℕ). IsLaterCandidate layer (order d) a) (sym found.2) later) in
            subst (λ (a : ℕ). chosen s a ≡ true) found.2
            (chosen_at s found.0 found.1 ∙ same found.0 found.1 gt
            ∙ subst (λ (a : ℕ). t a ≡ true) (sym found.2) e))
          where
            behind : (j : ℕ) → j < m → IsLaterCandidate layer (order d) (order j) → d < j
            behind j jm l = elim (same_or_not j d) [
              | inl e ↦
                  absurd (not_itself (order d)
                  (subst (λ (a : ℕ). IsLaterCandidate layer (order d) (order a)) e l))
              | inr ne ↦ elim (two_sides d j ne) [
                | inl lt ↦ absurd (not_earlier d j lt dm l)
                | inr gt ↦ gt
              ]
            ]

        by : (t : Bits) → IsCorrection g layer k u t →
            SameBelow m s (columns_in t) ⊎ IsLess (λ d j. d < j) m s (columns_in t) →
            SameBelow n (chosen s) t ⊎ IsLess (IsLaterCandidate layer) n (chosen s) t
        by t c (inl same) = inl (λ w _.
            odd-same m (λ j. s j && nat_eq w (order j)) (λ j. columns_in t j && nat_eq w (order j))
            (λ j jm. ap (λ (b : Bool). b && nat_eq w (order j)) (same j jm))
            ∙ columns_back t c w)
        by t c (inr less) = inr (record {
          last = order less.last;
          vertex = h.vertices less.last less.vertex;
          lacks = chosen_at s less.last less.vertex ∙ less.lacks;
          holds = less.holds;
          same_after = λ w _ later. after_last t c less.last less.vertex less.same_after w later;
        })
