-- What a basis answers.
use Rattle.std.specs.Prelude.{◌≡◌, ◌≢◌, ℕ, ◌+◌, ◌<◌, Bool, false, List, length, take, slice_index}
use Rattle.std.proofs.Common.{arith, sym, ap, subst, ◌∙◌, inl, inr, length-take}
use mathlib.Core.Path.{fun_ext}
use Rattle.mc_model.specs.Bits.{Bits}
use Rattle.mc_model.specs.Flow.{single}
use Rattle.mc_bits.specs.Words.{IsNextBit, HasNoBit}
use Rattle.mc_bits.specs.Rows.{bit_of}
use Rattle.mc_elim.specs.Systems.{Columns, Solves, Refutes, IsLeast}
use Rattle.mc_elim.specs.Reduced.{Reduced, AreApart, null_set}
use Rattle.mc_elim.specs.Tables.{entry}
use Rattle.mc_elim.specs.Basis.{Inserted, HoldsBasis, IsLeastSolution, HasSolution, HasNoSolution}
use Rattle.mc_elim.specs.Basis.{IsLeastRefuter, HasNoRefuter, HasOneColumn}
use Rattle.mc_elim.proofs.LeastSets.{refuted}
use Rattle.mc_elim.proofs.ReducedGrows.{least_single, solved_first, least_null_free}
use Rattle.mc_elim.proofs.ReducedGrows.{least_null_next}
use Rattle.mc_elim.proofs.BitSums.{single_itself, single_other, single_member, clash, two_sides}
use Rattle.mc_elim.proofs.BitSums.{same_or_not}

-- first rows differ
pub firsts_apart : (n m k : ℕ) (columns : Columns) (p : ℕ → ℕ) (b q : ℕ → Bits) →
    Reduced n m k columns p b q → AreApart n k p
firsts_apart n m k columns p b q h = record {
  below = h.inside;
  apart = λ i j l g e.
      single_member j i
      (sym (h.own i j l g) ∙ ap (b i) (sym e) ∙ h.own i i l l ∙ single_itself i);
}

module _ (n room m k : ℕ) (vectors columns : List (List Bool)) (firsts numbers : List ℕ)
    (has_added : Bool) (h : HoldsBasis n room m k vectors columns firsts numbers has_added) where
  abbrev pub seen : Inserted
  seen = record {
    rows = n;
    room = room;
    columns = take m columns;
    has_added = has_added;
  }

  pub taken : length (take m columns) ≡ m
  taken =
      let e = h.columns_count in
      let f = h.within in
      omega (arith, length-take m columns)

  abbrev c : Columns
  c = entry (take m columns)

  abbrev p : ℕ → ℕ
  p = slice_index firsts

  abbrev q : ℕ → Bits
  q i = λ j. entry vectors i (n + j)

  bits_are : (f g : Bits) → ((r : ℕ) → f r ≡ g r) → g ≡ f
  bits_are f g e = fun_ext λ r. sym (e r)

  module _ (u : ℕ) (within : u < n) where
    -- ---- where `u` is no first row

    module _ (free : (i : ℕ) → i < k → p i ≢ u) where
      pub free_no_solution : HasNoSolution seen u
      free_no_solution s g =
          solved_first n m k c p (entry vectors) q h.reduced s u within
          (subst (λ (a : ℕ). Solves n a c u s) taken g)
          (λ i l e _. free i l e)

      pub free_refuter : (out : List Bool) →
          ((r : ℕ) → bit_of out r ≡ null_set k p (entry vectors) u r) →
          IsLeastRefuter seen u (bit_of out)
      free_refuter out e =
          subst (λ (a : ℕ). IsLeast n (Refutes n a c u) (bit_of out)) (sym taken)
          (subst (IsLeast n (Refutes n m c u))
          (bits_are (bit_of out) (null_set k p (entry vectors) u) e)
          (least_null_free n m k c p (entry vectors) q h.reduced u within free))

    -- ---- where it is the first row of the vector `i`

    module _ (i : ℕ) (l : i < k) (first : p i ≡ u) where
      -- that holds another row

      module _ (f : ℕ) (next : IsNextBit (entry vectors i) (u + 1) n f) where
        pub next_no_solution : HasNoSolution seen u
        next_no_solution s g =
            solved_first n m k c p (entry vectors) q h.reduced s u within
            (subst (λ (a : ℕ). Solves n a c u s) taken g)
            (λ a al e whole.
            let above = next.above in
            let same : a ≡ i = single_member i a
            (sym (h.reduced.own a i al l)
            ∙ ap (entry vectors a) (first ∙ sym e)
            ∙ h.reduced.own a a al al
            ∙ single_itself a) in
            clash (entry vectors i f) next.has
            (ap (λ (z : ℕ). entry vectors z f) (sym same)
            ∙ whole f next.below
            ∙ single_other u f (λ z. absurd (omega arith))))

        pub next_refuter : (out : List Bool) →
            ((r : ℕ) → bit_of out r ≡ null_set k p (entry vectors) f r) →
            IsLeastRefuter seen u (bit_of out)
        next_refuter out e =
            let above = next.above in
            subst (λ (a : ℕ). IsLeast n (Refutes n a c u) (bit_of out)) (sym taken)
            (subst (IsLeast n (Refutes n m c u))
            (bits_are (bit_of out) (null_set k p (entry vectors) f) e)
            (subst (λ (z : ℕ). IsLeast n (Refutes n m c z) (null_set k p (entry vectors) f)) first
            (least_null_next n m k c p (entry vectors) q h.reduced i f l next.below
            (omega arith) next.has
            (λ r x y. next.first r (omega arith) y))))

      -- that holds no other row

      module _ (alone : HasNoBit (entry vectors i) (u + 1) n) where
        whole : (r : ℕ) → r < n → entry vectors i r ≡ single (p i) r
        whole r x = elim (same_or_not r (p i)) [
          | inl e ↦
              ap (entry vectors i) e
              ∙ h.reduced.own i i l l
              ∙ single_itself i
              ∙ sym (single_itself (p i))
              ∙ ap (single (p i)) (sym e)
          | inr ne ↦
              elim (two_sides (p i) r ne) [
                | inl lt ↦ h.reduced.first i r l lt
                | inr gt ↦ alone r (omega arith) x
              ]
              ∙ sym (single_other (p i) r ne)
        ]

        pub alone_solution : (out : List Bool) →
            ((j : ℕ) → bit_of out j ≡ entry vectors i (n + j)) →
            IsLeastSolution seen u (bit_of out)
        alone_solution out e =
            subst (λ (a : ℕ). IsLeast a (Solves n a c u) (bit_of out)) (sym taken)
            (subst (IsLeast m (Solves n m c u)) (bits_are (bit_of out) (q i) e)
            (subst (λ (z : ℕ). IsLeast m (Solves n m c z) (q i)) first
            (least_single n m k c p (entry vectors) q h.reduced i l whole)))

        pub alone_one_column : (out : List Bool) →
            ((j : ℕ) → bit_of out j ≡ entry vectors i (n + j)) → has_added ≡ false →
            HasOneColumn seen (bit_of out)
        alone_one_column out e none =
            let one = h.alone none i l in
            (one.0, subst (λ (a : ℕ). one.0 < a) (sym taken) one.1, λ j. e j ∙ one.2 j)

        pub alone_no_refuter : HasNoRefuter seen u
        alone_no_refuter y g =
            refuted n m c y (q i) u within (subst (λ (a : ℕ). Refutes n a c u y) taken g)
            (subst (λ (z : ℕ). Solves n m c z (q i)) first
            (least_single n m k c p (entry vectors) q h.reduced i l whole).has)

        pub alone_has_solution : HasSolution seen u
        alone_has_solution = (
          q i,
          subst (λ (a : ℕ). Solves n a c u (q i)) (sym taken)
              (subst (λ (z : ℕ). Solves n m c z (q i)) first
              (least_single n m k c p (entry vectors) q h.reduced i l whole).has),
        )
