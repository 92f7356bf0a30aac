-- The least set that keeps a vertex above a layer is the least refuter of its column.
use Rattle.std.specs.Prelude.{◌≡◌, ◌⊎◌, ℕ, ◌<◌, ◌≤◌, Bool, true, false, not, ◌&&◌, nat_lt, refl}
use Rattle.std.proofs.Common.{arith, sym, ap, ap₂, subst, ◌∙◌, inl, inr}
use Rattle.std.proofs.lemmas.Bool.{true≢false, false≢true, ltb-true}
use Rattle.mc_model.specs.Bits.{Bits, odd}
use Rattle.mc_model.specs.Graph.{OpenGraph, size, is_input, is_output, joins}
use Rattle.mc_model.specs.Choice.{IsLeastLayer, IsLeastSet, IsLess, IsLaterNumber, SameBelow}
use Rattle.mc_model.specs.Flow.{IsFlow}
use Rattle.mc_model.specs.Depth.{KeepsAbove}
use Rattle.mc_model.proofs.OddSums.{odd-same, odd-none}
use Rattle.mc_model.proofs.Refutation.{joins_comm}
use Rattle.mc_model.proofs.DepthBounds.{from_parts, from_both, from_not}
use Rattle.mc_elim.specs.Systems.{Columns, Refutes, IsLeast}
use Rattle.mc_elim.specs.Basis.{Inserted, IsLeastRefuter, HasNoRefuter, count_of, columns_of}
use Rattle.mc_least.specs.Columns.{is_from, is_candidate, column_of, IsBasisFor}
use Rattle.mc_least.specs.Rows.{IsSetDue}
use Rattle.mc_least.proofs.Bounds.{bounds_exist, keeps_same}

both_parts : (a b : Bool) → a && b ≡ true → (a ≡ true) × (b ≡ true)
both_parts true b e = (refl, e)
both_parts false b e = absurd (false≢true e)

nots : (a b : Bool) → (not a && not b) ≡ true → (a ≡ false) × (b ≡ false)
nots false false e = (refl, refl)
nots false true e = absurd (false≢true e)
nots true b e = absurd (false≢true e)

-- a bit of a column of no candidate, and of one
closed : (y j f : Bool) → y && (j && (false && f)) ≡ false
closed y j f = grind arith

opened : (y j f : Bool) → (y ≡ true → f ≡ true) → y && (j && (true && f)) ≡ y && j
opened false j f h = refl
opened true j f h = rw (h refl) (kept j)
  where
    kept : (j : Bool) → true && (j && (true && true)) ≡ true && j
    kept j = grind arith

part : (y j f : Bool) → (y && f) && j ≡ y && (j && (true && f))
part y j f = grind arith

module _ (g : OpenGraph) (layer : ℕ → ℕ) (k u : ℕ) (due : IsSetDue g layer k u)
    (cols : Columns)
    (are : (w v : ℕ) → w < size g → v < size g → cols w v ≡ column_of g layer k w v) where
  abbrev IsRefuter : Bits → Type 0
  IsRefuter y = Refutes (size g) (size g) cols u y

  -- what keeps the vertex meets each column evenly
  even_column : (y : Bits) → KeepsAbove g layer k u y → (w : ℕ) → w < size g → (b : Bool) →
      is_candidate g layer k w ≡ b → odd (size g) (λ v. y v && cols w v) ≡ false
  even_column y h w l false e =
      odd-none (size g) (λ v. y v && cols w v) (λ v i.
      ap (λ (c : Bool). y v && c) (are w v l i)
      ∙ ap (λ (c : Bool). y v && (joins g.edges v w && (c && is_from g layer k v))) e
      ∙ closed (y v) (joins g.edges v w) (is_from g layer k v))
  even_column y h w l true e =
      let parts = nots (is_input g w) (is_from g layer k w) e in
      odd-same (size g) (λ v. y v && cols w v) (λ v. y v && joins g.edges w v) (λ v i.
      ap (λ (c : Bool). y v && c) (are w v l i)
      ∙ ap (λ (c : Bool). y v && (joins g.edges v w && (c && is_from g layer k v))) e
      ∙ opened (y v) (joins g.edges v w) (is_from g layer k v)
      (λ t. let held = h.within v i t in from_both g layer k v held.0 held.1)
      ∙ ap (λ (c : Bool). y v && c) (joins_comm g.edges v w))
      ∙ h.even w l parts.0 (from_not g layer k w parts.1)

  pub refutes_of : (y : Bits) → KeepsAbove g layer k u y → IsRefuter y
  refutes_of y h = (λ w l. even_column y h w l (is_candidate g layer k w) refl, h.holds)

  kept_part : Bits → Bits
  kept_part y = λ v. y v && is_from g layer k v

  candidate : (w : ℕ) → is_input g w ≡ false → (is_output g w ≡ true) ⊎ (layer w < k) →
      is_candidate g layer k w ≡ true
  candidate w free outside =
      ap₂ (λ (a b : Bool). not a && not b) free (not_from (is_from g layer k w) refl outside)
    where
      not_from : (b : Bool) → is_from g layer k w ≡ b →
          (is_output g w ≡ true) ⊎ (layer w < k) → is_from g layer k w ≡ false
      not_from false e outside = e
      not_from true e (inl o) = absurd (true≢false (sym o ∙ (from_parts g layer k w e).0))
      not_from true e (inr low) = let high = (from_parts g layer k w e).1 in absurd (omega arith)

  -- of a refuter the part from the layer on keeps the vertex
  keeps_of : (y : Bits) → IsRefuter y → KeepsAbove g layer k u (kept_part y)
  unfolding kept_part
  keeps_of y h = record {
    holds = ap₂ (λ (a b : Bool). a && b) h.1
        (let high = due.above in from_both g layer k u due.no_output (omega arith));
    within = λ v i e. from_parts g layer k v (both_parts (y v) (is_from g layer k v) e).1;
    even = λ w i free outside.
        odd-same (size g) (λ v. kept_part y v && joins g.edges w v) (λ v. y v && cols w v)
        (λ v l.
        ap (λ (c : Bool). (y v && is_from g layer k v) && c) (joins_comm g.edges w v)
        ∙ part (y v) (joins g.edges v w) (is_from g layer k v)
        ∙ ap (λ (c : Bool). y v && (joins g.edges v w && (c && is_from g layer k v)))
        (sym (candidate w free outside))
        ∙ ap (λ (c : Bool). y v && c) (sym (are w v i l)))
        ∙ h.0 w i;
  }

  -- the least refuter is its own part
  pub least_keeps : (y : Bits) → IsLeast (size g) IsRefuter y →
      IsLeastSet IsLaterNumber (size g) (KeepsAbove g layer k u) y
  unfolding kept_part
  least_keeps y h = record {
    has = keeps_same g layer k u due.vertex (kept_part y) y same (keeps_of y h.has);
    least = λ t p. h.least t (refutes_of t p);
  }
    where
      by : SameBelow (size g) y (kept_part y) ⊎ IsLess IsLaterNumber (size g) y (kept_part y) →
          SameBelow (size g) (kept_part y) y
      by (inl all) = λ v l. sym (all v l)
      by (inr less) =
          absurd (true≢false
          (sym (both_parts (y less.last) (is_from g layer k less.last) less.holds).0 ∙ less.lacks))

      same : SameBelow (size g) (kept_part y) y
      same = by (h.least (kept_part y) (refutes_of (kept_part y) (keeps_of y h.has)))

-- for the basis of a layer
module _ (g : OpenGraph) (layer : ℕ → ℕ) (k u : ℕ) (basis : Inserted)
    (is : IsBasisFor g layer k basis) (due : IsSetDue g layer k u) where
  pub least_of_basis : (y : Bits) → IsLeastRefuter basis u y →
      IsLeastSet IsLaterNumber (size g) (KeepsAbove g layer k u) y
  least_of_basis y h =
      least_keeps g layer k u due (columns_of basis) is.column y
      (subst (λ (m : ℕ). IsLeast (size g) (Refutes (size g) m (columns_of basis) u) y) is.count
      (subst (λ (n : ℕ). IsLeast n (Refutes n (count_of basis) (columns_of basis) u) y) is.rows h))

  -- each vertex that is due has a refuter
  pub some_refuter : (sets : ℕ → Bits) → IsFlow g sets layer →
      ((v : ℕ) → v < size g → IsLeastLayer g v (layer v)) → HasNoRefuter basis u → ⊥
  some_refuter sets f least none =
      let found = bounds_exist g sets layer f least in
      let y = found.0 k u in
      let keeps = (found.1.least k u due.positive due.above due.vertex due.no_output).has in
      let refutes = refutes_of g layer k u due (columns_of basis) is.column y keeps in
      none y
      (subst (λ (n : ℕ). Refutes n (count_of basis) (columns_of basis) u y) (sym is.rows)
      (subst (λ (m : ℕ). Refutes (size g) m (columns_of basis) u y) (sym is.count) refutes))

-- what is due of a vertex that is above the layer
pub set_due : (g : OpenGraph) (layer : ℕ → ℕ) (k u : ℕ) → 1 ≤ k → u < size g →
    not (is_output g u) && nat_lt k (layer u) ≡ true → IsSetDue g layer k u
set_due g layer k u one l e =
    let parts = both_parts (not (is_output g u)) (nat_lt k (layer u)) e in
    record {
      positive = one;
      above = ltb-true k (layer u) parts.1;
      vertex = l;
      no_output = turned (is_output g u) parts.0;
    }
  where
    turned : (b : Bool) → not b ≡ true → b ≡ false
    turned b e = grind arith
