-- A product of matrices that is made entry by entry.
use Rattle.std.specs.Prelude.{◌≡◌, ◌≢◌, ◌⊎◌, ℕ, zero, suc, ◌+◌, ◌*◌, ◌/◌, ◌%◌, ◌<◌, ℤ}
use Rattle.std.specs.Prelude.{List}
use Rattle.std.proofs.Common.{arith, sym, ap, ap₂, ◌∙◌, subst, inl, inr}
use Rattle.std.proofs.lemmas.Bool.{cases_eq}
use Rattle.std.proofs.lemmas.Nat.{div-mul-add, mod-mul-add, div-add-mod'}
use Rattle.std.proofs.Math.Nat.{div-lt_iff_lt-mul, mod-lt}
use Rattle.mc_ring.specs.Matrices.{Entries, at, products, sum_below, StaysBelow}

-- the first entries are sums of products, each of which stays in the range
pub record IsMade (InRange : List ℤ → Type 0) (nought : List ℤ)
    (sum product : List ℤ → List ℤ → List ℤ) (a b made : Entries) (i : ℕ) : Type 0 where
  pub rows : made.rows ≡ a.rows
  pub columns : made.columns ≡ b.columns
  pub entry : (r c : ℕ) → r < a.rows → c < b.columns → r * b.columns + c < i →
      at made r c ≡ sum_below nought sum (products product a b r c) a.columns
  pub stays : (r c : ℕ) → r < a.rows → c < b.columns → r * b.columns + c < i →
      StaysBelow InRange nought sum (products product a b r c) a.columns

positive : (i m n : ℕ) → i < m * n → 0 < n
positive i m zero h = absurd (omega arith)
positive i m (suc n) h = omega arith

pub row_below : (i m n : ℕ) → i < m * n → i / n < m
row_below i m n h =
    let positive : 0 < n = positive i m n h in
    let parts : i / n * n + i % n ≡ i = div-add-mod' i n in
    grind (arith, div-lt_iff_lt-mul)

pub column_below : (i m n : ℕ) → i < m * n → i % n < n
column_below i m n h = mod-lt i (positive i m n h)

module _ (InRange : List ℤ → Type 0) (nought : List ℤ) (sum product : List ℤ → List ℤ → List ℤ)
    (a b made : Entries) where
  pub nothing_made : made.rows ≡ a.rows → made.columns ≡ b.columns →
      IsMade InRange nought sum product a b made 0
  nothing_made e f = record {
    rows = e;
    columns = f;
    entry = λ r c h k l. absurd (omega arith);
    stays = λ r c h k l. absurd (omega arith);
  }

  module _ (i : ℕ) (next : Entries) (held : IsMade InRange nought sum product a b made i)
      (within : i < a.rows * b.columns)
      (rows : next.rows ≡ made.rows) (columns : next.columns ≡ made.columns)
      (others : (r c : ℕ) → r < made.rows → c < made.columns →
      (r ≢ i / b.columns) ⊎ (c ≢ i % b.columns) → at next r c ≡ at made r c)
      (entry : at next (i / b.columns) (i % b.columns) ≡ sum_below nought sum
      (products product a b (i / b.columns) (i % b.columns)) a.columns)
      (stays : StaysBelow InRange nought sum
      (products product a b (i / b.columns) (i % b.columns)) a.columns) where
    apart : (r c : ℕ) → r * b.columns + c ≢ i → (r ≢ i / b.columns) ⊎ (c ≢ i % b.columns)
    apart r c ne = elim (cases_eq r (i / b.columns)) [
      | inl e ↦ inr (λ f. ne (ap₂ (λ (x y : ℕ). x * b.columns + y) e f
          ∙ div-add-mod' i b.columns))
      | inr other ↦ inl other
    ]

    -- the new place, or one that was made before
    data Place (r c : ℕ) : Type 0 where
      here : r ≡ i / b.columns → c ≡ i % b.columns → Place r c
      before : r * b.columns + c < i → (r ≢ i / b.columns) ⊎ (c ≢ i % b.columns) → Place r c

    place : (r c : ℕ) → c < b.columns → r * b.columns + c < i + 1 → Place r c
    place r c k l = elim (cases_eq (r * b.columns + c) i) [
      | inl e ↦ here
          (sym (div-mul-add r b.columns c k) ∙ ap (λ (x : ℕ). x / b.columns) e)
          (sym (mod-mul-add r b.columns c k) ∙ ap (λ (x : ℕ). x % b.columns) e)
      | inr ne ↦ before (omega arith) (apart r c ne)
    ]

    entry_at : (r c : ℕ) → r < a.rows → c < b.columns → Place r c →
        at next r c ≡ sum_below nought sum (products product a b r c) a.columns
    entry_at r c h k (here e f) = rw (e, f) entry
    entry_at r c h k (before l ne) =
        others r c (rw held.rows h) (rw held.columns k) ne ∙ held.entry r c h k l

    stays_at : (r c : ℕ) → r < a.rows → c < b.columns → Place r c →
        StaysBelow InRange nought sum (products product a b r c) a.columns
    stays_at r c h k (here e f) =
        subst (λ (x : ℕ). StaysBelow InRange nought sum (products product a b x c) a.columns)
        (sym e) (subst (λ (y : ℕ). StaysBelow InRange nought sum
        (products product a b (i / b.columns) y) a.columns) (sym f) stays)
    stays_at r c h k (before l ne) = held.stays r c h k l

    more : IsMade InRange nought sum product a b next (i + 1)
    more = record {
      rows = rows ∙ held.rows;
      columns = columns ∙ held.columns;
      entry = λ r c h k l. entry_at r c h k (place r c k l);
      stays = λ r c h k l. stays_at r c h k (place r c k l);
    }

  -- the entry at the place `i` is made, where a row has `n` places
  pub one_more : (i n : ℕ) (next : Entries) (value : List ℤ) → n ≡ b.columns →
      IsMade InRange nought sum product a b made i → i < a.rows * b.columns →
      next.rows ≡ made.rows → next.columns ≡ made.columns →
      ((r c : ℕ) → r < made.rows → c < made.columns → (r ≢ i / n) ⊎ (c ≢ i % n) →
      at next r c ≡ at made r c) → at next (i / n) (i % n) ≡ value →
      value ≡ sum_below nought sum (products product a b (i / n) (i % n)) a.columns →
      StaysBelow InRange nought sum (products product a b (i / n) (i % n)) a.columns →
      IsMade InRange nought sum product a b next (i + 1)
  one_more i n next value e held within rows columns =
      subst (λ (n : ℕ). ((r c : ℕ) → r < made.rows → c < made.columns →
      (r ≢ i / n) ⊎ (c ≢ i % n) → at next r c ≡ at made r c) →
      at next (i / n) (i % n) ≡ value →
      value ≡ sum_below nought sum (products product a b (i / n) (i % n)) a.columns →
      StaysBelow InRange nought sum (products product a b (i / n) (i % n)) a.columns →
      IsMade InRange nought sum product a b next (i + 1)) (sym e)
      (λ others entry is. more i next held within rows columns others (entry ∙ is))
