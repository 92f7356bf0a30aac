-- A matrix that is filled entry by entry.
use Rattle.std.proofs.Common.{◌≡◌, ◌⊎◌, ℕ, zero, suc, ◌+◌, ◌*◌, ◌/◌}
use Rattle.std.proofs.Common.{◌%◌, ◌^◌, ◌<◌, ◌≤◌, List, sym}
use Rattle.std.proofs.Common.{ap}
use Rattle.std.proofs.Common.{ap₂, ◌∙◌, subst, inl, inr, pow_mono, arith}
use Rattle.std.specs.Prelude.{◌≢◌, ℤ}
use Rattle.std.proofs.lemmas.Bool.{cases_eq}
use Rattle.std.proofs.lemmas.Nat.{div-mul-add, mod-mul-add, div-add-mod', pow-add}
use Rattle.std.proofs.Math.Nat.{div-lt_iff_lt-mul, mod-lt}
use Rattle.mc_ring.specs.Matrices.{Entries, at}

-- the entries at the first `i` places
pub record IsFilled (rows columns : ℕ) (f : ℕ → ℕ → List ℤ) (m : Entries) (i : ℕ) : Type 0 where
  pub rows_are : m.rows ≡ rows
  pub columns_are : m.columns ≡ columns
  pub entry : (y b : ℕ) → y < rows → b < columns → y * columns + b < i → at m y b ≡ f y b

positive : (i m n : ℕ) → i < m * n → 0 < n
positive i m zero h = absurd (omega arith)
positive i m (suc n) h = omega arith

pub row_below : (i m n : ℕ) → i < m * n → i / n < m
row_below i m n h =
    let positive : 0 < n = positive i m n h in
    let parts : i / n * n + i % n ≡ i = div-add-mod' i n in
    grind (arith, div-lt_iff_lt-mul)

pub column_below : (i m n : ℕ) → i < m * n → i % n < n
column_below i m n h = mod-lt i (positive i m n h)

pub place_below : (m n r c : ℕ) → r < m → c < n → r * n + c < m * n
place_below m n r c h k = grind arith

apart : (y b n i : ℕ) → y * n + b ≢ i → (y ≢ i / n) ⊎ (b ≢ i % n)
apart y b n i ne = elim (cases_eq y (i / n)) [
  | inl e ↦ inr (λ f. ne (ap₂ (λ (r c : ℕ). r * n + c) e f ∙ div-add-mod' i n))
  | inr other ↦ inl other
]

-- one entry more
pub filled_next : (rows columns : ℕ) (f : ℕ → ℕ → List ℤ) (m next : Entries) (i : ℕ) →
    IsFilled rows columns f m i →
    (next.rows ≡ m.rows) × (next.columns ≡ m.columns) →
    at next (i / columns) (i % columns) ≡ f (i / columns) (i % columns) →
    ((y b : ℕ) → y < m.rows → b < m.columns → (y ≢ i / columns) ⊎ (b ≢ i % columns) →
    at next y b ≡ at m y b) →
    IsFilled rows columns f next (i + 1)
filled_next rows columns f m next i held sizes here others = record {
  rows_are = sizes.0 ∙ held.rows_are;
  columns_are = sizes.1 ∙ held.columns_are;
  entry = λ y b h k l. elim (cases_eq (y * columns + b) i) [
    | inl e ↦
        let row : y ≡ i / columns =
        sym (div-mul-add y columns b k) ∙ ap (λ (x : ℕ). x / columns) e in
        let column : b ≡ i % columns =
        sym (mod-mul-add y columns b k) ∙ ap (λ (x : ℕ). x % columns) e in
        rw (row, column) here
    | inr ne ↦
        others y b (rw held.rows_are h) (rw held.columns_are k) (apart y b columns i ne)
        ∙ held.entry y b h k (omega arith)
  ];
}

pub all_filled : (rows columns : ℕ) (f : ℕ → ℕ → List ℤ) (m : Entries) (i : ℕ) →
    IsFilled rows columns f m i → rows * columns ≤ i → (y b : ℕ) → y < rows → b < columns →
    at m y b ≡ f y b
all_filled rows columns f m i held past y b h k =
    let below = place_below rows columns y b h k in
    held.entry y b h k (omega arith)

pub few_entries : (m n : ℕ) → m + n ≤ 20 → 2 ^ m * 2 ^ n ≤ 1048576
few_entries m n le = subst (λ (k : ℕ). k ≤ 2 ^ 20) (pow-add 2 m n) (pow_mono le)
