-- What a basis of the columns of a matrix tells of the matrix.
use Rattle.std.specs.Prelude.{◌≡◌, ℕ, ◌+◌, ◌<◌, ◌≤◌, ◌⊎◌, Bool, true, false, ◌&&◌, List, []}
use Rattle.std.specs.Prelude.{◌∷◌}
use Rattle.std.specs.Prelude.{◌++◌, length, slice_get, Some, slice_index_or, refl}
use Rattle.std.proofs.Common.{arith, sym, ap, subst, ◌∙◌, inl, inr, length-append}
use Rattle.std.proofs.lemmas.List.{get_or_append_left, get_or_push}
use Rattle.std.proofs.lemmas.Option.{slice_get_within, get_or_from_slice_get, slice_get-get_or}
use mathlib.Core.Path.{fun_ext}
use Rattle.mc_model.specs.Bits.{Bits}
use Rattle.mc_model.specs.Numbers.{is_member}
use Rattle.mc_model.proofs.OddSums.{odd-same}
use Rattle.mc_ring.specs.Matrices.{Entries}
use Rattle.mc_bits.specs.Rows.{bit_of}
use Rattle.mc_elim.specs.Systems.{Columns, Solves, Refutes, IsLeast}
use Rattle.mc_elim.specs.Basis.{Inserted, count_of, columns_of}
use Rattle.mc_elim.specs.Tables.{entry}
use Rattle.mc_elim.specs.Units.{columns_in, IsAnswer, AreAnswers, AreUnits}
use Rattle.mc_elim.specs.Units.{IsSolutionIn, IsRefuterIn}
use Rattle.mc_elim.specs.declared.units.Answer.{Answer}
use Rattle.mc_elim.specs.declared.units.Answer.TheVariants.{Solution, Refuter}
use Rattle.mc_elim.proofs.BitSums.{clash}

pub not_false : (b : Bool) → (b ≡ false → ⊥) → b ≡ true
not_false true h = refl
not_false false h = absurd (h refl)

below_bound : (f : Bits) (n j : ℕ) → ((j : ℕ) → n ≤ j → f j ≡ false) → f j ≡ true → j < n
below_bound f n j none e = elim (sides j n) [
  | inl lt ↦ lt
  | inr ge ↦ absurd (clash (f j) e (none j ge))
]
  where
    sides : (j n : ℕ) → (j < n) ⊎ (n ≤ j)
    sides j n = grind arith

-- the members are those of a row that has none from `n` on
pub members_below : (s row : Bits) (n : ℕ) → ((k : ℕ) → s k ≡ row k) →
    ((j : ℕ) → n ≤ j → row j ≡ false) → (j : ℕ) → s j ≡ true → j < n
members_below s row n same none j e = below_bound row n j none (sym (same j) ∙ e)

pub least_by_members : (n : ℕ) (P : Bits → Type 0) (row s : Bits) →
    ((k : ℕ) → s k ≡ row k) → IsLeast n P row → IsLeast n P s
least_by_members n P row s same h =
    let e : s ≡ row = fun_ext same in
    subst (λ (t : Bits). IsLeast n P t) (sym e) h

-- the last of a list, or one before it
pub pushed : {A : Type 0} {P : Type 0} (xs : List A) (x y : A) (u : ℕ) →
    slice_get (xs ++ x ∷ []) u ≡ Some y → (slice_get xs u ≡ Some y → P) →
    (u ≡ length xs → y ≡ x → P) → P
pushed xs x y u e before last =
    let within : u < length (xs ++ x ∷ []) = slice_get_within (xs ++ x ∷ []) u y e in
    let read : slice_index_or (xs ++ x ∷ []) u y ≡ y =
    get_or_from_slice_get (xs ++ x ∷ []) u y y e in
    elim (sides u (length xs) (length (xs ++ x ∷ [])) within (length-append xs (x ∷ []))) [
      | inl lt ↦ before
          (slice_get-get_or xs u y lt
          ∙ ap Some (sym (get_or_append_left xs (x ∷ []) y u lt) ∙ read))
      | inr at ↦ last at (sym read ∙ get_or_push xs x y u (sym at))
    ]
  where
    sides : (u n m : ℕ) → u < m → m ≡ n + 1 → (u < n) ⊎ (u ≡ n)
    sides u n m l e = grind arith

module _ (n m : ℕ) (c c' : Columns) (same : (j r : ℕ) → j < m → r < n → c j r ≡ c' j r) where
  pub solves_alike : (u : ℕ) (s : Bits) → Solves n m c u s → Solves n m c' u s
  solves_alike u s h r l =
      odd-same m (λ j. s j && c' j r) (λ j. s j && c j r)
      (λ j k. ap (λ (b : Bool). s j && b) (sym (same j r k l)))
      ∙ h r l

  pub refutes_alike : (u : ℕ) (y : Bits) → Refutes n m c u y → Refutes n m c' u y
  refutes_alike u y h = (
    λ j l.
        odd-same n (λ r. y r && c' j r) (λ r. y r && c j r)
        (λ r k. ap (λ (b : Bool). y r && b) (sym (same j r l k)))
        ∙ h.0 j l,
    h.1,
  )

pub least_alike : (n : ℕ) (P Q : Bits → Type 0) (s : Bits) → ((t : Bits) → P t → Q t) →
    ((t : Bits) → Q t → P t) → IsLeast n P s → IsLeast n Q s
least_alike n P Q s to from h = record {
  has = to s h.has;
  least = λ t q. h.least t (from t q);
}

-- the basis has the columns of the matrix
module _ (a : Entries) (basis : Inserted) (rows : basis.rows ≡ a.rows)
    (count : count_of basis ≡ a.columns)
    (columns : (j r : ℕ) → j < a.columns → r < a.rows → columns_of basis j r ≡ columns_in a j r)
  where
    columns_back : (j r : ℕ) → j < a.columns → r < a.rows →
        columns_in a j r ≡ columns_of basis j r
    columns_back j r l k = sym (columns j r l k)

    at_sizes : (P : ℕ → ℕ → Type 0) → P basis.rows (count_of basis) → P a.rows a.columns
    at_sizes P h = subst (λ (m : ℕ). P a.rows m) count
        (subst (λ (n : ℕ). P n (count_of basis)) rows h)

    solution_in : (u : ℕ) (s : List ℕ) → IsAnswer basis u (Solution s) → IsSolutionIn a u s
    solution_in u s h = record {
      least = least_alike a.columns (Solves a.rows a.columns (columns_of basis) u)
          (Solves a.rows a.columns (columns_in a) u) (is_member s)
          (solves_alike a.rows a.columns (columns_of basis) (columns_in a) columns u)
          (solves_alike a.rows a.columns (columns_in a) (columns_of basis) columns_back u)
          (at_sizes (λ n m. IsLeast m (Solves n m (columns_of basis) u) (is_member s)) h.0);
      within = at_sizes (λ n m. (j : ℕ) → is_member s j ≡ true → j < m) h.1;
    }

    refuter_in : (u : ℕ) (y : List ℕ) → IsAnswer basis u (Refuter y) → IsRefuterIn a u y
    refuter_in u y h = record {
      least = least_alike a.rows (Refutes a.rows a.columns (columns_of basis) u)
          (Refutes a.rows a.columns (columns_in a) u) (is_member y)
          (refutes_alike a.rows a.columns (columns_of basis) (columns_in a) columns u)
          (refutes_alike a.rows a.columns (columns_in a) (columns_of basis) columns_back u)
          (at_sizes (λ n m. IsLeast n (Refutes n m (columns_of basis) u) (is_member y)) h.0);
      within = at_sizes (λ n m. (r : ℕ) → is_member y r ≡ true → r < n) h.1;
      unsolved = λ s solves.
          at_sizes (λ n m. (s : Bits) → Solves n m (columns_of basis) u s → ⊥) h.2 s
          (solves_alike a.rows a.columns (columns_in a) (columns_of basis) columns_back u s solves);
    }

    pub units_in : (n : ℕ) (units : List Answer) → n ≡ a.rows → AreAnswers basis n units →
        AreUnits a units
    units_in n units e held = record {
      count = held.count ∙ e;
      solution = λ u s h. solution_in u s (held.each u (Solution s) h);
      refuter = λ u y h. refuter_in u y (held.each u (Refuter y) h);
    }
