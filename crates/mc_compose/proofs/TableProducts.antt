-- Products of the matrices of two tables.
use Rattle.std.proofs.Common.{◌≡◌, ℕ, zero, suc, ◌^◌, ◌<◌, Bool, List, refl, sym, ap}
use Rattle.std.proofs.Common.{ap₂, ◌∙◌, subst, inl, inr, arith}
use Rattle.std.specs.Prelude.{ℤ}
use Rattle.mc_model.specs.Bits.{bits_of}
use Rattle.mc_model.specs.Ring.{Element, ring, product, plus, times, zeros}
use Rattle.mc_model.specs.Height.{IsInRange}
use Rattle.mc_ring.specs.Matrices as matrices
use Rattle.mc_ring.specs.Matrices.{Entries, at, products, sum_below, IsProduct}
use Rattle.mc_ring.specs.Matrices.{LeavesAt}
use Rattle.mc_run.specs.Settings.{spelled}
use Rattle.mc_run.specs.Tables.{TableValue}
use Rattle.mc_compose.specs.Laws.{SumsRunOverNumbers}
use Rattle.mc_compose.specs.Sums as sums
use Rattle.mc_compose.specs.Products.{IsMatrixOf, terms, IsTableProduct, MultipliesAmplitudes}
use Rattle.mc_compose.specs.Products.{LeavesRange, StaysInRange}

sum_same : (nought : List ℤ) (n : ℕ) (f g : ℕ → List ℤ) → ((c : ℕ) → c < n → f c ≡ g c) →
    sum_below nought plus f n ≡ sum_below nought plus g n
sum_same nought zero f g same = refl
sum_same nought (suc n) f g same =
    ap₂ plus (sum_same nought n f g (λ c lt. same c (omega arith))) (same n (omega arith))

module _ (half : ℕ) (first second : TableValue) (between : first.outputs ≡ second.inputs)
    (a b : Entries) (left : IsMatrixOf second a) (right : IsMatrixOf first b) where
  inner : 2 ^ second.inputs ≡ 2 ^ first.outputs
  inner = ap (λ (n : ℕ). 2 ^ n) (sym between)

  -- the terms of the product of the matrices
  same_terms : (y x c : ℕ) → y < 2 ^ second.outputs → x < 2 ^ first.inputs →
      c < 2 ^ second.inputs → products times a b y x c ≡ terms first second y x c
  same_terms y x c ly lx lc =
      ap₂ times (left.entry y c ly lc)
      (right.entry c x (subst (λ (n : ℕ). c < n) inner lc) lx)

  pub table_product : (m : Entries) → IsProduct (zeros half) plus times a b m →
      IsTableProduct half first second m
  table_product m made = record {
    rows = made.rows ∙ left.rows;
    columns = made.columns ∙ right.columns;
    entry = λ y x ly lx.
        made.entry y x (rw left.rows ly) (rw right.columns lx)
        ∙ ap (sum_below (zeros half) plus (products times a b y x)) left.columns
        ∙ sum_same (zeros half) (2 ^ second.inputs) (products times a b y x)
        (terms first second y x) (λ c lc. same_terms y x c ly lx lc);
  }

  pub stays_in_range :
      matrices.StaysInRange IsInRange (zeros half) plus times a b → StaysInRange half first second
  stays_in_range stays y x ly lx k lk =
      let here = stays y x (rw left.rows ly) (rw right.columns lx) k (rw left.columns lk) in (
        subst IsInRange (same_terms y x k ly lx lk) here.0,
        subst IsInRange
            (sum_same (zeros half) (suc k) (products times a b y x) (terms first second y x)
            (λ c lc. same_terms y x c ly lx (omega arith)))
            here.1,
      )

  leaves_at : (y x k : ℕ) → y < 2 ^ second.outputs → x < 2 ^ first.inputs →
      k < 2 ^ second.inputs →
      LeavesAt IsInRange (zeros half) plus (products times a b y x) k →
      LeavesAt IsInRange (zeros half) plus (terms first second y x) k
  leaves_at y x k ly lx lk (inl out) =
      inl (λ h. out (subst IsInRange (sym (same_terms y x k ly lx lk)) h))
  leaves_at y x k ly lx lk (inr out) =
      inr (λ h. out (subst IsInRange
      (sym (sum_same (zeros half) (suc k) (products times a b y x) (terms first second y x)
      (λ c lc. same_terms y x c ly lx (omega arith)))) h))

  pub leaves_range : matrices.LeavesRange IsInRange (zeros half) plus times a b →
      LeavesRange half first second
  leaves_range out =
      let ly = rw left.rows at out.row_is in
      let lx = rw right.columns at out.column_is in
      let lc = rw left.columns at out.term_is in
      record {
        y = out.row;
        b = out.column;
        c = out.term;
        output = ly;
        input = lx;
        between = lc;
        leaves = leaves_at out.row out.column out.term ly lx lc out.leaves;
      }

-- ---- in the amplitude ring

coefficients_below : (half n : ℕ) (f : ℕ → Element half) →
    (sums.sum_below (ring half) n f).coefficients
    ≡ sum_below (zeros half) plus (λ i. (f i).coefficients) n
unfolding sums.sum_below
coefficients_below half zero f = refl
coefficients_below half (suc n) f =
    ap (λ (xs : List ℤ). plus xs (f n).coefficients) (coefficients_below half n f)

pub multiplies_amplitudes : (half : ℕ) → 0 < half → SumsRunOverNumbers →
    (first second : TableValue) → first.outputs ≡ second.inputs → (m : Entries) →
    IsTableProduct half first second m → MultipliesAmplitudes half first second m
multiplies_amplitudes half positive law first second between m made a1 a2 t1 t2 y b ly lb =
    let f : List Bool → Element half =
    λ c. product (a2 (spelled second.outputs y) (bits_of c))
    (a1 c (bits_of (spelled first.inputs b))) in
    made.entry y b ly lb
    ∙ sum_same (zeros half) (2 ^ second.inputs) (terms first second y b)
    (λ i. (f (spelled second.inputs i)).coefficients)
    (λ c lc. ap₂ times (t2.entries_are y c ly lc)
    (t1.entries_are c b (subst (λ (n : ℕ). c < 2 ^ n) (sym between) lc) lb
    ∙ ap (λ (n : ℕ). (a1 (spelled n c) (bits_of (spelled first.inputs b))).coefficients) between))
    ∙ sym (coefficients_below half (2 ^ second.inputs) (λ i. f (spelled second.inputs i)))
    ∙ ap (λ (x : Element half). x.coefficients) (sym (law half positive second.inputs f))
