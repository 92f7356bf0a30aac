-- Systems of bits: each has a solution, or a set of rows that refutes it.
use Rattle.std.specs.Prelude.{◌≡◌, ◌⊎◌, ℕ, zero, suc, ◌<◌, Bool, true, false, ◌&&◌, ◌||◌, nat_eq}
use Rattle.std.specs.Prelude.{refl}
use Rattle.std.proofs.Common.{arith, sym, ap, ap₂, ◌∙◌, inl, inr}
use Rattle.std.proofs.lemmas.Bool.{eqb-true, eq-eqb, ne_eqb, cases_eq, true≢false, false≢true}
use Rattle.mc_model.specs.Bits.{◌⊻◌, Bits, all_zero, odd}
use Rattle.mc_model.proofs.OddSums.{and_xor, xor_and, odd-same, odd-none, odd-xor, odd-one}

-- the sum of the products
abbrev pub dot : ℕ → Bits → Bits → Bool
dot n y t = odd n (λ v. y v && t v)

dot_left : (n : ℕ) (y z t : Bits) → dot n (λ v. y v ⊻ z v) t ≡ dot n y t ⊻ dot n z t
dot_left n y z t =
    odd-same n (λ v. (y v ⊻ z v) && t v) (λ v. (y v && t v) ⊻ (z v && t v))
    (λ v _. xor_and (y v) (z v) (t v))
    ∙ odd-xor n (λ v. y v && t v) (λ v. z v && t v)

dot_right : (n : ℕ) (y s t : Bits) → dot n y (λ v. s v ⊻ t v) ≡ dot n y s ⊻ dot n y t
dot_right n y s t =
    odd-same n (λ v. y v && (s v ⊻ t v)) (λ v. (y v && s v) ⊻ (y v && t v))
    (λ v _. and_xor (y v) (s v) (t v))
    ∙ odd-xor n (λ v. y v && s v) (λ v. y v && t v)

-- columns of `n` bits, of which those that are open may be added
pub record System : Type 0 where
  pub rows : ℕ
  pub column : ℕ → Bits
  pub is_open : Bits

-- the columns of the set, all below `m` and open, have the sum `t`
pub record Solves (a : System) (m : ℕ) (t s : Bits) : Type 0 where
  pub below : (w : ℕ) → s w ≡ true → w < m
  pub open_ones : (w : ℕ) → s w ≡ true → a.is_open w ≡ true
  pub sums : (v : ℕ) → v < a.rows → odd m (λ w. s w && a.column w v) ≡ t v

-- the rows of the set meet `t` in an odd number and each open column below `m` in an even one
pub record Refutes (a : System) (m : ℕ) (t y : Bits) : Type 0 where
  pub odd_target : dot a.rows y t ≡ true
  pub even_columns : (w : ℕ) → w < m → a.is_open w ≡ true → dot a.rows y (a.column w) ≡ false

abbrev pub SolvedOrRefuted : System → ℕ → Bits → Type 0
SolvedOrRefuted a m t = ((s : Bits) × Solves a m t s) ⊎ ((y : Bits) × Refutes a m t y)

-- ---- no columns

abbrev SomeBit : ℕ → Bits → Type 0
SomeBit n t = ((v : ℕ) × (v < n) × (t v ≡ true)) ⊎ ((v : ℕ) → v < n → t v ≡ false)

some_bit : (n : ℕ) (t : Bits) → SomeBit n t
some_bit zero t = inr (λ v l. absurd (omega arith))
some_bit (suc n) t = by (t n) refl (some_bit n t)
  where
    by : (b : Bool) → t n ≡ b → SomeBit n t → SomeBit (suc n) t
    by true e rest = inl (n, omega arith, e)
    by false e (inl some) = let l = some.1 in inl (some.0, omega arith, some.2)
    by false e (inr none) =
        inr (λ v l. elim (cases_eq v n) [
          | inl s ↦ ap t s ∙ e
          | inr ne ↦ none v (omega arith)
        ])

abbrev only : ℕ → Bits
only u = λ v. nat_eq v u

and_by : (a b : Bool) → (a ≡ true → b ≡ true → ⊥) → a && b ≡ false
and_by false b h = refl
and_by true false h = refl
and_by true true h = absurd (h refl refl)

-- the sum with one bit alone
pub dot_only : (n : ℕ) (u : ℕ) (t : Bits) → u < n → t u ≡ true → dot n (only u) t ≡ true
dot_only n u t l e =
    odd-one n (λ v. only u v && t v) u l
    (ap₂ (λ (a b : Bool). a && b) (eq-eqb u u refl) e)
    (λ v _ ne. and_by (only u v) (t v) (λ p _. ne (eqb-true v u p)))

no_columns : (a : System) (t : Bits) → SomeBit a.rows t → SolvedOrRefuted a zero t
no_columns a t (inl some) =
    inr (
      only some.0,
      record {
        odd_target = dot_only a.rows some.0 t some.1 some.2;
        even_columns = λ w l _. absurd (omega arith);
      },
    )
no_columns a t (inr none) =
    inl (
      all_zero,
      record {
        below = λ w e. absurd (false≢true e);
        open_ones = λ w e. absurd (false≢true e);
        sums = λ v l. sum_of_none v ∙ sym (none v l);
      },
    )
  where
    sum_of_none : (v : ℕ) → odd zero (λ w. all_zero w && a.column w v) ≡ false
    sum_of_none v = odd-none zero (λ w. all_zero w && a.column w v) (λ j l. refl)

-- ---- one more column

-- a column that is not open
closed_column : (a : System) (m : ℕ) (t : Bits) → a.is_open m ≡ false → SolvedOrRefuted a m t →
    SolvedOrRefuted a (suc m) t
unfolding odd
closed_column a m t closed (inl solved) =
    let s : Bits = solved.0 in
    let h : Solves a m t s = solved.1 in
    inl (
      s,
      record {
        below = λ w e. let l = h.below w e in omega arith;
        open_ones = h.open_ones;
        sums = λ v l.
            ap (λ (b : Bool). b ⊻ odd m (λ w. s w && a.column w v))
            (and_by (s m) (a.column m v) (λ e _.
            true≢false (sym (h.open_ones m e) ∙ closed)))
            ∙ h.sums v l;
      },
    )
closed_column a m t closed (inr refuted) =
    let y : Bits = refuted.0 in
    let h : Refutes a m t y = refuted.1 in
    inr (
      y,
      record {
        odd_target = h.odd_target;
        even_columns = λ w l e. elim (cases_eq w m) [
          | inl s ↦ absurd (true≢false (sym e ∙ ap a.is_open s ∙ closed))
          | inr ne ↦ h.even_columns w (omega arith) e
        ];
      },
    )

-- a solution that does without the column
without_column : (a : System) (m : ℕ) (t s : Bits) → Solves a m t s → Solves a (suc m) t s
unfolding odd
without_column a m t s h = record {
  below = λ w e. let l = h.below w e in omega arith;
  open_ones = h.open_ones;
  sums = λ v l.
      ap (λ (b : Bool). b ⊻ odd m (λ w. s w && a.column w v))
      (and_by (s m) (a.column m v) (λ e _. let l = h.below m e in absurd (omega arith)))
      ∙ h.sums v l;
}

abbrev added : ℕ → Bits → Bits
added m s = λ w. nat_eq w m || s w

-- a solution for the target with the column added
with_column : (a : System) (m : ℕ) (t s : Bits) → a.is_open m ≡ true →
    Solves a m (λ v. t v ⊻ a.column m v) s → Solves a (suc m) t (added m s)
unfolding odd
with_column a m t s opened h = record {
  below = λ w e. below w e (nat_eq w m) refl;
  open_ones = λ w e. open_one w e (nat_eq w m) refl;
  sums = λ v l.
      ap₂ (λ (b c : Bool). ((b || s m) && a.column m v) ⊻ c) (eq-eqb m m refl)
      (odd-same m (λ w. added m s w && a.column w v) (λ w. s w && a.column w v)
      (λ w l. ap (λ (b : Bool). (b || s w) && a.column w v)
      (ne_eqb w m (λ e. absurd (omega arith))))
      ∙ h.sums v l)
      ∙ taken_back (a.column m v) (t v);
}
  where
    rest : (w : ℕ) → added m s w ≡ true → nat_eq w m ≡ false → s w ≡ true
    rest w e f = sym (ap (λ (b : Bool). b || s w) f) ∙ e

    below : (w : ℕ) → added m s w ≡ true → (b : Bool) → nat_eq w m ≡ b → w < suc m
    below w e true f = let q = eqb-true w m f in omega arith
    below w e false f = let l = h.below w (rest w e f) in omega arith

    open_one : (w : ℕ) → added m s w ≡ true → (b : Bool) → nat_eq w m ≡ b → a.is_open w ≡ true
    open_one w e true f = ap a.is_open (eqb-true w m f) ∙ opened
    open_one w e false f = h.open_ones w (rest w e f)

    taken_back : (c t : Bool) → c ⊻ (t ⊻ c) ≡ t
    taken_back c t = grind arith

-- rows that meet the column in an even number
even_column : (a : System) (m : ℕ) (t y : Bits) → Refutes a m t y →
    dot a.rows y (a.column m) ≡ false → Refutes a (suc m) t y
even_column a m t y h even = record {
  odd_target = h.odd_target;
  even_columns = λ w l e. elim (cases_eq w m) [
    | inl s ↦ ap (λ (k : ℕ). dot a.rows y (a.column k)) s ∙ even
    | inr ne ↦ h.even_columns w (omega arith) e
  ];
}

-- two sets of rows that meet it in an odd number
both_odd : (a : System) (m : ℕ) (t y z : Bits) → Refutes a m t y →
    Refutes a m (λ v. t v ⊻ a.column m v) z → dot a.rows y (a.column m) ≡ true →
    dot a.rows z (a.column m) ≡ true → Refutes a (suc m) t (λ v. y v ⊻ z v)
both_odd a m t y z h k p q = record {
  odd_target =
      dot_left a.rows y z t
      ∙ ap₂ (λ (b c : Bool). b ⊻ c) h.odd_target
      (odd_less (dot a.rows z t) (dot a.rows z (a.column m))
      (sym (dot_right a.rows z t (a.column m)) ∙ k.odd_target) q);
  even_columns = λ w l e. elim (cases_eq w m) [
    | inl s ↦
        ap (λ (j : ℕ). dot a.rows (λ v. y v ⊻ z v) (a.column j)) s
        ∙ dot_left a.rows y z (a.column m)
        ∙ ap₂ (λ (b c : Bool). b ⊻ c) p q
    | inr ne ↦
        dot_left a.rows y z (a.column w)
        ∙ ap₂ (λ (b c : Bool). b ⊻ c) (h.even_columns w (omega arith) e)
        (k.even_columns w (omega arith) e)
  ];
}
  where
    odd_less : (b c : Bool) → b ⊻ c ≡ true → c ≡ true → b ≡ false
    odd_less b c e f = grind arith

-- rows that meet the target with the column, and the column in an even number
even_added : (a : System) (m : ℕ) (t z : Bits) → Refutes a m (λ v. t v ⊻ a.column m v) z →
    dot a.rows z (a.column m) ≡ false → Refutes a m t z
even_added a m t z k q = record {
  odd_target =
      same (dot a.rows z t) (dot a.rows z (a.column m))
      (sym (dot_right a.rows z t (a.column m)) ∙ k.odd_target) q;
  even_columns = k.even_columns;
}
  where
    same : (b c : Bool) → b ⊻ c ≡ true → c ≡ false → b ≡ true
    same b c e f = grind arith

by_columns : (a : System) (m : ℕ) (t y z : Bits) → Refutes a m t y →
    Refutes a m (λ v. t v ⊻ a.column m v) z → (b c : Bool) →
    dot a.rows y (a.column m) ≡ b → dot a.rows z (a.column m) ≡ c →
    SolvedOrRefuted a (suc m) t
by_columns a m t y z h k false c p q = inr (y, even_column a m t y h p)
by_columns a m t y z h k true false p q =
    inr (z, even_column a m t z (even_added a m t z k q) q)
by_columns a m t y z h k true true p q =
    inr ((λ v. y v ⊻ z v), both_odd a m t y z h k p q)

open_column : (a : System) (m : ℕ) (t : Bits) → a.is_open m ≡ true → SolvedOrRefuted a m t →
    SolvedOrRefuted a m (λ v. t v ⊻ a.column m v) → SolvedOrRefuted a (suc m) t
open_column a m t opened (inl solved) other =
    inl (solved.0, without_column a m t solved.0 solved.1)
open_column a m t opened (inr refuted) (inl solved) =
    inl (added m solved.0, with_column a m t solved.0 opened solved.1)
open_column a m t opened (inr refuted) (inr other) =
    by_columns a m t refuted.0 other.0 refuted.1 other.1
    (dot a.rows refuted.0 (a.column m)) (dot a.rows other.0 (a.column m)) refl refl

by_open : (a : System) (m : ℕ) (t : Bits) (b : Bool) → a.is_open m ≡ b → SolvedOrRefuted a m t →
    SolvedOrRefuted a m (λ v. t v ⊻ a.column m v) → SolvedOrRefuted a (suc m) t
by_open a m t true e here other = open_column a m t e here other
by_open a m t false e here other = closed_column a m t e here

pub solved_or_refuted : (a : System) (m : ℕ) (t : Bits) → SolvedOrRefuted a m t
solved_or_refuted a zero t = no_columns a t (some_bit a.rows t)
solved_or_refuted a (suc m) t =
    by_open a m t (a.is_open m) refl (solved_or_refuted a m t)
    (solved_or_refuted a m (λ v. t v ⊻ a.column m v))
