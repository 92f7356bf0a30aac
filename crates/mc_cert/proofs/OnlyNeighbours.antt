-- A vertex has exactly one neighbour in a set where just one is counted.
use Rattle.std.proofs.Common.{◌≡◌, ◌≢◌, ℕ, zero, suc, ◌+◌, ◌<◌, ◌≤◌, Bool, true, false, ◌&&◌}
use Rattle.std.proofs.Common.{cond}
use Rattle.std.proofs.Common.{List, [], ◌∷◌, refl, sym, ◌∙◌, ap, ap₂, arith}
use Rattle.std.specs.Prelude.{filter, count_by}
use mathlib.Core.Logic.{inl, inr}
use Rattle.std.proofs.lemmas.Bool.{cases_eq, and_parts, true≢false}
use Rattle.std.proofs.lemmas.List.Sums.{sum_by-cons}
use Rattle.mc_model.specs.Bits.{Bits}
use Rattle.mc_model.specs.Numbers.{numbers_from}
use Rattle.mc_model.specs.Graph.{OpenGraph, size, joins}
use Rattle.mc_model.specs.Flow.{IsOnlyNeighbour}
use Rattle.mc_graph.specs.Neighbours.{neighbours}

count_more : (p : Bits) (x : ℕ) (xs : List ℕ) →
    count_by p (x ∷ xs) ≡ cond (p x) 1 0 + count_by p xs
count_more p x xs = sum_by-cons (λ y. cond (p y) 1 0) x xs

-- those that are counted of a filtered list
count_filtered : (p q : Bits) (xs : List ℕ) →
    count_by q (filter p xs) ≡ count_by (λ x. p x && q x) xs
count_filtered p q [] = refl
count_filtered p q (x ∷ xs) =
    by (p x) refl (count_filtered p q xs) ∙ sym (count_more (λ y. p y && q y) x xs)
  where
    nothing : (n m : ℕ) → n ≡ m → n ≡ 0 + m
    nothing n m e = omega arith

    by : (b : Bool) → p x ≡ b →
        count_by q (filter p xs) ≡ count_by (λ y. p y && q y) xs →
        count_by q (cond (p x) (x ∷ filter p xs) (filter p xs))
        ≡ cond (p x && q x) 1 0 + count_by (λ y. p y && q y) xs
    by true e rest =
        ap (λ (b : Bool). count_by q (cond b (x ∷ filter p xs) (filter p xs))) e
        ∙ count_more q x (filter p xs)
        ∙ ap₂ (λ (b : Bool) (n : ℕ). cond (b && q x) 1 0 + n) (sym e) rest
    by false e rest =
        ap (λ (b : Bool). count_by q (cond b (x ∷ filter p xs) (filter p xs))) e
        ∙ nothing (count_by q (filter p xs)) (count_by (λ y. p y && q y) xs) rest
        ∙ ap (λ (b : Bool). cond (b && q x) 1 0 + count_by (λ y. p y && q y) xs) (sym e)

-- ---- how many numbers pass a test

none_counted : (r : Bits) (q n : ℕ) → ((v : ℕ) → q ≤ v → v < q + n → r v ≡ false) →
    count_by r (numbers_from q n) ≡ 0
none_counted r q zero h = refl
none_counted r q (suc n) h =
    count_more r q (numbers_from (suc q) n)
    ∙ ap₂ (λ (b : Bool) (m : ℕ). cond b 1 0 + m) (h q (omega arith) (omega arith))
    (none_counted r (suc q) n (λ v low high. h v (omega arith) (omega arith)))

-- just one passes
one_counted : (r : Bits) (q n u : ℕ) → q ≤ u → u < q + n → r u ≡ true →
    ((v : ℕ) → q ≤ v → v < q + n → v ≢ u → r v ≡ false) → count_by r (numbers_from q n) ≡ 1
one_counted r q zero u low high e others = absurd (omega arith)
one_counted r q (suc n) u low high e others = elim (cases_eq q u) [
  | inl s ↦
      count_more r q (numbers_from (suc q) n)
      ∙ ap₂ (λ (b : Bool) (m : ℕ). cond b 1 0 + m) (ap r s ∙ e)
      (none_counted r (suc q) n
      (λ v l h. others v (omega arith) (omega arith) (λ f. absurd (omega arith))))
  | inr ne ↦
      count_more r q (numbers_from (suc q) n)
      ∙ ap₂ (λ (b : Bool) (m : ℕ). cond b 1 0 + m)
      (others q (omega arith) (omega arith) ne)
      (one_counted r (suc q) n u (omega arith) (omega arith) e
      (λ v l h f. others v (omega arith) (omega arith) f))
]

all_fail : (r : Bits) (q n : ℕ) → count_by r (numbers_from q n) ≡ 0 →
    (v : ℕ) → q ≤ v → v < q + n → r v ≡ false
all_fail r q zero e v low high = absurd (omega arith)
all_fail r q (suc n) e v low high =
    by (r q) refl (count_more r q (numbers_from (suc q) n))
    (λ f l. all_fail r (suc q) n f v l (omega arith))
  where
    by : (b : Bool) → r q ≡ b →
        count_by r (numbers_from q (suc n)) ≡ cond (r q) 1 0 + count_by r (numbers_from (suc q) n) →
        (count_by r (numbers_from (suc q) n) ≡ 0 → suc q ≤ v → r v ≡ false) → r v ≡ false
    by true t parts rest =
        let h : cond {A = ℕ} (r q) 1 0 ≡ 1 = ap (λ (b : Bool). cond b 1 0) t in absurd (omega arith)
    by false t parts rest =
        let h : cond {A = ℕ} (r q) 1 0 ≡ 0 = ap (λ (b : Bool). cond b 1 0) t in
        elim (cases_eq v q) [
          | inl s ↦ ap r s ∙ t
          | inr ne ↦ rest (omega arith) (omega arith)
        ]

-- the number that passes alone
record Alone (r : Bits) (q n : ℕ) : Type 0 where
  pub number : ℕ
  pub low : q ≤ number
  pub high : number < q + n
  pub passes : r number ≡ true
  pub others : (v : ℕ) → q ≤ v → v < q + n → r v ≡ true → v ≡ number

one_passes : (r : Bits) (q n : ℕ) → count_by r (numbers_from q n) ≡ 1 → Alone r q n
one_passes r q zero e = absurd (omega arith)
one_passes r q (suc n) e =
    by (r q) refl (count_more r q (numbers_from (suc q) n)) (one_passes r (suc q) n)
  where
    by : (b : Bool) → r q ≡ b →
        count_by r (numbers_from q (suc n)) ≡ cond (r q) 1 0 + count_by r (numbers_from (suc q) n) →
        (count_by r (numbers_from (suc q) n) ≡ 1 → Alone r (suc q) n) → Alone r q (suc n)
    by true t parts rest =
        let h : cond {A = ℕ} (r q) 1 0 ≡ 1 = ap (λ (b : Bool). cond b 1 0) t in
        record {
          number = q;
          low = omega arith;
          high = omega arith;
          passes = t;
          others = λ v l m f. elim (cases_eq v q) [
            | inl s ↦ s
            | inr ne ↦
                absurd (true≢false (sym f
                ∙ all_fail r (suc q) n (omega arith) v (omega arith) (omega arith)))
          ];
        }
    by false t parts rest =
        let h : cond {A = ℕ} (r q) 1 0 ≡ 0 = ap (λ (b : Bool). cond b 1 0) t in
        let found = rest (omega arith) in
        let at_least = found.low in
        let below = found.high in
        record {
          number = found.number;
          low = omega arith;
          high = omega arith;
          passes = found.passes;
          others = λ v l m f. elim (cases_eq v q) [
            | inl s ↦ absurd (true≢false (sym f ∙ ap r s ∙ t))
            | inr ne ↦ found.others v (omega arith) (omega arith) f
          ];
        }

-- ---- neighbours

both : (a b : Bool) → a ≡ true → b ≡ true → a && b ≡ true
both a b e f = ap₂ (λ (a b : Bool). a && b) e f

pub only_is_one : (g : OpenGraph) (B : Bits) (w u : ℕ) → IsOnlyNeighbour g B w u →
    count_by B (neighbours g w) ≡ 1
only_is_one g B w u h =
    let below = h.vertex in
    count_filtered (joins g.edges w) B (numbers_from 0 (size g))
    ∙ one_counted (λ v. joins g.edges w v && B v) 0 (size g) u (omega arith) (omega arith)
    (both (joins g.edges w u) (B u) h.neighbour h.in_set)
    (λ v low high ne. by v (omega arith) ne (joins g.edges w v && B v) refl)
  where
    by : (v : ℕ) → v < size g → v ≢ u → (b : Bool) → joins g.edges w v && B v ≡ b →
        joins g.edges w v && B v ≡ false
    by v l ne false e = e
    by v l ne true e =
        let parts = and_parts (joins g.edges w v) (B v) e in
        absurd (ne (h.only v l parts.1 parts.0))

pub one_is_only : (g : OpenGraph) (B : Bits) (w : ℕ) → count_by B (neighbours g w) ≡ 1 →
    (u : ℕ) × IsOnlyNeighbour g B w u
one_is_only g B w e =
    let found =
    one_passes (λ v. joins g.edges w v && B v) 0 (size g)
    (sym (count_filtered (joins g.edges w) B (numbers_from 0 (size g))) ∙ e) in
    let u : ℕ = found.number in
    let below = found.high in
    let parts = and_parts (joins g.edges w u) (B u) found.passes in (
      u,
      record {
        vertex = omega arith;
        in_set = parts.1;
        neighbour = parts.0;
        only = λ v l b j.
            found.others v (omega arith) (omega arith) (both (joins g.edges w v) (B v) j b);
      },
    )
