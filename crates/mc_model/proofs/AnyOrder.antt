-- What commutes may be done in any order: operators, and commands on different qubits.
use Rattle.std.proofs.Common.{◌≡◌, ℕ, zero, suc, ◌+◌, ◌<◌, ◌≤◌, Bool, true, false, cond, ◌&&◌, not}
use Rattle.std.proofs.Common.{map, List, [], ◌∷◌, ◌++◌, refl, sym, ◌∙◌, ap, arith}
use Rattle.std.specs.Prelude.{nat_eq, count_by, length, All}
use Rattle.std.proofs.lemmas.Bool.{eq-eqb, ne_eqb, cases_eq}
use Rattle.std.proofs.lemmas.List.Elements.{All-head, All-tail}
use mathlib.Core.Path.{fun_ext}
use mathlib.Core.Logic.{inl, inr}
use Rattle.mc_model.specs.Phase.{PhaseOps, PhaseLaws}
use Rattle.mc_model.specs.Bits.{Bits}
use Rattle.mc_model.specs.Numbers.{numbers_where, ListsOnce}
use Rattle.mc_model.specs.Pattern.{Command}
use Rattle.mc_model.specs.Amplitude.{Amps, act, after}
use Rattle.mc_model.specs.Alike.{Disjoint}
use Rattle.mc_model.proofs.BitLemmas.{and_true}
use Rattle.mc_model.proofs.OddSums.{and_false}
use Rattle.mc_model.proofs.ExchangeLaws.{exchanged}
use Rattle.mc_model.proofs.NumberLists.{numbers_where-last, numbers_where-same, numbers_where-none}
use Rattle.mc_model.proofs.NumberLists.{count-first}

-- the numbers of a set but one
without : ℕ → Bits → Bits
without i p = λ k. p k && not (nat_eq k i)

without_other : (i : ℕ) (p : Bits) (k : ℕ) → (k ≡ i → ⊥) → without i p k ≡ p k
unfolding without
without_other i p k ne = ap (λ (b : Bool). p k && not b) (ne_eqb k i ne) ∙ and_true (p k)

without_itself : (i : ℕ) (p : Bits) → without i p i ≡ false
unfolding without
without_itself i p = ap (λ (b : Bool). p i && not b) (eq-eqb i i refl) ∙ and_false (p i)

-- a list in which `q` is first and no number stands twice
first_counts : (a b : Bool) (n : ℕ) → cond a 1 0 + n ≡ cond b 1 0 → n ≡ cond (b && not a) 1 0
first_counts true true n e = omega arith
first_counts true false n e = absurd (omega arith)
first_counts false true n e = omega arith
first_counts false false n e = omega arith

first_passes : (b : Bool) (n : ℕ) → 1 + n ≡ cond b 1 0 → b ≡ true
first_passes true n e = refl
first_passes false n e = absurd (omega arith)

none_passes : (b : Bool) (n : ℕ) → n ≡ 0 → n ≡ cond b 1 0 → b ≡ false
none_passes true n none e = absurd (omega arith)
none_passes false n none e = refl

module _ {A : Type 0} (F : ℕ → A → A) where
  -- the operators of the listed numbers, one after another
  unfoldable pub each : List ℕ → A → A
  each [] x = x
  each (q ∷ qs) x = each qs (F q x)

  each-last : (qs : List ℕ) (i : ℕ) (b : Bool) (x : A) →
      each (qs ++ cond b (i ∷ []) []) x ≡ cond b (F i (each qs x)) (each qs x)
  unfolding each
  each-last [] i true x = refl
  each-last [] i false x = refl
  each-last (q ∷ qs) i b x = each-last qs i b (F q x)

  each_where-last : (p : Bits) (n : ℕ) (x : A) →
      each (numbers_where p (suc n)) x
      ≡ cond (p n) (F n (each (numbers_where p n) x)) (each (numbers_where p n) x)
  each_where-last p n x =
      ap (λ (qs : List ℕ). each qs x) (numbers_where-last p n)
      ∙ each-last (numbers_where p n) n (p n) x

module _ {A : Type 0} (F : ℕ → A → A)
    (commute : (i j : ℕ) → (i ≡ j → ⊥) → (x : A) → F i (F j x) ≡ F j (F i x)) where
  -- an operator passes those of lower numbers
  passes : (p : Bits) (i n : ℕ) (x : A) → n ≤ i →
      each F (numbers_where p n) (F i x) ≡ F i (each F (numbers_where p n) x)
  unfolding each
  passes p i zero x h = refl
  passes p i (suc n) x h =
      each_where-last F p n (F i x)
      ∙ step (p n) (passes p i n x (omega arith))
      ∙ ap (F i) (sym (each_where-last F p n x))
    where
      step : (b : Bool) {y z : A} → y ≡ F i z → cond b (F n y) y ≡ F i (cond b (F n z) z)
      step true {y} {z} e = ap (F n) e ∙ commute n i (λ d. absurd (omega arith)) z
      step false e = e

  -- the operator of a number of the set may be the first
  first_of : (p : Bits) (i n : ℕ) (x : A) → i < n → p i ≡ true →
      each F (numbers_where (without i p) n) (F i x) ≡ each F (numbers_where p n) x
  first_of p i zero x l e = absurd (omega arith)
  first_of p i (suc n) x l e = elim (cases_eq n i) [
    | inl same ↦
        let below : numbers_where (without i p) n ≡ numbers_where p n =
        numbers_where-same (without i p) p n
        (λ k m. without_other i p k (λ d. absurd (omega arith))) in
        each_where-last F (without i p) n (F i x)
        ∙ ap (λ (b : Bool). cond b (F n (each F (numbers_where (without i p) n) (F i x)))
        (each F (numbers_where (without i p) n) (F i x)))
        (ap (without i p) same ∙ without_itself i p)
        ∙ ap (λ (qs : List ℕ). each F qs (F i x)) below
        ∙ passes p i n x (omega arith)
        ∙ ap (λ (k : ℕ). F k (each F (numbers_where p n) x)) (sym same)
        ∙ sym (each_where-last F p n x
        ∙ ap (λ (b : Bool). cond b (F n (each F (numbers_where p n) x))
        (each F (numbers_where p n) x))
        (ap p same ∙ e))
    | inr other ↦
        each_where-last F (without i p) n (F i x)
        ∙ ap (λ (b : Bool). cond b (F n (each F (numbers_where (without i p) n) (F i x)))
        (each F (numbers_where (without i p) n) (F i x)))
        (without_other i p n other)
        ∙ ap (λ (y : A). cond (p n) (F n y) y) (first_of p i n x (omega arith) e)
        ∙ sym (each_where-last F p n x)
  ]

  by_counts : (n : ℕ) (p : Bits) (qs : List ℕ) (x : A) → All (λ q. q < n) qs →
      ((k : ℕ) → k < n → count_by (nat_eq k) qs ≡ cond (p k) 1 0) →
      each F qs x ≡ each F (numbers_where p n) x
  unfolding each without
  by_counts n p [] x below once =
      sym (ap (λ (qs : List ℕ). each F qs x)
      (numbers_where-none p n
      (λ k l. none_passes (p k) (count_by (nat_eq k) []) refl (once k l))))
  by_counts n p (q ∷ qs) x below once =
      let l : q < n = All-head (λ r. r < n) q qs below in
      by_counts n (without q p) qs (F q x) (All-tail (λ r. r < n) q qs below) (λ k m.
      first_counts (nat_eq k q) (p k) (count_by (nat_eq k) qs)
      (sym (count-first k q qs) ∙ once k m))
      ∙ first_of p q n x l (first_passes (p q) (count_by (nat_eq q) qs)
      (ap (λ (b : Bool). cond b 1 0 + count_by (nat_eq q) qs) (sym (eq-eqb q q refl))
      ∙ sym (count-first q q qs) ∙ once q l))

  -- operators that commute do in the order of a list what they do by rising number
  pub in_any_order : (n : ℕ) (p : Bits) (qs : List ℕ) (x : A) → ListsOnce n p qs →
      each F qs x ≡ each F (numbers_where p n) x
  in_any_order n p qs x h = by_counts n p qs x h.below h.once

each_counts : (qs : List ℕ) (m : ℕ) → each (λ q k. suc k) qs m ≡ length qs + m
unfolding each
each_counts [] m = omega arith
each_counts (q ∷ qs) m = let h = each_counts qs (suc m) in omega arith

-- lists of the same numbers, each once, are of one length
pub same_length : (n : ℕ) (p : Bits) (qs : List ℕ) → ListsOnce n p qs →
    length qs ≡ length (numbers_where p n)
same_length n p qs h =
    let e = in_any_order (λ q k. suc k) (λ i j ne k. refl) n p qs 0 h in
    let a = each_counts qs 0 in
    let b = each_counts (numbers_where p n) 0 in
    omega arith

module _ {E : Type 0} (ops : PhaseOps E) (laws : PhaseLaws ops) (o : Bits) where
  after_each : (c : ℕ → Command) (qs : List ℕ) (f : Amps E) →
      after ops o (map c qs) f ≡ each (λ q. act ops o (c q)) qs f
  unfolding after each
  after_each c [] f = refl
  after_each c (q ∷ qs) f = after_each c qs (act ops o (c q) f)

  -- commands on different qubits do in the order of a list what they do by rising number
  pub commands_in_any_order : (c : ℕ → Command) →
      ((i j : ℕ) → (i ≡ j → ⊥) → Disjoint (c j) (c i)) →
      (n : ℕ) (p : Bits) (qs : List ℕ) (f : Amps E) → ListsOnce n p qs →
      after ops o (map c qs) f ≡ after ops o (map c (numbers_where p n)) f
  commands_in_any_order c apart n p qs f h =
      after_each c qs f
      ∙ in_any_order (λ q. act ops o (c q))
      (λ i j ne g. fun_ext λ x. exchanged ops laws o o (c j) (c i) (apart i j ne) g x)
      n p qs f h
      ∙ sym (after_each c (numbers_where p n) f)
