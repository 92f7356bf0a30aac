-- A graph with a refuter has no flow, and one with a stuck set no causal flow.
use Rattle.std.specs.Prelude.{◌≡◌, ◌≢◌, ℕ, zero, suc, ◌<◌, Bool, true, false, ◌&&◌, refl, nat_eq}
use Rattle.std.specs.Prelude.{List, [], ◌∷◌, ◌||◌, ◌⊎◌}
use Rattle.std.proofs.Common.{arith, sym, ap, ap₂, subst, ◌∙◌, inl, inr}
use Rattle.std.proofs.lemmas.Bool.{eq-eqb, eqb-true, true≢false}
use Rattle.mc_model.specs.Bits.{◌⊻◌, Bits, odd}
use Rattle.mc_model.specs.Graph.{Edge, OpenGraph, size, joins, odd_neighbourhood}
use Rattle.mc_model.specs.Flow.{IsFlow, CorrectsAt, IsCausalFlow, single, IsRefuter, RefutesAt}
use Rattle.mc_model.specs.Flow.{IsStuckSet}
use Rattle.mc_model.proofs.OddSums.{odd-same, odd-none, odd-and, odd-exchange, odd-one, and_swap}

pub same_pair_swap : (a b c d : Bool) → (a && b) || (c && d) ≡ (d && c) || (b && a)
same_pair_swap a b c d = grind arith

pub joins_comm : (es : List Edge) (v w : ℕ) → joins es v w ≡ joins es w v
unfolding joins
joins_comm [] v w = refl
joins_comm (e ∷ es) v w =
    ap₂ (λ (a b : Bool). a ⊻ b)
    (same_pair_swap (nat_eq v e.one) (nat_eq w e.other) (nat_eq v e.other) (nat_eq w e.one))
    (joins_comm es v w)

-- the edges between two sets, counted from either side
pub counted_twice : (g : OpenGraph) (s y : Bits) →
    odd (size g) (λ v. y v && odd_neighbourhood g s v)
    ≡ odd (size g) (λ w. s w && odd_neighbourhood g y w)
counted_twice g s y =
    odd-same (size g) (λ v. y v && odd_neighbourhood g s v)
    (λ v. odd (size g) (λ w. y v && (s w && joins g.edges v w)))
    (λ v _. sym (odd-and (size g) (y v) (λ w. s w && joins g.edges v w)))
    ∙ odd-exchange (size g) (size g) (λ v w. y v && (s w && joins g.edges v w))
    ∙ odd-same (size g) (λ w. odd (size g) (λ v. y v && (s w && joins g.edges v w)))
    (λ w. s w && odd_neighbourhood g y w)
    (λ w _.
    odd-same (size g) (λ v. y v && (s w && joins g.edges v w))
    (λ v. s w && (y v && joins g.edges w v))
    (λ v _. and_swap (y v) (s w) (joins g.edges v w)
    ∙ ap (λ (b : Bool). s w && (y v && b)) (joins_comm g.edges v w))
    ∙ odd-and (size g) (s w) (λ v. y v && joins g.edges w v))

and_by : (a b : Bool) → (a ≡ true → b ≡ true → ⊥) → a && b ≡ false
and_by false b h = refl
and_by true false h = refl
and_by true true h = absurd (h refl refl)

not_true : (a : Bool) → (a ≡ true → ⊥) → a ≡ false
not_true false h = refl
not_true true h = absurd (h refl)

clash : (a : Bool) → a ≡ true → a ≡ false → ⊥
clash a e f = true≢false (sym e ∙ f)

-- the edges between the set that corrects `u` and the set that refutes it are odd and even
pub refuted_at : (g : OpenGraph) (B : Bits) (y : Bits) (s : Bits) (layer : ℕ → ℕ) (u : ℕ) →
    u < size g → CorrectsAt g s layer u → RefutesAt g B y u →
    ((v : ℕ) → v < size g → layer v < layer u → B v ≡ false) → ⊥
refuted_at g B y s layer u l c r outside =
    let one : odd (size g) (λ v. y v && odd_neighbourhood g s v) ≡ true =
    odd-one (size g) (λ v. y v && odd_neighbourhood g s v) u l
    (ap₂ (λ (a b : Bool). a && b) r.holds c.odd_itself)
    (λ v i ne. and_by (y v) (odd_neighbourhood g s v) (λ p q.
    clash (B v) (r.within v i p) (outside v i (c.odd_later v i ne q)))) in
    let none : odd (size g) (λ w. s w && odd_neighbourhood g y w) ≡ false =
    odd-none (size g) (λ w. s w && odd_neighbourhood g y w)
    (λ w i. and_by (s w) (odd_neighbourhood g y w) (λ p q.
    clash (odd_neighbourhood g y w) q
    (r.even w i (c.no_input w p) (outside w i (c.set_later w p))))) in
    clash (odd (size g) (λ v. y v && odd_neighbourhood g s v)) one (counted_twice g s y ∙ none)

-- no vertex of a refuter has a layer: by induction on a bound on it
refuted_below : (g : OpenGraph) (B : Bits) (y : ℕ → Bits) (sets : ℕ → Bits) (layer : ℕ → ℕ) →
    IsFlow g sets layer → IsRefuter g B y → (k u : ℕ) → u < size g → layer u < k →
    B u ≡ true → ⊥
refuted_below g B y sets layer f r zero u l h e = absurd (omega arith)
refuted_below g B y sets layer f r (suc k) u l h e =
    refuted_at g B (y u) (sets u) layer u l
    (f.corrects u l (r.uncorrected.no_output u l e)) (r.refutes u l e)
    (λ v i m. not_true (B v) (λ b. refuted_below g B y sets layer f r k v i (omega arith) b))

pub refuted : (g : OpenGraph) (B : Bits) (y : ℕ → Bits) → IsRefuter g B y →
    (sets : ℕ → Bits) (layer : ℕ → ℕ) → IsFlow g sets layer → ⊥
refuted g B y r sets layer f =
    let u = r.uncorrected.some in
    refuted_below g B y sets layer f r (suc (layer u.0)) u.0 u.1 (omega arith) u.2

-- ---- stuck sets

pub single_itself : (u : ℕ) → single u u ≡ true
single_itself u = eq-eqb u u refl

-- the odd neighbourhood of one vertex is its neighbours
pub odd_of_single : (g : OpenGraph) (w v : ℕ) → w < size g →
    odd_neighbourhood g (single w) v ≡ joins g.edges v w
odd_of_single g w v l = by (joins g.edges v w) refl
  where
    term : Bits
    term = λ k. single w k && joins g.edges v k

    by : (b : Bool) → joins g.edges v w ≡ b → odd (size g) term ≡ joins g.edges v w
    by true e =
        odd-one (size g) term w l (ap₂ (λ (a b : Bool). a && b) (single_itself w) e)
        (λ j i ne. and_by (single w j) (joins g.edges v j) (λ p q. ne (eqb-true j w p)))
        ∙ sym e
    by false e =
        odd-none (size g) term
        (λ j i. and_by (single w j) (joins g.edges v j) (λ p q.
        clash (joins g.edges v w) (subst (λ (k : ℕ). joins g.edges v k ≡ true) (eqb-true j w p) q)
        e))
        ∙ sym e

stuck_at : (g : OpenGraph) (B : Bits) (layer : ℕ → ℕ) (w u : ℕ) → u < size g → B u ≡ true →
    IsStuckSet g B → CorrectsAt g (single w) layer u →
    ((v : ℕ) → v < size g → layer v < layer u → B v ≡ false) → ⊥
stuck_at g B layer w u l e s c outside =
    let here : single w w ≡ true = single_itself w in
    let i = c.within w here in
    s.none w u i (c.no_input w here) (outside w i (c.set_later w here))
    (record {
      vertex = l;
      in_set = e;
      neighbour = joins_comm g.edges w u ∙ sym (odd_of_single g w u i) ∙ c.odd_itself;
      only = λ v j b q. only_one v j b
          (odd_of_single g w v i ∙ joins_comm g.edges v w ∙ q);
    })
  where
    same_or_not : (v u : ℕ) → (v ≡ u) ⊎ (v ≢ u)
    same_or_not v u = grind arith

    only_one : (v : ℕ) → v < size g → B v ≡ true → odd_neighbourhood g (single w) v ≡ true → v ≡ u
    only_one v j b q = elim (same_or_not v u) [
      | inl same ↦ same
      | inr ne ↦ absurd (clash (B v) b (outside v j (c.odd_later v j ne q)))
    ]

stuck_below : (g : OpenGraph) (B : Bits) (next layer : ℕ → ℕ) → IsCausalFlow g next layer →
    IsStuckSet g B → (k u : ℕ) → u < size g → layer u < k → B u ≡ true → ⊥
stuck_below g B next layer f s zero u l h e = absurd (omega arith)
stuck_below g B next layer f s (suc k) u l h e =
    stuck_at g B layer (next u) u l e s (f.corrects u l (s.uncorrected.no_output u l e))
    (λ v i m. not_true (B v) (λ b. stuck_below g B next layer f s k v i (omega arith) b))

pub stuck : (g : OpenGraph) (B : Bits) → IsStuckSet g B → (next layer : ℕ → ℕ) →
    IsCausalFlow g next layer → ⊥
stuck g B s next layer f =
    let u = s.uncorrected.some in
    stuck_below g B next layer f s (suc (layer u.0)) u.0 u.1 (omega arith) u.2
