-- A chosen flow has no more layers than the graph has vertices.
use Rattle.std.proofs.Common.{◌≡◌, ◌≢◌, ℕ, zero, suc, ◌+◌, ◌<◌, ◌≤◌}
use Rattle.std.proofs.Common.{Bool, true, false, ◌&&◌, cond}
use Rattle.std.proofs.Common.{refl, sym, ap, ap₂, ◌∙◌, inl, inr, arith}
use Rattle.std.specs.Prelude.{nat_le, max, map, fold}
use Rattle.std.proofs.lemmas.Bool.{cases_eq, le-leb, leb-true, true≢false}
use Rattle.mc_model.specs.Bits.{Bits}
use Rattle.mc_model.specs.Numbers.{numbers_from}
use Rattle.mc_model.specs.Graph.{OpenGraph, size}
use Rattle.mc_model.specs.Flow.{IsFlow, depth_of}
use Rattle.mc_model.specs.Choice.{IsChosenFlow}
use Rattle.mc_model.proofs.ChosenFlows.{chosen_is_flow}

-- ---- how many numbers pass a test

abbrev count : Bits → ℕ → ℕ
count p zero = 0
count p (suc n) = cond (p n) 1 0 + count p n

at_most_one : (b : Bool) → cond {A = ℕ} b 1 0 ≤ 1
at_most_one true = omega arith
at_most_one false = omega arith

count_most : (p : Bits) (n : ℕ) → count p n ≤ n
count_most p zero = omega arith
count_most p (suc n) =
    let one = at_most_one (p n) in let h = count_most p n in omega arith

count_none : (p : Bits) (n : ℕ) → ((k : ℕ) → p k ≡ false) → count p n ≡ 0
count_none p zero h = refl
count_none p (suc n) h = ap₂ (λ (b : Bool) (m : ℕ). cond b 1 0 + m) (h n) (count_none p n h)

no_more : (a b : Bool) → (a ≡ true → b ≡ true) → cond {A = ℕ} a 1 0 ≤ cond {A = ℕ} b 1 0
no_more false b h = omega arith
no_more true b h =
    let e : cond {A = ℕ} b 1 0 ≡ 1 = ap (λ (c : Bool). cond c 1 0) (h refl) in omega arith

count_more : (p q : Bits) (n : ℕ) → ((k : ℕ) → p k ≡ true → q k ≡ true) → count p n ≤ count q n
count_more p q zero h = omega arith
count_more p q (suc n) h =
    let here = no_more (p n) (q n) (h n) in let below = count_more p q n h in omega arith

count_gains : (p q : Bits) (n k : ℕ) → ((j : ℕ) → p j ≡ true → q j ≡ true) → k < n →
    p k ≡ false → q k ≡ true → count p n < count q n
count_gains p q zero k h l lacks holds = absurd (omega arith)
count_gains p q (suc n) k h l lacks holds = elim (cases_eq k n) [
  | inl e ↦
      let none : cond {A = ℕ} (p n) 1 0 ≡ 0 =
      ap (λ (b : Bool). cond b 1 0) (ap p (sym e) ∙ lacks) in
      let one : cond {A = ℕ} (q n) 1 0 ≡ 1 =
      ap (λ (b : Bool). cond b 1 0) (ap q (sym e) ∙ holds) in
      let below = count_more p q n h in omega arith
  | inr ne ↦
      let here = no_more (p n) (q n) (h n) in
      let below = count_gains p q n k h (omega arith) lacks holds in omega arith
]

-- ---- layers by how many vertices they are not above

abbrev within : (ℕ → ℕ) → ℕ → Bits
within layer m w = nat_le 1 (layer w) && nat_le (layer w) m

abbrev rank : OpenGraph → (ℕ → ℕ) → ℕ → ℕ
rank g layer v = count (within layer (layer v)) (size g)

both : (a b : Bool) → a && b ≡ true → (a ≡ true) × (b ≡ true)
both true b e = (refl, e)
both false b e = absurd (true≢false (sym e))

within_parts : (layer : ℕ → ℕ) (m w : ℕ) → within layer m w ≡ true →
    (1 ≤ layer w) × (layer w ≤ m)
within_parts layer m w e =
    let parts = both (nat_le 1 (layer w)) (nat_le (layer w) m) e in
    (leb-true 1 (layer w) parts.0, leb-true (layer w) m parts.1)

within_from : (layer : ℕ → ℕ) (m w : ℕ) → 1 ≤ layer w → layer w ≤ m → within layer m w ≡ true
within_from layer m w some low =
    ap₂ (λ (a b : Bool). a && b) (le-leb 1 (layer w) some) (le-leb (layer w) m low)

not_within : (b : Bool) → (b ≡ true → ⊥) → b ≡ false
not_within true h = absurd (h refl)
not_within false h = refl

rank_less : (g : OpenGraph) (layer : ℕ → ℕ) (k i : ℕ) → i < size g → layer k < layer i →
    rank g layer k < rank g layer i
rank_less g layer k i l less =
    count_gains (within layer (layer k)) (within layer (layer i)) (size g) i
    (λ j e. let parts = within_parts layer (layer k) j e in
    within_from layer (layer i) j parts.0 (let low = parts.1 in omega arith))
    l
    (not_within (within layer (layer k) i) (λ e.
    let low = (within_parts layer (layer k) i e).1 in absurd (omega arith)))
    (within_from layer (layer i) i (omega arith) (omega arith))

rank_is_flow : (g : OpenGraph) (sets : ℕ → Bits) (layer : ℕ → ℕ) → IsFlow g sets layer →
    IsFlow g sets (rank g layer)
rank_is_flow g sets layer flow = record {
  outputs = λ v l out.
      count_none (within layer (layer v)) (size g) (λ w.
      not_within (within layer (layer v) w) (λ e.
      let parts = within_parts layer (layer v) w e in
      let some = parts.0 in let low = parts.1 in
      let none = flow.outputs v l out in absurd (omega arith)));
  positive = λ i l inner.
      let some = flow.positive i l inner in
      let gains = count_gains (λ w. false) (within layer (layer i)) (size g) i
      (λ j e. absurd (true≢false (sym e))) l refl
      (within_from layer (layer i) i some (omega arith)) in
      omega arith;
  corrects = λ i l inner.
      let c = flow.corrects i l inner in
      record {
        within = c.within;
        no_input = c.no_input;
        not_itself = c.not_itself;
        odd_itself = c.odd_itself;
        set_later = λ k e. rank_less g layer k i l (c.set_later k e);
        odd_later = λ k kn ne e. rank_less g layer k i l (c.odd_later k kn ne e);
      };
}

pub layers_few : (g : OpenGraph) (sets : ℕ → Bits) (layer : ℕ → ℕ) → IsChosenFlow g sets layer →
    (v : ℕ) → v < size g → layer v ≤ size g
layers_few g sets layer chosen v l =
    let ranked = rank_is_flow g sets layer (chosen_is_flow g sets layer chosen) in
    let least = (chosen.least_layers v l).least sets (rank g layer) ranked in
    let most = count_most (within layer (layer v)) (size g) in
    omega arith

most_at_most : (layer : ℕ → ℕ) (m a q n : ℕ) → a ≤ m →
    ((v : ℕ) → q ≤ v → v < q + n → layer v ≤ m) →
    fold max a (map layer (numbers_from q n)) ≤ m
most_at_most layer m a q zero low h = low
most_at_most layer m a q (suc n) low h =
    let here = h q (omega arith) (omega arith) in
    most_at_most layer m (max a (layer q)) (suc q) n (omega arith)
    (λ v l k. h v (omega arith) (omega arith))

pub depth_few : (g : OpenGraph) (sets : ℕ → Bits) (layer : ℕ → ℕ) → IsChosenFlow g sets layer →
    depth_of g layer ≤ size g
depth_few g sets layer chosen =
    most_at_most layer (size g) 0 0 (size g) (omega arith)
    (λ v l k. layers_few g sets layer chosen v (omega arith))
