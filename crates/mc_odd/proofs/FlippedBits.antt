-- Bits that are flipped at listed places, and at the neighbours of the vertices of a set.
use Rattle.std.specs.Prelude.{◌≡◌, ℕ, ◌+◌, ◌<◌, ◌≤◌, Bool, true, false, ◌&&◌, ◌||◌, nat_eq}
use Rattle.std.specs.Prelude.{List, [], ◌∷◌, length, drop, get_or, refl}
use Rattle.std.proofs.Common.{arith, add-one, sym, ap, ap₂, ◌∙◌, inl, inr}
use Rattle.std.proofs.Math.Seq.{drop-cons}
use Rattle.std.proofs.lemmas.Bool.{eq-eqb, ne_eqb, cases_eq}
use Rattle.std.proofs.lemmas.List.{drop_all}
use Rattle.mc_model.specs.Bits.{◌⊻◌, Bits, parity, odd}
use Rattle.mc_model.specs.Numbers.{numbers_where}
use Rattle.mc_model.specs.Flow.{single}
use Rattle.mc_model.specs.Graph.{Edge, joins}
use Rattle.mc_model.proofs.OddSums.{odd-same, odd-pick}
use Rattle.mc_odd.proofs.NumberSums.{parity-where}

moved : (a b c : Bool) → (a ⊻ b) ⊻ c ≡ a ⊻ (b ⊻ c)
moved a b c = grind arith

nothing : (a : Bool) → a ⊻ false ≡ a
nothing a = grind arith

-- one more place was flipped
pub flip_more : (old new t : Bool) (ns : List ℕ) (i v : ℕ) → i < length ns →
    new ≡ old ⊻ nat_eq v (get_or ns i 0) →
    old ⊻ parity (drop i ns) (nat_eq v) ≡ t → new ⊻ parity (drop (i + 1) ns) (nat_eq v) ≡ t
unfolding parity
flip_more old new t ns i v lt e same =
    rw (e, moved old (nat_eq v (get_or ns i 0)) (parity (drop (i + 1) ns) (nat_eq v)), add-one i)
    (rw (drop-cons ns i 0 lt) at same)

-- all places were flipped
pub flips_end : (old t : Bool) (ns : List ℕ) (i v : ℕ) → length ns ≤ i →
    old ⊻ parity (drop i ns) (nat_eq v) ≡ t → old ≡ t
unfolding parity
flips_end old t ns i v none same = sym (nothing old) ∙ (rw (drop_all i ns none) at same)

same_either_way : (v k : ℕ) → nat_eq v k ≡ single v k
same_either_way v k = elim (cases_eq v k) [
  | inl e ↦ eq-eqb v k e ∙ sym (eq-eqb k v (sym e))
  | inr ne ↦ ne_eqb v k ne ∙ sym (ne_eqb k v (λ e. ne (sym e)))
]

either_way : (p q r s : Bool) → (p && q) || (r && s) ≡ (s && r) || (q && p)
either_way p q r s = grind arith

-- edges have no direction
joins_turned : (es : List Edge) (v w : ℕ) → joins es v w ≡ joins es w v
unfolding joins
joins_turned [] v w = refl
joins_turned (e ∷ es) v w =
    ap₂ (λ (a b : Bool). a ⊻ b)
    (either_way (nat_eq v e.one) (nat_eq w e.other) (nat_eq v e.other) (nat_eq w e.one))
    (joins_turned es v w)

turned_about : (a b : Bool) → a && b ≡ b && a
turned_about a b = grind arith

-- among the neighbours of `w` stands `v` where an edge joins the two
pub flipped_neighbours : (es : List Edge) (n v w : ℕ) → v < n →
    parity (numbers_where (joins es w) n) (nat_eq v) ≡ joins es v w
flipped_neighbours es n v w l =
    parity-where (joins es w) (nat_eq v) n
    ∙ odd-same n (λ k. nat_eq v k && joins es w k) (λ k. joins es w k && single v k)
    (λ k _. turned_about (nat_eq v k) (joins es w k)
    ∙ ap (λ (b : Bool). joins es w k && b) (same_either_way v k))
    ∙ odd-pick n v (joins es w) l
    ∙ joins_turned es w v

pub sum_turned : (a b : Bool) → a ⊻ b ≡ (true && b) ⊻ a
sum_turned a b = grind arith

-- the neighbours of the next vertex were flipped, if it is in the set
pub flipped_more : (es : List Edge) (n w : ℕ) (s : Bits) (old new : Bits) (told : Bool) →
    told ≡ s w → ((v : ℕ) → v < n → old v ≡ odd w (λ k. s k && joins es v k)) →
    ((v : ℕ) → v < n → new v ≡ (told && joins es v w) ⊻ old v) →
    (v : ℕ) → v < n → new v ≡ odd (w + 1) (λ k. s k && joins es v k)
unfolding odd
flipped_more es n w s old new told e held step v l =
    step v l
    ∙ ap₂ (λ (a b : Bool). (a && joins es v w) ⊻ b) e (held v l)
    ∙ ap (λ (k : ℕ). odd k (λ k. s k && joins es v k)) (sym (add-one w))
