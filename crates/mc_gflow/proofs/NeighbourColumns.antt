-- A column that is written from a list of neighbours.
use Rattle.std.specs.Prelude.{◌≡◌, ℕ, zero, suc, ◌+◌, ◌<◌, ◌≤◌, Bool, true, false}
use Rattle.std.specs.Prelude.{◌&&◌, ◌||◌, nat_eq, nat_lt, List, [], ◌∷◌, length, take}
use Rattle.std.specs.Prelude.{slice_index, refl}
use Rattle.std.proofs.Common.{arith, sym, ap, ap₂, ◌∙◌}
use Rattle.std.proofs.lemmas.Bool.{ne_eqb, lt-ltb, eqb-true}
use Rattle.std.proofs.lemmas.List.{take_more, take_all}
use Rattle.std.proofs.lemmas.List.Folds.{list_any-append}
use Rattle.mc_model.specs.Bits.{◌⊻◌, Bits}
use Rattle.mc_model.specs.Numbers.{is_member, numbers_where}
use Rattle.mc_model.specs.Signals.{IsRising, AllAbove}
use Rattle.mc_model.specs.Graph.{Edge, joins}
use Rattle.mc_model.proofs.NumberLists.{member_once, count-where}

either_way : (p q r s : Bool) → (p && q) || (r && s) ≡ (s && r) || (q && p)
either_way p q r s = grind arith

-- edges have no direction
pub joins_turned : (es : List Edge) (v w : ℕ) → joins es v w ≡ joins es w v
unfolding joins
joins_turned [] v w = refl
joins_turned (e ∷ es) v w =
    ap₂ (λ (a b : Bool). a ⊻ b)
    (either_way (nat_eq v e.one) (nat_eq w e.other) (nat_eq v e.other) (nat_eq w e.one))
    (joins_turned es v w)

member_more : (ns : List ℕ) (i v : ℕ) → i < length ns →
    is_member (take (i + 1) ns) v ≡ is_member (take i ns) v || nat_eq v (slice_index ns i)
member_more ns i v l =
    ap (λ (qs : List ℕ). is_member qs v) (take_more ns i 0 l)
    ∙ list_any-append (nat_eq v) (take i ns) (slice_index ns i ∷ [])
    ∙ ap (λ (b : Bool). is_member (take i ns) v || b) (alone (nat_eq v (slice_index ns i)))
  where
    alone : (b : Bool) → b || false ≡ b
    alone b = grind arith

above : (ns : List ℕ) (i q : ℕ) → AllAbove q ns → i < length ns → q < slice_index ns i
above [] i q h l = absurd (omega arith)
above (p ∷ ns) zero q h l = h.0
above (p ∷ ns) (suc i) q h l = above ns i q h.1 (omega arith)

-- a rising list has no number twice
pub not_before : (ns : List ℕ) (i : ℕ) → IsRising ns → i < length ns →
    is_member (take i ns) (slice_index ns i) ≡ false
not_before [] i h l = absurd (omega arith)
not_before (p ∷ ns) zero h l = refl
not_before (p ∷ ns) (suc i) h l =
    let lt : p < slice_index ns i = above ns i p h.0 (omega arith) in
    ap₂ (λ (a b : Bool). a || b)
    (ne_eqb (slice_index ns i) p (λ e. absurd (omega arith)))
    (not_before ns i h.1 (omega arith))

one_more : (m same told keep : Bool) → (same ≡ true → m ≡ false) → (same ≡ true → told ≡ keep) →
    (m && keep) ⊻ (told && same) ≡ (m || same) && keep
one_more m false told keep h e = grind arith
one_more m true told keep h e = rw (h refl, e refl) (both keep)
  where
    both : (b : Bool) → (false && b) ⊻ (b && true) ≡ (false || true) && b
    both b = grind arith

-- the next neighbour, if it is to be kept
pub neighbour_more : (ns : List ℕ) (i : ℕ) (keep : Bits) (old new : Bits) (told : Bool) →
    IsRising ns → i < length ns → told ≡ keep (slice_index ns i) →
    ((v : ℕ) → old v ≡ is_member (take i ns) v && keep v) →
    ((v : ℕ) → new v ≡ old v ⊻ (told && nat_eq v (slice_index ns i))) →
    (v : ℕ) → new v ≡ is_member (take (i + 1) ns) v && keep v
neighbour_more ns i keep old new told rise l e held step v =
    let q : ℕ = slice_index ns i in
    step v
    ∙ ap (λ (b : Bool). b ⊻ (told && nat_eq v q)) (held v)
    ∙ one_more (is_member (take i ns) v) (nat_eq v q) told (keep v)
    (λ s. ap (is_member (take i ns)) (eqb-true v q s) ∙ not_before ns i rise l)
    (λ s. e ∙ ap keep (sym (eqb-true v q s)))
    ∙ ap (λ (b : Bool). b && keep v) (sym (member_more ns i v l))

pub all_neighbours : (es : List Edge) (n w i v : ℕ) (ns : List ℕ) (keep b : Bool) →
    ns ≡ numbers_where (joins es w) n → length ns ≤ i → v < n →
    b ≡ is_member (take i ns) v && keep → b ≡ joins es v w && keep
all_neighbours es n w i v ns keep b e l vn h =
    h
    ∙ ap (λ (c : Bool). c && keep)
    (ap (λ (qs : List ℕ). is_member qs v) (take_all i ns l ∙ e)
    ∙ member_once (numbers_where (joins es w) n) v (nat_lt v n && joins es w v)
    (count-where (joins es w) n v)
    ∙ ap (λ (c : Bool). c && joins es w v) (lt-ltb v n vn)
    ∙ joins_turned es w v)
