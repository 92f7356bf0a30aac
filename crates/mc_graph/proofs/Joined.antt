-- Marks of joined pairs, when a pair is toggled.
use Rattle.std.proofs.Common.{slice_index_or, replicate, zero, suc, ◌≡◌, ◌≢◌, ℕ, ◌+◌, ◌*◌, Bool}
use Rattle.std.proofs.Common.{false, ◌&&◌, ◌||◌, List, length, refl, sym, ◌∙◌, ap₂, arith}
use Rattle.std.specs.Prelude.{nat_eq, nat_lt}
use Rattle.std.proofs.lemmas.List.{length-replicate}
use Rattle.std.proofs.lemmas.Bool.{eqb-true, and_parts, false_from_ne_true}
use Rattle.mc_model.specs.Bits.{◌⊻◌, same_pair}
use Rattle.mc_model.proofs.Refutation.{same_pair_swap}
use Rattle.mc_graph.specs.Links.{linked, AreLinks}

pub same_pair-swap : (i j v w : ℕ) → same_pair i j v w ≡ same_pair j i v w
same_pair-swap i j v w = same_pair_swap (nat_eq i v) (nat_eq j w) (nat_eq i w) (nat_eq j v)

no_both : (a b : Bool) → a && b ≡ false → (a && b) || (b && a) ≡ false
no_both a b e = grind arith

pub no_loop_pair : (i v w : ℕ) → v ≢ w → same_pair i i v w ≡ false
no_loop_pair i v w ne =
    no_both (nat_eq i v) (nat_eq i w) (false_from_ne_true (nat_eq i v && nat_eq i w) (λ e.
    let parts = and_parts (nat_eq i v) (nat_eq i w) e in
    absurd (ne (sym (eqb-true i v parts.0) ∙ eqb-true i w parts.1))))

pub toggled_links : (marks marks' : List Bool) (v w : ℕ) → AreLinks marks →
    length marks' ≡ length marks → v ≢ w →
    ((i j : ℕ) → linked marks' i j ≡ same_pair i j v w ⊻ linked marks i j) → AreLinks marks'
toggled_links marks marks' v w h long ne pairs = record {
  long = long ∙ h.long;
  either = λ i j.
      pairs i j
      ∙ ap₂ (λ (a b : Bool). a ⊻ b) (same_pair-swap i j v w) (h.either i j)
      ∙ sym (pairs j i);
  apart = λ i.
      pairs i i ∙ ap₂ (λ (a b : Bool). a ⊻ b) (no_loop_pair i v w ne) (h.apart i);
}

-- a bit of a list that has none
no_bit : (n k : ℕ) → slice_index_or (replicate n false) k false ≡ false
no_bit zero k = refl
no_bit (suc n) zero = refl
no_bit (suc n) (suc k) = no_bit n k

and_none : (a b : Bool) → b ≡ false → a && b ≡ false
and_none a b e = grind arith

pub no_links : (n v w : ℕ) → linked (replicate n false) v w ≡ false
no_links n v w =
    and_none (nat_lt v 256 && nat_lt w 256) (slice_index_or (replicate n false) (256 * v + w) false)
    (no_bit n (256 * v + w))

pub links_start : (n : ℕ) → n ≡ 65536 → AreLinks (replicate n false)
links_start n e = record {
  long = length-replicate n false ∙ e;
  either = λ v w. no_links n v w ∙ sym (no_links n w v);
  apart = λ v. no_links n v v;
}
