-- Bounds whose rows are of other vertices or for other layers each.
use Rattle.std.proofs.Common.{◌≡◌, ℕ, Bool, false, ◌&&◌, ◌||◌, map, List, [], ◌∷◌, ◌++◌}
use Rattle.std.proofs.Common.{◌∙◌, refl, ap, ap₂}
use Rattle.std.specs.Prelude.{nat_eq}
use Rattle.std.specs.List.{list_any, IsDistinct}
use Rattle.std.specs.Cmp.{IsEquivalence}
use Rattle.std.proofs.lemmas.Bool.{eqb-true, eq-eqb, and_parts}
use Rattle.std.proofs.lemmas.Cmp.{nat_eq_equiv}
use Rattle.std.proofs.lemmas.Map.Keys.{IsDistinct-push}
use Rattle.std.proofs.lemmas.List.{map-append}
use Rattle.mc_graph.specs.RowLists.{has_row}
use Rattle.mc_cert.specs.BoundRecords.{LayerRow, BoundRow}
use Rattle.mc_cert.specs.BoundRules.{is_for}
use Rattle.mc_cert.specs.Bounds.{AreOwn}
use Rattle.mc_cert.proofs.RowLemmas.{eqb_swap}

abbrev vertex : LayerRow → ℕ
vertex r = r.vertex

any_mapped : (layers : List LayerRow) (v : ℕ) →
    list_any (nat_eq v) (map vertex layers) ≡ has_row vertex layers v
any_mapped [] v = refl
any_mapped (r ∷ layers) v = ap (λ (b : Bool). nat_eq v r.vertex || b) (any_mapped layers v)

same_pair : IsEquivalence (λ (r s : BoundRow). is_for r.k r.vertex s)
same_pair = record {
  refl = λ r. ap₂ (λ (a b : Bool). a && b) (eq-eqb r.k r.k refl) (eq-eqb r.vertex r.vertex refl);
  symm = λ r s. ap₂ (λ (a b : Bool). a && b) (eqb_swap r.k s.k) (eqb_swap r.vertex s.vertex);
  congr = λ r s t e.
      let parts = and_parts (nat_eq r.k s.k) (nat_eq r.vertex s.vertex) e in
      ap₂ (λ (k v : ℕ). is_for k v t) (eqb-true r.k s.k parts.0)
      (eqb-true r.vertex s.vertex parts.1);
}

pub none_own : AreOwn [] []
unfolding IsDistinct
none_own = record { own = tt; apart = tt }

-- one more layer
pub layer_more : (layers : List LayerRow) (rows : List BoundRow) (r : LayerRow) →
    AreOwn layers rows → has_row vertex layers r.vertex ≡ false →
    AreOwn (layers ++ r ∷ []) rows
layer_more layers rows r own new = record {
  own = rw (map-append vertex layers (r ∷ []))
      (IsDistinct-push nat_eq_equiv (map vertex layers) r.vertex own.own
      (any_mapped layers r.vertex ∙ new));
  apart = own.apart;
}

-- one more set
pub set_more : (layers : List LayerRow) (rows : List BoundRow) (r : BoundRow) →
    AreOwn layers rows → list_any (is_for r.k r.vertex) rows ≡ false →
    AreOwn layers (rows ++ r ∷ [])
set_more layers rows r own new = record {
  own = own.own;
  apart = IsDistinct-push same_pair rows r own.apart new;
}
