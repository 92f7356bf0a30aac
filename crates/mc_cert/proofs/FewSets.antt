-- Rows of a bound that are apart and whose layers have at most four digits are few.
use Rattle.std.proofs.Common.{◌≡◌, ℕ, ◌+◌, ◌*◌, ◌<◌, ◌≤◌}
use Rattle.std.proofs.Common.{Bool, false, ◌&&◌, List, [], ◌∷◌, map}
use Rattle.std.proofs.Common.{sym, ap₂, ◌∙◌, arith}
use Rattle.std.specs.Prelude.{nat_eq}
use Rattle.std.specs.List.{AllByRecursion, IsDistinct}
use Rattle.std.proofs.lemmas.Bool.{eq-eqb, ne_eqb, true≢false}
use Rattle.std.proofs.lemmas.List.Elements.{All-from_recursion, recursion_from_All}
use Rattle.mc_model.specs.Graph.{size}
use Rattle.mc_cert.specs.BoundRecords.{BoundRow}
use Rattle.mc_cert.specs.BoundRules.{is_for, AreApart}
use Rattle.mc_cert.specs.Laws.{ShortBoundsAreFew}
use Rattle.mc_cert.proofs.RowLemmas.{all_with}
use Rattle.mc_cert.proofs.FewRows.{few_rows}

-- one number for a layer and a vertex below 256
abbrev pair_number : BoundRow → ℕ
pair_number r = r.k * 256 + r.vertex

abbrev IsSmall : BoundRow → Type 0
IsSmall r = (r.vertex < 256) × (r.k ≤ 9999)

other_pair : (r s : BoundRow) → IsSmall r → IsSmall s → is_for r.k r.vertex s ≡ false →
    nat_eq (pair_number r) (pair_number s) ≡ false
other_pair r s p q e = ne_eqb (pair_number r) (pair_number s) (λ same.
    let a = p.0 in
    let b = q.0 in
    let k : r.k ≡ s.k = omega arith in
    let v : r.vertex ≡ s.vertex = omega arith in
    true≢false (sym (ap₂ (λ (x y : Bool). x && y) (eq-eqb r.k s.k k)
    (eq-eqb r.vertex s.vertex v)) ∙ e))

others : (r : BoundRow) (rows : List BoundRow) → IsSmall r → AllByRecursion IsSmall rows →
    AllByRecursion (λ s. is_for r.k r.vertex s ≡ false) rows →
    AllByRecursion (λ q. nat_eq (pair_number r) q ≡ false) (map pair_number rows)
others r [] p all apart = tt
others r (s ∷ rows) p all apart =
    (other_pair r s p all.0 apart.0, others r rows p all.1 apart.1)

own_numbers : (rows : List BoundRow) → AllByRecursion IsSmall rows → AreApart rows →
    IsDistinct nat_eq (map pair_number rows)
unfolding IsDistinct
own_numbers [] all apart = tt
own_numbers (r ∷ rows) all apart =
    (others r rows all.0 all.1 apart.0, own_numbers rows all.1 apart.1)

pub short_bounds_fit : ShortBoundsAreFew
short_bounds_fit g b small own layers rows short =
    let each =
    all_with (λ (r : BoundRow). r.vertex < size g) (λ (r : BoundRow). r.k ≤ 9999) IsSmall
    (λ r l k. (omega arith, k)) b.rows (recursion_from_All _ b.rows rows.vertices)
    (recursion_from_All _ b.rows short) in
    let sets =
    few_rows pair_number 2560000 b.rows
    (All-from_recursion (λ (r : BoundRow). pair_number r < 2560000) b.rows
    (all_with IsSmall IsSmall (λ r. pair_number r < 2560000)
    (λ r p q. let l = p.0 in let k = p.1 in omega arith) b.rows each each))
    (own_numbers b.rows each own.apart) in
    let vertices = few_rows (λ r. r.vertex) (size g) b.layers layers own.own in
    record { layers = layers; rows = rows; few = omega arith }
