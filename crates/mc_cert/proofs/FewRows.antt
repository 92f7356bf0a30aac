-- Rows of vertices with keys of their own are no more than the vertices.
use Rattle.std.proofs.Common.{◌≡◌, ℕ, suc, ◌<◌, ◌≤◌, List, [], ◌∷◌, map, length, refl, ap, arith}
use Rattle.std.specs.Prelude.{nat_eq, All}
use Rattle.std.specs.Cmp.{IsEquivalence}
use Rattle.std.proofs.lemmas.Bool.{eqb-true, eq-eqb}
use Rattle.std.proofs.lemmas.List.Elements.{recursion_from_All}
use Rattle.std.proofs.lemmas.Map.Made.{length-le_from_is_member}
use Rattle.mc_model.specs.Numbers.{numbers_from}
use Rattle.mc_model.proofs.NumberLists.{length-numbers_from}
use Rattle.mc_graph.specs.RowLists.{HaveOwnVertices}
use Rattle.mc_cert.proofs.ListTests.{any_number}
use Rattle.mc_cert.proofs.RowLemmas.{map_of_all, member_holds, eqb_swap}

numbers_equal : IsEquivalence nat_eq
numbers_equal = record {
  refl = λ x. eq-eqb x x refl;
  symm = eqb_swap;
  congr = λ x y z e. ap (λ (k : ℕ). nat_eq k z) (eqb-true x y e);
}

length_map : {A : Type 0} (key : A → ℕ) (rows : List A) → length (map key rows) ≡ length rows
length_map key [] = refl
length_map key (r ∷ rs) = ap suc (length_map key rs)

pub few_rows : {A : Type 0} (key : A → ℕ) (n : ℕ) (rows : List A) → All (λ r. key r < n) rows →
    HaveOwnVertices key rows → length rows ≤ n
few_rows key n rows below own =
    let few =
    length-le_from_is_member numbers_equal (map key rows) (numbers_from 0 n) own
    (λ q m.
    let l =
    member_holds (λ q. q < n) (map key rows) q
    (map_of_all (λ q. q < n) key rows (recursion_from_All (λ r. key r < n) rows below)) m in
    any_number (nat_eq q) 0 n q (omega arith) (omega arith) (eq-eqb q q refl)) in
    let long = length-numbers_from 0 n in
    let same = length_map key rows in
    omega arith
