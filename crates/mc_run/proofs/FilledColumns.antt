-- Entries that are filled column by column.
use Rattle.std.proofs.Common.{◌≡◌, ℕ, ◌+◌, ◌*◌, ◌<◌, ℤ, List, [], ◌∷◌, ◌++◌, length, map, refl}
use Rattle.std.proofs.Common.{sym}
use Rattle.std.proofs.Common.{ap, ◌∙◌, arith, length-append}
use Rattle.std.proofs.lemmas.Bool.{cases_eq}
use Rattle.std.proofs.lemmas.Nat.{mul-add-lt}
use Rattle.std.proofs.lemmas.List.{get_or-append-add, get_or_append_left}
use mathlib.Core.Logic.{inl, inr}
use Rattle.mc_run.specs.Sources.{entry}

-- so many columns of `count` entries, which have the values
pub record Filled (value : ℕ → ℕ → List ℤ) (count columns : ℕ) (entries : List (List ℤ)) : Type 0
  where
    pub long : length entries ≡ columns * count
    pub at : (y b : ℕ) → y < count → b < columns → entry entries (b * count + y) ≡ value y b

pub map_same : {A : Type 0} (xs : List A) → map (λ x. x) xs ≡ xs
map_same [] = refl
map_same (x ∷ xs) = ap (λ t. x ∷ t) (map_same xs)

pub nothing_filled : (value : ℕ → ℕ → List ℤ) (count : ℕ) (entries : List (List ℤ)) →
    entries ≡ [] → Filled value count 0 entries
nothing_filled value count entries e = record {
  long = ap length e ∙ omega arith;
  at = λ y b h k. absurd (omega arith);
}

pub filled_more : (value : ℕ → ℕ → List ℤ) (count b : ℕ) (es column : List (List ℤ)) →
    Filled value count b es → length column ≡ count →
    ((y : ℕ) → y < count → entry column y ≡ value y b) →
    Filled value count (b + 1) (es ++ column)
filled_more value count b es column filled long values = record {
  long = length-append es column ∙ (let l = filled.long in omega arith);
  at = λ y k h below. elim (cases_eq k b) [
    | inl e ↦
        let l : b * count + y ≡ length es + y = let f = filled.long in omega arith in
        ap (λ n. entry (es ++ column) (n * count + y)) e
        ∙ ap (entry (es ++ column)) l ∙ get_or-append-add es column y []
        ∙ values y h ∙ ap (value y) (sym e)
    | inr ne ↦
        let lt : k < b = omega arith in
        let inside : k * count + y < length es =
        let m = mul-add-lt k count y b lt h in
        let f = filled.long in
        let c : count * b ≡ b * count = grind arith in
        omega arith in
        get_or_append_left es column [] (k * count + y) inside ∙ filled.at y k h lt
  ];
}
