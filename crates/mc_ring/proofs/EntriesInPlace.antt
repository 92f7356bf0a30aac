-- Where the entries of a matrix lie.
use Rattle.std.specs.Prelude.{◌≡◌, ◌≢◌, ◌⊎◌, ℕ, ◌+◌, ◌*◌, ◌/◌, ◌%◌, ◌<◌, ℤ, List, []}
use Rattle.std.specs.Prelude.{length, map, slice_index_or, slice_set}
use Rattle.std.proofs.Common.{arith, sym, ap, ◌∙◌, inl, inr}
use Rattle.std.proofs.Common.{get_or-set_same, get_or-set_other}
use Rattle.std.proofs.lemmas.List.{map-set, length-map}
use Rattle.std.proofs.lemmas.Nat.{div-mul-add, mod-mul-add}

pub place_below : (m n r c : ℕ) → r < m → c < n → r * n + c < m * n
place_below m n r c h k = grind arith

row_of_place : (n r c i j : ℕ) → c < n → j < n → i * n + j ≡ r * n + c → i ≡ r
row_of_place n r c i j h k e =
    sym (div-mul-add i n j k) ∙ ap (λ (x : ℕ). x / n) e ∙ div-mul-add r n c h

column_of_place : (n r c i j : ℕ) → c < n → j < n → i * n + j ≡ r * n + c → j ≡ c
column_of_place n r c i j h k e =
    sym (mod-mul-add i n j k) ∙ ap (λ (x : ℕ). x % n) e ∙ mod-mul-add r n c h

-- places of different rows or columns differ
pub places_apart : (n r c i j : ℕ) → c < n → j < n → (i ≢ r) ⊎ (j ≢ c) → i * n + j ≢ r * n + c
places_apart n r c i j h k (inl ne) e = ne (row_of_place n r c i j h k e)
places_apart n r c i j h k (inr ne) e = ne (column_of_place n r c i j h k e)

module _ {R : Type 0} (seen : R → List ℤ) (items : List R) (m n r c : ℕ) (v : R)
    (long : length items ≡ m * n) (row : r < m) (column : c < n) where
  pub set_here :
      slice_index_or (map seen (slice_set items (r * n + c) v)) (r * n + c) [] ≡ seen v
  set_here =
      let within : r * n + c < length (map seen items) =
      rw (length-map items seen, long) (place_below m n r c row column) in
      ap (λ (xs : List (List ℤ)). slice_index_or xs (r * n + c) [])
      (map-set seen items (r * n + c) v)
      ∙ get_or-set_same (map seen items) (r * n + c) (seen v) [] within

  pub set_there : (i j : ℕ) → j < n → (i ≢ r) ⊎ (j ≢ c) →
      slice_index_or (map seen (slice_set items (r * n + c) v)) (i * n + j) []
      ≡ slice_index_or (map seen items) (i * n + j) []
  set_there i j h apart =
      ap (λ (xs : List (List ℤ)). slice_index_or xs (i * n + j) [])
      (map-set seen items (r * n + c) v)
      ∙ get_or-set_other (map seen items) (r * n + c) (i * n + j) (seen v) []
      (places_apart n r c i j column h apart)
