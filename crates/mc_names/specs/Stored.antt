-- How a name lies in sixteen bytes.
use Rattle.std.specs.Prelude.{◌≡◌, ℕ, ◌-◌, ◌≤◌, List, ◌++◌, length, take, drop, replicate, refl}
use Rattle.std.proofs.Common.{arith, IsTrue, ℕ, true}
use Rattle.std.proofs.lemmas.List.{take-append-drop, length-take-le}
use Rattle.std.proofs.lemmas.Slice.Eq.{slice_eq-Decides}
use Rattle.std.proofs.lemmas.Bool.Decides.{Decides-eqb}
use Rattle.mc_model.specs.Names.{is_name, name_eq}

-- the bytes hold a name of this length, and zeros behind it
pub record IsStored (bytes : List ℕ) (len : ℕ) : Type 0 where
  pub whole : length bytes ≡ 16
  pub within : len ≤ 16
  pub name : IsTrue (is_name (take len bytes))
  pub zeros : drop len bytes ≡ replicate (16 - len) 0

-- a name with zeros behind it, as it lies in sixteen bytes
abbrev pub padded : List ℕ → List ℕ
padded name = name ++ replicate (16 - length name) 0

pub same_len : (bytes : List ℕ) (len : ℕ) → IsStored bytes len → length (take len bytes) ≡ len
same_len bytes len h = let w = h.whole in let k = h.within in length-take-le len bytes (omega arith)

pub same_bytes : (bytes : List ℕ) (len : ℕ) → IsStored bytes len
    → take len bytes ++ replicate (16 - length (take len bytes)) 0 ≡ bytes
same_bytes bytes len h = rw (same_len bytes len h) (rw (← h.zeros) (take-append-drop len bytes))

-- names are the same exactly where their bytes are
pub name_eq-true : (a b : List ℕ) → name_eq a b ≡ true → a ≡ b
name_eq-true a b e = (slice_eq-Decides Decides-eqb a b (name_eq a b) refl).0 e
