-- What holds of each fixed correction of a graph holds of all in the list.
use Rattle.std.proofs.Common.{◌≡◌, ℕ, zero, suc, ◌+◌, ◌<◌, ◌≤◌, Bool, true, false, cond, List, []}
use Rattle.std.proofs.Common.{◌∷◌, ◌++◌, refl, sym, ◌∙◌, ap, arith}
use Rattle.std.specs.Prelude.{flat_map}
use Rattle.std.specs.List.{AllByRecursion}
use Rattle.std.proofs.lemmas.Bool.{cases_Bool, true≢false}
use mathlib.Core.Logic.{inl, inr}
use Rattle.mc_model.specs.Numbers.{numbers_from}
use Rattle.mc_model.specs.Signals.{one_signal}
use Rattle.mc_model.specs.Pattern.{Command, FixX, FixZ}
use Rattle.mc_model.specs.Graph.{Fixed, OpenGraph, size, is_output, not_fixed, fixed_at}
use Rattle.mc_model.specs.Graph.{IsOpenGraph, corrections_at, fixed_corrections}
use Rattle.mc_graph.proofs.ListedAll.{all-append}

all_where : (P : Command → Type 0) (b : Bool) (c : Command) → (b ≡ true → P c) →
    AllByRecursion P (cond b (c ∷ []) [])
all_where P true c h = (h refl, tt)
all_where P false c h = tt

fixed_from : (g : OpenGraph) (P : Command → Type 0) →
    ((v : ℕ) → v < size g → (fixed_at g v).x ≡ true → P (FixX v one_signal)) →
    ((v : ℕ) → v < size g → (fixed_at g v).z ≡ true → P (FixZ v one_signal)) →
    (q n : ℕ) → q + n ≤ size g →
    AllByRecursion P (flat_map (corrections_at g) (numbers_from q n))
fixed_from g P xs zs q zero l = tt
fixed_from g P xs zs q (suc n) l =
    let x : List Command = cond (fixed_at g q).x (FixX q one_signal ∷ []) [] in
    let z : List Command = cond (fixed_at g q).z (FixZ q one_signal ∷ []) [] in
    all-append P (x ++ z) _
    (all-append P x z
    (all_where P (fixed_at g q).x (FixX q one_signal) (xs q (omega arith)))
    (all_where P (fixed_at g q).z (FixZ q one_signal) (zs q (omega arith))))
    (fixed_from g P xs zs (suc q) n (omega arith))

pub fixed_all : (g : OpenGraph) (P : Command → Type 0) →
    ((v : ℕ) → v < size g → (fixed_at g v).x ≡ true → P (FixX v one_signal)) →
    ((v : ℕ) → v < size g → (fixed_at g v).z ≡ true → P (FixZ v one_signal)) →
    AllByRecursion P (fixed_corrections g)
unfolding fixed_corrections
fixed_all g P xs zs = fixed_from g P xs zs 0 (size g) (omega arith)

-- only outputs have fixed corrections
pub fixed_output : (g : OpenGraph) → IsOpenGraph g → (part : Fixed → Bool) (v : ℕ) → v < size g →
    part not_fixed ≡ false → part (fixed_at g v) ≡ true → is_output g v ≡ true
fixed_output g valid part v l none e = elim (cases_Bool (is_output g v)) [
  | inl o ↦ o
  | inr n ↦ absurd (true≢false (sym e ∙ ap part (valid.fixed_outputs v l n) ∙ none))
]
