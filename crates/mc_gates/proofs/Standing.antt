-- Lists of the wires that names stand for.
use Rattle.std.proofs.Common.{◌≡◌, ℕ, zero, suc, ◌+◌, ◌<◌, List, Bool, cond, refl, sym, ◌∙◌, ap}
use Rattle.std.proofs.Common.{ap₂, arith, length, get_or}
use Rattle.std.specs.Prelude.{slice_set, slice_index_or}
use Rattle.std.proofs.lemmas.Bool.{eq-eqb, ne_eqb, cases_eq}
use Rattle.std.proofs.lemmas.List.{get_or-set_same, get_or-set_other, get_or_default, length-set}
use mathlib.Core.Logic.{inl, inr}
use mathlib.Core.Path.{fun_ext}
use Rattle.mc_model.specs.Numbers.{numbers_from}
use Rattle.mc_model.specs.Translation.{moved}
use Rattle.mc_gates.specs.Steps.{wire_at}

-- one number set
wire_set : (l : List ℕ) (i a : ℕ) → i < length l → wire_at (slice_set l i a) ≡ moved (wire_at l) i a
wire_set l i a lt = fun_ext (λ v. elim (cases_eq v i) [
  | inl e ↦
      let here : v < length l = omega arith in
      ap (λ (k : ℕ). get_or (slice_set l k a) v v) (sym e)
      ∙ get_or-set_same l v a v here
      ∙ sym (ap (λ (b : Bool). cond b a (wire_at l v)) (eq-eqb v i e))
  | inr ne ↦
      get_or-set_other l i v a v ne
      ∙ sym (ap (λ (b : Bool). cond b a (wire_at l v)) (ne_eqb v i ne))
])

-- two of them exchanged
pub wires_traded : (l : List ℕ) (p q : ℕ) → p < length l → q < length l
    → wire_at (slice_set (slice_set l p (slice_index_or l q 0)) q (slice_index_or l p 0))
    ≡ moved (moved (wire_at l) p (wire_at l q)) q (wire_at l p)
wires_traded l p q lp lq =
    let long = length-set l p (slice_index_or l q 0) in
    wire_set (slice_set l p (slice_index_or l q 0)) q (slice_index_or l p 0) (omega arith)
    ∙ ap₂ (λ (at : ℕ → ℕ) (r : ℕ). moved at q r)
    (wire_set l p (slice_index_or l q 0) lp
    ∙ ap (λ (r : ℕ). moved (wire_at l) p r) (get_or_default l q 0 q lq))
    (get_or_default l p 0 p lp)

-- in order each name stands for its own wire
in_order_at : (q n v : ℕ) → get_or (numbers_from q n) v (q + v) ≡ q + v
in_order_at q zero v = refl
in_order_at q (suc n) zero = omega arith
in_order_at q (suc n) (suc v) =
    let e : suc q + v ≡ q + suc v = omega arith in
    rw e at (in_order_at (suc q) n v)

pub wires_in_order : (n : ℕ) → wire_at (numbers_from 0 n) ≡ λ v. v
wires_in_order n = fun_ext (λ v.
    let e : 0 + v ≡ v = omega arith in
    rw e at (in_order_at 0 n v))
