-- The wires that names stand for: each name for one, and each wire for one name.
use Rattle.std.proofs.Common.{◌≡◌, ℕ, ◌+◌, ◌<◌, Bool, true, cond, map, List, [], ◌∷◌, refl, sym}
use Rattle.std.proofs.Common.{◌∙◌, ap, ap₂, arith}
use Rattle.std.specs.Prelude.{nat_eq, count_by, All}
use Rattle.std.specs.List.{AllByRecursion}
use Rattle.std.proofs.lemmas.Bool.{eq-eqb, ne_eqb, cases_eq}
use Rattle.std.proofs.lemmas.List.Sums.{sum_by-cons}
use Rattle.std.proofs.lemmas.List.Elements.{All-nil, All-cons, recursion_from_All}
use mathlib.Core.Logic.{inl, inr}
use Rattle.mc_model.specs.Numbers.{ListsOnce}
use Rattle.mc_model.specs.Bits.{Bits, replaced}
use Rattle.mc_model.specs.Amplitude.{placed}
use Rattle.mc_model.specs.Translation.{moved}
use Rattle.mc_model.proofs.BitLemmas.{replaced_same, replaced_other}
use Rattle.mc_gates.specs.Gates.{Op, H, X, Z, S, Sdg, T, Tdg, Cx, Cz, Swap, Ccx, exchanged, OpFits}
use Rattle.mc_gates.specs.Gates.{OpsFit}
use Rattle.mc_gates.specs.Lowering.{wires_behind, last_wires}

-- `at` orders the numbers below `n` anew
pub record IsReordering (n : ℕ) (at : ℕ → ℕ) : Type 0 where
  pub below : (v : ℕ) → v < n → at v < n
  pub apart : (v u : ℕ) → v < n → u < n → at v ≡ at u → v ≡ u
  pub onto : (w : ℕ) → w < n → (v : ℕ) × (v < n) × (at v ≡ w)

pub in_order : (n : ℕ) → IsReordering n (λ v. v)
in_order n = record {
  below = λ v lt. lt;
  apart = λ v u lv lu e. e;
  onto = λ w lt. (w, lt, refl);
}

moved_same : (at : ℕ → ℕ) (v r : ℕ) → moved at v r v ≡ r
moved_same at v r = ap (λ (b : Bool). cond b r (at v)) (eq-eqb v v refl)

moved_other : (at : ℕ → ℕ) (v r u : ℕ) → (u ≡ v → ⊥) → moved at v r u ≡ at u
moved_other at v r u ne = ap (λ (b : Bool). cond b r (at u)) (ne_eqb u v ne)

-- ---- an exchange

abbrev pub traded : (ℕ → ℕ) → ℕ → ℕ → (ℕ → ℕ)
traded at p q = moved (moved at p (at q)) q (at p)

-- the number that the exchange takes to `v`
abbrev partner : ℕ → ℕ → ℕ → ℕ
partner p q v = moved (moved (λ u. u) p q) q p v

pub traded_first : (at : ℕ → ℕ) (p q : ℕ) → (p ≡ q → ⊥) → traded at p q p ≡ at q
traded_first at p q ne =
    moved_other (moved at p (at q)) q (at p) p ne ∙ moved_same at p (at q)

pub traded_second : (at : ℕ → ℕ) (p q : ℕ) → traded at p q q ≡ at p
traded_second at p q = moved_same (moved at p (at q)) q (at p)

pub traded_other : (at : ℕ → ℕ) (p q v : ℕ) → (v ≡ p → ⊥) → (v ≡ q → ⊥) → traded at p q v ≡ at v
traded_other at p q v np nq =
    moved_other (moved at p (at q)) q (at p) v nq ∙ moved_other at p (at q) v np

-- an exchange is the exchange of numbers, and then `at`
traded_is : (at : ℕ → ℕ) (p q v : ℕ) → (p ≡ q → ⊥) → traded at p q v ≡ at (partner p q v)
traded_is at p q v ne = elim (cases_eq v q) [
  | inl e ↦
      ap (traded at p q) e
      ∙ traded_second at p q
      ∙ ap at (sym (ap (partner p q) e ∙ traded_second (λ u. u) p q))
  | inr nq ↦ elim (cases_eq v p) [
    | inl e ↦
        ap (traded at p q) e
        ∙ traded_first at p q ne
        ∙ ap at (sym (ap (partner p q) e ∙ traded_first (λ u. u) p q ne))
    | inr np ↦
        traded_other at p q v np nq
        ∙ ap at (sym (traded_other (λ u. u) p q v np nq))
  ]
]

partner_below : (n p q v : ℕ) → p < n → q < n → v < n → partner p q v < n
partner_below n p q v lp lq lv = elim (cases_eq v q) [
  | inl e ↦ let f = ap (partner p q) e ∙ traded_second (λ u. u) p q in omega arith
  | inr nq ↦ elim (cases_eq v p) [
    | inl e ↦
        let f : partner p q v ≡ q = ap (partner p q) e
        ∙ traded_first (λ u. u) p q (λ g. nq (e ∙ g)) in
        omega arith
    | inr np ↦ let f = traded_other (λ u. u) p q v np nq in omega arith
  ]
]

partner_twice : (p q v : ℕ) → (p ≡ q → ⊥) → partner p q (partner p q v) ≡ v
partner_twice p q v ne = elim (cases_eq v q) [
  | inl e ↦
      ap (partner p q) (ap (partner p q) e ∙ traded_second (λ u. u) p q)
      ∙ traded_first (λ u. u) p q ne
      ∙ sym e
  | inr nq ↦ elim (cases_eq v p) [
    | inl e ↦
        ap (partner p q) (ap (partner p q) e ∙ traded_first (λ u. u) p q ne)
        ∙ traded_second (λ u. u) p q
        ∙ sym e
    | inr np ↦
        ap (partner p q) (traded_other (λ u. u) p q v np nq)
        ∙ traded_other (λ u. u) p q v np nq
  ]
]

traded_reorders : (n p q : ℕ) (at : ℕ → ℕ) → p < n → q < n → (p ≡ q → ⊥) → IsReordering n at →
    IsReordering n (traded at p q)
traded_reorders n p q at lp lq ne h = record {
  below = λ v lt.
      let e = traded_is at p q v ne in
      let b = h.below (partner p q v) (partner_below n p q v lp lq lt) in
      omega arith;
  apart = λ v u lv lu e.
      sym (partner_twice p q v ne)
      ∙ ap (partner p q)
      (h.apart (partner p q v) (partner p q u) (partner_below n p q v lp lq lv)
      (partner_below n p q u lp lq lu)
      (sym (traded_is at p q v ne) ∙ e ∙ traded_is at p q u ne))
      ∙ partner_twice p q u ne;
  onto = λ w lt.
      let v = h.onto w lt in (
        partner p q v.0,
        partner_below n p q v.0 lp lq v.1,
        traded_is at p q (partner p q v.0) ne ∙ ap at (partner_twice p q v.0 ne) ∙ v.2,
      );
}

pub behind_reorders : (n : ℕ) (at : ℕ → ℕ) (g : Op) → OpFits n g → IsReordering n at →
    IsReordering n (wires_behind at g)
unfolding OpFits wires_behind
behind_reorders n at (H q) fit h = h
behind_reorders n at (X q) fit h = h
behind_reorders n at (Z q) fit h = h
behind_reorders n at (S q) fit h = h
behind_reorders n at (Sdg q) fit h = h
behind_reorders n at (T q) fit h = h
behind_reorders n at (Tdg q) fit h = h
behind_reorders n at (Cx p q) fit h = h
behind_reorders n at (Cz p q) fit h = h
behind_reorders n at (Swap p q) fit h = traded_reorders n p q at fit.0 fit.1 fit.2 h
behind_reorders n at (Ccx p q r) fit h = h

pub last_reorders : (n : ℕ) (at : ℕ → ℕ) (gs : List Op) → OpsFit n gs → IsReordering n at →
    IsReordering n (last_wires gs at)
unfolding last_wires
last_reorders n at [] fit h = h
last_reorders n at (g ∷ gs) fit h =
    last_reorders n (wires_behind at g) gs fit.1 (behind_reorders n at g fit.0 h)

-- ---- settings of the names beside settings of the wires

abbrev pub Agree : ℕ → (ℕ → ℕ) → Bits → Bits → Type 0
Agree n at x y = (v : ℕ) → v < n → x (at v) ≡ y v

pub agree_replaced : (n : ℕ) (at : ℕ → ℕ) (x y : Bits) (q : ℕ) (b : Bool) → IsReordering n at →
    q < n → Agree n at x y → Agree n at (replaced x (at q) b) (replaced y q b)
agree_replaced n at x y q b h lq same v lt = elim (cases_eq v q) [
  | inl e ↦
      ap (λ (u : ℕ). replaced x (at q) b (at u)) e
      ∙ replaced_same x (at q) b
      ∙ sym (replaced_same y q b)
      ∙ ap (replaced y q b) (sym e)
  | inr ne ↦
      replaced_other x (at q) b (at v) (λ e. ne (h.apart v q lt lq e))
      ∙ same v lt
      ∙ sym (replaced_other y q b v ne)
]

-- what agrees through the exchange agrees without it where the bits are exchanged
pub agree_traded : (n : ℕ) (at : ℕ → ℕ) (x y : Bits) (p q : ℕ) → p < n → q < n →
    (p ≡ q → ⊥) → Agree n (traded at p q) x y → Agree n at x (exchanged y p q)
agree_traded n at x y p q lp lq ne same v lt = elim (cases_eq v q) [
  | inl e ↦
      ap (λ (u : ℕ). x (at u)) e
      ∙ ap x (sym (traded_first at p q ne))
      ∙ same p lp
      ∙ sym (ap (exchanged y p q) e ∙ replaced_same (replaced y p (y q)) q (y p))
  | inr nq ↦ elim (cases_eq v p) [
    | inl e ↦
        ap (λ (u : ℕ). x (at u)) e
        ∙ ap x (sym (traded_second at p q))
        ∙ same q lq
        ∙ sym (ap (exchanged y p q) e ∙ replaced_other (replaced y p (y q)) q (y p) p ne
        ∙ replaced_same y p (y q))
    | inr np ↦
        ap x (sym (traded_other at p q v np nq))
        ∙ same v lt
        ∙ sym (replaced_other (replaced y p (y q)) q (y p) v nq
        ∙ replaced_other y p (y q) v np)
  ]
]

pub agree_placed : (n : ℕ) (at : ℕ → ℕ) → IsReordering n at → (qs : List ℕ) (ys : List Bool) →
    AllByRecursion (λ (q : ℕ). q < n) qs → Agree n at (placed (map at qs) ys) (placed qs ys)
unfolding placed
agree_placed n at h [] ys below v lt = refl
agree_placed n at h (q ∷ qs) [] below v lt = refl
agree_placed n at h (q ∷ qs) (y ∷ ys) below v lt =
    agree_replaced n at (placed (map at qs) ys) (placed qs ys) q y h below.0
    (agree_placed n at h qs ys below.1) v lt

-- ---- outputs

count_through : (n : ℕ) (at : ℕ → ℕ) (v : ℕ) (qs : List ℕ) → IsReordering n at → v < n →
    AllByRecursion (λ (q : ℕ). q < n) qs →
    count_by (nat_eq (at v)) (map at qs) ≡ count_by (nat_eq v) qs
count_through n at v [] h lt below = refl
count_through n at v (q ∷ qs) h lt below =
    let same : nat_eq (at v) (at q) ≡ nat_eq v q = elim (cases_eq v q) [
      | inl e ↦ eq-eqb (at v) (at q) (ap at e) ∙ sym (eq-eqb v q e)
      | inr ne ↦
          ne_eqb (at v) (at q) (λ e. ne (h.apart v q lt below.0 e)) ∙ sym (ne_eqb v q ne)
    ] in
    sum_by-cons (λ u. cond (nat_eq (at v) u) 1 0) (at q) (map at qs)
    ∙ ap₂ (λ (b : Bool) (k : ℕ). cond b 1 0 + k) same (count_through n at v qs h lt below.1)
    ∙ sym (sum_by-cons (λ u. cond (nat_eq v u) 1 0) q qs)

all_through : (n : ℕ) (at : ℕ → ℕ) (qs : List ℕ) → IsReordering n at →
    AllByRecursion (λ (q : ℕ). q < n) qs → All (λ q. q < n) (map at qs)
all_through n at [] h below = All-nil (λ q. q < n)
all_through n at (q ∷ qs) h below =
    All-cons (λ r. r < n) (at q) (map at qs) (h.below q below.0) (all_through n at qs h below.1)

-- outputs that list each name once list each wire once
pub outputs_through : (n : ℕ) (at : ℕ → ℕ) (qs : List ℕ) → IsReordering n at →
    ListsOnce n (λ v. true) qs → ListsOnce n (λ v. true) (map at qs)
outputs_through n at qs h once =
    let below = recursion_from_All (λ (q : ℕ). q < n) qs once.below in
    record {
      below = all_through n at qs h below;
      once = λ w lt.
          let v = h.onto w lt in
          ap (λ (k : ℕ). count_by (nat_eq k) (map at qs)) (sym v.2)
          ∙ count_through n at v.0 qs h v.1 below
          ∙ once.once v.0 v.1;
    }
