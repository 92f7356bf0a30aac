-- The vertices that were passed in the order of measuring, and those that are current then.
use Rattle.std.proofs.Common.{◌≡◌, ℕ, ◌<◌, ◌≤◌, Bool, true, false, ◌&&◌, ◌||◌, not, List, []}
use Rattle.std.proofs.Common.{◌∷◌}
use Rattle.std.proofs.Common.{refl, sym, ◌∙◌, ap, ap₂, arith}
use Rattle.std.specs.Prelude.{nat_eq, unwrap_or, is_none, Option, Some, None}
use Rattle.std.specs.List.{AllByRecursion}
use Rattle.std.proofs.lemmas.Bool.{eq-eqb, ne_eqb, eqb-true, and_from, or_cases, or_from}
use Rattle.std.proofs.lemmas.Bool.{not_from_false, cases_eq, false≢true, true≢false}
use Rattle.std.proofs.lemmas.Bool.{false_from_ne_true}
use mathlib.Core.Path.{subst}
use mathlib.Core.Logic.{inl, inr}
use Rattle.mc_model.specs.Bits.{◌⊻◌, Bits}
use Rattle.mc_model.specs.Numbers.{is_member}
use Rattle.mc_model.specs.Graph.{OpenGraph, size, is_output, joins}
use Rattle.mc_model.specs.Flow.{IsFlow, IsCausalFlow, depth_of}
use Rattle.mc_model.specs.Made.{measuring_order, last_before, is_first, is_current}
use Rattle.mc_model.proofs.BitLemmas.{xor_false}
use Rattle.mc_make.proofs.MeasuringOrder.{IsToMeasure, IsLater, IsOrder, measured_in_order}
use Rattle.mc_model.proofs.NumberLists.{member_once}
use Rattle.mc_make.proofs.OrderLists.{order_once}
use Rattle.mc_extract.proofs.Chains.{corrects_causally, before_cases, one_before, before_next}
use Rattle.mc_extract.proofs.Chains.{next_of}

pub all_at : (P : ℕ → Type 0) (qs : List ℕ) (k : ℕ) → AllByRecursion P qs →
    is_member qs k ≡ true → P k
all_at P [] k all m = absurd (false≢true m)
all_at P (q ∷ qs) k all m = elim (or_cases (nat_eq k q) (is_member qs k) m) [
  | inl e ↦ subst P (sym (eqb-true k q e)) all.0
  | inr h ↦ all_at P qs k all.1 h
]

-- ---- the vertices `done` were passed, and the vertices `is` are still to come

pub record IsPassed (g : OpenGraph) (layer : ℕ → ℕ) (done is : List ℕ) : Type 0 where
  pub order : IsOrder g layer is
  pub passed : (j : ℕ) → is_member done j ≡ true →
      IsToMeasure g j × AllByRecursion (IsLater layer j) is
  pub all : (v : ℕ) → v < size g → is_output g v ≡ false →
      (is_member done v || is_member is v) ≡ true

pub nothing_passed : (g : OpenGraph) (sets : ℕ → Bits) (layer : ℕ → ℕ) → IsFlow g sets layer →
    IsPassed g layer [] (measuring_order g layer (depth_of g layer))
nothing_passed g sets layer flow = record {
  order = measured_in_order g layer (depth_of g layer);
  passed = λ j m. absurd (false≢true m);
  all = λ v l out.
      member_once (measuring_order g layer (depth_of g layer)) v (not (is_output g v))
      (order_once g sets layer flow v l)
      ∙ not_from_false (is_output g v) out;
}

or_moved : (a b c : Bool) → (a || b) || c ≡ b || (a || c)
or_moved a b c = grind arith

pub passed_on : (g : OpenGraph) (layer : ℕ → ℕ) (done : List ℕ) (i : ℕ) (is : List ℕ) →
    IsPassed g layer done (i ∷ is) → IsPassed g layer (i ∷ done) is
passed_on g layer done i is p = record {
  order = p.order.2;
  passed = λ j m. elim (or_cases (nat_eq j i) (is_member done j) m) [
    | inl e ↦
        subst (λ (k : ℕ). IsToMeasure g k × AllByRecursion (IsLater layer k) is)
        (sym (eqb-true j i e)) (p.order.0, p.order.1)
    | inr h ↦ let old = p.passed j h in (old.0, old.1.1)
  ];
  all = λ v l out.
      or_moved (nat_eq v i) (is_member done v) (is_member is v) ∙ p.all v l out;
}

-- the vertex `i` is the next to pass
pub record IsNextToPass (g : OpenGraph) (layer : ℕ → ℕ) (done : List ℕ) (i : ℕ) : Type 0 where
  pub vertex : i < size g
  pub no_output : is_output g i ≡ false
  pub fresh : is_member done i ≡ false
  pub above : (u : ℕ) → u < size g → is_output g u ≡ false → layer i < layer u →
      is_member done u ≡ true
  pub no_lower : (u : ℕ) → is_member done u ≡ true → layer i ≤ layer u

pub next_to_pass : (g : OpenGraph) (layer : ℕ → ℕ) (done : List ℕ) (i : ℕ) (is : List ℕ) →
    IsPassed g layer done (i ∷ is) → IsNextToPass g layer done i
next_to_pass g layer done i is p = record {
  vertex = p.order.0.vertex;
  no_output = p.order.0.no_output;
  fresh = false_from_ne_true (is_member done i) (λ m.
      let h = (p.passed i m).1.0 in h.1 refl);
  above = λ u l out higher.
      elim (or_cases (is_member done u) (is_member (i ∷ is) u) (p.all u l out)) [
        | inl m ↦ m
        | inr m ↦ elim (or_cases (nat_eq u i) (is_member is u) m) [
          | inl e ↦ let f = ap layer (eqb-true u i e) in absurd (omega arith)
          | inr h ↦
              let low = (all_at (IsLater layer i) is u p.order.1 h).0 in
              absurd (omega arith)
        ]
      ];
  no_lower = λ u m. let h = (p.passed u m).1.0 in h.0;
}

-- ---- the vertices that are prepared: the first ones, and the nexts of those that were passed

abbrev pub is_born : OpenGraph → (ℕ → ℕ) → List ℕ → Bits
is_born g next done v = is_first g next v || is_member done (unwrap_or (last_before g next v) v)

pub born_first : (g : OpenGraph) (next : ℕ → ℕ) (done : List ℕ) (v : ℕ) →
    last_before g next v ≡ None → is_born g next done v ≡ true
born_first g next done v e =
    ap (λ (o : Option ℕ). is_none o || is_member done (unwrap_or o v)) e

pub born_behind : (g : OpenGraph) (next : ℕ → ℕ) (done : List ℕ) (u v : ℕ) →
    last_before g next v ≡ Some u → is_born g next done v ≡ is_member done u
born_behind g next done u v e =
    ap (λ (o : Option ℕ). is_none o || is_member done (unwrap_or o v)) e

pub first_is : (g : OpenGraph) (next : ℕ → ℕ) (v : ℕ) → is_first g next v ≡ true →
    last_before g next v ≡ None
first_is g next v e = elim (before_cases g next v) [
  | inl h ↦ h.0
  | inr h ↦
      let f : is_first g next v ≡ false = ap (λ (o : Option ℕ). is_none o) h.1 in
      absurd (true≢false (sym e ∙ f))
]

module _ (g : OpenGraph) (next layer : ℕ → ℕ) (flow : IsCausalFlow g next layer) (done : List ℕ)
    (i : ℕ) (at : IsNextToPass g layer done i) where
  pub born_here : is_born g next done i ≡ true
  born_here = elim (before_cases g next i) [
    | inl h ↦ born_first g next done i h.0
    | inr h ↦
        let p = h.2 in
        let later = (corrects_causally g next layer flow h.0 p.vertex p.no_output).later in
        let e = ap layer p.is_next in
        born_behind g next done h.0 i h.1
        ∙ at.above h.0 p.vertex p.no_output (omega arith)
  ]

  next_before : last_before g next (next i) ≡ Some i
  next_before =
      before_next g next layer flow i (next i) (next_of g next i at.vertex at.no_output)

  pub unborn_next : is_born g next done (next i) ≡ false
  unborn_next = born_behind g next done i (next i) next_before ∙ at.fresh

  -- one more vertex is prepared, the next of the one that was passed
  pub born_step : (k : ℕ) →
      is_born g next (i ∷ done) k ≡ is_born g next done k ⊻ nat_eq k (next i)
  born_step k = elim (before_cases g next k) [
    | inl h ↦
        born_first g next (i ∷ done) k h.0
        ∙ sym (ap₂ (λ (a b : Bool). a ⊻ b) (born_first g next done k h.0)
        (ne_eqb k (next i) (λ e. h.1 i (record {
          vertex = at.vertex;
          no_output = at.no_output;
          is_next = sym e;
        }))))
    | inr h ↦ elim (cases_eq h.0 i) [
      | inl e ↦
          let p = h.2 in
          born_behind g next (i ∷ done) h.0 k h.1
          ∙ ap (λ (b : Bool). b || is_member done h.0) (eq-eqb h.0 i e)
          ∙ sym (ap₂ (λ (a b : Bool). a ⊻ b)
          (born_behind g next done h.0 k h.1 ∙ ap (is_member done) e ∙ at.fresh)
          (eq-eqb k (next i) (sym p.is_next ∙ ap next e)))
      | inr ne ↦
          born_behind g next (i ∷ done) h.0 k h.1
          ∙ ap (λ (b : Bool). b || is_member done h.0) (ne_eqb h.0 i ne)
          ∙ sym (xor_false (is_member done h.0))
          ∙ sym (ap₂ (λ (a b : Bool). a ⊻ b) (born_behind g next done h.0 k h.1)
          (ne_eqb k (next i) (λ e. ne (one_before g next layer flow h.0 i k h.2 (record {
            vertex = at.vertex;
            no_output = at.no_output;
            is_next = sym e;
          })))))
    ]
  ]

  pub next_is_other : next i ≡ i → ⊥
  next_is_other e =
      let later = (corrects_causally g next layer flow i at.vertex at.no_output).later in
      let f = ap layer e in
      absurd (omega arith)

  pub next_fresh : is_member done (next i) ≡ false
  next_fresh = false_from_ne_true (is_member done (next i)) (λ m.
      let later = (corrects_causally g next layer flow i at.vertex at.no_output).later in
      let low = at.no_lower (next i) m in
      absurd (omega arith))

  pub current_next : is_current g next (i ∷ done) (next i) ≡ true
  current_next =
      and_from (not (is_member (i ∷ done) (next i))) (is_born g next (i ∷ done) (next i))
      (not_from_false (is_member (i ∷ done) (next i))
      (or_from (nat_eq (next i) i) (is_member done (next i)) (ne_eqb (next i) i next_is_other)
      next_fresh))
      (born_step (next i)
      ∙ ap₂ (λ (a b : Bool). a ⊻ b) unborn_next (eq-eqb (next i) (next i) refl))

  pub current_here : is_current g next done i ≡ true
  current_here =
      and_from (not (is_member done i)) (is_born g next done i)
      (not_from_false (is_member done i) at.fresh) born_here

  -- the other current vertices are current as before
  pub current_step : (k : ℕ) → (k ≡ i → ⊥) → (k ≡ next i → ⊥) →
      is_current g next (i ∷ done) k ≡ is_current g next done k
  current_step k ni nn =
      ap₂ (λ (a b : Bool). not (a || is_member done k) && b) (ne_eqb k i ni)
      (born_step k ∙ ap (λ (b : Bool). is_born g next done k ⊻ b) (ne_eqb k (next i) nn)
      ∙ xor_false (is_born g next done k))

  pub not_current : is_current g next (i ∷ done) i ≡ false
  not_current =
      ap (λ (b : Bool). not (b || is_member done i) && is_born g next (i ∷ done) i)
      (eq-eqb i i refl)

  -- the other neighbours of the next vertex that are prepared are current
  pub current_neighbour : (k : ℕ) → k < size g → (k ≡ i → ⊥) → (k ≡ next i → ⊥) →
      joins g.edges (next i) k ≡ true →
      is_current g next (i ∷ done) k ≡ is_born g next done k
  current_neighbour k l ni nn e =
      let c = corrects_causally g next layer flow i at.vertex at.no_output in
      let low = c.others_later k l ni e in
      let fresh : is_member done k ≡ false =
      false_from_ne_true (is_member done k)
      (λ m. let high = at.no_lower k m in absurd (omega arith)) in
      current_step k ni nn
      ∙ ap (λ (b : Bool). not b && is_born g next done k) fresh
