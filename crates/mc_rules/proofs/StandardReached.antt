-- Every valid list is led to its standard form by uses of lower and lower rank.
use Rattle.std.proofs.Common.{◌≡◌, ℕ, zero, suc, ◌<◌, ◌⊎◌, List, refl, sym, ◌∙◌, ap, arith}
use mathlib.Core.Path.{subst}
use mathlib.Core.Logic.{inl, inr}
use Rattle.mc_model.specs.Pattern.{Command}
use Rattle.mc_model.specs.Valid.{IsValid}
use Rattle.mc_model.specs.StandardForm.{standard_commands}
use Rattle.mc_model.specs.Derivation.{Rank, rank, IsLower}
use Rattle.mc_rules.specs.Improves.{Improves, IsReached}
use Rattle.mc_rules.specs.Settled.{IsSettled}
use Rattle.mc_rules.specs.Laws.{SettledIsStandard}
use Rattle.mc_rules.proofs.SettledOrImproved.{improves_or_settled}
use Rattle.mc_rules.proofs.SettledForm.{settled_is_standard}

-- induction over the numbers below
below_ind : (P : ℕ → Type 0) → ((n : ℕ) → ((m : ℕ) → m < n → P m) → P n) → (k n : ℕ) → n < k → P n
below_ind P step zero n h = absurd (omega arith)
below_ind P step (suc k) n h = step n (λ m g. below_ind P step k m (omega arith))

nat_ind : (P : ℕ → Type 0) → ((n : ℕ) → ((m : ℕ) → m < n → P m) → P n) → (n : ℕ) → P n
nat_ind P step n = below_ind P step (suc n) n (omega arith)

numbers : ℕ → ℕ → ℕ → ℕ → ℕ → Rank
numbers l a n w t = record { late = l; ahead = a; size = n; wrong = w; turned = t }

-- induction over lower ranks
pub rank_ind : (P : Rank → Type 0) → ((r : Rank) → ((s : Rank) → IsLower s r → P s) → P r) →
    (r : Rank) → P r
unfolding numbers
rank_ind P step r =
    nat_ind (λ l. (a n w t : ℕ) → P (numbers l a n w t))
    (λ l il. nat_ind (λ a. (n w t : ℕ) → P (numbers l a n w t))
    (λ a ia. nat_ind (λ n. (w t : ℕ) → P (numbers l a n w t))
    (λ n in_n. nat_ind (λ w. (t : ℕ) → P (numbers l a n w t))
    (λ w iw. nat_ind (λ t. P (numbers l a n w t))
    (λ t it. step (numbers l a n w t) (λ s h. elim h [
      | inl k ↦ il s.late k s.ahead s.size s.wrong s.turned
      | inr p1 ↦ subst (λ (x : ℕ). P (numbers x s.ahead s.size s.wrong s.turned)) (sym p1.0)
          (elim (p1.1) [
            | inl k ↦ ia s.ahead k s.size s.wrong s.turned
            | inr p2 ↦ subst (λ (x : ℕ). P (numbers l x s.size s.wrong s.turned)) (sym p2.0)
                (elim (p2.1) [
                  | inl k ↦ in_n s.size k s.wrong s.turned
                  | inr p3 ↦ subst (λ (x : ℕ). P (numbers l a x s.wrong s.turned)) (sym p3.0) (elim (p3.1) [
                    | inl k ↦ iw s.wrong k s.turned
                    | inr p4 ↦ subst (λ (x : ℕ). P (numbers l a n x s.turned)) (sym p4.0) (it s.turned p4.1)
                  ])
                ])
          ])
    ])))))) r.late r.ahead r.size r.wrong r.turned

pub lower_trans : (a b c : Rank) → IsLower a b → IsLower b c → IsLower a c
lower_trans a b c (inl h) (inl k) = inl (omega arith)
lower_trans a b c (inl h) (inr k) = inl (let e = k.0 in omega arith)
lower_trans a b c (inr h) (inl k) = inl (let e = h.0 in omega arith)
lower_trans a b c (inr (e, inl h)) (inr (f, inl k)) = inr (e ∙ f, inl (omega arith))
lower_trans a b c (inr (e, inl h)) (inr (f, inr k)) = inr (e ∙ f, inl (let g = k.0 in omega arith))
lower_trans a b c (inr (e, inr h)) (inr (f, inl k)) = inr (e ∙ f, inl (let g = h.0 in omega arith))
lower_trans a b c (inr (e, inr (e2, inl h))) (inr (f, inr (f2, inl k))) =
    inr (e ∙ f, inr (e2 ∙ f2, inl (omega arith)))
lower_trans a b c (inr (e, inr (e2, inl h))) (inr (f, inr (f2, inr k))) =
    inr (e ∙ f, inr (e2 ∙ f2, inl (let g = k.0 in omega arith)))
lower_trans a b c (inr (e, inr (e2, inr h))) (inr (f, inr (f2, inl k))) =
    inr (e ∙ f, inr (e2 ∙ f2, inl (let g = h.0 in omega arith)))
lower_trans a b c (inr (e, inr (e2, inr (e3, inl h)))) (inr (f, inr (f2, inr (f3, inl k)))) =
    inr (e ∙ f, inr (e2 ∙ f2, inr (e3 ∙ f3, inl (omega arith))))
lower_trans a b c (inr (e, inr (e2, inr (e3, inl h)))) (inr (f, inr (f2, inr (f3, inr k)))) =
    inr (e ∙ f, inr (e2 ∙ f2, inr (e3 ∙ f3, inl (let g = k.0 in omega arith))))
lower_trans a b c (inr (e, inr (e2, inr (e3, inr h)))) (inr (f, inr (f2, inr (f3, inl k)))) =
    inr (e ∙ f, inr (e2 ∙ f2, inr (e3 ∙ f3, inl (let g = h.0 in omega arith))))
lower_trans a b c (inr (e, inr (e2, inr (e3, inr h)))) (inr (f, inr (f2, inr (f3, inr k)))) =
    inr (
      e ∙ f,
      inr (
        e2
            ∙ f2,
        inr (e3 ∙ f3, inr (h.0 ∙ k.0, (let g = h.1 in let i = k.1 in omega arith))),
      ),
    )

pub not_lower : (a : Rank) → IsLower a a → ⊥
not_lower a (inl h) = absurd (omega arith)
not_lower a (inr (e, inl h)) = absurd (omega arith)
not_lower a (inr (e, inr (e2, inl h))) = absurd (omega arith)
not_lower a (inr (e, inr (e2, inr (e3, inl h)))) = absurd (omega arith)
not_lower a (inr (e, inr (e2, inr (e3, inr h)))) = let g = h.1 in absurd (omega arith)

reached_from : (inputs : ℕ) (cs : List Command) (w : Improves inputs cs) → IsReached inputs w.next →
    IsReached inputs cs
reached_from inputs cs w r = record {
  valid = subst (IsValid inputs) (sym w.improved.same) r.valid;
  own = subst (λ (xs : List Command). standard_commands inputs xs ≡ xs) (sym w.improved.same) r.own;
  not_above = inl (subst (λ (xs : List Command). IsLower (rank xs) (rank cs)) (sym w.improved.same)
      (elim (r.not_above) [
        | inl h ↦ lower_trans _ (rank w.next) (rank cs) h w.improved.lower
        | inr e ↦
            subst (λ (xs : List Command). IsLower (rank xs) (rank cs)) (sym e) w.improved.lower
      ]));
}

pub all_reached : (inputs : ℕ) (r : Rank) (cs : List Command) → rank cs ≡ r → IsValid inputs cs →
    IsReached inputs cs
all_reached inputs r =
    rank_ind (λ r. (cs : List Command) → rank cs ≡ r → IsValid inputs cs → IsReached inputs cs)
    (λ r ih cs e v. elim (improves_or_settled inputs cs v) [
      | inl w ↦ reached_from inputs cs w
          (ih (rank w.next) (subst (IsLower (rank w.next)) e w.improved.lower) w.next refl
          w.improved.step.to_valid)
      | inr s ↦
          let same : standard_commands inputs cs ≡ cs = settled_is_standard inputs cs v s in
          record {
            valid = subst (IsValid inputs) (sym same) v;
            own = ap (standard_commands inputs) same;
            not_above = inr same;
          }
    ]) r

-- the standard form is valid, and its own standard form
pub standard_reached : (inputs : ℕ) (cs : List Command) → IsValid inputs cs → IsReached inputs cs
standard_reached inputs cs v = all_reached inputs (rank cs) cs refl v

-- a list that is its own standard form is improved by no use
pub standard_stays : (inputs : ℕ) (cs : List Command) → IsValid inputs cs →
    standard_commands inputs cs ≡ cs → Improves inputs cs → ⊥
standard_stays inputs cs v e w =
    let r : IsReached inputs w.next = standard_reached inputs w.next w.improved.step.to_valid in
    let f : standard_commands inputs w.next ≡ cs = sym w.improved.same ∙ e in
    not_lower (rank cs) (elim (r.not_above) [
      | inl h ↦ lower_trans (rank cs) (rank w.next) (rank cs)
          (subst (λ (xs : List Command). IsLower (rank xs) (rank w.next)) f h) w.improved.lower
      | inr g ↦
          subst (λ (xs : List Command). IsLower (rank xs) (rank cs)) (sym g ∙ f) w.improved.lower
    ])

-- exactly the lists that are their own standard form are improved by no use
pub improves_or_standard : (inputs : ℕ) (cs : List Command) → IsValid inputs cs →
    Improves inputs cs ⊎ (standard_commands inputs cs ≡ cs)
improves_or_standard inputs cs v = elim (improves_or_settled inputs cs v) [
  | inl w ↦ inl w
  | inr s ↦ inr (settled_is_standard inputs cs v s)
]

-- a valid list that is its own standard form is settled
own_settled : (inputs : ℕ) (cs : List Command) → IsValid inputs cs →
    standard_commands inputs cs ≡ cs → IsSettled cs
own_settled inputs cs v own = elim (improves_or_settled inputs cs v) [
  | inl w ↦ absurd (standard_stays inputs cs v own w)
  | inr s ↦ s
]

pub standard_where_settled : SettledIsStandard
standard_where_settled inputs cs v = (settled_is_standard inputs cs v, own_settled inputs cs v)
