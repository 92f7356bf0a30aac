-- A use leads to one list, so uses break one rule first.
use Rattle.std.proofs.Common.{◌≡◌, ℕ, ◌<◌, ◌≤◌, List, [], ◌∷◌, ◌++◌, length, refl, sym, ◌∙◌, ap}
use Rattle.std.proofs.Common.{ap₂, subst, arith}
use Rattle.std.proofs.lemmas.Bool.{cases_lt}
use mathlib.Core.Logic.{inl, inr}
use Rattle.mc_model.specs.Pattern.{Command}
use Rattle.mc_model.specs.Valid.{IsValid}
use Rattle.mc_model.specs.StandardForm.{standard_commands}
use Rattle.mc_model.specs.Derivation.{Rule, XE, ZE, XM, ZM, Swap, Join, EE, Cancel, XZ, Turn}
use Rattle.mc_model.specs.Derivation.{DropEmpty, Rewrites, x_first, x_second, z_first, z_second}
use Rattle.mc_model.specs.Derivation.{x_measured, z_measured, swapped, x_joined, z_joined}
use Rattle.mc_model.specs.Derivation.{edges_exchanged, same_cancelled, turned_cancelled, x_behind_z}
use Rattle.mc_model.specs.Derivation.{z_behind_x, turned, x_dropped, z_dropped, Step, Use, Derives}
use Rattle.mc_model.specs.Derivation.{no_use, one_use}
use Rattle.mc_derivations.specs.Following.{Leads}
use Rattle.mc_derivations.proofs.RuleReach.{rewritten_reach}
use Rattle.mc_derivations.proofs.RuleReach.{leads_exist}
use Rattle.mc_derivations.specs.Checks.{BreaksRow, BreaksAt, BreaksTrace}
use Rattle.mc_derivations.specs.Laws.{IsJudgedOnce}
use Rattle.mc_derivations.proofs.RuleReach.{derives_on}
use Rattle.mc_derivations.proofs.CutLists.{cut_same}
use Rattle.mc_derivations.proofs.StepCosts.{step_leads, derivations_short}

-- ---- a use leads to one list

rewritten_once : (rule : Rule) (old other new next : List Command) → Rewrites rule old new →
    Rewrites rule other next → old ≡ other → new ≡ next
rewritten_once XE _ _ _ _ x_first x_first e = cc e
rewritten_once XE _ _ _ _ x_first x_second e = cc e
rewritten_once XE _ _ _ _ x_second x_first e = cc e
rewritten_once XE _ _ _ _ x_second x_second e = cc e
rewritten_once ZE _ _ _ _ z_first z_first e = cc e
rewritten_once ZE _ _ _ _ z_first z_second e = cc e
rewritten_once ZE _ _ _ _ z_second z_first e = cc e
rewritten_once ZE _ _ _ _ z_second z_second e = cc e
rewritten_once XM _ _ _ _ x_measured x_measured e = cc e
rewritten_once ZM _ _ _ _ z_measured z_measured e = cc e
rewritten_once Swap _ _ _ _ (swapped h u) (swapped k v) e = cc e
rewritten_once Join _ _ _ _ x_joined x_joined e = cc e
rewritten_once Join _ _ _ _ z_joined z_joined e = cc e
rewritten_once Join _ _ _ _ x_joined z_joined e = absurd (cc e)
rewritten_once Join _ _ _ _ z_joined x_joined e = absurd (cc e)
rewritten_once EE _ _ _ _ edges_exchanged edges_exchanged e = cc e
rewritten_once Cancel _ _ _ _ same_cancelled same_cancelled e = refl
rewritten_once Cancel _ _ _ _ same_cancelled turned_cancelled e = refl
rewritten_once Cancel _ _ _ _ turned_cancelled same_cancelled e = refl
rewritten_once Cancel _ _ _ _ turned_cancelled turned_cancelled e = refl
rewritten_once XZ _ _ _ _ x_behind_z x_behind_z e = cc e
rewritten_once XZ _ _ _ _ z_behind_x z_behind_x e = cc e
rewritten_once XZ _ _ _ _ x_behind_z z_behind_x e = absurd (cc e)
rewritten_once XZ _ _ _ _ z_behind_x x_behind_z e = absurd (cc e)
rewritten_once Turn _ _ _ _ turned turned e = cc e
rewritten_once DropEmpty _ _ _ _ x_dropped x_dropped e = refl
rewritten_once DropEmpty _ _ _ _ x_dropped z_dropped e = refl
rewritten_once DropEmpty _ _ _ _ z_dropped x_dropped e = refl
rewritten_once DropEmpty _ _ _ _ z_dropped z_dropped e = refl

led_once : (u : Use) (cs ds es : List Command) → Leads u cs ds → Leads u cs es → ds ≡ es
led_once u cs ds es l k =
    let a = l.at_place in
    let b = k.at_place in
    let front = cut_same l.before k.before (l.old ++ l.behind) (k.old ++ k.behind) (omega arith)
    (sym l.from_list ∙ k.from_list) in
    let long = rewritten_reach u.rule l.old l.new l.rewrites
    ∙ sym (rewritten_reach u.rule k.old k.new k.rewrites) in
    let rest = cut_same l.old k.old l.behind k.behind long front.1 in
    let new = rewritten_once u.rule l.old k.old l.new k.new l.rewrites k.rewrites rest.0 in
    l.to_list
    ∙ ap₂ (λ (xs ys : List Command). xs ++ ys) front.0
    (ap₂ (λ (xs ys : List Command). xs ++ ys) new rest.1)
    ∙ sym k.to_list

pub derived_once : (inputs : ℕ) (uses : List Use) (cs ds es : List Command) →
    Derives inputs uses cs ds → Derives inputs uses cs es → ds ≡ es
derived_once inputs [] cs _ _ no_use no_use = refl
derived_once inputs (u ∷ uses) cs ds es (one_use {ds = x} s more) (one_use {ds = y} t rest) =
    let e = led_once u cs x y (step_leads inputs u cs x s) (step_leads inputs u cs y t) in
    derived_once inputs uses y ds es
    (subst (λ (xs : List Command). Derives inputs uses xs ds) e more) rest

-- ---- derivations that are cut

pub record PassesThrough (inputs : ℕ) (before : List Use) (u : Use) (cs : List Command) : Type 0
  where
    pub here : List Command
    pub next : List Command
    pub derives : Derives inputs before cs here
    pub step : Step inputs u.rule u.place here next

passed_through : (inputs : ℕ) (before : List Use) (u : Use) (behind : List Use)
    (cs ds : List Command) → Derives inputs (before ++ (u ∷ behind)) cs ds →
    PassesThrough inputs before u cs
passed_through inputs [] u behind cs ds (one_use {ds = es} s more) =
    record { here = cs; next = es; derives = no_use; step = s }
passed_through inputs (v ∷ before) u behind cs ds (one_use {ds = es} s more) =
    let p = passed_through inputs before u behind es ds more in
    record { here = p.here; next = p.next; derives = one_use s p.derives; step = p.step }

-- a row that breaks a rule is not passed
not_passed : (inputs : ℕ) (uses : List Use) (cs : List Command) (row rule : ℕ)
    (behind : List Use) (ds : List Command) → length cs ≤ 64 →
    (b : BreaksAt inputs uses cs row rule) →
    Derives inputs (b.before ++ (b.use_there ∷ behind)) cs ds → ⊥
not_passed inputs uses cs row rule behind ds few b d =
    let p = passed_through inputs b.before b.use_there behind cs ds d in
    let same : p.here ≡ b.here =
    derived_once inputs b.before cs p.here b.here p.derives b.derives in
    let leads : Leads b.use_there b.here p.next =
    subst (λ (xs : List Command). Leads b.use_there xs p.next) same
    (step_leads inputs b.use_there p.here p.next p.step) in
    let long = derivations_short inputs (b.before ++ (b.use_there ∷ [])) cs p.next
    (derives_on inputs b.before (b.use_there ∷ []) cs p.here p.next p.derives
    (one_use p.step no_use)) few in
    stuck b.use_there b.here p.next rule leads (subst (IsValid inputs) same p.step.from_valid)
    p.step.to_valid long b.breaks
  where
    stuck : (u : Use) (here next : List Command) (rule : ℕ) → Leads u here next →
        IsValid inputs here → IsValid inputs next → length next ≤ 4096 →
        BreaksRow inputs u here rule → ⊥
    stuck u here next rule l h v long (inl (inl m)) = leads_exist u here next l m.1
    stuck u here next rule l h v long (inl (inr m)) = m.2 next l
    stuck u here next rule l h v long (inr m) =
        let same = led_once u here m.1.next next m.1.leads l in
        elim (m.1.astray) [
          | inl from ↦ from h
          | inr other ↦ elim other [
            | inl w ↦ w (subst (IsValid inputs) (sym same) v)
            | inr w ↦ let e = ap length same in absurd (omega arith)
          ]
        ]

-- ---- rows that are compared

longer : {X : Type 0} (xs ys zs ws : List X) (x : X) → xs ++ (x ∷ zs) ≡ ys ++ ws →
    length xs < length ys → (rest : List X) × (ys ≡ xs ++ (x ∷ rest))
longer [] (y ∷ ys) zs ws x e h =
    let f : x ≡ y = cc e in (ys, ap (λ (v : _). v ∷ ys) (sym f))
longer (v ∷ xs) (y ∷ ys) zs ws x e h =
    let f : v ≡ y = cc e in
    let r = longer xs ys zs ws x (cc e) (omega arith) in
    (r.0, ap₂ (λ (a : _) (bs : List _). a ∷ bs) (sym f) r.1)
longer xs [] zs ws x e h = absurd (omega arith)

not_before : (inputs : ℕ) (uses : List Use) (cs : List Command) (row rule other number : ℕ) →
    length cs ≤ 64 → (a : BreaksAt inputs uses cs row rule) →
    (b : BreaksAt inputs uses cs other number) → length a.before < length b.before → ⊥
not_before inputs uses cs row rule other number few a b h =
    let r = longer a.before b.before a.behind (b.use_there ∷ b.behind) a.use_there
    (sym a.rows ∙ b.rows) h in
    not_passed inputs uses cs row rule r.0 b.here few a
    (subst (λ (us : List Use). Derives inputs us cs b.here) r.1 b.derives)

one_rule : (inputs : ℕ) (u : Use) (cs : List Command) (rule number : ℕ) →
    BreaksRow inputs u cs rule → BreaksRow inputs u cs number → number ≡ rule
one_rule inputs u cs rule number (inl (inl a)) (inl (inl b)) = b.0 ∙ sym a.0
one_rule inputs u cs rule number (inl (inl a)) (inl (inr b)) = absurd (b.1 a.1)
one_rule inputs u cs rule number (inl (inr a)) (inl (inl b)) = absurd (a.1 b.1)
one_rule inputs u cs rule number (inl (inr a)) (inl (inr b)) = b.0 ∙ sym a.0
one_rule inputs u cs rule number (inl (inl a)) (inr b) =
    absurd (leads_exist u cs b.1.next b.1.leads a.1)
one_rule inputs u cs rule number (inr a) (inl (inl b)) =
    absurd (leads_exist u cs a.1.next a.1.leads b.1)
one_rule inputs u cs rule number (inl (inr a)) (inr b) = absurd (a.2 b.1.next b.1.leads)
one_rule inputs u cs rule number (inr a) (inl (inr b)) = absurd (b.2 a.1.next a.1.leads)
one_rule inputs u cs rule number (inr a) (inr b) = b.0 ∙ sym a.0

rule_there : (inputs : ℕ) (u v : Use) (here there : List Command) (rule number : ℕ) → u ≡ v →
    here ≡ there → BreaksRow inputs u here rule → BreaksRow inputs v there number →
    number ≡ rule
rule_there inputs u v here there rule number e f a b =
    one_rule inputs v there rule number (rw (← e, ← f) a) b

one_break : (inputs : ℕ) (uses : List Use) (cs : List Command) (row rule other number : ℕ) →
    length cs ≤ 64 → BreaksAt inputs uses cs row rule → BreaksAt inputs uses cs other number →
    (other ≡ row) × (number ≡ rule)
one_break inputs uses cs row rule other number few a b =
    elim (cases_lt (length a.before) (length b.before)) [
      | inl h ↦ absurd (not_before inputs uses cs row rule other number few a b h)
      | inr h ↦ elim (cases_lt (length b.before) (length a.before)) [
        | inl k ↦ absurd (not_before inputs uses cs other number row rule few b a k)
        | inr k ↦
            let cut = cut_same a.before b.before (a.use_there ∷ a.behind)
            (b.use_there ∷ b.behind) (omega arith) (sym a.rows ∙ b.rows) in
            let both : a.use_there ≡ b.use_there = cc (cut.1) in
            let here = derived_once inputs b.before cs a.here b.here
            (subst (λ (us : List Use). Derives inputs us cs a.here) cut.0 a.derives) b.derives in
            let r = a.at_row in
            let o = b.at_row in (
              omega arith,
              rule_there inputs a.use_there b.use_there a.here b.here rule number both here a.breaks
                  b.breaks,
            )
      ]
    ]

-- uses that lead somewhere break no row
ends_unbroken : (inputs : ℕ) (uses : List Use) (cs ds : List Command) (row rule : ℕ) →
    length cs ≤ 64 → BreaksAt inputs uses cs row rule → Derives inputs uses cs ds → ⊥
ends_unbroken inputs uses cs ds row rule few b d =
    not_passed inputs uses cs row rule b.behind ds few b
    (subst (λ (us : List Use). Derives inputs us cs ds) b.rows d)

pub judged_once : (inputs : ℕ) (uses : List Use) (cs : List Command) → length cs ≤ 64 →
    (row rule : ℕ) → BreaksTrace inputs uses cs row rule → IsJudgedOnce inputs uses cs row rule
judged_once inputs uses cs few row rule (inl a) = record {
  no_trace = λ t. ends_unbroken inputs uses cs (standard_commands inputs cs) row rule few a
      t.derives;
  only = λ other number b. elim b [
    | inl c ↦ one_break inputs uses cs row rule other number few a c
    | inr c ↦ absurd (ends_unbroken inputs uses cs c.here row rule few a c.derives)
  ];
}
judged_once inputs uses cs few row rule (inr a) = record {
  no_trace = λ t. a.elsewhere (derived_once inputs uses cs a.here (standard_commands inputs cs)
      a.derives t.derives);
  only = λ other number b. elim b [
    | inl c ↦ absurd (ends_unbroken inputs uses cs a.here other number few c a.derives)
    | inr c ↦ (
      (let r = a.at_row in let o = c.at_row in omega arith),
      c.last_rule ∙ sym a.last_rule,
    )
  ];
}
