-- Which qubit stands for each wire, from gate to gate.
use Rattle.std.proofs.Common.{◌≡◌, ℕ, suc, ◌+◌, ◌-◌, ◌<◌, ◌≤◌, Bool, true, false, cond, ◌||◌}
use Rattle.std.proofs.Common.{List}
use Rattle.std.proofs.Common.{[], ◌∷◌, ◌++◌, refl, sym, ◌∙◌, ap, arith}
use Rattle.std.proofs.lemmas.Bool.{eq-eqb, ne_eqb, cases_eq, true≢false}
use mathlib.Core.Logic.{inl, inr}
use mathlib.Core.Path.{subst}
use Rattle.mc_model.specs.Bits.{replaced}
use Rattle.mc_model.specs.Signals.{Signal}
use Rattle.mc_model.specs.Pattern.{Command, Prep, Ent, Meas}
use Rattle.mc_model.specs.Valid.{prepared, measured}
use Rattle.mc_model.specs.Translation.{moved, preparations}
use Rattle.mc_model.proofs.BitLemmas.{replaced_same, replaced_other}
use Rattle.mc_model.proofs.PreparationLemmas.{prepared-preparations, measured-preparations}
use Rattle.mc_model.proofs.ValidLemmas.{measured-append, prepared-append}
use Rattle.mc_translate.specs.Steps.{j_commands, StandApart, IsStanding}

-- behind a preparation
pub prepared-prep : (cs : List Command) (q : ℕ) → prepared (cs ++ (Prep q ∷ [])) ≡ prepared cs + 1
unfolding prepared
prepared-prep cs q = prepared-append cs (Prep q ∷ [])

or_none : (b : Bool) → b || false ≡ b
or_none true = refl
or_none false = refl

pub measured-prep : (cs : List Command) (q k : ℕ) → measured (cs ++ (Prep q ∷ [])) k ≡ measured cs k
unfolding measured
measured-prep cs q k = measured-append cs (Prep q ∷ []) k ∙ or_none (measured cs k)

-- behind an entangling
pub prepared-ent : (cs : List Command) (q r : ℕ) → prepared (cs ++ (Ent q r ∷ [])) ≡ prepared cs
unfolding prepared
prepared-ent cs q r = prepared-append cs (Ent q r ∷ []) ∙ omega arith

pub measured-ent : (cs : List Command) (q r k : ℕ) →
    measured (cs ++ (Ent q r ∷ [])) k ≡ measured cs k
unfolding measured
measured-ent cs q r k = measured-append cs (Ent q r ∷ []) k ∙ or_none (measured cs k)

-- behind a measurement
pub prepared-meas : (cs : List Command) (q a : ℕ) (s t : Signal) →
    prepared (cs ++ (Meas q a s t ∷ [])) ≡ prepared cs
unfolding prepared
prepared-meas cs q a s t = prepared-append cs (Meas q a s t ∷ []) ∙ omega arith

-- behind the commands of a `J`
prepared-j : (cs : List Command) (half q next a : ℕ) →
    prepared (cs ++ j_commands half q next a) ≡ prepared cs + 1
unfolding prepared
prepared-j cs half q next a = prepared-append cs (j_commands half q next a)

measured-j : (cs : List Command) (half q next a k : ℕ) →
    measured (cs ++ j_commands half q next a) k ≡ replaced (measured cs) q true k
unfolding measured
measured-j cs half q next a k =
    measured-append cs (j_commands half q next a) k ∙ elim (cases_eq k q) [
      | inl e ↦ rw (e, eq-eqb q q refl) (or_true (measured cs q))
      | inr ne ↦ rw (ne_eqb k q ne) (or_none (measured cs k))
    ]
  where
    or_true : (b : Bool) → b || (true || false) ≡ true
    or_true true = refl
    or_true false = refl

pub moved_same : (at : ℕ → ℕ) (v r : ℕ) → moved at v r v ≡ r
moved_same at v r = ap (λ (t : Bool). cond t r (at v)) (eq-eqb v v refl)

pub moved_other : (at : ℕ → ℕ) (v r k : ℕ) → (k ≡ v → ⊥) → moved at v r k ≡ at k
moved_other at v r k ne = ap (λ (t : Bool). cond t r (at k)) (ne_eqb k v ne)

-- a moved wire has a qubit of its own
moved_below : (wires : ℕ) (at : ℕ → ℕ) (next v : ℕ) → StandApart wires at next → (u : ℕ) →
    u < wires → moved at v next u < suc next
moved_below wires at next v st u lt = elim (cases_eq u v) [
  | inl e ↦
      let k : moved at v next u ≡ next = ap (moved at v next) e ∙ moved_same at v next in
      omega arith
  | inr ne ↦
      let k = moved_other at v next u ne in
      let b = st.below u lt in
      omega arith
]

pub moved_apart : (wires : ℕ) (at : ℕ → ℕ) (next v : ℕ) → StandApart wires at next →
    StandApart wires (moved at v next) (suc next)
moved_apart wires at next v st = record {
  below = moved_below wires at next v st;
  apart = λ u w hu hw e. elim (cases_eq u v) [
    | inl eu ↦ elim (cases_eq w v) [
      | inl ew ↦ eu ∙ sym ew
      | inr nw ↦
          let ku : moved at v next u ≡ next = ap (moved at v next) eu ∙ moved_same at v next in
          let kw = moved_other at v next w nw in
          let b = st.below w hw in
          absurd (omega arith)
    ]
    | inr nu ↦ elim (cases_eq w v) [
      | inl ew ↦
          let kw : moved at v next w ≡ next = ap (moved at v next) ew ∙ moved_same at v next in
          let ku = moved_other at v next u nu in
          let b = st.below u hu in
          absurd (omega arith)
      | inr nw ↦
          let kw = moved_other at v next w nw in
          let ku = moved_other at v next u nu in
          st.apart u w hu hw (omega arith)
    ]
  ];
}

pub numbers_apart : (n : ℕ) → StandApart n (λ v. v) n
numbers_apart n = record { below = λ v h. h; apart = λ v u hv hu e. e }

pub standing_start : (wires inputs : ℕ) → inputs ≤ wires →
    IsStanding wires wires (λ v. v) inputs (preparations inputs (wires - inputs))
standing_start wires inputs le = record {
  size = let size = prepared-preparations inputs (wires - inputs) in omega arith;
  wires_apart = numbers_apart wires;
  free = λ v h. measured-preparations inputs (wires - inputs) v;
  unborn = λ q h. measured-preparations inputs (wires - inputs) q;
  others = λ q lt free. (q, lt, refl);
}

-- only the wires matter
pub standing_same : (wires next inputs : ℕ) (f g : ℕ → ℕ) (cs : List Command) →
    ((v : ℕ) → v < wires → f v ≡ g v) → IsStanding wires next f inputs cs →
    IsStanding wires next g inputs cs
standing_same wires next inputs f g cs same h = record {
  size = h.size;
  wires_apart = record {
    below = λ v lt. subst (λ (q : ℕ). q < next) (same v lt) (h.wires_apart.below v lt);
    apart = λ v u lv lu e. h.wires_apart.apart v u lv lu (same v lv ∙ e ∙ sym (same u lu));
  };
  free = λ v lt. ap (measured cs) (sym (same v lt)) ∙ h.free v lt;
  unborn = h.unborn;
  others = λ q lt free.
      let w = h.others q lt free in (w.0, w.1, sym (same w.0 w.1) ∙ w.2);
}

pub standing_cz : (wires next inputs : ℕ) (at : ℕ → ℕ) (cs : List Command) (q r : ℕ) →
    IsStanding wires next at inputs cs → IsStanding wires next at inputs (cs ++ (Ent q r ∷ []))
standing_cz wires next inputs at cs q r h = record {
  size = let size = h.size in let more = prepared-ent cs q r in omega arith;
  wires_apart = h.wires_apart;
  free = λ v lt. measured-ent cs q r (at v) ∙ h.free v lt;
  unborn = λ k le. measured-ent cs q r k ∙ h.unborn k le;
  others = λ k lt free. h.others k lt (sym (measured-ent cs q r k) ∙ free);
}

pub standing_j : (wires next inputs : ℕ) (at : ℕ → ℕ) (cs : List Command) (half v a : ℕ) →
    v < wires → IsStanding wires next at inputs cs →
    IsStanding wires (suc next) (moved at v next) inputs (cs ++ j_commands half (at v) next a)
standing_j wires next inputs at cs half v a lt h = record {
  size = let size = h.size in let more = prepared-j cs half (at v) next a in omega arith;
  wires_apart = moved_apart wires at next v h.wires_apart;
  free = λ u l. measured-j cs half (at v) next a (moved at v next u) ∙ elim (cases_eq u v) [
    | inl e ↦
        let k : moved at v next u ≡ next = ap (moved at v next) e ∙ moved_same at v next in
        let b = h.wires_apart.below v lt in
        replaced_other (measured cs) (at v) true (moved at v next u) (λ s. absurd (omega arith))
        ∙ ap (measured cs) k ∙ h.unborn next (omega arith)
    | inr ne ↦
        let k = moved_other at v next u ne in
        replaced_other (measured cs) (at v) true (moved at v next u)
        (λ s. ne (h.wires_apart.apart u v l lt (sym k ∙ s)))
        ∙ ap (measured cs) k ∙ h.free u l
  ];
  unborn = λ q le.
      let b = h.wires_apart.below v lt in
      measured-j cs half (at v) next a q
      ∙ replaced_other (measured cs) (at v) true q (λ s. absurd (omega arith))
      ∙ h.unborn q (omega arith);
  others = λ q l free. elim (cases_eq q next) [
    | inl e ↦ (v, lt, moved_same at v next ∙ sym e)
    | inr ne ↦ elim (cases_eq q (at v)) [
      | inl eq ↦
          let gone = measured-j cs half (at v) next a q in
          let here = ap (replaced (measured cs) (at v) true) eq in
          absurd (true≢false (sym (gone ∙ here ∙ replaced_same (measured cs) (at v) true) ∙ free))
      | inr nq ↦
          let kept = replaced_other (measured cs) (at v) true q nq in
          let old : measured cs q ≡ false =
          sym (measured-j cs half (at v) next a q ∙ kept) ∙ free in
          let w = h.others q (omega arith) old in
          let other : w.0 ≡ v → ⊥ = λ s. nq (sym w.2 ∙ ap at s) in
          (w.0, w.1, moved_other at v next w.0 other ∙ w.2)
    ]
  ];
}
