-- Lists of commands made of four parts, one after the other.
use Rattle.std.proofs.Common.{◌≡◌, ℕ, List, [], ◌∷◌, ◌++◌, map, refl, sym, ◌∙◌, ap, ap₂, subst}
use Rattle.std.proofs.Common.{append-nil, arith}
use Rattle.std.specs.Prelude.{nat_eq}
use Rattle.std.proofs.lemmas.Bool.{eq-eqb, ne_eqb, cases_eq}
use mathlib.Core.Logic.{inl, inr}
use Rattle.std.proofs.lemmas.List.Elements.{filter-append}
use Rattle.mc_model.specs.Pattern.{Command, Prep, Ent, Meas, FixX, FixZ}
use Rattle.mc_model.specs.StandardForm.{preparations_of}
use Rattle.mc_model.specs.Derivation.{part}
use Rattle.mc_rules.specs.Parts.{part_of, entanglings_of, measurements_of, corrections_of, HasParts}
use Rattle.mc_rules.specs.Parts.{AllOf, IsInParts}

pub all_of_map : {A : Type 0} (k : ℕ) (f : A → Command) → ((x : A) → part (f x) ≡ k) →
    (xs : List A) → AllOf k (map f xs)
all_of_map k f same [] = tt
all_of_map k f same (x ∷ xs) = (same x, all_of_map k f same xs)

all_taken : (k : ℕ) (cs : List Command) → AllOf k cs → part_of k cs ≡ cs
all_taken k [] h = refl
all_taken k (c ∷ cs) h =
    rw (eq-eqb (part c) k h.0) (ap (λ (rest : List Command). c ∷ rest) (all_taken k cs h.1))

none_taken : (k j : ℕ) (cs : List Command) → AllOf j cs → (j ≡ k → ⊥) → part_of k cs ≡ []
none_taken k j [] h apart = refl
none_taken k j (c ∷ cs) h apart =
    rw (ne_eqb (part c) k (λ e. apart (sym h.0 ∙ e))) (none_taken k j cs h.1 apart)

preparations_part : (cs : List Command) → preparations_of cs ≡ part_of 0 cs
unfolding preparations_of
preparations_part [] = refl
preparations_part (Prep q ∷ cs) =
    ap (λ (rest : List Command). Prep q ∷ rest) (preparations_part cs)
preparations_part (Ent q r ∷ cs) = preparations_part cs
preparations_part (Meas q a s t ∷ cs) = preparations_part cs
preparations_part (FixX q s ∷ cs) = preparations_part cs
preparations_part (FixZ q s ∷ cs) = preparations_part cs

four_taken : (k : ℕ) (ps es ms fs : List Command) →
    part_of k (ps ++ (es ++ (ms ++ fs)))
    ≡ part_of k ps ++ (part_of k es ++ (part_of k ms ++ part_of k fs))
four_taken k ps es ms fs =
    filter-append (λ c. nat_eq (part c) k) ps (es ++ (ms ++ fs))
    ∙ ap (λ (xs : List Command). part_of k ps ++ xs)
    (filter-append (λ c. nat_eq (part c) k) es (ms ++ fs)
    ∙ ap (λ (xs : List Command). part_of k es ++ xs)
    (filter-append (λ c. nat_eq (part c) k) ms fs))

four_are : (ps es ms fs ps' es' ms' fs' : List Command) → ps ≡ ps' → es ≡ es' → ms ≡ ms' →
    fs ≡ fs' → ps ++ (es ++ (ms ++ fs)) ≡ ps' ++ (es' ++ (ms' ++ fs'))
four_are ps es ms fs ps' es' ms' fs' p e m f =
    ap₂ (λ (xs ys : List Command). xs ++ ys) p
    (ap₂ (λ (xs ys : List Command). xs ++ ys) e (ap₂ (λ (xs ys : List Command). xs ++ ys) m f))

pub has_parts : (ps es ms fs : List Command) → AllOf 0 ps → AllOf 1 es → AllOf 2 ms → AllOf 3 fs →
    HasParts ps es ms fs (ps ++ (es ++ (ms ++ fs)))
has_parts ps es ms fs p e m f = record {
  preparations =
      preparations_part (ps ++ (es ++ (ms ++ fs)))
      ∙ four_taken 0 ps es ms fs
      ∙ four_are (part_of 0 ps) (part_of 0 es) (part_of 0 ms) (part_of 0 fs) ps [] [] []
      (all_taken 0 ps p)
      (none_taken 0 1 es e (λ g. absurd (omega arith)))
      (none_taken 0 2 ms m (λ g. absurd (omega arith)))
      (none_taken 0 3 fs f (λ g. absurd (omega arith)))
      ∙ append-nil ps;
  entanglings =
      four_taken 1 ps es ms fs
      ∙ four_are (part_of 1 ps) (part_of 1 es) (part_of 1 ms) (part_of 1 fs) [] es [] []
      (none_taken 1 0 ps p (λ g. absurd (omega arith)))
      (all_taken 1 es e)
      (none_taken 1 2 ms m (λ g. absurd (omega arith)))
      (none_taken 1 3 fs f (λ g. absurd (omega arith)))
      ∙ append-nil es;
  measurements =
      four_taken 2 ps es ms fs
      ∙ four_are (part_of 2 ps) (part_of 2 es) (part_of 2 ms) (part_of 2 fs) [] [] ms []
      (none_taken 2 0 ps p (λ g. absurd (omega arith)))
      (none_taken 2 1 es e (λ g. absurd (omega arith)))
      (all_taken 2 ms m)
      (none_taken 2 3 fs f (λ g. absurd (omega arith)))
      ∙ append-nil ms;
  corrections =
      four_taken 3 ps es ms fs
      ∙ four_are (part_of 3 ps) (part_of 3 es) (part_of 3 ms) (part_of 3 fs) [] [] [] fs
      (none_taken 3 0 ps p (λ g. absurd (omega arith)))
      (none_taken 3 1 es e (λ g. absurd (omega arith)))
      (none_taken 3 2 ms m (λ g. absurd (omega arith)))
      (all_taken 3 fs f);
}

-- the commands that are taken for a part are of that part
part_of_all : (k : ℕ) (cs : List Command) → AllOf k (part_of k cs)
part_of_all k [] = tt
part_of_all k (c ∷ cs) = elim (cases_eq (part c) k) [
  | inl e ↦ rw (eq-eqb (part c) k e) (e, part_of_all k cs)
  | inr ne ↦ rw (ne_eqb (part c) k ne) (part_of_all k cs)
]

pub in_parts_by : (ps es ms fs cs : List Command) → HasParts ps es ms fs cs →
    cs ≡ ps ++ (es ++ (ms ++ fs)) → IsInParts cs
in_parts_by ps es ms fs cs h e = record {
  whole =
      e
      ∙ four_are ps es ms fs (preparations_of cs) (entanglings_of cs) (measurements_of cs)
      (corrections_of cs) (sym h.preparations) (sym h.entanglings) (sym h.measurements)
      (sym h.corrections);
  preparations = subst (AllOf 0) (sym (preparations_part cs)) (part_of_all 0 cs);
  entanglings = part_of_all 1 cs;
  measurements = part_of_all 2 cs;
  corrections = part_of_all 3 cs;
}
