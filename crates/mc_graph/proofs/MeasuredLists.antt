-- The measured qubits of a list, in order, and their angles.
use Rattle.std.proofs.Common.{◌≡◌, ℕ, ◌+◌, ◌<◌, Bool, cond, length, List, [], ◌∷◌, Some, refl, sym}
use Rattle.std.proofs.Common.{◌∙◌, ap, arith}
use Rattle.std.specs.Prelude.{Option, ⊤, nat_eq, count_by, All}
use Rattle.std.proofs.lemmas.Bool.{eq-eqb, ne_eqb, cases_eq}
use Rattle.std.proofs.lemmas.List.Elements.{All-nil, All-cons}
use mathlib.Core.Logic.{inl, inr}
use Rattle.mc_model.specs.Numbers.{ListsOnce}
use Rattle.mc_model.specs.Pattern.{Command, Prep, Ent, Meas, FixX, FixZ}
use Rattle.mc_model.specs.Amplitude.{halvings}
use Rattle.mc_model.specs.Valid.{prepared, measured}
use Rattle.mc_model.specs.Graph.{angle_in}
use Rattle.mc_model.proofs.NumberLists.{count-first}
use Rattle.mc_model.proofs.ValidInPlace.{AllMiss, InPlace, missed_unmeasured}

unfoldable pub measured_list : List Command → List ℕ
measured_list [] = []
measured_list (Prep q ∷ cs) = measured_list cs
measured_list (Ent q r ∷ cs) = measured_list cs
measured_list (Meas q a s t ∷ cs) = q ∷ measured_list cs
measured_list (FixX q s ∷ cs) = measured_list cs
measured_list (FixZ q s ∷ cs) = measured_list cs

measured_below : (n : ℕ) (cs : List Command) → InPlace n cs → All (λ q. q < n) (measured_list cs)
unfolding measured_list
measured_below n [] p = All-nil (λ q. q < n)
measured_below n (Prep q ∷ cs) p = measured_below n cs p.2
measured_below n (Ent q r ∷ cs) p = measured_below n cs p.2
measured_below n (Meas q a s t ∷ cs) p =
    All-cons (λ r. r < n) q (measured_list cs) p.0.0 (measured_below n cs p.2)
measured_below n (FixX q s ∷ cs) p = measured_below n cs p.2
measured_below n (FixZ q s ∷ cs) p = measured_below n cs p.2

measured_counts : (n : ℕ) (cs : List Command) (k : ℕ) → InPlace n cs →
    count_by (nat_eq k) (measured_list cs) ≡ cond (measured cs k) 1 0
unfolding measured_list measured
measured_counts n [] k p = refl
measured_counts n (Prep q ∷ cs) k p = measured_counts n cs k p.2
measured_counts n (Ent q r ∷ cs) k p = measured_counts n cs k p.2
measured_counts n (Meas q a s t ∷ cs) k p =
    count-first k q (measured_list cs)
    ∙ ap (λ (m : ℕ). cond (nat_eq k q) 1 0 + m) (measured_counts n cs k p.2)
    ∙ elim (cases_eq k q) [
      | inl e ↦
          rw (eq-eqb k q e, ap (measured cs) e, missed_unmeasured cs q p.1)
      | inr ne ↦ rw (ne_eqb k q ne) (no_more (measured cs k))
    ]
  where
    no_more : (b : Bool) → 0 + cond b 1 0 ≡ cond b 1 0
    no_more b = omega arith
measured_counts n (FixX q s ∷ cs) k p = measured_counts n cs k p.2
measured_counts n (FixZ q s ∷ cs) k p = measured_counts n cs k p.2

pub measured_once : (n : ℕ) (cs : List Command) → InPlace n cs →
    ListsOnce n (measured cs) (measured_list cs)
measured_once n cs p =
    record { below = measured_below n cs p; once = λ k l. measured_counts n cs k p }

-- each measurement of the list has the angle that is given for its qubit
abbrev pub HaveAngles : (ℕ → Option ℕ) → List Command → Type 0
HaveAngles angles [] = ⊤
HaveAngles angles (Prep q ∷ cs) = HaveAngles angles cs
HaveAngles angles (Ent q r ∷ cs) = HaveAngles angles cs
HaveAngles angles (Meas q a s t ∷ cs) = (angles q ≡ Some a) × HaveAngles angles cs
HaveAngles angles (FixX q s ∷ cs) = HaveAngles angles cs
HaveAngles angles (FixZ q s ∷ cs) = HaveAngles angles cs

-- another qubit may get an angle
angles_kept : (angles : ℕ → Option ℕ) (q a : ℕ) (cs : List Command) → AllMiss q cs →
    HaveAngles angles cs → HaveAngles (λ k. cond (nat_eq k q) (Some a) (angles k)) cs
angles_kept angles q a [] m h = tt
angles_kept angles q a (Prep r ∷ cs) m h = angles_kept angles q a cs m.1 h
angles_kept angles q a (Ent r u ∷ cs) m h = angles_kept angles q a cs m.1 h
angles_kept angles q a (Meas r b s t ∷ cs) m h = (
  ap (λ (e : Bool). cond e (Some a) (angles r)) (ne_eqb r q (λ e. m.0 (sym e))) ∙ h.0,
  angles_kept angles q a cs m.1 h.1,
)
angles_kept angles q a (FixX r s ∷ cs) m h = angles_kept angles q a cs m.1 h
angles_kept angles q a (FixZ r s ∷ cs) m h = angles_kept angles q a cs m.1 h

pub have_angles : (n : ℕ) (cs : List Command) → InPlace n cs → HaveAngles (angle_in cs) cs
unfolding angle_in
have_angles n [] p = tt
have_angles n (Prep q ∷ cs) p = have_angles n cs p.2
have_angles n (Ent q r ∷ cs) p = have_angles n cs p.2
have_angles n (Meas q a s t ∷ cs) p = (
  ap (λ (e : Bool). cond e (Some a) (angle_in cs q)) (eq-eqb q q refl),
  angles_kept (angle_in cs) q a cs p.1 (have_angles n cs p.2),
)
have_angles n (FixX q s ∷ cs) p = have_angles n cs p.2
have_angles n (FixZ q s ∷ cs) p = have_angles n cs p.2

-- a list prepares and measures what its lists of qubits say
pub halvings-listed : (cs : List Command) → halvings cs ≡ prepared cs + length (measured_list cs)
unfolding halvings prepared measured_list
halvings-listed [] = refl
halvings-listed (Prep q ∷ cs) = let h = halvings-listed cs in omega arith
halvings-listed (Ent q r ∷ cs) = halvings-listed cs
halvings-listed (Meas q a s t ∷ cs) = let h = halvings-listed cs in omega arith
halvings-listed (FixX q s ∷ cs) = halvings-listed cs
halvings-listed (FixZ q s ∷ cs) = halvings-listed cs
