-- What the checker finds is what there is to find.
use Rattle.std.proofs.Common.{◌≡◌, ℕ, ◌≤◌, List, length, refl, sym, ap, ap₂, subst₂}
use Rattle.std.specs.Prelude.{Some, None}
use Rattle.mc_model.specs.Pattern.{Command}
use Rattle.mc_model.specs.Derivation.{Use}
use Rattle.mc_cert.specs.Rules.{Breach, breach}
use Rattle.mc_derivations.specs.Checks.{IsTrace, BreaksTrace}
use Rattle.mc_trace.specs.Judging.{Judges}
use Rattle.mc_derivations.proofs.JudgedOnce.{judged_once}

-- what is found, by one of the two
pub judged_yes : (inputs : ℕ) (uses : List Use) (cs : List Command) → length cs ≤ 64 →
    IsTrace inputs uses cs → Judges None inputs uses cs
judged_yes inputs uses cs few t = record {
  yes = (λ e. t, λ u. refl);
  no = λ row rule. (
    λ e. absurd (cc e),
    λ b. absurd ((judged_once inputs uses cs few row rule b).no_trace t),
  );
}

pub judged_no : (inputs : ℕ) (uses : List Use) (cs : List Command) (row rule : ℕ) →
    length cs ≤ 64 → BreaksTrace inputs uses cs row rule →
    Judges (Some (breach row rule)) inputs uses cs
judged_no inputs uses cs row rule few b = record {
  yes = (λ e. absurd (cc e), λ t. absurd ((judged_once inputs uses cs few row rule b).no_trace t));
  no = λ other number. (
    λ e. broken_there other number (same_breach other number e),
    λ c. found_there other number ((judged_once inputs uses cs few row rule b).only other number c),
  );
}
  where
    same_breach : (other number : ℕ) → Some (breach row rule) ≡ Some (breach other number) →
        (row ≡ other) × (rule ≡ number)
    same_breach other number e =
        let same : breach row rule ≡ breach other number = cc e in
        (ap (λ (b : Breach). b.row) same, ap (λ (b : Breach). b.rule) same)

    broken_there : (other number : ℕ) → (row ≡ other) × (rule ≡ number) →
        BreaksTrace inputs uses cs other number
    broken_there other number e =
        subst₂ (λ (n k : ℕ). BreaksTrace inputs uses cs n k) e.0 e.1 b

    found_there : (other number : ℕ) → (other ≡ row) × (number ≡ rule) →
        Some (breach row rule) ≡ Some (breach other number)
    found_there other number e =
        ap₂ (λ (n k : ℕ). Some (breach n k)) (sym e.0) (sym e.1)
