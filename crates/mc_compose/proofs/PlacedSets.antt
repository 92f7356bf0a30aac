-- Sets whose members are placed one by one, from the last on.
use Rattle.std.proofs.Common.{◌≡◌, ℕ, ◌+◌, List, [], drop, map, Some, ap, ◌∙◌, sym}
use Rattle.std.specs.Prelude.{slice_get, All}
use Rattle.std.proofs.lemmas.List.{drop_more}
use Rattle.std.proofs.lemmas.List.Elements.{All-get_or}
use Rattle.std.proofs.lemmas.Option.{slice_get_within, get_or_from_slice_get}
use mathlib.Core.Path.{subst}
use Rattle.mc_model.specs.Signals.{toggled, toggled_all}

pub all_at : (P : ℕ → Type 0) (qs : List ℕ) (i q : ℕ) → All P qs → slice_get qs i ≡ Some q → P q
all_at P qs i q all e =
    subst P (get_or_from_slice_get qs i q 0 e)
    (All-get_or P qs i 0 (slice_get_within qs i q e) all)

-- the set of the last members, and of one before them
pub members_next : (at : ℕ → ℕ) (qs : List ℕ) (i q : ℕ) → slice_get qs i ≡ Some q →
    toggled (at q) (toggled_all (map at (drop (i + 1) qs)) [])
    ≡ toggled_all (map at (drop i qs)) []
unfolding toggled_all
members_next at qs i q e =
    ap (λ (p : ℕ). toggled (at p) (toggled_all (map at (drop (i + 1) qs)) []))
    (sym (get_or_from_slice_get qs i q 0 e))
    ∙ ap (λ (ps : List ℕ). toggled_all (map at ps) [])
    (sym (drop_more qs i 0 (slice_get_within qs i q e)))
