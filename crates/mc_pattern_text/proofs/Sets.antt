-- The signal that words spell, by its members.
use Rattle.std.proofs.Common.{◌≡◌, ℕ, ◌<◌, List, [], ◌∷◌, ◌++◌, Bool, true}
use Rattle.std.proofs.Common.{length, map, refl, ap₂, arith, nat_eq, inl, inr}
use Rattle.std.specs.List.{list_all}
use Rattle.std.proofs.lemmas.Bool.{eqb-true}
use Rattle.mc_model.specs.Numbers.{is_member}
use Rattle.mc_model.specs.Names.{is_held}
use Rattle.mc_model.specs.Signals.{Signal, IsRising}
use Rattle.mc_text.specs.Judged.{Words}
use Rattle.mc_text.specs.Rules.{number_in}
use Rattle.mc_text.proofs.Numbers.{place-held}
use Rattle.mc_pattern_text.specs.Value.{names_among, signal_in}
use Rattle.mc_pattern_text.specs.Kept.{IsSpelled}
use Rattle.mc_pattern_text.proofs.Marked.{place-below}
use Rattle.mc_pattern_text.proofs.Keeping.{marked-more}
use Rattle.mc_pattern_text.proofs.Parts.{and_both, or_either}
use Rattle.mc_pattern_text.proofs.RisingSets.{set_where}

-- the numbers of names are below their number
pub numbers_below : (names list : List (List ℕ)) (k : ℕ) → list_all (is_held names) list ≡ true
    → is_member (map (number_in names) list) k ≡ true → k < length names
numbers_below names [] k all member = absurd (cc member)
numbers_below names (w ∷ list) k all member =
    let both = and_both (is_held names w) (list_all (is_held names) list) all in
    let place = place-held names w both.0 in
    let number : number_in names w ≡ place.0 = rw place.1 refl in
    let below = place-below names w place.0 place.1 in
    let rest = map (number_in names) list in
    elim (or_either (nat_eq k (number_in names w)) (is_member rest k) member) [
      | inl same ↦ let e = eqb-true k (number_in names w) same in omega arith
      | inr later ↦ numbers_below names list k both.1 later
    ]

-- the signal that the words spell
pub signal_same : (names more : List (List ℕ)) (words : Words) (signal : Signal)
    → IsRising signal.members → IsSpelled names words signal
    → signal ≡ signal_in (names ++ more) words
signal_same names more words signal rising are =
    let list = names_among words in
    let are' = marked-more names more list (is_member signal.members) are.members in
    let same = set_where signal.members (is_member (map (number_in (names ++ more)) list))
    (length (names ++ more)) rising are'.marked
    (λ k member. numbers_below (names ++ more) list k are'.held member) in
    ap₂ (λ (members : List ℕ) (b : Bool). record { members = members; constant = b }) same
    are.constant
