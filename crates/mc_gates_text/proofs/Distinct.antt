-- The numbers of distinct names.
use Rattle.std.proofs.Common.{◌≡◌, ℕ, ◌<◌, List, [], ◌∷◌, Bool, true, false, ◌&&◌, Some, length}
use Rattle.std.proofs.Common.{map, refl, sym, ◌∙◌, nat_eq}
use Rattle.std.specs.List.{list_all, IsDistinct, AllByRecursion}
use Rattle.std.proofs.lemmas.Bool.{eqb-true, true≢false}
use Rattle.std.proofs.lemmas.Bool.Decides.{Decides-eqb}
use Rattle.std.proofs.lemmas.List.Quantifiers.{position-Some}
use Rattle.std.proofs.lemmas.Slice.Eq.{slice_eq-Decides}
use Rattle.mc_model.specs.Names.{Name, name_eq, is_held, place_of}
use Rattle.mc_text.specs.Rules.{number_in, AreNumbers}
use Rattle.mc_text.proofs.Numbers.{place-held, place-same}

and_both : (a b : Bool) → (a && b) ≡ true → (a ≡ true) × (b ≡ true)
and_both true b e = (refl, e)
and_both false b e = absurd (cc e)

place_below : (names : List Name) (a : Name) (q : ℕ) → place_of names a ≡ Some q → q < length names
place_below names a q e = (position-Some (name_eq a) names q [] e).0

under : (names list : List Name) → list_all (is_held names) list ≡ true
    → AllByRecursion (λ q. q < length names) (map (number_in names) list)
under names [] all = tt
under names (w ∷ list) all =
    let both = and_both (is_held names w) (list_all (is_held names) list) all in
    let place = place-held names w both.0 in
    let number : number_in names w ≡ place.0 = rw place.1 refl in
    (rw number (place_below names w place.0 place.1), under names list both.1)

other : (names : List Name) (w v : Name) (t : Bool) → is_held names w ≡ true
    → is_held names v ≡ true → name_eq w v ≡ false
    → nat_eq (number_in names w) (number_in names v) ≡ t → t ≡ false
other names w v false hw hv ne e = refl
other names w v true hw hv ne e =
    let here = place-held names w hw in
    let there = place-held names v hv in
    let one : number_in names w ≡ here.0 = rw here.1 refl in
    let two : number_in names v ≡ there.0 = rw there.1 refl in
    let numbers : here.0 ≡ there.0 =
    sym one ∙ eqb-true (number_in names w) (number_in names v) e ∙ two in
    let same = place-same names w v there.0 (rw numbers at here.1) there.1 in
    let eq = (slice_eq-Decides Decides-eqb w v (name_eq w v) refl).1 same in
    absurd (true≢false (sym eq ∙ ne))

all_other : (names : List Name) (w : Name) (list : List Name) → is_held names w ≡ true
    → list_all (is_held names) list ≡ true → AllByRecursion (λ v. name_eq w v ≡ false) list
    → AllByRecursion (λ q. nat_eq (number_in names w) q ≡ false) (map (number_in names) list)
all_other names w [] hw all apart = tt
all_other names w (v ∷ list) hw all apart =
    let both = and_both (is_held names v) (list_all (is_held names) list) all in (
      other names w v (nat_eq (number_in names w) (number_in names v)) hw both.0 apart.0 refl,
      all_other names w list hw both.1 apart.1,
    )

distinct : (names list : List Name) → list_all (is_held names) list ≡ true
    → IsDistinct name_eq list → IsDistinct nat_eq (map (number_in names) list)
unfolding IsDistinct
distinct names [] all apart = tt
distinct names (w ∷ list) all apart =
    let both = and_both (is_held names w) (list_all (is_held names) list) all in
    (all_other names w list both.0 both.1 apart.0, distinct names list both.1 apart.1)

pub numbers_under : (names list : List Name) (numbers : List ℕ) → AreNumbers names list numbers
    → AllByRecursion (λ q. q < length names) numbers
numbers_under names list numbers are = rw are.numbers_are (under names list are.held)

pub numbers_distinct : (names list : List Name) (numbers : List ℕ) → AreNumbers names list numbers
    → IsDistinct name_eq list → IsDistinct nat_eq numbers
numbers_distinct names list numbers are apart =
    rw are.numbers_are (distinct names list are.held apart)
