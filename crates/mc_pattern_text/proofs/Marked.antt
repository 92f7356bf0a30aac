-- Names and the marks at their numbers.
use Rattle.std.proofs.Common.{◌≡◌, ℕ, ◌<◌, List, [], ◌∷◌, ◌++◌, Bool, true, false, ◌||◌, Option}
use Rattle.std.proofs.Common.{Some, None, length, map, refl, sym, ap, ◌∙◌, arith, nat_eq}
use Rattle.std.proofs.Common.{length-append, get_or}
use Rattle.std.specs.List.{list_any, list_all, IsDistinct}
use Rattle.std.proofs.lemmas.Bool.Decides.{nat_tests, Decides-eqb}
use Rattle.std.proofs.lemmas.List.Quantifiers.{position-Some}
use Rattle.std.proofs.lemmas.List.Sums.{AllPass-from_list_all, list_all-from_AllPass}
use Rattle.std.proofs.Math.Seq.{get_or-append_seam}
use Rattle.std.proofs.lemmas.Slice.Eq.{slice_eq-Decides}
use Rattle.mc_model.specs.Bits.{Bits}
use Rattle.mc_model.specs.Numbers.{is_member}
use Rattle.mc_model.specs.Names.{name_eq, is_held, place_of}
use Rattle.mc_text.specs.declared.fault.Fault.TheVariants.{Measured, SameOperand, ListedTwice}
use Rattle.mc_text.specs.Judged.{fault}
use Rattle.mc_text.specs.Rules.{known_name, number_in, AreNumbers}
use Rattle.mc_text.proofs.Numbers.{listed-number, place-same}
use Rattle.mc_text.proofs.Listed.{place_at}
use Rattle.mc_pattern_text.specs.Judge.{is_settled, still_name, second_name, output_name}
use Rattle.mc_pattern_text.specs.Kept.{AreMarked, IsOperand}

pub place-below : (names : List (List ℕ)) (a : List ℕ) (q : ℕ) → place_of names a ≡ Some q
    → q < length names
place-below names a q e = (position-Some (name_eq a) names q [] e).0

pub member-any : (qs : List ℕ) (q : ℕ) → is_member qs q ≡ list_any (λ r. nat_eq r q) qs
member-any [] q = refl
member-any (r ∷ qs) q =
    let turned : nat_eq q r ≡ nat_eq r q = grind (arith, nat_tests) in
    rw (turned, member-any qs q) refl

-- a name stands in a list exactly where its number has a mark
pub marked-name : (names list : List (List ℕ)) (marks : Bits) (word : List ℕ) (q : ℕ)
    → AreMarked names list marks → place_of names word ≡ Some q → marks q ≡ is_held list word
marked-name names list marks word q are e =
    are.marked q
    ∙ member-any (map (number_in names) list) q
    ∙ listed-number names list word q e are.held

pub still_name_clean : (names measured : List (List ℕ)) (marks : Bits) (word : List ℕ) (q : ℕ)
    → AreMarked names measured marks → known_name names word ≡ None → place_of names word ≡ Some q
    → marks q ≡ false → still_name names measured word ≡ None
still_name_clean names measured marks word q are known e free =
    let same : is_held measured word ≡ false =
    sym (marked-name names measured marks word q are e) ∙ free in
    rw (known, same) refl

pub still_name_measured : (names measured : List (List ℕ)) (marks : Bits) (word : List ℕ) (q : ℕ)
    → AreMarked names measured marks → known_name names word ≡ None → place_of names word ≡ Some q
    → marks q ≡ true → still_name names measured word ≡ Some (fault Measured)
still_name_measured names measured marks word q are known e marked =
    let same : is_held measured word ≡ true =
    sym (marked-name names measured marks word q are e) ∙ marked in
    rw (known, same) refl

-- a second operand
pub second_name_same : (names measured : List (List ℕ)) (first : Option (List ℕ)) (word : List ℕ)
    (q : ℕ) → IsOperand names first q → still_name names measured word ≡ None
    → place_of names word ≡ Some q
    → second_name names measured first word ≡ Some (fault SameOperand)
second_name_same names measured first word q is still place =
    let name = place-same names is.name word q is.place place in
    let same = (slice_eq-Decides Decides-eqb is.name word (name_eq is.name word) refl).1 name in
    rw (is.is, still, same) refl

-- an output
numbered-name : (names listed : List (List ℕ)) (outputs : List ℕ) (word : List ℕ) (q : ℕ)
    → AreNumbers names listed outputs → place_of names word ≡ Some q
    → is_member outputs q ≡ is_held listed word
numbered-name names listed outputs word q are e =
    ap (λ ns. is_member ns q) are.numbers_are
    ∙ member-any (map (number_in names) listed) q
    ∙ listed-number names listed word q e are.held

pub output_name_twice : (names measured listed : List (List ℕ)) (outputs : List ℕ) (word : List ℕ)
    (q : ℕ) → AreNumbers names listed outputs → still_name names measured word ≡ None
    → place_of names word ≡ Some q → is_member outputs q ≡ true
    → output_name names measured listed word ≡ Some (fault ListedTwice)
output_name_twice names measured listed outputs word q are still e member =
    let held : is_held listed word ≡ true =
    sym (numbered-name names listed outputs word q are e) ∙ member in
    rw (still, held) refl

pub output_name_clean : (names measured listed : List (List ℕ)) (outputs : List ℕ) (word : List ℕ)
    (q : ℕ) → AreNumbers names listed outputs → still_name names measured word ≡ None
    → place_of names word ≡ Some q → is_member outputs q ≡ false
    → output_name names measured listed word ≡ None
output_name_clean names measured listed outputs word q are still e free =
    let held : is_held listed word ≡ false =
    sym (numbered-name names listed outputs word q are e) ∙ free in
    rw (still, held) refl

-- a name that goes behind distinct ones has the next number
pub place-last : (names : List (List ℕ)) (word : List ℕ) → IsDistinct name_eq (names ++ word ∷ [])
    → place_of (names ++ word ∷ []) word ≡ Some (length names)
place-last names word distinct =
    let longer = length-append names (word ∷ []) in
    let place = place_at (names ++ word ∷ []) (length names) word distinct (omega arith) in
    rw (get_or-append_seam names word [] word) at place

-- each name is measured or listed where each number has a mark or is listed
pub settled_at : (names measured listed : List (List ℕ)) (marks : Bits) (outputs : List ℕ) (q : ℕ)
    (d : List ℕ) → IsDistinct name_eq names → AreMarked names measured marks
    → AreNumbers names listed outputs → q < length names
    → marks q || is_member outputs q ≡ is_settled measured listed (get_or names q d)
settled_at names measured listed marks outputs q d distinct are numbers lt =
    let place = place_at names q d distinct lt in
    rw (
      marked-name names measured marks (get_or names q d) q are place,
      numbered-name names listed outputs (get_or names q d) q numbers place,
    ) refl

pub all_settled : (names measured listed : List (List ℕ)) (marks : Bits) (outputs : List ℕ)
    → IsDistinct name_eq names → AreMarked names measured marks → AreNumbers names listed outputs
    → ((q : ℕ) → q < length names → marks q || is_member outputs q ≡ true)
    → list_all (is_settled measured listed) names ≡ true
all_settled names measured listed marks outputs distinct are numbers each =
    list_all-from_AllPass (is_settled measured listed) names (λ q d lt.
    sym (settled_at names measured listed marks outputs q d distinct are numbers lt) ∙ each q lt)

pub each_settled : (names measured listed : List (List ℕ)) (marks : Bits) (outputs : List ℕ)
    → IsDistinct name_eq names → AreMarked names measured marks → AreNumbers names listed outputs
    → list_all (is_settled measured listed) names ≡ true
    → (q : ℕ) → q < length names → marks q || is_member outputs q ≡ true
each_settled names measured listed marks outputs distinct are numbers all q lt =
    let d : List ℕ = [] in
    settled_at names measured listed marks outputs q d distinct are numbers lt
    ∙ AllPass-from_list_all (is_settled measured listed) names all q d lt

pub same_truth : (a b : Bool) → (a ≡ true → b ≡ true) → (b ≡ true → a ≡ true) → a ≡ b
same_truth true b there back = sym (there refl)
same_truth false true there back = back refl
same_truth false false there back = refl
