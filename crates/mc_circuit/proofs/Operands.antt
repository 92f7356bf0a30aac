-- The operands of a gate.
use Rattle.std.proofs.Common.{◌≡◌, ℕ, List, Bool, true, false, Option, Some, None, Result, OnOk, Ok}
use Rattle.std.proofs.Common.{Err, refl, sym}
use Rattle.std.proofs.lemmas.Bool.Decides.{Decides-eqb}
use Rattle.std.proofs.lemmas.Slice.Eq.{slice_eq-Decides}
use Rattle.mc_model.specs.Names.{name_eq, place_of}
use Rattle.mc_text.specs.declared.fault.Fault.TheVariants.{SameOperand}
use Rattle.mc_text.specs.Judged.{fault}
use Rattle.mc_text.specs.Rules.{known_name}
use Rattle.mc_text.proofs.Numbers.{place-same}
use Rattle.mc_circuit.specs.Judge.{second_word}
use Rattle.mc_circuit.specs.Kept.{IsOperand}

pub second_word-same : (names : List (List ℕ)) (first : Option (List ℕ)) (word : List ℕ) (q : ℕ)
    → IsOperand names first q → known_name names word ≡ None → place_of names word ≡ Some q
    → second_word names first word ≡ Some (fault SameOperand)
second_word-same names first word q is known place =
    let name = place-same names is.name word q is.place place in
    let same = (slice_eq-Decides Decides-eqb is.name word (name_eq is.name word) refl).1 name in
    rw (is.is, known, same) refl

pub same_truth : (a b : Bool) → (a ≡ true → b ≡ true) → (b ≡ true → a ≡ true) → a ≡ b
same_truth true b there back = sym (there refl)
same_truth false true there back = back refl
same_truth false false there back = refl

pub OnOk_to : {A E : Type 0} (r : Result A E) (P Q : Type 0) → (P → Q) → OnOk r P → OnOk r Q
OnOk_to (Ok a) P Q f h = f h
OnOk_to (Err e) P Q f h = h
