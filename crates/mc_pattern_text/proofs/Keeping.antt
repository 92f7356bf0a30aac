-- What is kept of the words of a line goes on with one more word.
use Rattle.std.proofs.Common.{◌≡◌, ℕ, zero, suc, ◌+◌, ◌<◌, List, [], ◌∷◌, ◌++◌, Bool, true, false}
use Rattle.std.proofs.Common.{◌||◌, Option, Some, None, length, map, refl, sym, subst, ap}
use Rattle.std.proofs.Common.{◌∙◌, arith, ◌==◌, nat_eq, not, inl, inr}
use Rattle.std.specs.List.{list_all, list_any, slice_get}
use Rattle.std.proofs.lemmas.Bool.{eqb-true}
use Rattle.std.proofs.lemmas.List.{append-nil, map-append}
use Rattle.std.proofs.lemmas.List.Elements.{filter-append}
use Rattle.std.proofs.lemmas.List.Folds.{list_all-append, list_any-append}
use Rattle.mc_model.specs.Bits.{Bits}
use Rattle.mc_model.specs.Numbers.{is_member}
use Rattle.mc_model.specs.Names.{is_held, place_of}
use Rattle.mc_model.specs.Signals.{Signal}
use Rattle.mc_angle.specs.Angle.{angle_of}
use Rattle.mc_text.specs.declared.head.Head.{Head}
use Rattle.mc_text.specs.declared.point.Point.{Point}
use Rattle.mc_text.specs.Heads.{head_of, head_in}
use Rattle.mc_text.specs.Points.{mark_of, point_of}
use Rattle.mc_text.specs.Judged.{Words, Lines}
use Rattle.mc_text.specs.Rules.{number_in}
use Rattle.mc_text.specs.Lists.{operand_at, next_operand}
use Rattle.mc_text.proofs.Numbers.{held-place, place-held}
use Rattle.mc_text.proofs.Kept.{count_at, place-more, number_in-more, operand_at-word, name_no_mark}
use Rattle.mc_pattern_text.specs.declared.reader.Operands.{Operands}
use Rattle.mc_pattern_text.specs.Roles.{is_entangling, is_measuring, is_command, has_operand}
use Rattle.mc_pattern_text.specs.Value.{is_constant, names_among}
use Rattle.mc_pattern_text.specs.Judge.{first_signal, second_signal}
use Rattle.mc_pattern_text.specs.Kept.{AreMarked, IsSpelled, AreOperands}
use Rattle.mc_pattern_text.specs.Kept.{AddsMember, AddsConstant, Joins, Fills, added_first}
use Rattle.mc_pattern_text.specs.Kept.{added_second}
use Rattle.mc_pattern_text.proofs.Parts.{and_both}
use Rattle.mc_pattern_text.proofs.Under.{IsOneOrNone, first_signal-word, second_signal-word}
use Rattle.mc_pattern_text.proofs.Under.{first_one, second_one}

-- the names of a list are the same under more names
pub numbers_same : (names more list : List (List ℕ)) → list_all (is_held names) list ≡ true
    → (list_all (is_held (names ++ more)) list ≡ true)
    × (map (number_in (names ++ more)) list ≡ map (number_in names) list)
numbers_same names more [] all = (refl, refl)
numbers_same names more (w ∷ list) all =
    let both = and_both (is_held names w) (list_all (is_held names) list) all in
    let place = place-held names w both.0 in
    let held = held-place (names ++ more) w place.0 (place-more names more w place.0 place.1) in
    let number = number_in-more names more w place.0 place.1 in
    let was : number_in names w ≡ place.0 = rw place.1 refl in
    let rest = numbers_same names more list both.1 in
    (rw (held, rest.0) refl, rw (number, was, rest.1) refl)

pub marked-more : (names more list : List (List ℕ)) (marks : Bits) → AreMarked names list marks
    → AreMarked (names ++ more) list marks
marked-more names more list marks are =
    let same = numbers_same names more list are.held in
    record { held = same.0; marked = λ q. are.marked q ∙ ap (λ ns. is_member ns q) (sym same.1) }

-- a list with one more name
or_false : (t s : Bool) → (t || (s || false)) ≡ (t || s)
or_false true s = refl
or_false false true = refl
or_false false false = refl

member-last : (qs : List ℕ) (q r : ℕ) → is_member (qs ++ q ∷ []) r ≡ is_member qs r || nat_eq r q
member-last [] q r = or_false false (nat_eq r q)
member-last (p ∷ qs) q r =
    rw (member-last qs q r) (or_three (nat_eq r p) (is_member qs r) (nat_eq r q))
  where
    or_three : (a b c : Bool) → (a || (b || c)) ≡ ((a || b) || c)
    or_three true b c = refl
    or_three false b c = refl

pub marked-word : (names list : List (List ℕ)) (marks marks' : Bits) (word : List ℕ) (q : ℕ)
    → AreMarked names list marks → place_of names word ≡ Some q
    → ((r : ℕ) → marks' r ≡ marks r || nat_eq r q) → AreMarked names (list ++ word ∷ []) marks'
marked-word names list marks marks' word q are place more =
    let held = held-place names word q place in
    let number : number_in names word ≡ q = rw place refl in
    let longer = map-append (number_in names) list (word ∷ []) in
    record {
      held = list_all-append (is_held names) list (word ∷ []) ∙ rw (are.held, held) refl;
      marked = λ r.
          let all : is_member (map (number_in names) (list ++ word ∷ [])) r
          ≡ marks r || nat_eq r q =
          rw (longer, number, member-last (map (number_in names) list) q r, are.marked r) refl in
          more r ∙ sym all;
    }

-- the words of a signal with one more term
pub spelled-more : (names more : List (List ℕ)) (words : Words) (signal : Signal)
    → IsSpelled names words signal → IsSpelled (names ++ more) words signal
spelled-more names more words signal are = record {
  members = marked-more names more (names_among words) (is_member signal.members) are.members;
  constant = are.constant;
}

member_spelled : (names : List (List ℕ)) (words : Words) (s s' : Signal) (word : List ℕ)
    → IsSpelled names words s → AddsMember names s s' word
    → IsSpelled names (words ++ word ∷ []) s'
member_spelled names words s s' word are adds =
    let among = filter-append (λ w. not (is_constant w)) words (word ∷ []) in
    let all = list_any-append is_constant words (word ∷ []) in
    let other = adds.name in
    record {
      members = rw (among, other)
          (marked-word names (names_among words) (is_member s.members) (is_member s'.members) word
          adds.number are.members adds.place adds.members);
      constant =
          adds.constant ∙ are.constant
          ∙ rw (all, other) (sym (or_false false (list_any is_constant words)));
    }

constant_spelled : (names : List (List ℕ)) (words : Words) (s s' : Signal) (word : List ℕ)
    → IsSpelled names words s → AddsConstant s s' word → IsSpelled names (words ++ word ∷ []) s'
constant_spelled names words s s' word are adds =
    let among = filter-append (λ w. not (is_constant w)) words (word ∷ []) in
    let all = list_any-append is_constant words (word ∷ []) in
    let is = adds.is in
    record {
      members = rw (among, is, append-nil (names_among words), adds.members) are.members;
      constant = adds.constant ∙ rw (all, is) (or_true (list_any is_constant words));
    }
  where
    or_true : (b : Bool) → true ≡ (b || true)
    or_true true = refl
    or_true false = refl

pub joined : (names : List (List ℕ)) (words added : Words) (s s' : Signal) (word : List ℕ)
    → IsOneOrNone word added → IsSpelled names words s → Joins names s s' added
    → IsSpelled names (words ++ added) s'
joined names words added s s' word one are joins = elim one.is [
  | inl none ↦
      let joins' : s' ≡ s = rw none at joins in
      rw (none, append-nil words, joins') are
  | inr some ↦
      let joins' = rw some at joins in
      rw some
      (elim joins' [
        | inl adds ↦ member_spelled names words s s' word are adds
        | inr adds ↦ constant_spelled names words s s' word are adds
      ])
]

-- the n-th word is the one that comes, or stood there before
pub operand_gate : (n : ℕ) (test : Option Head → Bool) (here : Words) (a : List ℕ)
    → operand_at n test here ≡ Some a → test (head_in here) ≡ true
operand_gate n test [] a e = absurd (cc e)
operand_gate n test (h ∷ words) a e = by_test (test (head_of h)) refl
  where
    by_test : (t : Bool) → test (head_of h) ≡ t → t ≡ true
    by_test true f = refl
    by_test false f = let e' = rw f at e in absurd (cc e')

get_within : (words : Words) (n : ℕ) (a : List ℕ) → slice_get words n ≡ Some a → n < length words
get_within [] n a e = absurd (cc e)
get_within (w ∷ words) zero a e = omega arith
get_within (w ∷ words) (suc n) a e = let rest = get_within words n a e in omega arith

operand_within : (n : ℕ) (test : Option Head → Bool) (before : Lines) (here : Words) (a : List ℕ)
    → n < 3 → operand_at n test here ≡ Some a → n + 1 < (point_of before here).count
operand_within n test before [] a few e = absurd (cc e)
operand_within n test before (h ∷ words) a few e =
    let gate = operand_gate n test (h ∷ words) a e in
    let get : slice_get words n ≡ Some a = rw gate at e in
    let within = get_within words n a get in
    let count = count_at before (h ∷ words) in
    omega arith

pub operand_cases : (n : ℕ) (test : Option Head → Bool) (before : Lines) (here : Words) (p : Point)
    (word : List ℕ) (P : List ℕ → Type 0) → n < 3 → p ≡ point_of before here
    → (p.count ≡ n + 1 → test p.head ≡ true → P word)
    → ((a : List ℕ) → n + 1 < p.count → operand_at n test here ≡ Some a → P a)
    → (a : List ℕ) → operand_at n test (here ++ word ∷ []) ≡ Some a → P a
operand_cases n test before here p word P few at comes stood a e =
    by_tests (p.count == n + 1) (test p.head) refl refl
  where
    next : next_operand n test p (operand_at n test here) word ≡ Some a
    next = rw at (operand_at-word n test before here word few) ∙ e

    by_tests : (t s : Bool) → (p.count == n + 1) ≡ t → test p.head ≡ s → P a
    by_tests true true one gate =
        let is = rw (one, gate) at next in
        let same : word ≡ a = cc is in
        subst P same (comes (eqb-true p.count (n + 1) one) gate)
    by_tests true false one gate =
        let is : operand_at n test here ≡ Some a = rw (one, gate) at next in
        let within = operand_within n test before here a few is in
        let within' : n + 1 < p.count = rw at within in
        stood a within' is
    by_tests false s one gate =
        let is : operand_at n test here ≡ Some a = rw one at next in
        let within = operand_within n test before here a few is in
        let within' : n + 1 < p.count = rw at within in
        stood a within' is

pub operands_more : {half : ℕ} (names more : List (List ℕ)) (o o' : Operands half)
    (before : Lines) (here : Words) (p : Point) (word : List ℕ) → p ≡ point_of before here
    → AreOperands names o here → Fills (names ++ more) o o' p word
    → AreOperands (names ++ more) o' (here ++ word ∷ [])
operands_more {half} names more o o' before here p word at are fills =
    let first = first_signal-word before here p word at are.unmarked in
    let second = second_signal-word before here p word at are.unmarked in
    let same : 1 < p.count → o'.first ≡ o.first = λ later. fills.same_first (λ z. omega arith) in
    record {
      place = operand_cases 0 is_command before here p word
          (λ a. place_of (names ++ more) a ≡ Some o'.first) (omega arith) at fills.place
          (λ a later is. rw (same later) (place-more names more a o.first (are.place a is)));
      unmarked = operand_cases 0 has_operand before here p word (λ a. mark_of a ≡ None)
          (omega arith) at (λ one gate. name_no_mark word (fills.name one gate))
          (λ a later is. are.unmarked a is);
      second = operand_cases 1 is_entangling before here p word
          (λ b. place_of (names ++ more) b ≡ Some o'.second) (omega arith) at fills.second
          (λ b later is.
          let same_second : o'.second ≡ o.second = fills.same_second (λ z. omega arith) in
          rw same_second (place-more names more b o.second (are.second b is)));
      angle = operand_cases 1 is_measuring before here p word (λ b. o'.angle ≡ angle_of half b)
          (omega arith) at fills.angle
          (λ b later is. fills.same_angle (λ z. omega arith) ∙ are.angle b is);
      s = rw first
          (joined (names ++ more) (first_signal here) (added_first p word) o.s o'.s word
          (first_one p word) (spelled-more names more (first_signal here) o.s are.s) fills.s);
      t = rw second
          (joined (names ++ more) (second_signal here) (added_second p word) o.t o'.t word
          (second_one p word) (spelled-more names more (second_signal here) o.t are.t) fills.t);
    }
