-- The terms of a signal: its members and its constant, and the words that spell them.
use Rattle.std.proofs.Common.{◌≡◌, ℕ, Bool, true, false, ◌||◌, List, [], ◌∷◌}
use Rattle.std.proofs.Common.{Some, None, refl, sym, ap, ◌∙◌, nat_eq, codes, arith}
use Rattle.std.proofs.lemmas.Bool.{eqb-true}
use Rattle.mc_model.specs.Bits.{Bits, ◌⊻◌}
use Rattle.mc_model.specs.Numbers.{is_member}
use Rattle.mc_model.specs.Names.{name_eq, is_name, is_held, place_of}
use Rattle.mc_model.specs.Signals.{Signal, IsRising, signal_of, signal_sum, one_signal}
use Rattle.mc_model.specs.Signals.{toggled_all}
use Rattle.mc_names.specs.Stored.{name_eq-true}
use Rattle.mc_signal.proofs.Members.{is_member-toggled, toggled_all-single}
use Rattle.mc_text.specs.declared.fault.Fault.TheVariants.{ListedTwice, NotMeasured}
use Rattle.mc_text.specs.Judged.{fault, Words}
use Rattle.mc_text.specs.Rules.{known_name}
use Rattle.mc_pattern_text.specs.Value.{is_constant, names_among}
use Rattle.mc_pattern_text.specs.Judge.{member_name, term_word}
use Rattle.mc_pattern_text.specs.Kept.{AreMarked, IsSpelled, AddsMember, AddsConstant}
use Rattle.mc_pattern_text.proofs.Marked.{marked-name}

-- a name is not the word of the constant, and that is no mark
constant_is : (word : List ℕ) → is_constant word ≡ true → codes "!" ≡ word
constant_is word e = name_eq-true (codes "!") word e

pub name_no_constant : (word : List ℕ) → is_name word ≡ true → is_constant word ≡ false
name_no_constant word named = by_test (is_constant word) refl
  where
    by_test : (t : Bool) → is_constant word ≡ t → t ≡ false
    by_test false e = refl
    by_test true e = let named' = rw (← constant_is word e) at named in absurd (cc named')

-- a name stands among the words exactly where it stands among the names
held_among : (words : Words) (word : List ℕ) → is_constant word ≡ false
    → is_held words word ≡ is_held (names_among words) word
held_among [] word other = refl
held_among (w ∷ words) word other =
    by_tests (is_constant w) (name_eq word w) refl refl (held_among words word other)
  where
    by_tests : (t s : Bool) → is_constant w ≡ t → name_eq word w ≡ s
        → is_held words word ≡ is_held (names_among words) word
        → is_held (w ∷ words) word ≡ is_held (names_among (w ∷ words)) word
    by_tests false s e f rest = rw (e, rest) refl
    by_tests true false e f rest = rw (e, f) rest
    by_tests true true e f rest =
        let e' = rw (← name_eq-true word w f) at e in
        absurd (cc (e', other))

-- and where the signal that the words spell has it as a member
term-held : (names : List (List ℕ)) (words : Words) (signal : Signal) (word : List ℕ) (q : ℕ)
    → IsSpelled names words signal → is_name word ≡ true → place_of names word ≡ Some q
    → is_member signal.members q ≡ is_held words word
term-held names words signal word q spelled named place =
    marked-name names (names_among words) (is_member signal.members) word q spelled.members place
    ∙ sym (held_among words word (name_no_constant word named))

pub member_name_twice : (names measured : List (List ℕ)) (words : Words) (signal : Signal)
    (word : List ℕ) (q : ℕ) → IsSpelled names words signal → is_name word ≡ true
    → known_name names word ≡ None → place_of names word ≡ Some q
    → is_member signal.members q ≡ true
    → member_name names measured words word ≡ Some (fault ListedTwice)
member_name_twice names measured words signal word q spelled named known place member =
    let held : is_held words word ≡ true =
    sym (term-held names words signal word q spelled named place) ∙ member in
    rw (known, held) refl

pub member_name_early : (names measured : List (List ℕ)) (words : Words) (signal : Signal)
    (marks : Bits) (word : List ℕ) (q : ℕ) → IsSpelled names words signal
    → AreMarked names measured marks → is_name word ≡ true → known_name names word ≡ None
    → place_of names word ≡ Some q → is_member signal.members q ≡ false → marks q ≡ false
    → member_name names measured words word ≡ Some (fault NotMeasured)
member_name_early names measured words signal marks word q spelled done named known place free
    unmarked =
    let new : is_held words word ≡ false =
    sym (term-held names words signal word q spelled named place) ∙ free in
    let not_yet : is_held measured word ≡ false =
    sym (marked-name names measured marks word q done place) ∙ unmarked in
    rw (known, new, not_yet) refl

pub member_name_clean : (names measured : List (List ℕ)) (words : Words) (signal : Signal)
    (marks : Bits) (word : List ℕ) (q : ℕ) → IsSpelled names words signal
    → AreMarked names measured marks → is_name word ≡ true → known_name names word ≡ None
    → place_of names word ≡ Some q → is_member signal.members q ≡ false → marks q ≡ true
    → member_name names measured words word ≡ None
member_name_clean names measured words signal marks word q spelled done named known place free
    marked =
    let new : is_held words word ≡ false =
    sym (term-held names words signal word q spelled named place) ∙ free in
    let there : is_held measured word ≡ true =
    sym (marked-name names measured marks word q done place) ∙ marked in
    rw (known, new, there) refl

-- the constant
held_constant : (names : List (List ℕ)) (words : Words) (signal : Signal) (word : List ℕ)
    → IsSpelled names words signal → is_constant word ≡ true
    → is_held words word ≡ signal.constant
held_constant names words signal word spelled is =
    rw (← constant_is word is) (sym spelled.constant)

pub constant_twice : (names measured : List (List ℕ)) (words : Words) (signal : Signal)
    (word : List ℕ) → IsSpelled names words signal → is_constant word ≡ true
    → signal.constant ≡ true
    → term_word true names measured words word ≡ Some (fault ListedTwice)
constant_twice names measured words signal word spelled is has =
    let held = held_constant names words signal word spelled is ∙ has in
    rw (is, held) refl

pub constant_clean : (names measured : List (List ℕ)) (words : Words) (signal : Signal)
    (word : List ℕ) → IsSpelled names words signal → is_constant word ≡ true
    → signal.constant ≡ false → term_word true names measured words word ≡ None
constant_clean names measured words signal word spelled is free =
    let held = held_constant names words signal word spelled is ∙ free in
    rw (is, held) refl

-- what a term adds
one_more : (b e : Bool) → (e ≡ true → b ≡ false) → (b ⊻ e) ≡ (b || e)
one_more b e apart = grind arith

pub adds_member : (names : List (List ℕ)) (s s' : Signal) (word : List ℕ) (q : ℕ)
    → place_of names word ≡ Some q → is_name word ≡ true → IsRising s.members
    → is_member s.members q ≡ false → s' ≡ signal_sum (signal_of q) s
    → AddsMember names s s' word
adds_member names s s' word q place named rising free sum = record {
  number = q;
  place = place;
  name = name_no_constant word named;
  members = λ r.
      ap (λ (t : Signal). is_member t.members r) sum
      ∙ ap (λ (ms : List ℕ). is_member ms r) (toggled_all-single q s.members)
      ∙ is_member-toggled q s.members r rising
      ∙ one_more (is_member s.members r) (nat_eq r q)
      (λ e. ap (is_member s.members) (eqb-true r q e) ∙ free);
  constant = ap (λ (t : Signal). t.constant) sum;
}

pub adds_constant : (s s' : Signal) (word : List ℕ) → is_constant word ≡ true
    → s.constant ≡ false → s' ≡ signal_sum one_signal s → AddsConstant s s' word
unfolding toggled_all
adds_constant s s' word is free sum = record {
  is = is;
  members = ap (λ (t : Signal). t.members) sum;
  constant = ap (λ (t : Signal). t.constant) sum ∙ rw free refl;
}

pub ruleset constant_terms = (constant_clean, constant_twice)
