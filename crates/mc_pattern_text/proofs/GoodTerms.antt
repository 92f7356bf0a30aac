-- Terms with nothing against them: measured qubits, and constants where those may stand.
use Rattle.std.proofs.Common.{◌≡◌, ℕ, Bool, true, false, ◌&&◌, List, [], ◌∷◌, ◌++◌}
use Rattle.std.proofs.Common.{Option, Some, None, length, map, refl, sym, ap, ◌∙◌, nat_eq, nat_lt}
use Rattle.std.proofs.Common.{if◌then◌else◌, inl, inr, lt-ltb}
use Rattle.std.specs.List.{list_all, list_any}
use Rattle.std.proofs.lemmas.Bool.{eqb-true}
use Rattle.mc_model.specs.Bits.{Bits}
use Rattle.mc_model.specs.Signals.{Signal}
use Rattle.mc_pattern.specs.Rules.{is_undone}
use Rattle.mc_pattern.proofs.Members.{none_by}
use Rattle.mc_model.specs.Numbers.{is_member}
use Rattle.mc_model.specs.Names.{is_name, is_held}
use Rattle.mc_text.specs.declared.head.Head.{Head}
use Rattle.mc_text.specs.declared.point.Mark.{Mark}
use Rattle.mc_text.specs.declared.point.Mark.TheVariants.{S, T, Colon}
use Rattle.mc_text.specs.Points.{mark_of}
use Rattle.mc_text.specs.Judged.{Words}
use Rattle.mc_text.specs.Rules.{number_in}
use Rattle.mc_text.proofs.Numbers.{place-held}
use Rattle.mc_pattern_text.specs.Roles.{role_behind}
use Rattle.mc_pattern_text.specs.Value.{word_under, is_constant, names_among, signal_in}
use Rattle.mc_pattern_text.specs.Judge.{Known, member_name, term_word, judge_by}
use Rattle.mc_pattern_text.specs.Kept.{AreMarked, IsSpelled}
use Rattle.mc_pattern_text.proofs.Parts.{and_both, or_either}
use Rattle.mc_pattern_text.proofs.Marked.{marked-name}
use Rattle.mc_pattern_text.proofs.RisingSets.{member_where, rising_where}
use Rattle.mc_pattern_text.proofs.Sets.{numbers_below, signal_same}
use Rattle.mc_pattern_text.proofs.Terms.{name_no_constant}
use Rattle.mc_pattern_text.proofs.Under.{under_none}

abbrev pub is_good : Bool → List (List ℕ) → List (List ℕ) → List ℕ → Bool
is_good constants names measured word =
    if is_constant word then constants else (is_held names word && is_held measured word)

abbrev pub AreGood : Bool → List (List ℕ) → List (List ℕ) → Words → Type 0
AreGood constants names measured words = list_all (is_good constants names measured) words ≡ true

member_good : (constants : Bool) (names measured : List (List ℕ)) (signal : Words) (word : List ℕ)
    (n h m : Bool) → is_name word ≡ n → is_held names word ≡ h → is_held measured word ≡ m
    → member_name names measured signal word ≡ None
    → is_good constants names measured word ≡ true
member_good constants names measured signal word false h m e f g clean =
    let clean' = rw e at clean in absurd (cc clean')
member_good constants names measured signal word true false m e f g clean =
    let clean' = rw (e, f) at clean in absurd (cc clean')
member_good constants names measured signal word true true false e f g clean =
    by_listed (is_held signal word) refl
  where
    by_listed : (l : Bool) → is_held signal word ≡ l → is_good constants names measured word ≡ true
    by_listed true d = let clean' = rw (e, f, d) at clean in absurd (cc clean')
    by_listed false d = let clean' = rw (e, f, d, g) at clean in absurd (cc clean')
member_good constants names measured signal word true true true e f g clean =
    rw (name_no_constant word e, f, g) refl

pub term_good : (constants : Bool) (names measured : List (List ℕ)) (signal : Words)
    (word : List ℕ) → term_word constants names measured signal word ≡ None
    → is_good constants names measured word ≡ true
term_good constants names measured signal word clean =
    by_tests constants (is_constant word) refl refl
  where
    by_member : (constants && is_constant word) ≡ false
        → is_good constants names measured word ≡ true
    by_member e =
        let clean' : member_name names measured signal word ≡ None = rw e at clean in
        member_good constants names measured signal word (is_name word) (is_held names word)
        (is_held measured word) refl refl refl clean'

    by_tests : (c t : Bool) → constants ≡ c → is_constant word ≡ t
        → is_good constants names measured word ≡ true
    by_tests true true e f = rw (f, e) refl
    by_tests true false e f = by_member (rw (e, f) refl)
    by_tests false t e f = by_member (rw e refl)

-- a word behind the angle of a measurement
under_good : (test : Option Mark → Bool) (mark : Option Mark) (p : List ℕ → Bool) (word : List ℕ)
    (o : Option Mark) → mark_of word ≡ o → (o ≡ None → p word ≡ true)
    → list_all p (word_under test mark word) ≡ true
under_good test mark p word (Some m) e good = rw e refl
under_good test mark p word None e good = by_test (test mark) refl
  where
    by_test : (t : Bool) → test mark ≡ t → list_all p (word_under test mark word) ≡ true
    by_test true f = rw (e, f, good refl) refl
    by_test false f = rw (e, f) refl

pub behind_good : (constants : Bool) (test : Option Mark → Bool) (k : Known) (last : Option Head)
    (mark : Option Mark) (word : List ℕ) → test None ≡ false → test (Some Colon) ≡ false
    → judge_by constants k last (role_behind mark) word ≡ None
    → AreGood constants k.names k.measured (word_under test mark word)
behind_good constants test k last None word none colon clean =
    rw (under_none test word none) refl
behind_good constants test k last (Some S) word none colon clean =
    under_good test (Some S) (is_good constants k.names k.measured) word (mark_of word) refl
    (λ e.
    let clean' : term_word constants k.names k.measured k.signal word ≡ None = rw e at clean in
    term_good constants k.names k.measured k.signal word clean')
behind_good constants test k last (Some T) word none colon clean =
    under_good test (Some T) (is_good constants k.names k.measured) word (mark_of word) refl
    (λ e. term_good constants k.names k.measured k.signal word clean)
behind_good constants test k last (Some Colon) word none colon clean = absurd (cc clean)

-- a signal of such terms
pub good_held : (constants : Bool) (names measured : List (List ℕ)) (words : Words)
    → AreGood constants names measured words → list_all (is_held names) (names_among words) ≡ true
good_held constants names measured [] good = refl
good_held constants names measured (w ∷ words) good =
    let both = and_both (is_good constants names measured w)
    (list_all (is_good constants names measured) words) good in
    by_test (is_constant w) refl both.0 (good_held constants names measured words both.1)
  where
    by_test : (t : Bool) → is_constant w ≡ t → is_good constants names measured w ≡ true
        → list_all (is_held names) (names_among words) ≡ true
        → list_all (is_held names) (names_among (w ∷ words)) ≡ true
    by_test true e one rest = rw e rest
    by_test false e one rest =
        let one' = rw e at one in
        let held = (and_both (is_held names w) (is_held measured w) one').0 in
        rw (e, held, rest) refl

members_done : (constants : Bool) (names measured : List (List ℕ)) (marks : Bits) (words : Words)
    (q : ℕ) → AreMarked names measured marks → AreGood constants names measured words
    → is_member (map (number_in names) (names_among words)) q ≡ true → marks q ≡ true
members_done constants names measured marks [] q are good member = absurd (cc member)
members_done constants names measured marks (w ∷ words) q are good member =
    let both = and_both (is_good constants names measured w)
    (list_all (is_good constants names measured) words) good in
    by_test (is_constant w) refl both.0
    (members_done constants names measured marks words q are both.1)
  where
    by_test : (t : Bool) → is_constant w ≡ t → is_good constants names measured w ≡ true
        → (is_member (map (number_in names) (names_among words)) q ≡ true → marks q ≡ true)
        → marks q ≡ true
    by_test true e one rest = rest (rw e at member)
    by_test false e one rest =
        let one' = rw e at one in
        let held = and_both (is_held names w) (is_held measured w) one' in
        let place = place-held names w held.0 in
        let number : number_in names w ≡ place.0 = rw place.1 refl in
        let member' = rw (e, number) at member in
        elim (or_either (nat_eq q place.0)
        (is_member (map (number_in names) (names_among words)) q) member') [
          | inl same ↦
              ap marks (eqb-true q place.0 same)
              ∙ marked-name names measured marks w place.0 are place.1 ∙ held.1
          | inr later ↦ rest later
        ]

and_true_left : (a b : Bool) → (a && b) ≡ true → a ≡ true
and_true_left true b e = refl
and_true_left false b e = absurd (cc e)

-- each member of a signal has a mark
abbrev pub AreDone : Bits → Signal → Type 0
AreDone marks signal = (q : ℕ) → is_member signal.members q ≡ true → marks q ≡ true

pub none_undone : (done : Bits) (signal : Signal) → AreDone done signal
    → list_any (is_undone done) signal.members ≡ false
none_undone done signal all =
    none_by (is_undone done) signal.members (λ x member. rw (all x member) refl)

pub signal_done : (constants : Bool) (names measured : List (List ℕ)) (marks : Bits)
    (words : Words) → AreMarked names measured marks → AreGood constants names measured words
    → AreDone marks (signal_in names words)
signal_done constants names measured marks words are good = λ q member.
    let p = is_member (map (number_in names) (names_among words)) in
    members_done constants names measured marks words q are good
    (and_true_left (p q) (nat_lt q (length names))
    (sym (member_where p (length names) q) ∙ member))

spelled_itself : (names : List (List ℕ)) (words : Words)
    → list_all (is_held names) (names_among words) ≡ true
    → IsSpelled names words (signal_in names words)
spelled_itself names words held = record {
  members = record {
    held = held;
    marked = λ q.
        let p = is_member (map (number_in names) (names_among words)) in
        member_where p (length names) q ∙ by_test q (p q) refl;
  };
  constant = refl;
}
  where
    by_test : (q : ℕ) (t : Bool) → is_member (map (number_in names) (names_among words)) q ≡ t
        → (is_member (map (number_in names) (names_among words)) q && nat_lt q (length names))
        ≡ is_member (map (number_in names) (names_among words)) q
    by_test q true e =
        let lt = numbers_below names (names_among words) q held e in
        rw (e, lt-ltb q (length names) lt) refl
    by_test q false e = rw e refl

-- and it stays the same under more names
pub signal_stays : (names more : List (List ℕ)) (words : Words)
    → list_all (is_held names) (names_among words) ≡ true
    → signal_in (names ++ more) words ≡ signal_in names words
signal_stays names more words held =
    sym (signal_same names more words (signal_in names words)
    (rising_where (is_member (map (number_in names) (names_among words))) (length names))
    (spelled_itself names words held))

pub good_plain : (constants : Bool) (names measured : List (List ℕ)) (words : Words)
    → constants ≡ false → AreGood constants names measured words
    → list_any is_constant words ≡ false
good_plain constants names measured [] none good = refl
good_plain constants names measured (w ∷ words) none good =
    let both = and_both (is_good constants names measured w)
    (list_all (is_good constants names measured) words) good in
    by_test (is_constant w) refl both.0 (good_plain constants names measured words none both.1)
  where
    by_test : (t : Bool) → is_constant w ≡ t → is_good constants names measured w ≡ true
        → list_any is_constant words ≡ false → list_any is_constant (w ∷ words) ≡ false
    by_test true e one rest = let one' = rw (e, none) at one in absurd (cc one')
    by_test false e one rest = rw (e, rest) refl
