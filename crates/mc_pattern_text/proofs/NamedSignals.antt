-- Signals by the names of their members.
use Rattle.std.proofs.Common.{◌≡◌, ℕ, ◌<◌, Bool, true, false, List, [], ◌∷◌, ◌++◌}
use Rattle.std.proofs.Common.{map}
use Rattle.std.proofs.Common.{length, refl, sym, ap, ap₂, ◌∙◌, arith, ne_eqb, Some, All}
use Rattle.std.proofs.Common.{suc}
use Rattle.std.specs.List.{list_all, list_any}
use Rattle.std.specs.List.{IsDistinct}
use Rattle.mc_model.specs.Names.{AreNames, name_eq, is_held, place_of}
use Rattle.mc_model.specs.Numbers.{is_member, numbers_where}
use Rattle.mc_model.specs.Signals.{Signal, IsRising, AllAbove}
use Rattle.mc_pattern.proofs.Members.{below_by}
use Rattle.mc_write.specs.Named.{name_at}
use Rattle.mc_text.specs.Rules.{number_in}
use Rattle.mc_text.proofs.Numbers.{listed-number}
use Rattle.mc_text.proofs.Naming.{numbers-name_at, place-name_at, is_name-name_at, name_written}
use Rattle.mc_text.proofs.Written.{is_written}
use Rattle.mc_pattern.specs.Typed.{IsSet}
use Rattle.mc_pattern_text.specs.Value.{signal_in, is_constant, names_among}
use Rattle.mc_pattern_text.specs.Canonical.{constant_words, signal_words}
use Rattle.mc_pattern_text.proofs.Marked.{member-any}
use Rattle.mc_pattern_text.proofs.RisingSets.{where_members}
use Rattle.mc_pattern_text.proofs.Parts.{all_front, among}
use Rattle.mc_pattern_text.proofs.Terms.{name_no_constant}

-- a name is in a list where its number is among the numbers of the list
pub member-listed : (names list : List (List ℕ)) (word : List ℕ) (q : ℕ)
    → place_of names word ≡ Some q → list_all (is_held names) list ≡ true
    → is_member (map (number_in names) list) q ≡ is_held list word
member-listed names list word q place held =
    member-any (map (number_in names) list) q ∙ listed-number names list word q place held

-- the names that are written for the members of a signal
pub names_written : (names : List (List ℕ)) (qs : List ℕ) → AreNames names
    → All (λ q. q < length names) qs → list_all is_written (map (name_at names) qs) ≡ true
names_written names [] valid below = refl
names_written names (q ∷ qs) valid below =
    let lt : q < length names = below 0 q (omega arith) in
    let name = name_written (name_at names q) (is_name-name_at names q valid lt) in
    let rest = names_written names qs valid (λ k d l. below (suc k) d (omega arith)) in
    rw (name, rest) refl

-- a signal is read back from its words
among_names : (names : List (List ℕ)) (qs : List ℕ) (b : Bool) → AreNames names
    → All (λ q. q < length names) qs
    → (names_among (map (name_at names) qs ++ constant_words b) ≡ map (name_at names) qs)
    × (list_any is_constant (map (name_at names) qs ++ constant_words b) ≡ b)
among_names names [] true valid below = (refl, refl)
among_names names [] false valid below = (refl, refl)
among_names names (q ∷ qs) b valid below =
    let lt : q < length names = below 0 q (omega arith) in
    let other = name_no_constant (name_at names q) (is_name-name_at names q valid lt) in
    let rest = among_names names qs b valid (λ k d l. below (suc k) d (omega arith)) in
    (rw (other, rest.0) refl, rw (other, rest.1) refl)

pub words_back : (names : List (List ℕ)) (signal : Signal) → AreNames names → IsSet signal
    → All (λ q. q < length names) signal.members
    → signal_in names (signal_words names signal) ≡ signal
words_back names signal valid set below =
    let qs = signal.members in
    let among = among_names names qs signal.constant valid below in
    let are = numbers-name_at names qs valid.distinct below in
    let same : numbers_where (is_member (map (number_in names) (map (name_at names) qs)))
    (length names)
    ≡ qs =
    rw (← are.numbers_are)
    (where_members qs (length names) set
    (λ k member. below_by (length names) qs k below member)) in
    ap₂ (λ (list : List (List ℕ)) (b : Bool). record {
      members = numbers_where (is_member (map (number_in names) list)) (length names);
      constant = b;
    }) among.0 among.1
    ∙ ap (λ (members : List ℕ). record { members = members; constant = signal.constant }) same

-- a member is not among those that are written before it
rising_apart : (done : List ℕ) (q : ℕ) (qs : List ℕ) → IsRising (done ++ q ∷ qs)
    → is_member done q ≡ false
rising_apart [] q qs rising = refl
rising_apart (d ∷ done) q qs rising =
    let less = above done rising.0 in
    let rest = rising_apart done q qs rising.1 in
    rw (ne_eqb q d (λ e. omega arith), rest) refl
  where
    above : (xs : List ℕ) → AllAbove d (xs ++ q ∷ qs) → d < q
    above [] all = all.0
    above (x ∷ xs) all = above xs all.1

pub member_free : (names : List (List ℕ)) (done : List ℕ) (q : ℕ) (qs : List ℕ)
    → IsDistinct name_eq names → All (λ r. r < length names) (done ++ q ∷ qs)
    → IsRising (done ++ q ∷ qs)
    → is_held (map (name_at names) done) (name_at names q) ≡ false
member_free names done q qs distinct below rising =
    let lt = below_by (length names) (done ++ q ∷ qs) q below (among done q qs) in
    let are = numbers-name_at names done distinct (all_front (length names) done (q ∷ qs) below) in
    let place = place-name_at names q distinct lt in
    sym (member-listed names (map (name_at names) done) (name_at names q) q place are.held)
    ∙ rw (← are.numbers_are) (rising_apart done q qs rising)
