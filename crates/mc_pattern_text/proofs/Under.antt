-- The words of a line behind its marks, with one more word.
use Rattle.std.proofs.Common.{◌≡◌, ℕ, ◌<◌, List, [], ◌∷◌, ◌++◌, Bool, true, false, Option, Some}
use Rattle.std.proofs.Common.{None, drop, fold, refl, sym, ap, ◌∙◌, append_assoc, arith, ◌==◌}
use Rattle.std.proofs.Common.{ne_eqb, if◌then◌else◌, is_some, ◌⊎◌, inl, inr}
use Rattle.std.specs.Option.{option_or}
use Rattle.std.proofs.lemmas.List.{append-nil}
use Rattle.mc_text.specs.declared.head.Head.{Head}
use Rattle.mc_text.specs.declared.head.Head.TheVariants.{M}
use Rattle.mc_text.specs.declared.point.Mark.{Mark}
use Rattle.mc_text.specs.declared.point.Point.{Point}
use Rattle.mc_text.specs.Heads.{head_of}
use Rattle.mc_text.specs.Points.{first_point, mark_of, next_point, point_of, last_head}
use Rattle.mc_text.specs.Judged.{Words, Lines}
use Rattle.mc_text.specs.Lists.{names_in, operand_at}
use Rattle.mc_text.proofs.Going.{head_at, not_first}
use Rattle.mc_text.proofs.Kept.{count_at}
use Rattle.mc_pattern_text.specs.Roles.{is_measuring, is_correcting, has_operand}
use Rattle.mc_pattern_text.specs.Value.{is_first, is_second, word_under, words_under}
use Rattle.mc_pattern_text.specs.Judge.{first_signal, second_signal}
use Rattle.mc_pattern_text.specs.Kept.{added_first, added_second}

-- the last mark
abbrev pub onto_mark : Option Mark → List ℕ → Option Mark
onto_mark mark word = option_or (mark_of word) mark

mark_from : (p : Point) (words : Words) → 0 < p.count
    → (fold next_point p words).mark ≡ fold onto_mark p.mark words
mark_from p [] some = refl
mark_from p (w ∷ words) some =
    let ne = ne_eqb p.count 0 (λ (e : p.count ≡ 0). omega arith) in
    let step : (next_point p w).mark ≡ onto_mark p.mark w = rw ne refl in
    mark_from (next_point p w) words (not_first p w some).1
    ∙ ap (λ m. fold onto_mark m words) step

pub mark_at : (before : Lines) (h : List ℕ) (words : Words)
    → (point_of before (h ∷ words)).mark ≡ fold onto_mark None words
mark_at before h words =
    mark_from (next_point (first_point (last_head before)) h) words (omega arith)

pub words_under-word : (test : Option Mark → Bool) (mark : Option Mark) (words : Words)
    (word : List ℕ)
    → words_under test mark (words ++ word ∷ [])
    ≡ words_under test mark words ++ word_under test (fold onto_mark mark words) word
words_under-word test mark [] word = append-nil (word_under test mark word)
words_under-word test mark (w ∷ words) word =
    rw (words_under-word test (option_or (mark_of w) mark) words word)
    (sym (append_assoc (word_under test mark w)
    (words_under test (option_or (mark_of w) mark) words)
    (word_under test (fold onto_mark (option_or (mark_of w) mark) words) word)))

-- nothing is under no mark
pub under_none : (test : Option Mark → Bool) (word : List ℕ) → test None ≡ false
    → word_under test None word ≡ []
under_none test word e = by_mark (is_some (mark_of word))
  where
    by_mark : (t : Bool) → (if t then [] else (if test None then word ∷ [] else [])) ≡ []
    by_mark true = refl
    by_mark false = rw e refl

-- the words under a mark in a measurement's line
abbrev pub behind_mark : (Option Mark → Bool) → Point → List ℕ → Words
behind_mark test p word =
    if p.count == 1 then [] else (if p.count == 2 then [] else word_under test p.mark word)

under_more : (test : Option Mark → Bool) (before : Lines) (h : List ℕ) (words : Words)
    (word : List ℕ) → test None ≡ false
    → ((a : List ℕ) (ws : Words) → words ≡ a ∷ ws → mark_of a ≡ None)
    → words_under test None (words ++ word ∷ [])
    ≡ words_under test None words ++ behind_mark test (point_of before (h ∷ words)) word
under_more test before h [] word e unmarked = rw (under_none test word e) refl
under_more test before h (a ∷ []) word e unmarked =
    let none = unmarked a [] refl in
    let under : word_under test (mark_of a) word ≡ [] = rw none (under_none test word e) in
    words_under-word test None (a ∷ []) word
    ∙ ap (λ ws. words_under test None (a ∷ []) ++ ws) (rw none (under_none test word e))
under_more test before h (a ∷ b ∷ words) word e unmarked =
    let p = point_of before (h ∷ a ∷ b ∷ words) in
    let count = count_at before (h ∷ a ∷ b ∷ words) in
    let one = ne_eqb p.count 1 (λ z. omega arith) in
    let two = ne_eqb p.count 2 (λ z. omega arith) in
    words_under-word test None (a ∷ b ∷ words) word
    ∙ rw (one, two, mark_at before h (a ∷ b ∷ words)) refl

-- record words by their tests
pub measuring_head : (h : Option Head) → is_measuring h ≡ true → h ≡ Some M
measuring_head None e = absurd (cc e)
measuring_head (Some M) e = refl
measuring_head (Some _) e = absurd (cc e)

measures_only : (h : Option Head) → is_measuring h ≡ true
    → (is_correcting h ≡ false) × (has_operand h ≡ true)
measures_only h e = let m = measuring_head h e in rw m (refl, refl)

-- what a line adds to its first signal, where it measures, where it corrects, and elsewhere
first_by : (p : Point) (word : List ℕ) → ¬ (p.count ≡ 0) → is_measuring p.head ≡ true
    → added_first p word ≡ behind_mark is_first p word
first_by p word some e = rw (ne_eqb p.count 0 some, (measures_only p.head e).0, e) refl

none_by : (t : Bool) (ws : Words) → ws ≡ [] → (if t then [] else ws) ≡ []
none_by true ws e = refl
none_by false ws e = e

first_none : (p : Point) (word : List ℕ) → is_measuring p.head ≡ false
    → is_correcting p.head ≡ false → added_first p word ≡ []
first_none p word e f =
    rw (e, f) (none_by (p.count == 0) _ (none_by (p.count == 1) _ (none_by (p.count == 2) _ refl)))

second_by : (p : Point) (word : List ℕ) → ¬ (p.count ≡ 0) → is_measuring p.head ≡ true
    → added_second p word ≡ behind_mark is_second p word
second_by p word some e = rw (ne_eqb p.count 0 some, e) refl

second_none : (p : Point) (word : List ℕ) → is_measuring p.head ≡ false → added_second p word ≡ []
second_none p word e =
    rw e (none_by (p.count == 0) _ (none_by (p.count == 1) _ (none_by (p.count == 2) _ refl)))

-- a line of corrections
corrects : (before : Lines) (h : List ℕ) (words : Words) (word : List ℕ) (p : Point)
    → p ≡ point_of before (h ∷ words) → is_correcting (head_of h) ≡ true
    → drop 1 (words ++ word ∷ []) ≡ drop 1 words ++ added_first p word
corrects before h [] word p e c = rw e refl
corrects before h (a ∷ words) word p e c =
    let count = count_at before (h ∷ a ∷ words) in
    let at : p.count ≡ (point_of before (h ∷ a ∷ words)).count = rw e refl in
    let zero' = ne_eqb p.count 0 (λ z. omega arith) in
    let one = ne_eqb p.count 1 (λ z. omega arith) in
    let head : is_correcting p.head ≡ true = rw (e, head_at before (h ∷ a ∷ words)) c in
    rw (zero', one, head) refl

-- a line that begins
empty_by : (test : Option Head → Bool) (word : List ℕ) (t : Bool) → test (head_of word) ≡ t
    → names_in test (word ∷ []) ≡ []
empty_by test word true e = rw e refl
empty_by test word false e = rw e refl

first_signal-by : (before : Lines) (h : List ℕ) (words : Words) (p : Point) (word : List ℕ)
    (m c : Bool) → is_measuring (head_of h) ≡ m → is_correcting (head_of h) ≡ c
    → p ≡ point_of before (h ∷ words)
    → ((a : List ℕ) → operand_at 0 has_operand (h ∷ words) ≡ Some a → mark_of a ≡ None)
    → first_signal ((h ∷ words) ++ word ∷ []) ≡ first_signal (h ∷ words) ++ added_first p word
first_signal-by before h words p word true c e f at unmarked =
    let only = measures_only (head_of h) e in
    let head : is_measuring p.head ≡ true = rw (at, head_at before (h ∷ words)) e in
    let count = count_at before (h ∷ words) in
    let some : ¬ (p.count ≡ 0) = λ z. (let z' = rw at at z in omega arith) in
    let more = under_more is_first before h words word refl
    (λ a ws is. unmarked a (rw (only.1, is) refl)) in
    let added = first_by p word some head in
    rw (
      e,
      only.0,
      added,
      append-nil (words_under is_first None (words ++ word ∷ [])),
      append-nil (words_under is_first None words),
      at,
    ) more
first_signal-by before h words p word false true e f at unmarked =
    rw (e, f) (corrects before h words word p at f)
first_signal-by before h words p word false false e f at unmarked =
    let head : is_measuring p.head ≡ false = rw (at, head_at before (h ∷ words)) e in
    let other : is_correcting p.head ≡ false = rw (at, head_at before (h ∷ words)) f in
    rw (e, f, first_none p word head other) refl

pub first_signal-word : (before : Lines) (here : Words) (p : Point) (word : List ℕ)
    → p ≡ point_of before here
    → ((a : List ℕ) → operand_at 0 has_operand here ≡ Some a → mark_of a ≡ None)
    → first_signal (here ++ word ∷ []) ≡ first_signal here ++ added_first p word
first_signal-word before [] p word at unmarked =
    rw (
      at,
      empty_by is_measuring word (is_measuring (head_of word)) refl,
      empty_by is_correcting word (is_correcting (head_of word)) refl,
    ) refl
first_signal-word before (h ∷ words) p word at unmarked =
    first_signal-by before h words p word (is_measuring (head_of h)) (is_correcting (head_of h))
    refl refl at unmarked

second_signal-by : (before : Lines) (h : List ℕ) (words : Words) (p : Point) (word : List ℕ)
    (m : Bool) → is_measuring (head_of h) ≡ m → p ≡ point_of before (h ∷ words)
    → ((a : List ℕ) → operand_at 0 has_operand (h ∷ words) ≡ Some a → mark_of a ≡ None)
    → second_signal ((h ∷ words) ++ word ∷ []) ≡ second_signal (h ∷ words) ++ added_second p word
second_signal-by before h words p word true e at unmarked =
    let only = measures_only (head_of h) e in
    let head : is_measuring p.head ≡ true = rw (at, head_at before (h ∷ words)) e in
    let count = count_at before (h ∷ words) in
    let some : ¬ (p.count ≡ 0) = λ z. (let z' = rw at at z in omega arith) in
    let more = under_more is_second before h words word refl
    (λ a ws is. unmarked a (rw (only.1, is) refl)) in
    rw (e, second_by p word some head, at) more
second_signal-by before h words p word false e at unmarked =
    let head : is_measuring p.head ≡ false = rw (at, head_at before (h ∷ words)) e in
    rw (e, second_none p word head) refl

pub second_signal-word : (before : Lines) (here : Words) (p : Point) (word : List ℕ)
    → p ≡ point_of before here
    → ((a : List ℕ) → operand_at 0 has_operand here ≡ Some a → mark_of a ≡ None)
    → second_signal (here ++ word ∷ []) ≡ second_signal here ++ added_second p word
second_signal-word before [] p word at unmarked =
    rw (at, empty_by is_measuring word (is_measuring (head_of word)) refl) refl
second_signal-word before (h ∷ words) p word at unmarked =
    second_signal-by before h words p word (is_measuring (head_of h)) refl at unmarked

-- a word or none
pub record IsOneOrNone (word : List ℕ) (words : Words) : Type 0 where
  pub is : (words ≡ []) ⊎ (words ≡ word ∷ [])

if_one : (word : List ℕ) (t : Bool) (x y : Words) → IsOneOrNone word x → IsOneOrNone word y
    → IsOneOrNone word (if t then x else y)
if_one word true x y a b = a
if_one word false x y a b = b

no_word : (word : List ℕ) → IsOneOrNone word []
no_word word = record { is = inl refl }

one_word : (word : List ℕ) → IsOneOrNone word (word ∷ [])
one_word word = record { is = inr refl }

under_one : (test : Option Mark → Bool) (mark : Option Mark) (word : List ℕ)
    → IsOneOrNone word (word_under test mark word)
under_one test mark word =
    if_one word (is_some (mark_of word)) _ _ (no_word word)
    (if_one word (test mark) _ _ (one_word word) (no_word word))

pub first_one : (p : Point) (word : List ℕ) → IsOneOrNone word (added_first p word)
first_one p word =
    if_one word (p.count == 0) _ _ (no_word word)
    (if_one word (p.count == 1) _ _ (no_word word)
    (if_one word (is_correcting p.head) _ _ (one_word word)
    (if_one word (p.count == 2) _ _ (no_word word)
    (if_one word (is_measuring p.head) _ _ (under_one is_first p.mark word) (no_word word)))))

pub second_one : (p : Point) (word : List ℕ) → IsOneOrNone word (added_second p word)
second_one p word =
    if_one word (p.count == 0) _ _ (no_word word)
    (if_one word (p.count == 1) _ _ (no_word word)
    (if_one word (p.count == 2) _ _ (no_word word)
    (if_one word (is_measuring p.head) _ _ (under_one is_second p.mark word) (no_word word))))
