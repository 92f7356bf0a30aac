-- Lines that are written one behind another, and numbers from 0 on.
use Rattle.std.proofs.Common.{◌≡◌, ℕ, zero, suc, ◌+◌, ◌-◌, ◌/◌, ◌^◌, ◌<◌, ◌≤◌, Bool, true}
use Rattle.std.proofs.Common.{false}
use Rattle.std.proofs.Common.{cond, ◌||◌, List, [], ◌∷◌, ◌++◌, map, refl, sym, ap, ap₂, ◌∙◌, inl}
use Rattle.std.proofs.Common.{inr, ℤ, append_assoc, arith}
use Rattle.std.specs.List.{flat_map, list_any}
use Rattle.std.proofs.lemmas.List.{append-nil, map-append}
use Rattle.std.proofs.lemmas.Grind.{flat_map-append}
use Rattle.mc_model.specs.Numbers.{numbers_from}
use Rattle.mc_write.specs.Text.{Line, line_text, text_of, words_behind}
use Rattle.std.specs.Fmt.{decimal, signed_decimal}
use Rattle.std.proofs.Math.Pow.{pow_mono}
use Rattle.std.proofs.lemmas.Bool.{cases_eq, cases_lt, true≢false}
use Rattle.mc_cyclo.specs.Text.{amplitude_text, spaced}
use Rattle.mc_run.specs.Settings.{is_odd, spelled}
use Rattle.mc_run_text.specs.Reduced.{reduced}
use Rattle.mc_run_text.specs.Canonical.{digits, reduced_words}

numbers_from-last : (q n : ℕ) → numbers_from q (suc n) ≡ numbers_from q n ++ ((q + n) ∷ [])
numbers_from-last q zero = let e : q ≡ q + 0 = omega arith in ap (λ (k : ℕ). k ∷ []) e
numbers_from-last q (suc n) =
    let e : suc q + n ≡ q + suc n = omega arith in
    ap (λ (ks : List ℕ). q ∷ ks) (numbers_from-last (suc q) n)
    ∙ ap (λ (k : ℕ). (q ∷ numbers_from (suc q) n) ++ (k ∷ [])) e

pub numbers_more : (n : ℕ) → numbers_from 0 (n + 1) ≡ numbers_from 0 n ++ (n ∷ [])
numbers_more n =
    let a : n + 1 ≡ suc n = omega arith in
    let b : 0 + n ≡ n = omega arith in
    ap (numbers_from 0) a ∙ numbers_from-last 0 n ∙ ap (λ k. numbers_from 0 n ++ (k ∷ [])) b

-- one line more
pub line_more : (start text new : List ℕ) (line : ℕ → Line) (n : ℕ) →
    text ≡ start ++ text_of (map line (numbers_from 0 n)) → new ≡ text ++ line_text (line n) →
    new ≡ start ++ text_of (map line (numbers_from 0 (n + 1)))
line_more start text new line n e f =
    let lines : List Line = map line (numbers_from 0 n) in
    let more : text_of (map line (numbers_from 0 (n + 1)))
    ≡ text_of lines ++ line_text (line n) =
    ap (λ ns. text_of (map line ns)) (numbers_more n)
    ∙ ap text_of (map-append line (numbers_from 0 n) (n ∷ []))
    ∙ flat_map-append line_text lines (line n ∷ [])
    ∙ ap (λ t. text_of lines ++ t) (append-nil (line_text (line n))) in
    f ∙ ap (λ t. t ++ line_text (line n)) e
    ∙ append_assoc start (text_of lines) (line_text (line n))
    ∙ ap (λ t. start ++ t) (sym more)

-- some lines more
pub lines_more : (start text new : List ℕ) (lines : ℕ → List Line) (n : ℕ) →
    text ≡ start ++ text_of (flat_map lines (numbers_from 0 n)) → new ≡ text ++ text_of (lines n) →
    new ≡ start ++ text_of (flat_map lines (numbers_from 0 (n + 1)))
lines_more start text new lines n e f =
    let before : List Line = flat_map lines (numbers_from 0 n) in
    let more : text_of (flat_map lines (numbers_from 0 (n + 1)))
    ≡ text_of before ++ text_of (lines n) =
    ap (λ ns. text_of (flat_map lines ns)) (numbers_more n)
    ∙ ap text_of (flat_map-append lines (numbers_from 0 n) (n ∷ []))
    ∙ flat_map-append line_text before (lines n ++ [])
    ∙ ap (λ t. text_of before ++ text_of t) (append-nil (lines n)) in
    f ∙ ap (λ t. t ++ text_of (lines n)) e
    ∙ append_assoc start (text_of before) (text_of (lines n))
    ∙ ap (λ t. start ++ t) (sym more)

-- the words of an amplitude, behind a blank
blank_first : (words : Line) (w : List ℕ) (ws : Line) →
    words_behind (words ++ w ∷ ws) ≡ 32 ∷ spaced (words ++ w ∷ ws)
blank_first [] w ws = refl
blank_first (v ∷ vs) w ws = refl

pub amplitude_behind : (start blank whole : List ℕ) (num a : List ℤ) (halves k half : ℕ) →
    blank ≡ start ++ 32 ∷ [] → whole ≡ blank ++ amplitude_text num halves →
    (num ≡ (reduced half a k).num) × (halves ≡ (reduced half a k).halves) →
    whole ≡ start ++ words_behind (reduced_words half a k)
amplitude_behind start blank whole num a halves k half e f is =
    f ∙ ap₂ (λ b t. b ++ t) e (ap₂ amplitude_text is.0 is.1)
    ∙ append_assoc start (32 ∷ []) (spaced (reduced_words half a k))
    ∙ ap (λ t. start ++ t)
    (sym (blank_first (map signed_decimal (reduced half a k).num) (47 ∷ [])
    (decimal (reduced half a k).halves ∷ [])))

-- one binary digit more
pub digits_step : (text new : List ℕ) (left number : ℕ) (bit : Bool) → 0 < left →
    bit ≡ is_odd (number / 2 ^ (left - 1)) → new ≡ text ++ cond bit 49 48 ∷ [] →
    new ++ digits (spelled (left - 1) number) ≡ text ++ digits (spelled left number)
digits_step text new zero number bit some e f = absurd (omega arith)
digits_step text new (suc n) number bit some e f =
    let k : suc n - 1 ≡ n = omega arith in
    let b : bit ≡ is_odd (number / 2 ^ n) = e ∙ ap (λ m. is_odd (number / 2 ^ m)) k in
    ap₂ (λ t m. t ++ digits (spelled m number)) f k
    ∙ append_assoc text (cond bit 49 48 ∷ []) (digits (spelled n number))
    ∙ ap (λ c. text ++ cond c 49 48 ∷ digits (spelled n number)) b

-- a test of numbers
any_from : (p : ℕ → Bool) (q n i : ℕ) → q ≤ i → i < q + n → p i ≡ true →
    list_any p (numbers_from q n) ≡ true
any_from p q zero i l h t = absurd (omega arith)
any_from p q (suc n) i l h t = elim (cases_eq q i) [
  | inl e ↦ ap (λ b. b || list_any p (numbers_from (suc q) n)) (ap p e ∙ t)
  | inr ne ↦ or_true (p q) _ (any_from p (suc q) n i (omega arith) (omega arith) t)
]
  where
    or_true : (a b : Bool) → b ≡ true → (a || b) ≡ true
    or_true true b e = refl
    or_true false b e = e

pub any_at : (p : ℕ → Bool) (n i : ℕ) → i < n → p i ≡ true →
    list_any p (numbers_from 0 n) ≡ true
any_at p n i h t = any_from p 0 n i (omega arith) (omega arith) t

none_more-list : (p : ℕ → Bool) (xs : List ℕ) (n : ℕ) → list_any p xs ≡ false → p n ≡ false →
    list_any p (xs ++ n ∷ []) ≡ false
none_more-list p [] n e f = ap (λ b. b || false) f
none_more-list p (x ∷ xs) n e f =
    let both = or_false (p x) (list_any p xs) e in
    ap (λ b. b || list_any p (xs ++ n ∷ [])) both.0 ∙ none_more-list p xs n both.1 f
  where
    or_false : (a b : Bool) → (a || b) ≡ false → (a ≡ false) × (b ≡ false)
    or_false true b e = absurd (true≢false e)
    or_false false b e = (refl, e)

pub none_more : (p : ℕ → Bool) (n : ℕ) → list_any p (numbers_from 0 n) ≡ false → p n ≡ false →
    list_any p (numbers_from 0 (n + 1)) ≡ false
none_more p n e f = ap (list_any p) (numbers_more n) ∙ none_more-list p (numbers_from 0 n) n e f

-- numbers that are addressed have fewer than 64 binary digits
pub few_digits : (count n : ℕ) → n ≡ 2 ^ count → n < 2 ^ 64 → count < 64
few_digits count n e h = elim (cases_lt count 64) [
  | inl l ↦ l
  | inr l ↦
      let le : 64 ≤ count = omega arith in
      let p : 2 ^ 64 ≤ 2 ^ count = pow_mono le in
      absurd (omega arith)
]
