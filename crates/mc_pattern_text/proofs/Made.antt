-- The command that a line makes is the one that it spells.
use Rattle.std.proofs.Common.{◌≡◌, ℕ, List, [], ◌∷◌, ◌++◌, Option, Some, None}
use Rattle.std.proofs.Common.{refl}
use Rattle.std.specs.Option.{option_map}
use Rattle.std.proofs.lemmas.List.{append-nil}
use Rattle.mc_text.specs.declared.head.Head.{Head}
use Rattle.mc_text.specs.declared.head.Head.TheVariants.{N, E, M, X, Z}
use Rattle.mc_text.specs.declared.point.Point.{Point}
use Rattle.mc_text.specs.Heads.{head_of}
use Rattle.mc_text.specs.Points.{point_of}
use Rattle.mc_text.specs.Judged.{Words, Lines}
use Rattle.mc_text.proofs.Kept.{number_in-more}
use Rattle.mc_pattern_text.specs.declared.reader.Reader.{Reader}
use Rattle.mc_pattern_text.specs.Roles.{role_of}
use Rattle.mc_pattern_text.specs.Value.{is_first, is_second, words_under, spelled_by, command_by}
use Rattle.mc_pattern_text.specs.Judge.{first_signal, second_signal, lacks_by}
use Rattle.mc_pattern_text.specs.Kept.{IsKept, AreTyped, command_with}
use Rattle.mc_pattern_text.proofs.Sets.{signal_same}
use Rattle.mc_pattern_text.proofs.KeepingWord.{known_of}

-- the signals of a line, by its record word
signals_m : (h : List ℕ) (words : Words) → head_of h ≡ Some M
    → (first_signal (h ∷ words) ≡ words_under is_first None words)
    × (second_signal (h ∷ words) ≡ words_under is_second None words)
signals_m h words g = (rw g (append-nil (words_under is_first None words)), rw g refl)

-- a whole line: the end of it has nothing against it
pub command_same : {half : ℕ} (k : Reader half) (before : Lines) (h : List ℕ) (words : Words)
    (p : Point) (more : List (List ℕ)) → p ≡ point_of before (h ∷ words)
    → IsKept k before (h ∷ words) → AreTyped k.operands
    → lacks_by (known_of k before (h ∷ words)) (role_of p) ≡ None
    → (hd : Option Head) → head_of h ≡ hd
    → command_with hd k.operands
    ≡ option_map (command_by half (k.names ++ more)) (spelled_by hd words)
command_same k before h words p more e kept typed clean None g = refl
command_same k before h [] p more e kept typed clean (Some N) g =
    let clean' = rw (e, g) at clean in absurd (cc clean')
command_same k before h (a ∷ words) p more e kept typed clean (Some N) g =
    let place = kept.operands.place a (rw g refl) in
    rw (number_in-more k.names more a k.operands.first place) refl
command_same k before h [] p more e kept typed clean (Some E) g =
    let clean' = rw (e, g) at clean in absurd (cc clean')
command_same k before h (a ∷ []) p more e kept typed clean (Some E) g =
    let clean' = rw (e, g) at clean in absurd (cc clean')
command_same k before h (a ∷ b ∷ words) p more e kept typed clean (Some E) g =
    let place = kept.operands.place a (rw g refl) in
    let second = kept.operands.second b (rw g refl) in
    rw (
      number_in-more k.names more a k.operands.first place,
      number_in-more k.names more b k.operands.second second,
    ) refl
command_same k before h [] p more e kept typed clean (Some M) g =
    let clean' = rw (e, g) at clean in absurd (cc clean')
command_same k before h (a ∷ []) p more e kept typed clean (Some M) g =
    let clean' = rw (e, g) at clean in absurd (cc clean')
command_same k before h (a ∷ b ∷ words) p more e kept typed clean (Some M) g =
    let place = kept.operands.place a (rw g refl) in
    let angle = kept.operands.angle b (rw g refl) in
    let signals = signals_m h (a ∷ b ∷ words) g in
    let here = h ∷ a ∷ b ∷ words in
    let o = k.operands in
    let s = signal_same k.names more (first_signal here) o.s typed.s kept.operands.s in
    let t = signal_same k.names more (second_signal here) o.t typed.t kept.operands.t in
    rw (
      number_in-more k.names more a k.operands.first place,
      angle,
      s,
      t,
      signals.0,
      signals.1,
    ) refl
command_same k before h [] p more e kept typed clean (Some X) g =
    let clean' = rw (e, g) at clean in absurd (cc clean')
command_same k before h (a ∷ words) p more e kept typed clean (Some X) g =
    let place = kept.operands.place a (rw g refl) in
    let here = h ∷ a ∷ words in
    let s = signal_same k.names more (first_signal here) k.operands.s typed.s kept.operands.s in
    let first : first_signal (h ∷ a ∷ words) ≡ words = rw g refl in
    rw (number_in-more k.names more a k.operands.first place, s, first) refl
command_same k before h [] p more e kept typed clean (Some Z) g =
    let clean' = rw (e, g) at clean in absurd (cc clean')
command_same k before h (a ∷ words) p more e kept typed clean (Some Z) g =
    let place = kept.operands.place a (rw g refl) in
    let here = h ∷ a ∷ words in
    let s = signal_same k.names more (first_signal here) k.operands.s typed.s kept.operands.s in
    let first : first_signal (h ∷ a ∷ words) ≡ words = rw g refl in
    rw (number_in-more k.names more a k.operands.first place, s, first) refl
command_same k before h words p more e kept typed clean (Some _) g = refl
