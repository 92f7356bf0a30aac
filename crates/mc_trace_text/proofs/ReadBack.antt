-- The canonical text of uses is read without a fault, as these uses.
use Rattle.std.proofs.Common.{◌≡◌, ℕ, ◌+◌, ◌<◌, ◌≤◌, true, false, nat_le, All, List}
use Rattle.std.proofs.Common.{[], ◌∷◌, ◌++◌, length, map, drop, codes, refl, sym, ap, ◌∙◌, arith}
use Rattle.std.proofs.Common.{Option, Some, None, length-append, filter_map}
use Rattle.std.specs.Fmt.{decimal}
use Rattle.std.specs.List.{list_all}
use Rattle.std.proofs.lemmas.Bool.Decides.{nat_tests}
use Rattle.std.proofs.lemmas.List.{append-nil}
use Rattle.std.proofs.lemmas.List.Elements.{All-head, All-tail, filter_map-append}
use Rattle.std.proofs.lemmas.List.Folds.{list_all-append}
use Rattle.std.proofs.lemmas.List.Sums.{fold-append}
use Rattle.mc_model.specs.Derivation.{Rule, Use, XE, ZE, XM, ZM, Swap, Join, EE, Cancel, XZ, Turn}
use Rattle.mc_model.specs.Derivation.{DropEmpty}
use Rattle.mc_angle.proofs.Numerals.{number-decimal}
use Rattle.mc_lex.specs.Lines.{lines_of}
use Rattle.mc_text.specs.declared.head.Head.{Head}
use Rattle.mc_text.specs.declared.head.Head.TheVariants.{U, End}
use Rattle.mc_text.specs.Heads.{head_in}
use Rattle.mc_text.specs.Points.{last_head}
use Rattle.mc_text.specs.Judged.{Words, Lines, Place, section_lines}
use Rattle.mc_text.proofs.Clean.{CleanWords, Clean, last, more, IsRead, written_read}
use Rattle.mc_text.proofs.Naming.{number_written}
use Rattle.mc_text.proofs.Written.{is_written, is_written_line}
use Rattle.mc_trace_text.specs.Words.{rule_of, rule_word}
use Rattle.mc_trace_text.specs.Traces.{follows_in_trace, spelled_use, uses_in, most_uses}
use Rattle.mc_trace_text.specs.Traces.{trace_rules, CanBeWritten}
use Rattle.mc_trace_text.specs.Canonical.{use_line, trace_header, trace_lines, trace_text}

rule_back : (rule : Rule) → rule_of (rule_word rule) ≡ Some rule
rule_back XE = refl
rule_back ZE = refl
rule_back XM = refl
rule_back ZM = refl
rule_back Swap = refl
rule_back Join = refl
rule_back EE = refl
rule_back Cancel = refl
rule_back XZ = refl
rule_back Turn = refl
rule_back DropEmpty = refl

rule_written : (rule : Rule) → is_written (rule_word rule) ≡ true
rule_written XE = refl
rule_written ZE = refl
rule_written XM = refl
rule_written ZM = refl
rule_written Swap = refl
rule_written Join = refl
rule_written EE = refl
rule_written Cancel = refl
rule_written XZ = refl
rule_written Turn = refl
rule_written DropEmpty = refl

-- a use that a line spells
use_back : (u : Use) → u.place ≤ 9999 → spelled_use (use_line u) ≡ Some u
use_back u few = rw (rule_back u.rule, (number-decimal u.place (omega arith)).1) refl

uses_back : (uses : List Use) → All (λ u. u.place ≤ 9999) uses
    → filter_map spelled_use (map use_line uses) ≡ uses
uses_back [] all = refl
uses_back (u ∷ uses) all =
    rw (
      use_back u (All-head (λ (v : Use). v.place ≤ 9999) u uses all),
      uses_back uses (All-tail (λ (v : Use). v.place ≤ 9999) u uses all),
    )
    refl

lines_back : (uses : List Use) → CanBeWritten uses → uses_in (trace_lines uses) ≡ uses
lines_back uses h =
    filter_map-append spelled_use (map use_line uses) ((codes "end" ∷ []) ∷ [])
    ∙ append-nil (filter_map spelled_use (map use_line uses)) ∙ uses_back uses h.places

-- nothing is against a use
not_over : (m count : ℕ) → count < m → nat_le m count ≡ false
not_over m count lt = grind (arith, nat_tests)

use_clean : (before : Lines) (u : Use) → follows_in_trace (last_head before) (Some U) ≡ true
    → length (uses_in before) < most_uses → u.place ≤ 9999
    → CleanWords trace_rules before [] (use_line u)
use_clean before u follows room few =
    let over = not_over most_uses (length (uses_in before)) room in (
      rw (follows, over) refl,
      (
        rw ((number-decimal u.place (omega arith)).0) refl,
        (rw (rule_back u.rule) refl, refl),
      ),
    )

last_one : (before : Lines) (words : Words) → last_head (before ++ words ∷ []) ≡ head_in words
last_one before words =
    fold-append (λ (last : Option Head) (line : Words). head_in line) None before (words ∷ [])

uses_clean : (before : Lines) (uses : List Use)
    → follows_in_trace (last_head before) (Some U) ≡ true
    → follows_in_trace (last_head before) (Some End) ≡ true
    → length (uses_in before) + length uses ≤ most_uses → All (λ u. u.place ≤ 9999) uses
    → Clean trace_rules before (trace_lines uses)
uses_clean before [] next ends few all =
    last before (codes "end" ∷ []) (rw ends refl, refl) refl
uses_clean before (u ∷ uses) next ends few all =
    let small = All-head (λ (v : Use). v.place ≤ 9999) u uses all in
    let head = last_one before (use_line u) in
    let spelled : uses_in (before ++ use_line u ∷ []) ≡ uses_in before ++ u ∷ [] =
    filter_map-append spelled_use before (use_line u ∷ []) ∙ rw (use_back u small) refl in
    let count : length (uses_in (before ++ use_line u ∷ [])) ≡ length (uses_in before) + 1 =
    ap length spelled ∙ length-append (uses_in before) (u ∷ []) in
    more before (use_line u) (trace_lines uses)
    (use_clean before u next (omega (arith, few)) small) refl
    (uses_clean (before ++ use_line u ∷ []) uses (rw head refl) (rw head refl)
    (omega (arith, count, few)) (All-tail (λ (v : Use). v.place ≤ 9999) u uses all))

-- the lines can be written
uses_written : (uses : List Use) → All (λ u. u.place ≤ 9999) uses
    → list_all is_written_line (map use_line uses) ≡ true
uses_written [] all = refl
uses_written (u ∷ uses) all =
    let small : u.place ≤ 9999 = All-head (λ (v : Use). v.place ≤ 9999) u uses all in
    rw (
      number_written (decimal u.place) (number-decimal u.place (omega arith)).0,
      rule_written u.rule,
      uses_written uses (All-tail (λ (v : Use). v.place ≤ 9999) u uses all),
    )
    refl

pub trace_read : (uses : List Use) (end : Place) → CanBeWritten uses
    → IsRead trace_rules [] (trace_lines uses) (drop 1 (lines_of (trace_text uses))) end
trace_read uses end h =
    let few = h.few in
    let written : list_all is_written_line (trace_header ∷ trace_lines uses) ≡ true =
    rw (
      list_all-append is_written_line (map use_line uses) ((codes "end" ∷ []) ∷ []),
      uses_written uses h.places,
    )
    refl in
    written_read trace_rules trace_header (trace_lines uses) end written
    (uses_clean [] uses refl refl (omega arith) h.places)

pub trace_back : (uses : List Use) → CanBeWritten uses
    → uses_in (section_lines (drop 1 (lines_of (trace_text uses)))) ≡ uses
trace_back uses h = ap uses_in (trace_read uses (1, 1) h).same ∙ lines_back uses h

pub same_uses : (uses others : List Use) → CanBeWritten uses → CanBeWritten others
    → trace_text uses ≡ trace_text others → uses ≡ others
same_uses uses others h k e =
    sym (trace_back uses h)
    ∙ ap (λ (text : List ℕ). uses_in (section_lines (drop 1 (lines_of text)))) e
    ∙ trace_back others k
