-- The pairs of lines, with one more word and with one more line.
use Rattle.std.proofs.Common.{◌≡◌, ℕ, List, [], ◌∷◌, ◌++◌, Bool, true, false, Option, Some, None}
use Rattle.std.proofs.Common.{refl, sym, ap, ◌∙◌, arith, ◌==◌, ne_eqb}
use Rattle.std.proofs.Common.{if◌then◌else◌}
use Rattle.std.specs.List.{filter_map}
use Rattle.std.specs.Option.{option_to_list}
use Rattle.std.proofs.lemmas.List.{append-nil}
use Rattle.std.proofs.lemmas.List.Elements.{filter_map-append}
use Rattle.mc_text.specs.declared.head.Head.{Head}
use Rattle.mc_text.specs.declared.point.Point.{Point}
use Rattle.mc_text.specs.Heads.{head_of}
use Rattle.mc_text.specs.Points.{point_of}
use Rattle.mc_text.specs.Judged.{Words, Lines}
use Rattle.mc_text.specs.Lists.{added}
use Rattle.mc_text.proofs.Kept.{count_at, names_at-word, names_at-line}
use Rattle.mc_graph_text.specs.Roles.{is_defining, is_input, is_joining, is_measuring, is_output}
use Rattle.mc_graph_text.specs.Roles.{is_fixing_x, is_fixing_z}
use Rattle.mc_graph_text.specs.Value.{Pair, pair_in, pairs_at, Spelled, spelled_at}
use Rattle.mc_graph_text.specs.Judge.{first_in}

-- what one more word adds to the pairs
abbrev pub pair_with : Option (List ℕ) → List ℕ → List Pair
pair_with None word = []
pair_with (Some a) word = (a, word) ∷ []

abbrev pub added_pair : (Option Head → Bool) → Point → Option (List ℕ) → List ℕ → List Pair
added_pair test p first word =
    if p.count == 0 then []
    else (if test p.head then (if p.count == 2 then pair_with first word else []) else [])

none_by : (t : Bool) → let none : List Pair = [] in (if t then none else none) ≡ none
none_by true = refl
none_by false = refl

-- the pair of a line that had one word behind its record word
pair_by : (t : Bool) (pair : Pair)
    → option_to_list (if t then Some pair else None) ≡ (if t then pair ∷ [] else [])
pair_by true pair = refl
pair_by false pair = refl

pub pairs_at-word : (test : Option Head → Bool) (before : Lines) (here : Words) (p : Point)
    (word : List ℕ) → p ≡ point_of before here
    → pairs_at test before (here ++ word ∷ [])
    ≡ pairs_at test before here ++ added_pair test p (first_in here) word
pairs_at-word test before [] p word e = rw e (sym (append-nil (pairs_at test before [])))
pairs_at-word test before (h ∷ []) p word e =
    rw (e, none_by (test (head_of h))) (sym (append-nil (pairs_at test before (h ∷ []))))
pairs_at-word test before (h ∷ a ∷ []) p word e =
    rw (e, pair_by (test (head_of h)) (a, word))
    (ap (λ ps. ps ++ (if test (head_of h) then (a, word) ∷ [] else []))
    (sym (append-nil (filter_map (pair_in test) before))))
pairs_at-word test before (h ∷ a ∷ b ∷ words) p word e =
    let here = h ∷ a ∷ b ∷ words in
    let count = count_at before here in
    let none = ne_eqb (point_of before here).count 0 (λ z. omega arith) in
    let later = ne_eqb (point_of before here).count 2 (λ z. omega arith) in
    rw (e, none, later, none_by (test (point_of before here).head))
    (sym (append-nil (pairs_at test before here)))

one_line : (f : Words → Option Pair) (here : Words) (o : Option Pair) → f here ≡ o
    → filter_map f (here ∷ []) ≡ option_to_list o
one_line f here None e = rw e refl
one_line f here (Some pair) e = rw e refl

pub pairs_at-line : (test : Option Head → Bool) (before : Lines) (here : Words)
    → pairs_at test (before ++ here ∷ []) [] ≡ pairs_at test before here
pairs_at-line test before here =
    append-nil (filter_map (pair_in test) (before ++ here ∷ []))
    ∙ filter_map-append (pair_in test) before (here ∷ [])
    ∙ ap (λ ps. filter_map (pair_in test) before ++ ps)
    (one_line (pair_in test) here (pair_in test here) refl)

-- all that is spelled, with one more word and with one more line
abbrev pub spelled_with : Point → Option (List ℕ) → List ℕ → Spelled → Spelled
spelled_with p first word s = record {
  names = s.names ++ added is_defining p word;
  inputs = s.inputs ++ added is_input p word;
  edges = s.edges ++ added_pair is_joining p first word;
  angles = s.angles ++ added_pair is_measuring p first word;
  outputs = s.outputs ++ added is_output p word;
  xs = s.xs ++ added is_fixing_x p word;
  zs = s.zs ++ added is_fixing_z p word;
}

pub spelled-word : (before : Lines) (here : Words) (p : Point) (word : List ℕ)
    → p ≡ point_of before here
    → spelled_at before (here ++ word ∷ [])
    ≡ spelled_with p (first_in here) word (spelled_at before here)
spelled-word before here p word e =
    rw (
      names_at-word is_defining before here p word e,
      names_at-word is_input before here p word e,
      pairs_at-word is_joining before here p word e,
      pairs_at-word is_measuring before here p word e,
      names_at-word is_output before here p word e,
      names_at-word is_fixing_x before here p word e,
      names_at-word is_fixing_z before here p word e,
    ) refl

pub spelled-line : (before : Lines) (here : Words)
    → spelled_at (before ++ here ∷ []) [] ≡ spelled_at before here
spelled-line before here =
    rw (
      names_at-line is_defining before here,
      names_at-line is_input before here,
      pairs_at-line is_joining before here,
      pairs_at-line is_measuring before here,
      names_at-line is_output before here,
      names_at-line is_fixing_x before here,
      names_at-line is_fixing_z before here,
    ) refl
