-- The rows of a section without a fault are those of the measured qubits, in order.
use Rattle.std.proofs.Common.{◌≡◌, ℕ, suc, ◌+◌, ◌≤◌, Bool, true, false, not, ◌&&◌, List, []}
use Rattle.std.proofs.Common.{◌∷◌, ◌++◌, length, take, refl, sym, ap, ◌∙◌, arith, ne_eqb, nat_lt}
use Rattle.std.proofs.Common.{Option, Some, None, slice_get, subst, inl, inr}
use Rattle.std.proofs.Common.{◌⊎◌, append_assoc, length-append}
use Rattle.std.proofs.lemmas.Bool.{eqb-true}
use Rattle.std.proofs.lemmas.Bool.Decides.{nat_tests}
use Rattle.std.proofs.lemmas.List.{map-append, append-nil, take_all}
use Rattle.std.proofs.lemmas.List.Elements.{filter_map-append}
use Rattle.mc_lex.specs.Lines.{Item, word, bad, Line}
use Rattle.mc_model.specs.Names.{Name}
use Rattle.mc_model.specs.Pattern.{Pattern, measured_order}
use Rattle.mc_model.specs.Shift.{ChangeRow, IsChangeOf, qubits_of}
use Rattle.mc_text.specs.declared.head.Head.{Head}
use Rattle.mc_text.specs.declared.head.Head.TheVariants.{O, End}
use Rattle.mc_text.specs.declared.fault.Fault.TheVariants.{NotFixed, LineEnds, OtherRow}
use Rattle.mc_text.specs.Heads.{head_of, head_in, is_end}
use Rattle.mc_text.specs.Points.{last_head}
use Rattle.mc_text.specs.Judged.{Judgement, Place, Words, Lines, Rules, or_later, placed, words_of}
use Rattle.mc_text.specs.Judged.{first_in_line, first_in_section, section_lines, is_last}
use Rattle.mc_text.specs.Rules.{broken, or_next, known_name, number_in}
use Rattle.mc_rows.specs.declared.row.Row.{Row}
use Rattle.mc_rows.specs.declared.row.Shape.{Shape}
use Rattle.mc_rows.specs.declared.row.Shape.TheVariants.{Listed}
use Rattle.mc_rows.specs.Rows.{is_name, role_in, words_from, name_by, row_in, rows_in}
use Rattle.mc_rows.specs.Rows.{spelled_row, members_in}
use Rattle.mc_rows.specs.Judge.{judge_by, lacks_by, row_rules}
use Rattle.mc_change_text.specs.Kinds.{follows_in_change, change_shape, change_kind, is_this}
use Rattle.mc_change_text.specs.Kinds.{names_of}
use Rattle.mc_change_text.specs.Kept.{IsChangeSoFar}
use Rattle.mc_change_text.proofs.Lists.{holds_by, taken_more}
use Rattle.mc_change_text.proofs.Keeping.{qubits_are}

-- what is judged of words that are taken
later_both : (a b : Option (Judgement × Place)) → or_later a b ≡ None → (a ≡ None) × (b ≡ None)
later_both None b e = (refl, e)
later_both (Some first) b e = absurd (cc e)

placed_none : (place : Place) (judged : Option Judgement) → placed place judged ≡ None
    → judged ≡ None
placed_none place None e = refl
placed_none place (Some judged) e = absurd (cc e)

next_both : (a b : Option Judgement) → or_next a b ≡ None → (a ≡ None) × (b ≡ None)
next_both None b e = (refl, e)
next_both (Some judged) b e = absurd (cc e)

-- a record word that may stand there
heads : (last head : Option Head) → follows_in_change last head ≡ true
    → (head ≡ Some O) ⊎ (head ≡ Some End)
heads None (Some O) e = inl refl
heads None (Some End) e = inr refl
heads (Some O) (Some O) e = inl refl
heads (Some O) (Some End) e = inr refl
heads None None e = absurd (cc e)
heads None (Some _) e = absurd (cc e)
heads (Some O) None e = absurd (cc e)
heads (Some O) (Some _) e = absurd (cc e)
heads (Some _) head e = absurd (cc e)

this_one : (due : Option ℕ) (q : ℕ) → is_this due q ≡ true → due ≡ Some q
this_one None q e = absurd (cc e)
this_one (Some due) q e = ap Some (eqb-true due q e)

-- the name of a row is its first word
no_name : (n : ℕ) (ws : Words) → 2 ≤ n → words_from is_name Listed n ws ≡ []
no_name n [] le = refl
no_name n (w ∷ ws) le =
    rw (ne_eqb n 1 (λ e. omega (arith, le, e))) (no_name (n + 1) ws (omega arith))

name_is : (names : List Name) (h a : List ℕ) (ws : Words) → head_of h ≡ Some O
    → (row_in change_shape names (h ∷ a ∷ ws)).name ≡ number_in names a
name_is names h a ws e =
    ap (λ (s : Shape). name_by names (words_from is_name s 1 (a ∷ ws))) (ap change_shape e)
    ∙ ap (λ (more : Words). name_by names (a ∷ more)) (no_name 2 ws (omega arith))

-- what a line is behind others: the last one, or the row that is due
data LineIs (names : List Name) (order : List ℕ) (before : Lines) (ws : Words) : Type 0 where
  ends : head_in ws ≡ Some End → length order ≤ length (rows_in change_shape names before)
      → LineIs names order before ws
  goes : head_in ws ≡ Some O
      → slice_get order (length (rows_in change_shape names before))
      ≡ Some (row_in change_shape names ws).name
      → LineIs names order before ws

module _ (names : List Name) (second : Bool) (order : List ℕ) where
  abbrev rules : Rules
  rules = row_rules (change_kind second order) names

  abbrev count_of : Lines → ℕ
  count_of before = length (rows_in change_shape names before)

  row_line_is : (before : Lines) (h : List ℕ) (items : List Item) (lack : Place)
      → head_of h ≡ Some O → first_in_line rules before (h ∷ []) items lack ≡ None
      → LineIs names order before (h ∷ words_of items)
  row_line_is before h [] lack e clean =
      let lacks = placed_none lack _ clean in
      let due = subst (λ (head : Option Head). lacks_by (role_in (change_shape head) 1) ≡ None) e
      lacks in
      absurd (cc due)
  row_line_is before h (bad line column ∷ items) lack e clean = absurd (cc clean)
  row_line_is before h (word a line column ∷ items) lack e clean =
      let judged = placed_none (line, column) _ (later_both (placed (line, column) _) _ clean).0 in
      let named = subst (λ (head : Option Head). judge_by (change_kind second order) names
      (rows_in change_shape names before) (row_in change_shape names (h ∷ []))
      (members_in change_shape (h ∷ [])) (last_head before) (role_in (change_shape head) 1) a
      ≡ None) e judged in
      let due = this_one _ (number_in names a)
      (holds_by _ OtherRow (next_both (known_name names a) _ named).1) in
      goes e (due ∙ ap Some (sym (name_is names h a (words_of items) e)))

  line_is : (before : Lines) (items : List Item) (lack : Place)
      → first_in_line rules before [] items lack ≡ None
      → LineIs names order before (words_of items)
  line_is before [] lack clean =
      absurd (cc (placed_none lack (broken ((true, LineEnds) ∷ [])) clean))
  line_is before (bad line column ∷ items) lack clean = absurd (cc clean)
  line_is before (word h line column ∷ items) lack clean =
      let parts = later_both (placed (line, column) _) _ clean in
      let follows = follows_in_change (last_head before) (head_of h) in
      let judged = next_both (broken ((not follows, NotFixed) ∷ [])) _
      (placed_none (line, column) _ parts.0) in
      elim (heads (last_head before) (head_of h) (holds_by _ NotFixed judged.0)) [
        | inl e ↦ row_line_is before h items lack e parts.1
        | inr e ↦ ends e (enough (is_end (head_of h)) (count_of before) (length order)
            (ap is_end e) judged.1)
      ]
    where
      enough : (t : Bool) (a b : ℕ) → t ≡ true → broken ((t && nat_lt a b, OtherRow) ∷ []) ≡ None
          → b ≤ a
      enough t a b e none = by_test (nat_lt a b) refl (rw e at none)
        where
          by_test : (u : Bool) → nat_lt a b ≡ u → broken ((true && u, OtherRow) ∷ []) ≡ None → b ≤ a
          by_test true f none = absurd (cc none)
          by_test false f none = grind (arith, nat_tests)

  -- the rows with one line more
  rows_end : (before : Lines) (ws : Words) → head_in ws ≡ Some End
      → rows_in change_shape names (before ++ ws ∷ []) ≡ rows_in change_shape names before
  rows_end before ws e =
      let last : is_end (head_in ws) ≡ true = ap is_end e in
      filter_map-append (spelled_row change_shape names) before (ws ∷ [])
      ∙ rw last (append-nil (rows_in change_shape names before))

  rows_one : (before : Lines) (ws : Words) → head_in ws ≡ Some O
      → rows_in change_shape names (before ++ ws ∷ [])
      ≡ rows_in change_shape names before ++ row_in change_shape names ws ∷ []
  rows_one before ws e =
      let more : is_end (head_in ws) ≡ false = ap is_end e in
      filter_map-append (spelled_row change_shape names) before (ws ∷ []) ∙ rw more refl

  one_more : (before : Lines) (ws : Words)
      → names_of (rows_in change_shape names before) ≡ take (count_of before) order
      → slice_get order (count_of before) ≡ Some (row_in change_shape names ws).name
      → head_in ws ≡ Some O
      → names_of (rows_in change_shape names (before ++ ws ∷ []))
      ≡ take (count_of (before ++ ws ∷ [])) order
  one_more before ws so_far due e =
      let rows = rows_in change_shape names before in
      let row = row_in change_shape names ws in
      let count : length (rows ++ row ∷ []) ≡ suc (length rows) =
      length-append rows (row ∷ []) ∙ omega arith in
      rw (rows_one before ws e, count, map-append (λ (r : Row). r.name) rows (row ∷ []), so_far)
      (sym (taken_more order (length rows) row.name due))

  -- the rows so far, and those of the lines that are left
  rows_all : (before : Lines) (lines : List Line) (end : Place)
      → names_of (rows_in change_shape names before) ≡ take (count_of before) order
      → first_in_section rules before lines end ≡ None
      → names_of (rows_in change_shape names (before ++ section_lines lines)) ≡ order
  rows_all before [] end so_far clean = absurd (cc clean)
  rows_all before (line ∷ lines) end so_far clean =
      let ws = words_of line.items in
      let parts = later_both (first_in_line rules before [] line.items line.lack) _ clean in
      elim (line_is before line.items line.lack parts.0) [
        | ends e enough ↦
            let last : is_last line ≡ true = ap is_end e in
            rw (last, rows_end before ws e) (so_far ∙ take_all (count_of before) order enough)
        | goes e due ↦
            let last : is_last line ≡ false = ap is_end e in
            let rest : first_in_section rules (before ++ ws ∷ []) lines end ≡ None =
            rw last at parts.1 in
            rw (last, ← append_assoc before (ws ∷ []) (section_lines lines))
            (rows_all (before ++ ws ∷ []) lines end (one_more before ws so_far due e) rest)
      ]

  pub change_fits : (p : Pattern) (change : List ChangeRow) (done : List ℕ) (lines : List Line)
      (end : Place) → first_in_section (row_rules (change_kind second order) names) [] lines end
      ≡ None
      → IsChangeSoFar change done (rows_in change_shape names (section_lines lines))
      → order ≡ measured_order p.commands → IsChangeOf p change
  change_fits p change done lines end clean h e =
      let qubits : qubits_of change ≡ measured_order p.commands =
      ap qubits_of h.change_is ∙ qubits_are (rows_in change_shape names (section_lines lines))
      ∙ rows_all [] lines end refl clean ∙ e in
      record { qubits = qubits; earlier = rw qubits at h.earlier }
