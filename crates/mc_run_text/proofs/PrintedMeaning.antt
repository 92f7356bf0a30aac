-- What is printed of a table is what its circuit or pattern means.
use Rattle.std.proofs.Common.{◌≡◌, ℕ, ◌*◌, ◌^◌, ◌<◌, Bool, List, [], ◌∷◌, ◌++◌, map, length}
use Rattle.std.proofs.Common.{slice_index_or, sym, subst, ap, ap₂, ◌∙◌, ℤ, arith}
use Rattle.std.specs.Prelude.{codes, None}
use Rattle.std.specs.Option.{is_none}
use Rattle.mc_write.specs.Text.{Line, text_of}
use Rattle.mc_model.specs.Bits.{Bits}
use Rattle.mc_model.specs.Numbers.{numbers_from}
use Rattle.mc_model.specs.Ring.{Element, ring}
use Rattle.mc_model.specs.Pattern.{Pattern, Circuit, measured_order}
use Rattle.mc_model.specs.Amplitude.{placed, branch_map, circuit_table, pattern_scale}
use Rattle.mc_model.specs.Amplitude.{circuit_scale}
use Rattle.mc_pattern.specs.Patterns.{measured_count}
use Rattle.mc_cyclo.specs.Phase.{IsLeastPhase}
use Rattle.mc_run.specs.Settings.{spelled}
use Rattle.mc_run.specs.Tables.{TableValue, entry_at, IsTable, IsTableOf}
use Rattle.mc_run.specs.Reports.{ReportValue, IsReportOf, outcomes_of}
use Rattle.mc_run_text.specs.Canonical.{bits_word, reduced_words, amplitude_lines, table_text}
use Rattle.mc_run_text.specs.Canonical.{branch_text, phase_word, table_at, phase_at, branch_lines}
use Rattle.mc_run_text.specs.Canonical.{alike_line, report_text}
use Rattle.mc_run_text.specs.Runs.{entry_of, map_lines, entries_of, circuit_run, branch_map_lines}
use Rattle.mc_run_text.specs.Runs.{branch_run, branch_entries, branch_phase, one_run, all_runs}
use Rattle.mc_run_text.proofs.Grids.{grid_same, listed, squares, flat_on, any_on}
use Rattle.mc_run_text.proofs.Phases.{least_is, one_least}

line_of : ℕ → ℕ → ℕ → List ℤ → ℕ → ℕ → ℕ → Line
line_of half outputs inputs entry halves y b =
    codes "amp" ∷ bits_word (spelled outputs y) ∷ bits_word (spelled inputs b)
    ∷ reduced_words half entry halves

module _ (half outputs inputs halves : ℕ) (amplitude : List Bool → Bits → Element half)
    (t : TableValue) (is : IsTableOf {half = half} outputs inputs halves amplitude t) where
  pub lines_same : amplitude_lines half t ≡ map_lines half outputs inputs halves amplitude
  unfolding line_of
  lines_same =
      grid_same t.outputs t.inputs outputs inputs
      (λ y b. line_of half t.outputs t.inputs (entry_at t y b) t.halves y b)
      (λ y b. line_of half outputs inputs (entry_of outputs inputs amplitude y b) halves y b)
      is.outputs_are is.inputs_are
      (λ y b h k.
      ap₂ (λ o i. line_of half o i (entry_at t y b) t.halves y b) is.outputs_are is.inputs_are
      ∙ ap₂ (λ e n. line_of half outputs inputs e n y b) (is.entries_are y b h k) is.halves_are)

  pub entries_same : length t.entries ≡ 2 ^ t.inputs * 2 ^ t.outputs →
      t.entries ≡ entries_of outputs inputs amplitude
  entries_same long =
      let g : ℕ → List ℤ = λ i. slice_index_or t.entries i [] in
      let z : 0 * 2 ^ t.outputs ≡ 0 = omega arith in
      listed t.entries []
      ∙ ap (λ n. map g (numbers_from 0 n)) long
      ∙ ap (λ q. map g (numbers_from q (2 ^ t.inputs * 2 ^ t.outputs))) (sym z)
      ∙ sym (squares g (2 ^ t.outputs) 0 (2 ^ t.inputs))
      ∙ grid_same t.outputs t.inputs outputs inputs (λ y b. entry_at t y b)
      (λ y b. entry_of outputs inputs amplitude y b) is.outputs_are is.inputs_are is.entries_are

pub circuit_same : (half : ℕ) (c : Circuit) (t : TableValue) →
    IsTableOf {half = half} (length c.outputs) c.inputs (circuit_scale c)
    (circuit_table (ring half) c) t → table_text half t ≡ circuit_run half c
circuit_same half c t is =
    ap (λ lines. text_of ((codes "table" ∷ codes "1" ∷ []) ∷ (lines ++ (codes "end" ∷ []) ∷ [])))
    (lines_same half (length c.outputs) c.inputs (circuit_scale c) (circuit_table (ring half) c) t
    is)

pub branch_same : (half : ℕ) (p : Pattern) (outcomes : List Bool) (o : Bits) (t : TableValue) →
    o ≡ placed (measured_order p.commands) outcomes →
    IsTableOf {half = half} (length p.outputs) p.inputs (pattern_scale p)
    (branch_map (ring half) p o) t → branch_text half outcomes t ≡ branch_run half p outcomes
branch_same half p outcomes o t e is =
    ap (λ lines. text_of ((codes "table" ∷ codes "1" ∷ [])
    ∷ (codes "branch" ∷ bits_word outcomes ∷ []) ∷ (lines ++ (codes "end" ∷ []) ∷ [])))
    (lines_same half (length p.outputs) p.inputs (pattern_scale p) (branch_map (ring half) p o) t is
    ∙ ap (branch_map_lines half p) e)

-- ---- reports

module _ (half : ℕ) (p : Pattern) (r : ReportValue) (is : IsReportOf half p r)
    (all : (i : ℕ) → i < length r.tables → IsTable (table_at r i)) where
  table_is : (i : ℕ) → i < 2 ^ measured_count p →
      IsTableOf {half = half} (length p.outputs) p.inputs (pattern_scale p)
      (branch_map (ring half) p (outcomes_of p i)) (table_at r i)
  table_is i h = is.tables_are i _ h

  entries_at : (i : ℕ) → i < 2 ^ measured_count p →
      (table_at r i).entries ≡ branch_entries half p i
  entries_at i h =
      entries_same half (length p.outputs) p.inputs (pattern_scale p)
      (branch_map (ring half) p (outcomes_of p i)) (table_at r i) (table_is i h)
      (all i (subst (λ n. i < n) (sym is.count) h)).long

  phase_same : (i : ℕ) → i < 2 ^ measured_count p → phase_at r i ≡ branch_phase half p i
  phase_same i h =
      one_least half (branch_entries half p i) (branch_entries half p 0) (phase_at r i)
      (branch_phase half p i)
      (subst (λ a. IsLeastPhase half a (branch_entries half p 0) (phase_at r i)) (entries_at i h)
      (subst (λ b. IsLeastPhase half (table_at r i).entries b (phase_at r i))
      (entries_at 0 (omega arith)) (is.phases_are i _ None h)))
      (least_is half (branch_entries half p i) (branch_entries half p 0))

  one_same : (i : ℕ) → i < 2 ^ measured_count p →
      branch_lines half (measured_count p) r i ≡ one_run half p i
  one_same i h =
      ap₂ (λ phase lines. (codes "branch" ∷ bits_word (spelled (measured_count p) i)
      ∷ codes "phase" ∷ phase_word phase ∷ []) ∷ lines) (phase_same i h)
      (lines_same half (length p.outputs) p.inputs (pattern_scale p)
      (branch_map (ring half) p (outcomes_of p i)) (table_at r i) (table_is i h))

  pub report_same : report_text half (measured_count p) r ≡ all_runs half p
  report_same =
      let n = 2 ^ measured_count p in
      ap₂ (λ lines apart. text_of ((codes "branches" ∷ codes "1" ∷ [])
      ∷ (lines ++ alike_line apart ∷ (codes "end" ∷ []) ∷ [])))
      (flat_on (branch_lines half (measured_count p) r) (one_run half p) 0 n
      (λ i l h. one_same i (omega arith)))
      (any_on (λ i. is_none (phase_at r i)) (λ i. is_none (branch_phase half p i)) 0 n
      (λ i l h. ap is_none (phase_same i (omega arith))))
