-- The texts of tables.
use Rattle.std.specs.Prelude.{ℕ, ◌^◌, Bool, cond, ℤ, List, [], ◌∷◌, ◌++◌, map, codes}
use Rattle.std.specs.Prelude.{slice_index_or, Option, None, Some}
use Rattle.std.specs.List.{flat_map, list_any}
use Rattle.std.specs.Option.{is_none}
use Rattle.std.specs.Fmt.{decimal}
use Rattle.mc_write.specs.Text.{Line, text_of}
use Rattle.mc_model.specs.Numbers.{numbers_from}
use Rattle.mc_cyclo.specs.Text.{amplitude_words}
use Rattle.mc_run.specs.Settings.{spelled}
use Rattle.mc_run.specs.Tables.{TableValue, entry_at}
use Rattle.mc_run.specs.Reports.{ReportValue}
use Rattle.mc_run_text.specs.Reduced.{reduced}

-- the digits 0 and 1
abbrev pub digits : List Bool → List ℕ
digits bits = map (λ bit. cond bit 49 48) bits

-- bits as a word; a dash where there are none
abbrev pub bits_word : List Bool → List ℕ
bits_word [] = codes "-"
bits_word (bit ∷ bits) = digits (bit ∷ bits)

-- the words of an element over a power of the root of two, reduced
abbrev pub reduced_words : ℕ → List ℤ → ℕ → Line
reduced_words half a halves =
    amplitude_words (reduced half a halves).num (reduced half a halves).halves

-- the amplitude at the output bits `y` and the input bits `b`
abbrev pub amplitude_line : ℕ → TableValue → ℕ → ℕ → Line
amplitude_line half t y b =
    codes "amp" ∷ bits_word (spelled t.outputs y) ∷ bits_word (spelled t.inputs b)
    ∷ reduced_words half (entry_at t y b) t.halves

-- by rising input bits, and for each of these by rising output bits
abbrev pub amplitude_lines : ℕ → TableValue → List Line
amplitude_lines half t =
    flat_map (λ b. map (λ y. amplitude_line half t y b) (numbers_from 0 (2 ^ t.outputs)))
    (numbers_from 0 (2 ^ t.inputs))

abbrev pub table_text : ℕ → TableValue → List ℕ
table_text half t =
    text_of ((codes "table" ∷ codes "1" ∷ [])
    ∷ (amplitude_lines half t ++ (codes "end" ∷ []) ∷ []))

-- the table of a branch, by the outcomes in measuring order
abbrev pub branch_text : ℕ → List Bool → TableValue → List ℕ
branch_text half outcomes t =
    text_of ((codes "table" ∷ codes "1" ∷ [])
    ∷ (codes "branch" ∷ bits_word outcomes ∷ [])
    ∷ (amplitude_lines half t ++ (codes "end" ∷ []) ∷ []))

abbrev pub phase_word : Option ℕ → List ℕ
phase_word None = codes "none"
phase_word (Some k) = decimal k

-- the table of a branch by its number, and its phase
abbrev pub table_at : ReportValue → ℕ → TableValue
table_at r i =
    slice_index_or r.tables i (record { outputs = 0; inputs = 0; halves = 0; entries = [] })

abbrev pub phase_at : ReportValue → ℕ → Option ℕ
phase_at r i = slice_index_or r.phases i None

-- a branch of so many measured qubits, by its number: its outcomes, its phase and its amplitudes
abbrev pub branch_lines : ℕ → ℕ → ReportValue → ℕ → List Line
branch_lines half measured r i =
    (codes "branch" ∷ bits_word (spelled measured i) ∷ codes "phase" ∷ phase_word (phase_at r i) ∷ [])
    ∷ amplitude_lines half (table_at r i)

-- whether a branch has no phase
abbrev pub is_any_apart : ℕ → ReportValue → Bool
is_any_apart count r = list_any (λ i. is_none (phase_at r i)) (numbers_from 0 count)

-- whether all branches are alike
abbrev pub alike_line : Bool → Line
alike_line is_apart = codes "alike" ∷ cond is_apart (codes "no") (codes "yes") ∷ []

-- all branches, by rising outcomes
abbrev pub report_text : ℕ → ℕ → ReportValue → List ℕ
report_text half measured r =
    text_of ((codes "branches" ∷ codes "1" ∷ [])
    ∷ (flat_map (branch_lines half measured r) (numbers_from 0 (2 ^ measured))
    ++ alike_line (is_any_apart (2 ^ measured) r) ∷ (codes "end" ∷ []) ∷ []))
