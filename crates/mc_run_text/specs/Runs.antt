-- The texts of runs, by what circuits and patterns mean.
use Rattle.std.specs.Prelude.{ℕ, ◌*◌, ◌^◌, Bool, ℤ, List, [], ◌∷◌, ◌++◌, map, length, find, codes}
use Rattle.std.specs.Prelude.{Option}
use Rattle.std.specs.Cmp.Lexicographic.{pointwise}
use Rattle.std.specs.List.{flat_map, list_any}
use Rattle.std.specs.Option.{is_none}
use Rattle.std.specs.Ordering.{int_eq}
use Rattle.mc_write.specs.Text.{Line, text_of}
use Rattle.mc_model.specs.Bits.{Bits, bits_of}
use Rattle.mc_model.specs.Numbers.{numbers_from}
use Rattle.mc_model.specs.Ring.{Element, ring, rotations}
use Rattle.mc_model.specs.Pattern.{Pattern, Circuit, measured_order}
use Rattle.mc_model.specs.Amplitude.{placed, branch_map, circuit_table, pattern_scale}
use Rattle.mc_model.specs.Amplitude.{circuit_scale}
use Rattle.mc_pattern.specs.Patterns.{measured_count}
use Rattle.mc_run.specs.Settings.{spelled}
use Rattle.mc_run.specs.Reports.{outcomes_of}
use Rattle.mc_run_text.specs.Canonical.{bits_word, reduced_words, phase_word, alike_line}

-- the amplitude at output bits and input bits, each spelled by a number
abbrev pub entry_of : {half : ℕ} → ℕ → ℕ → (List Bool → Bits → Element half) → ℕ → ℕ → List ℤ
entry_of outputs inputs amplitude y b =
    (amplitude (spelled outputs y) (bits_of (spelled inputs b))).coefficients

-- its line
abbrev pub map_line : (half : ℕ) → ℕ → ℕ → ℕ → (List Bool → Bits → Element half) → ℕ → ℕ → Line
map_line half outputs inputs halves amplitude y b =
    codes "amp" ∷ bits_word (spelled outputs y) ∷ bits_word (spelled inputs b)
    ∷ reduced_words half (entry_of outputs inputs amplitude y b) halves

-- by rising input bits, and for each of these by rising output bits
abbrev pub map_lines : (half : ℕ) → ℕ → ℕ → ℕ → (List Bool → Bits → Element half) → List Line
map_lines half outputs inputs halves amplitude =
    flat_map (λ b. map (λ y. map_line half outputs inputs halves amplitude y b)
    (numbers_from 0 (2 ^ outputs))) (numbers_from 0 (2 ^ inputs))

-- the amplitudes in the same order
abbrev pub entries_of : {half : ℕ} → ℕ → ℕ → (List Bool → Bits → Element half) → List (List ℤ)
entries_of outputs inputs amplitude =
    flat_map (λ b. map (λ y. entry_of outputs inputs amplitude y b)
    (numbers_from 0 (2 ^ outputs))) (numbers_from 0 (2 ^ inputs))

-- the text of a circuit's table
abbrev pub circuit_run : ℕ → Circuit → List ℕ
circuit_run half c =
    text_of ((codes "table" ∷ codes "1" ∷ [])
    ∷ (map_lines half (length c.outputs) c.inputs (circuit_scale c) (circuit_table (ring half) c)
    ++ (codes "end" ∷ []) ∷ []))

-- the lines of the map of a branch
abbrev pub branch_map_lines : ℕ → Pattern → Bits → List Line
branch_map_lines half p o =
    map_lines half (length p.outputs) p.inputs (pattern_scale p) (branch_map (ring half) p o)

-- the text of the table of a branch, by the outcomes in measuring order
abbrev pub branch_run : ℕ → Pattern → List Bool → List ℕ
branch_run half p outcomes =
    text_of ((codes "table" ∷ codes "1" ∷ [])
    ∷ (codes "branch" ∷ bits_word outcomes ∷ [])
    ∷ (branch_map_lines half p (placed (measured_order p.commands) outcomes)
    ++ (codes "end" ∷ []) ∷ []))

-- whether, entry by entry, `a` is `w ^ k` times `b`
abbrev pub is_phase : List (List ℤ) → List (List ℤ) → ℕ → Bool
is_phase a b k = pointwise (pointwise int_eq) a (map (rotations k) b)

-- the least power of `w` by which the second entries are the first, if there is one
abbrev pub least_phase : ℕ → List (List ℤ) → List (List ℤ) → Option ℕ
least_phase half a b = find (is_phase a b) (numbers_from 0 (2 * half))

-- the amplitudes of a branch by its number
abbrev pub branch_entries : ℕ → Pattern → ℕ → List (List ℤ)
branch_entries half p i =
    entries_of (length p.outputs) p.inputs (branch_map (ring half) p (outcomes_of p i))

-- the phase by which a branch is the first one
abbrev pub branch_phase : ℕ → Pattern → ℕ → Option ℕ
branch_phase half p i = least_phase half (branch_entries half p i) (branch_entries half p 0)

-- a branch: its outcomes, its phase and its amplitudes
abbrev pub one_run : ℕ → Pattern → ℕ → List Line
one_run half p i =
    (codes "branch" ∷ bits_word (spelled (measured_count p) i)
    ∷ codes "phase" ∷ phase_word (branch_phase half p i) ∷ [])
    ∷ branch_map_lines half p (outcomes_of p i)

-- whether a branch is no phase times the first one
abbrev pub is_unlike : ℕ → Pattern → Bool
is_unlike half p =
    list_any (λ i. is_none (branch_phase half p i)) (numbers_from 0 (2 ^ measured_count p))

-- all branches, by rising outcomes, and whether they are alike
abbrev pub all_runs : ℕ → Pattern → List ℕ
all_runs half p =
    text_of ((codes "branches" ∷ codes "1" ∷ [])
    ∷ (flat_map (one_run half p) (numbers_from 0 (2 ^ measured_count p))
    ++ alike_line (is_unlike half p) ∷ (codes "end" ∷ []) ∷ []))
