-- Columns that are written one by one.
use Rattle.std.specs.Prelude.{◌≡◌, ◌≢◌, ℕ, ◌+◌, ◌<◌, Bool, List, [], length, slice_set}
use Rattle.std.proofs.Common.{arith, sym, ap, ◌∙◌, inl, inr}
use Rattle.std.proofs.lemmas.Bool.{cases_eq}
use Rattle.std.proofs.lemmas.List.{length-set, get_or-set_other}
use Rattle.std.proofs.lemmas.Grind.{get_or-set_at}
use Rattle.mc_model.specs.Graph.{OpenGraph, size}
use Rattle.mc_bits.specs.Rows.{bit_of}
use Rattle.mc_elim.specs.Tables.{row_at}
use Rattle.mc_least.specs.Columns.{column_of, AreColumns}

pub column_written : (g : OpenGraph) (layer : ℕ → ℕ) (k w : ℕ) (columns : List (List Bool))
    (column : List Bool) → AreColumns g layer k w columns → w < size g →
    length column ≡ size g → ((v : ℕ) → v < size g → bit_of column v ≡ column_of g layer k w v) →
    AreColumns g layer k (w + 1) (slice_set columns w column)
column_written g layer k w columns column h l wide bits = record {
  count = length-set columns w column ∙ h.count;
  width = λ i below. elim (cases_eq i w) [
    | inl e ↦ ap (λ (row : List Bool). length row) (here i e) ∙ wide
    | inr ne ↦ ap (λ (row : List Bool). length row) (there i ne) ∙ h.width i below
  ];
  column = λ j v before vn. elim (cases_eq j w) [
    | inl e ↦
        ap (λ (row : List Bool). bit_of row v) (here j e) ∙ bits v vn
        ∙ ap (λ (i : ℕ). column_of g layer k i v) (sym e)
    | inr ne ↦
        ap (λ (row : List Bool). bit_of row v) (there j ne)
        ∙ h.column j v (omega arith) vn
  ];
}
  where
    here : (i : ℕ) → i ≡ w → row_at (slice_set columns w column) i ≡ column
    here i e =
        let within : w < length columns = let c = h.count in omega arith in
        get_or-set_at columns w i column [] e within

    there : (i : ℕ) → i ≢ w → row_at (slice_set columns w column) i ≡ row_at columns i
    there i ne = grind (arith, get_or-set_other)
