use Rattle.std.proofs.Common.{arith, ◌≡◌, ◌≢◌, ◌+◌, ◌<◌, length, ◌∙◌, [], sym, ap, List, Bool, ℕ}
use Rattle.std.proofs.Common.{slice_set, slice_index_or, refl}
use Rattle.std.proofs.lemmas.List.{get_or_read}
use Rattle.mc_bits.proofs.TwoRows.{low_first, high_first}
use Rattle.mc_bits.proofs.rows.two_rows.Goals as goal

pub returns-then-i-j : goal.returns-then-i-j
returns-then-i-j c =
    let rows = c.args.rows.now in
    let i = c.args.i in
    let j = c.args.j in
    let cut = c.split_at_mut-low.ensures in
    let seam : j + 0 ≡ j = omega arith in
    let within : i < length c.split_at_mut-low.result.0.now = omega arith in
    let some : 0 < length c.split_at_mut-low.result.1.now = omega arith in (
      (
        (refl, refl),
        λ x y.
            low_first _ _ i j x y cut.front_len c.if-i-j.true
            ∙ ap (λ (rows : List (List Bool)). slice_set (slice_set rows i x) j y) (sym cut.value),
      ),
      record {
        writes_back = tt;
        first =
            get_or_read _ i _ within c.index-low-i.is [] ∙ cut.by_index.0 i [] c.if-i-j.true;
        second =
            get_or_read _ 0 _ some c.index-high-0.is []
            ∙ cut.by_index.1 0 []
            ∙ ap (λ (k : ℕ). slice_index_or rows k []) seam;
      },
    )

pub returns-else-i-j : goal.returns-else-i-j
returns-else-i-j c =
    let rows = c.args.rows.now in
    let i = c.args.i in
    let j = c.args.j in
    let cut = c.split_at_mut-low-else-i-j.ensures in
    let apart : i ≢ j = c.requires.apart in
    let below : j < i = omega arith in
    let seam : i + 0 ≡ i = omega arith in
    let within : j < length c.split_at_mut-low-else-i-j.result.0.now = omega arith in
    let some : 0 < length c.split_at_mut-low-else-i-j.result.1.now = omega arith in (
      (
        (refl, refl),
        λ x y.
            high_first _ _ i j x y cut.front_len below
            ∙ ap (λ (rows : List (List Bool)). slice_set (slice_set rows i x) j y) (sym cut.value),
      ),
      record {
        writes_back = tt;
        first =
            get_or_read _ 0 _ some c.index-high-0-else-i-j.is []
            ∙ cut.by_index.1 0 []
            ∙ ap (λ (k : ℕ). slice_index_or rows k []) seam;
        second = get_or_read _ j _ within c.index-low-j.is [] ∙ cut.by_index.0 j [] below;
      },
    )
