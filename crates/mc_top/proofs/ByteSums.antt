-- Sums of bytes.
use Rattle.std.proofs.Common.{◌≡◌, ◌∙◌, ℕ, ◌+◌, ◌*◌, ◌%◌, ◌/◌}
use Rattle.std.proofs.Common.{◌<◌, List}
use Rattle.std.proofs.Common.{length, take, slice_index_or, ap, sym, arith, sum}
use Rattle.std.proofs.lemmas.List.Sums.{sum_by_more}

-- one more byte
carried : (q r b : ℕ) → (r + b) % 65536 ≡ (q * 65536 + r + b) % 65536
carried q r b = omega arith

pub sum_more : (bytes : List ℕ) (i total : ℕ) → i < length bytes →
    total ≡ sum (take i bytes) % 65536 →
    (total + slice_index_or bytes i 0) % 65536 ≡ sum (take (i + 1) bytes) % 65536
sum_more bytes i total lt h =
    let s : ℕ = sum (take i bytes) in
    let whole : s / 65536 * 65536 + total ≡ s = omega arith in
    carried (s / 65536) total (slice_index_or bytes i 0)
    ∙ ap (λ n. (n + slice_index_or bytes i 0) % 65536) whole
    ∙ ap (λ n. n % 65536) (sym (sum_by_more (λ x. x) bytes i 0 lt))
