-- Standing further on in a text.
use Rattle.std.proofs.Common.{◌≡◌, ℕ, zero, suc, ◌+◌, refl, ap, ◌∙◌, arith}
use Rattle.mc_lex.specs.Left.{Left, on_first, passed, tokens_on, lines_on, IsFurther}

pub further-same : (left : Left) → IsFurther left left
further-same left = record { lines = 0; tokens = 0; stands = refl }

pub further-token : (left old new : Left) → new ≡ passed old → IsFurther left old
    → IsFurther left new
further-token left old new e further =
    record {
      lines = further.lines;
      tokens = suc further.tokens;
      stands = e ∙ ap passed further.stands;
    }

later_kept : (k : ℕ) (left : Left) → (tokens_on k left).later ≡ left.later
later_kept zero left = refl
later_kept (suc k) left = later_kept k left

end_kept : (k : ℕ) (left : Left) → (tokens_on k left).last ≡ left.last
end_kept zero left = refl
end_kept (suc k) left = end_kept k left

next_kept : (k : ℕ) (left : Left)
    → on_first (tokens_on k left).later (tokens_on k left).last ≡ on_first left.later left.last
next_kept k left = rw (later_kept k left, end_kept k left) refl

pub further-line : (left old new : Left) → new ≡ on_first old.later old.last → IsFurther left old
    → IsFurther left new
further-line left old new e further =
    record {
      lines = suc further.lines;
      tokens = 0;
      stands = e ∙ ap (λ (l : Left). on_first l.later l.last) further.stands
          ∙ next_kept further.tokens (lines_on further.lines left);
    }

tokens_more : (j k : ℕ) (left : Left) → tokens_on j (tokens_on k left) ≡ tokens_on (j + k) left
tokens_more zero k left = let e : 0 + k ≡ k = omega arith in rw e refl
tokens_more (suc j) k left =
    let e : suc j + k ≡ suc (j + k) = omega arith in
    rw e (ap passed (tokens_more j k left))

lines_behind : (n k : ℕ) (left : Left)
    → lines_on (suc n) (tokens_on k left) ≡ lines_on (suc n) left
lines_behind zero k left = next_kept k left
lines_behind (suc n) k left =
    ap (λ (l : Left). on_first l.later l.last) (lines_behind n k left)

lines_more : (m n : ℕ) (left : Left) → lines_on m (lines_on n left) ≡ lines_on (m + n) left
lines_more zero n left = let e : 0 + n ≡ n = omega arith in rw e refl
lines_more (suc m) n left =
    let e : suc m + n ≡ suc (m + n) = omega arith in
    rw e (ap (λ (l : Left). on_first l.later l.last) (lines_more m n left))

further_by : (m j n k : ℕ) (left : Left)
    → IsFurther left (tokens_on j (lines_on m (tokens_on k (lines_on n left))))
further_by zero j n k left =
    record { lines = n; tokens = j + k; stands = tokens_more j k (lines_on n left) }
further_by (suc m) j n k left =
    record {
      lines = suc m + n;
      tokens = j;
      stands =
          ap (tokens_on j) (lines_behind m k (lines_on n left) ∙ lines_more (suc m) n left);
    }

pub further-further : (left mid right : Left) → IsFurther left mid → IsFurther mid right
    → IsFurther left right
further-further left mid right f g =
    let by = further_by g.lines g.tokens f.lines f.tokens left in
    let e : right
    ≡ tokens_on g.tokens (lines_on g.lines (tokens_on f.tokens (lines_on f.lines left))) =
    g.stands ∙ ap (λ (l : Left). tokens_on g.tokens (lines_on g.lines l)) f.stands in
    record { lines = by.lines; tokens = by.tokens; stands = e ∙ by.stands }

-- on in the line behind the next line feed
pub further-read : (left old mid new : Left) → IsFurther left old
    → mid ≡ on_first old.later old.last → IsFurther mid new → IsFurther left new
further-read left old mid new f e g =
    further-further left mid new (further-line left old mid e f) g
