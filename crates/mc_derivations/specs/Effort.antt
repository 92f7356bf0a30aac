-- What may still come of a list by uses of rules: how long it may get, and how many uses there may
-- be until it is in standard form. Both are sums over its pairs of commands.
use Rattle.std.specs.Prelude.{ℕ, ◌+◌, Bool, true, false, cond, ◌||◌, nat_eq, nat_lt, List, []}
use Rattle.std.specs.Prelude.{◌∷◌, length}
use Rattle.mc_model.specs.Pattern.{Command, Ent, FixX}
use Rattle.mc_model.specs.Derivation.{part, one_if, is_wrong, turned_edges}

-- the first is an `X` on an operand of the second, an entangling
abbrev pub meets : Command → Command → Bool
meets (FixX i s) (Ent q r) = nat_eq i q || nat_eq i r
meets c d = false

-- what a pair of commands, in this order, may cost: `most` where a new correction comes of it, and,
-- where all uses count, 1 where the two are to change places
abbrev pub cost : Bool → ℕ → Command → Command → ℕ
cost all most c d =
    cond all (one_if (is_wrong c d) + one_if (nat_lt (part d) (part c))) 0
    + cond (meets c d) most 0

-- the sum over a command with each behind it, and over all pairs
unfoldable pub sum_from : (Command → Command → ℕ) → Command → List Command → ℕ
sum_from f c [] = 0
sum_from f c (d ∷ ds) = f c d + sum_from f c ds

unfoldable pub pair_sum : (Command → Command → ℕ) → List Command → ℕ
pair_sum f [] = 0
pair_sum f (c ∷ cs) = sum_from f c cs + pair_sum f cs

-- no use of a rule raises it, so the list never gets longer
unfoldable pub room : List Command → ℕ
room cs = length cs + pair_sum (cost false 1) cs

-- each useful use in a list of at most `most` commands lowers it
unfoldable pub effort : ℕ → List Command → ℕ
effort most cs = length cs + turned_edges cs + pair_sum (cost true most) cs
