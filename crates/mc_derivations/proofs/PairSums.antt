-- Sums over the pairs of commands of a list, and how they change where a part of it is rewritten.
use Rattle.std.proofs.Common.{◌≡◌, ℕ, ◌+◌, ◌≤◌, Bool, true, false, cond, List, [], ◌∷◌, ◌++◌}
use Rattle.std.proofs.Common.{length, arith}
use Rattle.mc_model.specs.Pattern.{Command}
use Rattle.mc_model.specs.Derivation.{one_if}
use Rattle.mc_derivations.specs.Effort.{sum_from, pair_sum}

-- the sum over a command with each before it, and over two lists
unfoldable pub sum_to : (Command → Command → ℕ) → List Command → Command → ℕ
sum_to f [] d = 0
sum_to f (c ∷ cs) d = f c d + sum_to f cs d

unfoldable pub between : (Command → Command → ℕ) → List Command → List Command → ℕ
between f [] ds = 0
between f (c ∷ cs) ds = sum_from f c ds + between f cs ds

from-append : (f : Command → Command → ℕ) (c : Command) (xs ys : List Command) →
    sum_from f c (xs ++ ys) ≡ sum_from f c xs + sum_from f c ys
unfolding sum_from
from-append f c [] ys = omega arith
from-append f c (x ∷ xs) ys = let h = from-append f c xs ys in omega arith

between-append : (f : Command → Command → ℕ) (xs ys zs : List Command) →
    between f xs (ys ++ zs) ≡ between f xs ys + between f xs zs
unfolding between
between-append f [] ys zs = omega arith
between-append f (x ∷ xs) ys zs =
    let a = from-append f x ys zs in
    let b = between-append f xs ys zs in omega arith

pub pairs-append : (f : Command → Command → ℕ) (xs ys : List Command) →
    pair_sum f (xs ++ ys) ≡ pair_sum f xs + between f xs ys + pair_sum f ys
unfolding pair_sum between
pairs-append f [] ys = omega arith
pairs-append f (x ∷ xs) ys =
    let a = from-append f x xs ys in
    let b = pairs-append f xs ys in omega arith

between_none : (f : Command → Command → ℕ) (xs : List Command) → between f xs [] ≡ 0
unfolding between sum_from
between_none f [] = omega arith
between_none f (x ∷ xs) = let h = between_none f xs in omega arith

pub between_next : (f : Command → Command → ℕ) (xs : List Command) (y : Command)
    (ys : List Command) → between f xs (y ∷ ys) ≡ sum_to f xs y + between f xs ys
unfolding between sum_from sum_to
between_next f [] y ys = omega arith
between_next f (x ∷ xs) y ys = let h = between_next f xs y ys in omega arith

pub between_one : (f : Command → Command → ℕ) (xs : List Command) (y : Command) →
    between f xs (y ∷ []) ≡ sum_to f xs y
between_one f xs y =
    let a = between_next f xs y [] in
    let b = between_none f xs in omega arith

-- beside each other command the new commands sum up to no more than the old ones did, or to one
-- more where they grow
pub record Lightens (f : Command → Command → ℕ) (grows : Bool) (old new : List Command) : Type 0
  where
    pub behind : (e : Command) → sum_from f e new ≤ sum_from f e old + one_if grows
    pub before : (e : Command) → sum_to f new e ≤ sum_to f old e + one_if grows

lighter_behind : (f : Command → Command → ℕ) (grows : Bool) (old new : List Command) →
    Lightens f grows old new → (xs : List Command) →
    between f xs new ≤ between f xs old + cond grows (length xs) 0
unfolding between
lighter_behind f grows old new h [] = omega arith
lighter_behind f true old new h (x ∷ xs) =
    let a = h.behind x in
    let b = lighter_behind f true old new h xs in omega arith
lighter_behind f false old new h (x ∷ xs) =
    let a = h.behind x in
    let b = lighter_behind f false old new h xs in omega arith

lighter_before : (f : Command → Command → ℕ) (grows : Bool) (old new : List Command) →
    Lightens f grows old new → (ys : List Command) →
    between f new ys ≤ between f old ys + cond grows (length ys) 0
lighter_before f grows old new h [] =
    let a = between_none f new in
    let b = between_none f old in omega arith
lighter_before f true old new h (y ∷ ys) =
    let a = h.before y in
    let b = lighter_before f true old new h ys in
    let c = between_next f new y ys in
    let d = between_next f old y ys in omega arith
lighter_before f false old new h (y ∷ ys) =
    let a = h.before y in
    let b = lighter_before f false old new h ys in
    let c = between_next f new y ys in
    let d = between_next f old y ys in omega arith

pairs_inside : (f : Command → Command → ℕ) (before mid behind : List Command) →
    pair_sum f (before ++ (mid ++ behind))
    ≡ pair_sum f before + between f before mid + between f before behind
    + pair_sum f mid + between f mid behind + pair_sum f behind
pairs_inside f before mid behind =
    let a = pairs-append f before (mid ++ behind) in
    let b = between-append f before mid behind in
    let c = pairs-append f mid behind in omega arith

-- the sum over a list in which commands are rewritten
pub lightened : (f : Command → Command → ℕ) (grows : Bool) (old new before behind : List Command) →
    Lightens f grows old new →
    pair_sum f (before ++ (new ++ behind)) + pair_sum f old
    ≤ pair_sum f (before ++ (old ++ behind)) + pair_sum f new
    + cond grows (length before + length behind) 0
lightened f true old new before behind h =
    let a = pairs_inside f before old behind in
    let b = pairs_inside f before new behind in
    let c = lighter_behind f true old new h before in
    let d = lighter_before f true old new h behind in omega arith
lightened f false old new before behind h =
    let a = pairs_inside f before old behind in
    let b = pairs_inside f before new behind in
    let c = lighter_behind f false old new h before in
    let d = lighter_before f false old new h behind in omega arith
