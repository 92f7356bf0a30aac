-- The rounds of the finder of causal flows: each takes the vertices that can be corrected next.
use Rattle.std.specs.Prelude.{◌≡◌, ℕ, zero, suc, ◌+◌, ◌<◌, Bool, false, cond, not, ◌&&◌, ◌||◌}
use Rattle.std.specs.Prelude.{nat_eq, filter, List, [], ◌∷◌, find, unwrap_or, is_none, Option, Some}
use Rattle.std.specs.Prelude.{None}
use Rattle.mc_model.specs.Numbers.{numbers_from}
use Rattle.mc_model.specs.Bits.{Bits}
use Rattle.mc_model.specs.Graph.{OpenGraph, size, is_input, is_output}
use Rattle.mc_graph.specs.Neighbours.{neighbours}

-- the element of a list that has just one
abbrev pub sole : List ℕ → Option ℕ
sole [] = None
sole (u ∷ []) = Some u
sole (u ∷ v ∷ vs) = None

-- the only neighbour of `w` in the set
abbrev pub only_neighbour : OpenGraph → Bits → ℕ → Option ℕ
only_neighbour g B w = sole (filter B (neighbours g w))

-- whether there is an element, the number `u`
abbrev pub is_some_of : Option ℕ → ℕ → Bool
is_some_of None u = false
is_some_of (Some v) u = nat_eq v u

-- what `w` takes out of the set, where it is no input and lies outside: its only neighbour in it
abbrev pub taken_vertex : OpenGraph → Bits → ℕ → Option ℕ
taken_vertex g B w = cond (is_input g w || B w) None (only_neighbour g B w)

abbrev pub takes : OpenGraph → Bits → ℕ → Bits
takes g B u w = is_some_of (taken_vertex g B w) u

-- the least-numbered vertex that takes `u` out of the set
abbrev pub corrector : OpenGraph → Bits → ℕ → Option ℕ
corrector g B u = find (takes g B u) (numbers_from 0 (size g))

-- the vertices that are left after `k` rounds: at first all that are no outputs; each round takes
-- all that it can
unfoldable pub rest_after : OpenGraph → ℕ → Bits
rest_after g zero v = not (is_output g v)
rest_after g (suc k) v = rest_after g k v && is_none (corrector g (rest_after g k) v)

-- the number of rounds at whose start the vertex is left
unfoldable pub layer_after : OpenGraph → ℕ → ℕ → ℕ
layer_after g zero v = 0
layer_after g (suc k) v = layer_after g k v + cond (rest_after g k v) 1 0

-- the vertex that took `v`
unfoldable pub next_after : OpenGraph → ℕ → ℕ → ℕ
next_after g zero v = 0
next_after g (suc k) v =
    cond (rest_after g k v) (unwrap_or (corrector g (rest_after g k) v) 0) (next_after g k v)

-- one more round takes nothing
abbrev pub IsSettled : OpenGraph → ℕ → Type 0
IsSettled g k = (v : ℕ) → v < size g → rest_after g (suc k) v ≡ rest_after g k v

-- no vertex is left
abbrev pub IsAllTaken : OpenGraph → ℕ → Type 0
IsAllTaken g k = (v : ℕ) → v < size g → rest_after g k v ≡ false
