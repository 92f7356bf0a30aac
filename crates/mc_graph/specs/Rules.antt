-- The rules that a builder of graphs tests, by their numbers.
use Rattle.std.specs.Prelude.{ℕ, Bool, not, ◌&&◌, ◌||◌, nat_eq, List, Option, None, Some, is_some}
use Rattle.std.specs.Prelude.{if◌then◌else◌}
use Rattle.std.specs.List.{list_any}
use Rattle.mc_model.specs.Bits.{Bits}
use Rattle.mc_model.specs.Numbers.{numbers_from, is_member}
use Rattle.mc_model.specs.Graph.{OpenGraph, size, joins, base_angle, Fixed, fixed_at}
use Rattle.mc_pattern.specs.Rules.{is_stranger, is_twice}

abbrev pub has_angle : OpenGraph → Bits
has_angle g v = is_some (base_angle g v)

-- 1, an end is no vertex; 2, both ends are one vertex; 3, the edge is there
abbrev pub edge_rule : OpenGraph → ℕ → ℕ → Option ℕ
edge_rule g a b =
    if is_stranger (size g) a || is_stranger (size g) b then Some 1
    else (if nat_eq a b then Some 2
    else (if joins g.edges a b then Some 3 else None))

-- 1, the number is no vertex; 4, the vertex has an angle
abbrev pub angle_rule : OpenGraph → ℕ → Option ℕ
angle_rule g v =
    if is_stranger (size g) v then Some 1 else (if has_angle g v then Some 4 else None)

-- 1, the number is no vertex; 7, the vertex has this correction
abbrev pub fix_rule : OpenGraph → (Fixed → Bool) → ℕ → Option ℕ
fix_rule g kind v =
    if is_stranger (size g) v then Some 1 else (if kind (fixed_at g v) then Some 7 else None)

-- whether a vertex has no angle and is not listed
abbrev pub is_missing : OpenGraph → List ℕ → Bits
is_missing g vs v = not (has_angle g v) && not (is_member vs v)

-- whether a vertex has an angle and a fixed correction
abbrev pub is_fixed_inside : OpenGraph → Bits
is_fixed_inside g v = has_angle g v && ((fixed_at g v).x || (fixed_at g v).z)

-- 1, an output is no vertex; 4, an output has an angle; 5, an output is listed twice; 6, a vertex
-- without an angle is not listed; 8, a vertex with an angle has a fixed correction
abbrev pub output_rule : OpenGraph → List ℕ → Option ℕ
output_rule g vs =
    if list_any (is_stranger (size g)) vs then Some 1
    else (if list_any (has_angle g) vs then Some 4
    else (if list_any (is_twice vs) vs then Some 5
    else (if list_any (is_missing g vs) (numbers_from 0 (size g)) then Some 6
    else (if list_any (is_fixed_inside g) (numbers_from 0 (size g)) then Some 8 else None))))
