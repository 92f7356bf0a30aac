-- The rank as one number that falls with each use, where a use adds at most one command.
use Rattle.std.specs.Prelude.{ℕ, zero, suc, ◌+◌, ◌*◌}
use Rattle.mc_model.specs.Derivation.{Rank}

-- more than all uses that may follow in a list of `n` commands in order
unfoldable pub in_order_room : ℕ → ℕ
in_order_room zero = 1
in_order_room (suc n) = in_order_room n + (n * n + 1) * (n + 1) + 1

unfoldable pub room_for : ℕ → ℕ → ℕ
room_for zero room = in_order_room (suc room)
room_for (suc late) room = 2 * room + 3 + room_for late (2 * room + 2)

unfoldable pub uses_from : ℕ → ℕ → ℕ → ℕ → ℕ → ℕ
uses_from zero ahead size wrong turned = in_order_room size + wrong * (size + 1) + turned
uses_from (suc late) ahead size wrong turned = ahead + room_for (suc late) (size + ahead)

unfoldable pub uses_left : Rank → ℕ
uses_left r = uses_from r.late r.ahead r.size r.wrong r.turned
