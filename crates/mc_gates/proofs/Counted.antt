-- Sums over operations.
use Rattle.std.proofs.Common.{◌≡◌, ℕ, ◌+◌, ◌<◌, List, [], ◌∷◌, ◌++◌, ap, ◌∙◌, arith, length, map}
use Rattle.std.proofs.Common.{take, get_or}
use Rattle.std.proofs.lemmas.List.{take_more, map-append}
use Rattle.mc_gates.specs.declared.op.Op.{Op}
use Rattle.mc_gates.specs.Gates as plain
use Rattle.mc_gates.specs.Lowering.{lowered_count, gate_cost}
use Rattle.mc_gates.specs.Ops.{plain_op}

pub count_append : (gs hs : List plain.Op)
    → lowered_count (gs ++ hs) ≡ lowered_count gs + lowered_count hs
count_append [] hs = omega arith
count_append (g ∷ gs) hs =
    let rest = count_append gs hs in
    omega arith

pub plain_more : (ops : List Op) (i : ℕ) (d : Op) → i < length ops
    → map plain_op (take (i + 1) ops) ≡ map plain_op (take i ops) ++ plain_op (get_or ops i d) ∷ []
plain_more ops i d lt =
    ap (map plain_op) (take_more ops i d lt)
    ∙ map-append plain_op (take i ops) (get_or ops i d ∷ [])

pub count_more : (ops : List Op) (i : ℕ) (d : Op) → i < length ops
    → lowered_count (map plain_op (take i ops)) + gate_cost (plain_op (get_or ops i d))
    ≡ lowered_count (map plain_op (take (i + 1) ops))
count_more ops i d lt =
    let one = plain_op (get_or ops i d) in
    let more = ap lowered_count (plain_more ops i d lt) in
    let both = count_append (map plain_op (take i ops)) (one ∷ []) in
    omega arith
