use Rattle.std.specs.Prelude.{◌<◌, length, slice_index, slice_set}
use Rattle.std.proofs.Common.{arith, ◌∙◌, ap, sym, get_or-set_same, get_or-set_other}
use Rattle.mc_gflow.proofs.CandidatesInserted.{room_for, fill}
use Rattle.mc_gflow.proofs.insert.insert_next.Goals as goal

pub bounds-order-inserted : goal.bounds-order-inserted
bounds-order-inserted g c =
    let lengths = c.requires.lengths in
    let inserted = c.inserted.ensures in
    let free = room_for c.args.graph.now (slice_index c.args.layers.now) c.args.layer c.args.w
    (slice_index c.args.order.now) c.args.basis.now c.requires.candidates c.requires.vertex
    c.if-layers-w.true in
    omega arith

pub insert-requires-clause-room : goal.insert-requires-clause-room
insert-requires-clause-room g c =
    let room = c.requires.candidates.room in
    let free = room_for c.args.graph.now (slice_index c.args.layers.now) c.args.layer c.args.w
    (slice_index c.args.order.now) c.args.basis.now c.requires.candidates c.requires.vertex
    c.if-layers-w.true in
    omega arith

pub returns-then-not-is_input-clause-candidates : goal.returns-then-not-is_input-clause-candidates
returns-then-not-is_input-clause-candidates g c =
    let graph = c.args.graph.now in
    let layer = slice_index c.args.layers.now in
    let w = c.args.w in
    let order = c.args.order.now in
    let before = c.args.basis.now in
    let lengths = c.requires.lengths in
    let due = c.if-layers-w.true in
    let free = room_for graph layer c.args.layer w (slice_index order) before c.requires.candidates
    c.requires.vertex due in
    let inserted = c.inserted.ensures in
    let within : c.inserted.result < length order = omega arith in
    fill graph layer c.args.layer w (slice_index order) before c.requires.candidates
    c.requires.vertex (sym c.is_input.ensures ∙ c.if-not-is_input.true) due
    (slice_index (slice_set order c.inserted.result w))
    (λ j jm. get_or-set_other order c.inserted.result j w 0 (λ e. absurd (omega arith)))
    (ap (slice_index (slice_set order c.inserted.result w)) (sym inserted)
    ∙ get_or-set_same order c.inserted.result w 0 within)
    c.column.result c.insert.new.self c.insert.ensures.columns c.insert.ensures.sizes.0
    c.insert.ensures.sizes.1 c.column.ensures.bits
