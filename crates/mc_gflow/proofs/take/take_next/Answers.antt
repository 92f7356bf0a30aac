use Rattle.std.specs.Prelude.{◌<◌, ℕ, length, slice_index, slice_set}
use Rattle.std.proofs.Common.{arith, ◌∙◌, ap}
use Rattle.mc_model.specs.Bits.{Bits}
use Rattle.mc_bits.specs.Rows.{bit_of}
use Rattle.mc_elim.specs.Tables.{entry}
use Rattle.mc_gflow.specs.Layers.{vertices_of}
use Rattle.mc_gflow.proofs.CandidatesInserted.{no_more_columns}
use Rattle.mc_gflow.proofs.TakenOrNot.{pass_unsolved, pass_found, alone_more, takes_in, row_here}
use Rattle.mc_gflow.proofs.TakenOrNot.{row_other}
use Rattle.mc_gflow.proofs.take.take_next.Goals as goal

pub returns-then-not-single-clause-taken : goal.returns-then-not-single-clause-taken
returns-then-not-single-clause-taken g c =
    pass_unsolved c.args.graph.now (slice_index c.args.layers.now) 65535 c.args.layer c.args.u
    (entry c.args.sets.now) (slice_index c.args.order.now) c.args.basis.now c.requires.taken
    (c.single.ensures.no c.if-not-single.true).0

pub write_vertices-requires-clause-count : goal.write_vertices-requires-clause-count
write_vertices-requires-clause-count g c =
    let few = no_more_columns c.args.graph.now (slice_index c.args.layers.now) c.args.layer 0
    (slice_index c.args.order.now) c.args.basis.now c.requires.taken.candidates in
    let inserted = c.inserted.ensures in
    let lengths = c.requires.lengths in
    let columns = c.single.ensures.length in
    (omega arith, omega arith)

pub returns-clause-taken : goal.returns-clause-taken
returns-clause-taken g c =
    let layers = c.args.layers.now in
    let u = c.args.u in
    let sets = c.args.sets.now in
    let order = slice_index c.args.order.now in
    let basis = c.args.basis.now in
    let row = c.write_vertices.new.out in
    let lengths = c.requires.lengths in
    let within : u < length layers = let v = c.requires.vertex in omega arith in
    let inside : u < length sets =
    let v = c.requires.vertex in let e = c.requires.square.count in omega arith in
    pass_found c.args.graph.now (slice_index layers) 65535 c.args.layer u (entry sets) order basis
    c.requires.taken c.requires.vertex (slice_index (slice_set layers u c.args.layer))
    (takes_in layers 65535 c.args.layer u within c.if-layers-u.false) (bit_of c.single.new.out)
    (c.single.ensures.yes c.if-not-single.false) (entry (slice_set sets u row))
    (λ w.
    ap (λ (f : Bits). f w) (row_here sets u row inside)
    ∙ c.write_vertices.ensures.bits w
    ∙ ap (λ (m : ℕ). vertices_of m order (bit_of c.single.new.out) w) c.inserted.ensures)
    (λ w ne. row_other sets u w row ne)

pub returns-clause-alone : goal.returns-clause-alone
returns-clause-alone g c = λ unadded old.
    let layers = c.args.layers.now in
    let u = c.args.u in
    let sets = c.args.sets.now in
    let order = slice_index c.args.order.now in
    let basis = c.args.basis.now in
    let row = c.write_vertices.new.out in
    let lengths = c.requires.lengths in
    let within : u < length layers = let v = c.requires.vertex in omega arith in
    let inside : u < length sets =
    let v = c.requires.vertex in let e = c.requires.square.count in omega arith in
    alone_more c.args.graph.now (slice_index layers) 65535 c.args.layer u (entry sets) order basis
    c.requires.taken c.requires.vertex (slice_index (slice_set layers u c.args.layer))
    (takes_in layers 65535 c.args.layer u within c.if-layers-u.false) (bit_of c.single.new.out)
    (c.single.ensures.yes c.if-not-single.false) (entry (slice_set sets u row))
    (λ w.
    ap (λ (f : Bits). f w) (row_here sets u row inside)
    ∙ c.write_vertices.ensures.bits w
    ∙ ap (λ (m : ℕ). vertices_of m order (bit_of c.single.new.out) w) c.inserted.ensures)
    (λ w ne. row_other sets u w row ne)
    (c.single.ensures.alone c.if-not-single.false unadded) old
