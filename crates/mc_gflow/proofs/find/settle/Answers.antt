use Rattle.std.specs.Prelude.{◌≢◌, ◌+◌, ◌<◌, ℕ, List, Bool, false, length, slice_index}
use Rattle.std.proofs.Common.{arith, ◌∙◌, ap}
use Rattle.std.proofs.lemmas.List.{length-replicate}
use Rattle.mc_model.specs.Graph.{size}
use Rattle.mc_gflow.proofs.TakenOrNot.{stuck_unsolved}
use Rattle.mc_gflow.proofs.RoundsOfSearch.{searching_begins, steps_bound, flow_found, refuter_found}
use Rattle.mc_gflow.proofs.find.settle.Goals as goal

pub search-requires : goal.search-requires
search-requires g c =
    let n = size c.args.graph.now in
    let len = c.len.ensures in
    let low : n + 1 < 65535 = let few = len.valid.open_graph.names.few in omega arith in
    let lengths = c.requires.lengths in (
      omega arith,
      searching_begins c.args.graph.now 65535 c.set_outputs.new.layers c.args.sets.now
          c.args.order.now c.new-columns.result c.args.basis.now c.args.steps.now low (
            c.set_outputs.auto.layers ∙ lengths.0,
            lengths.1,
            ap (λ (row : List Bool). length row) c.new-columns.ensures
                ∙ length-replicate c.len.result false ∙ len.len,
          )
          c.requires.square c.set_outputs.ensures c.requires.sizes.0 c.requires.sizes.1
          c.requires.empty.0 c.requires.empty.1,
    )

pub refute_all-requires : goal.refute_all-requires
refute_all-requires g c =
    let whole = c.search.auto.layers in
    let first = c.set_outputs.auto.layers in
    let lengths = c.requires.lengths in (
      omega arith,
      (
        omega arith,
        (
          c.search.ensures.square,
          (
            c.search.ensures.stuck.candidates.rows,
            λ v vn e.
                stuck_unsolved c.args.graph.now _ 65535 c.search.result _ _ c.search.new.basis
                c.search.ensures.stuck v vn e,
          ),
        ),
      ),
    )

pub returns-then-has_untaken-clause-no : goal.returns-then-has_untaken-clause-no
returns-then-has_untaken-clause-no g c = λ _.
    let n = size c.args.graph.now in
    let whole = c.search.auto.layers in
    let first = c.set_outputs.auto.layers in
    let lengths = c.requires.lengths in
    let some = c.has_untaken.ensures.yes c.if-has_untaken.true in
    refuter_found c.args.graph.now 65535 c.search.result c.search.new.layers c.search.new.sets
    c.refute_all.new.sets c.search.new.order c.search.new.basis c.args.steps.now c.search.new.steps
    c.search.ensures (some.0, omega (arith, some.1), some.2) c.refute_all.ensures.refuted

pub returns-then-has_untaken-clause-most : goal.returns-then-has_untaken-clause-most
returns-then-has_untaken-clause-most g c =
    steps_bound c.args.graph.now 65535 c.search.result c.search.new.layers c.search.new.sets
    c.search.new.order c.search.new.basis c.args.steps.now c.search.new.steps c.search.ensures

pub returns-clause-yes : goal.returns-clause-yes
returns-clause-yes g c = λ _.
    let whole = c.search.auto.layers in
    let first = c.set_outputs.auto.layers in
    let lengths = c.requires.lengths in
    let all : (v : ℕ) → v < size c.args.graph.now → slice_index c.search.new.layers v ≢ 65535 =
    λ v vn. c.has_untaken.ensures.no c.if-has_untaken.false v (omega arith) in
    (flow_found c.args.graph.now 65535 c.search.result c.search.new.layers c.search.new.sets
    c.search.new.order c.search.new.basis c.args.steps.now c.search.new.steps c.search.ensures
    all).0

pub returns-clause-most : goal.returns-clause-most
returns-clause-most g c =
    steps_bound c.args.graph.now 65535 c.search.result c.search.new.layers c.search.new.sets
    c.search.new.order c.search.new.basis c.args.steps.now c.search.new.steps c.search.ensures

pub returns-clause-some : goal.returns-clause-some
returns-clause-some g c = λ e _.
    let whole = c.search.auto.layers in
    let first = c.set_outputs.auto.layers in
    let lengths = c.requires.lengths in
    let all : (v : ℕ) → v < size c.args.graph.now → slice_index c.search.new.layers v ≢ 65535 =
    λ v vn. c.has_untaken.ensures.no c.if-has_untaken.false v (omega arith) in
    (flow_found c.args.graph.now 65535 c.search.result c.search.new.layers c.search.new.sets
    c.search.new.order c.search.new.basis c.args.steps.now c.search.new.steps c.search.ensures
    all).1
    e
