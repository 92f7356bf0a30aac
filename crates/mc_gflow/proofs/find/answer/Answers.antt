use Rattle.std.specs.Prelude.{◌+◌, ℕ, slice_index}
use Rattle.std.proofs.Common.{arith, subst, ◌∙◌}
use Rattle.mc_elim.specs.Tables.{entry}
use Rattle.mc_gflow.specs.Rows.{HoldsRows, HoldsRefuters}
use Rattle.mc_gflow.proofs.ChosenRows.{chosen_rows, single_rows, chosen_refuter_rows}
use Rattle.mc_gflow.proofs.find.answer.Goals as goal

pub returns-in-Ok-clause-chosen : goal.returns-in-Ok-clause-chosen
returns-in-Ok-clause-chosen g c =
    let layers = c.settle.new.layers in
    let sets = c.settle.new.sets in
    chosen_rows c.args.graph.now layers (entry sets) c.in-Ok.flow
    (c.settle.auto.layers ∙ c.requires.lengths.0) c.in-Ok.ensures.depth
    (subst (λ (n : ℕ). HoldsRows n (slice_index layers) (entry sets) (c.in-Ok.flow.depth + 1) 0
    c.in-Ok.flow.rows) c.settle.ensures.square.count c.in-Ok.ensures.rows)
    (c.settle.ensures.yes c.if-settle.true)

pub returns-in-Ok-clause-some : goal.returns-in-Ok-clause-some
returns-in-Ok-clause-some g c e =
    let layers = c.settle.new.layers in
    let sets = c.settle.new.sets in
    single_rows c.args.graph.now layers (entry sets) c.in-Ok.flow
    (c.settle.auto.layers ∙ c.requires.lengths.0) c.in-Ok.ensures.depth
    (subst (λ (n : ℕ). HoldsRows n (slice_index layers) (entry sets) (c.in-Ok.flow.depth + 1) 0
    c.in-Ok.flow.rows) c.settle.ensures.square.count c.in-Ok.ensures.rows)
    (c.settle.ensures.yes c.if-settle.true) (c.settle.ensures.some e c.if-settle.true)

pub returns-in-Ok-refuter_of-clause-chosen : goal.returns-in-Ok-refuter_of-clause-chosen
returns-in-Ok-refuter_of-clause-chosen g c =
    let layers = c.settle.new.layers in
    let sets = c.settle.new.sets in
    let without = c.settle.ensures.no c.if-settle.false in (
      chosen_refuter_rows c.args.graph.now 65535 layers (entry sets) c.in-Ok-refuter_of.refuter
          (c.settle.auto.layers ∙ c.requires.lengths.0) (omega arith)
          (subst (λ (n : ℕ). HoldsRefuters n 65535 (slice_index layers) (entry sets) n
          c.in-Ok-refuter_of.refuter) c.settle.ensures.square.count c.in-Ok-refuter_of.ensures)
          without.0,
      without.1,
    )
