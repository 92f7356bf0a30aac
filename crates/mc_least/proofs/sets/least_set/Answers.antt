use Rattle.std.specs.Prelude.{◌≡◌, ◌<◌, ℕ, List, Bool, false, length}
use Rattle.std.proofs.Common.{sym, subst, ap, ◌∙◌}
use Rattle.std.proofs.lemmas.List.{length-replicate}
use Rattle.mc_model.specs.Numbers.{is_member}
use Rattle.mc_model.specs.Graph.{size}
use Rattle.mc_model.specs.Depth.{KeepsAbove}
use Rattle.mc_graph.specs.Flows.{layer_in, sets_in}
use Rattle.mc_bits.specs.Rows.{bit_of}
use Rattle.mc_elim.proofs.UnitsByBasis.{least_by_members}
use Rattle.mc_gflow.proofs.ListedRows.{all_members, bit_within}
use Rattle.mc_least.proofs.KeptSets.{least_of_basis, some_refuter}
use Rattle.mc_least.proofs.sets.least_set.Goals as goal

pub unreachable-requires : goal.unreachable-requires
unreachable-requires g c =
    let f = c.args.f.now in
    some_refuter c.args.g.now (layer_in f.rows) c.args.k c.args.u c.args.basis.now c.requires.basis
    c.requires.due (sets_in f.rows) c.requires.flow.flow.flow c.requires.flow.least
    (c.refuter.ensures.no c.if-not-refuter.true).0

pub returns-clause-least : goal.returns-clause-least
returns-clause-least g c =
    let graph = c.args.g.now in
    let layer = layer_in c.args.f.now.rows in
    least_by_members (size graph) (KeepsAbove graph layer c.args.k c.args.u)
    (bit_of c.refuter.new.out) (is_member c.in_ok-set.set) c.in_ok-set.ensures
    (least_of_basis graph layer c.args.k c.args.u c.args.basis.now c.requires.basis c.requires.due
    (bit_of c.refuter.new.out) (c.refuter.ensures.yes c.if-not-refuter.false))

pub returns-clause-members : goal.returns-clause-members
returns-clause-members g c =
    let n = size c.args.g.now in
    let wide : length c.refuter.new.out ≡ n =
    c.refuter.ensures.length ∙ ap (λ (row : List Bool). length row) c.new-rows.ensures
    ∙ length-replicate c.len.result false ∙ c.len.ensures.len in
    all_members (λ j. j < n) c.in_ok-set.set λ j e.
    subst (λ (m : ℕ). j < m) wide
    (bit_within c.refuter.new.out j (sym (c.in_ok-set.ensures j) ∙ e))
