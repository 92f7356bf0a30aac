use Rattle.std.proofs.Common.{◌∙◌, sym, ap₂, List, [], ◌∷◌, ◌++◌, Bool, arith}
use Rattle.mc_model.specs.Made.{is_first}
use Rattle.mc_extract.specs.Chains.{number_at}
use Rattle.mc_extract.proofs.FinderLemmas.{map_more}
use Rattle.mc_extract.proofs.ChainLists.{length_before, first_is}
use Rattle.mc_extract.proofs.wiring.are_first.Goals as goal

pub has_none-requires : goal.has_none-requires
has_none-requires g c =
    let long = length_before c.args.g.now (number_at c.args.next.now) c.args.before.now c.requires in
    let count = c.len-v-end.ensures.len in
    let below = c.vertices-test.true in
    omega arith

pub vertices-preserved : goal.vertices-preserved
vertices-preserved g c =
    let next = number_at c.args.next.now in
    let count = c.len-v-end.ensures.len in
    let below = c.vertices-test.true in
    c.in-Ok.ensures.items
    ∙ ap₂ (λ (xs : List Bool) (x : Bool). xs ++ (x ∷ [])) c.vertices.invariant
    (c.has_none.ensures
    ∙ first_is c.args.g.now next c.vertices.v c.args.before.now c.requires (omega arith))
    ∙ sym (map_more (is_first c.args.g.now next) c.vertices.v)
