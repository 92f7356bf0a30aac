use Rattle.std.proofs.Common.{◌∙◌, sym, ap, ap₂, List, [], ◌∷◌, ◌++◌, ℕ, length, arith}
use Rattle.mc_model.specs.Made.{wire_of}
use Rattle.mc_extract.specs.Chains.{number_at, place}
use Rattle.mc_extract.proofs.FinderLemmas.{map_more}
use Rattle.mc_extract.proofs.ChainLists.{length_before, few_firsts, wire_is}
use Rattle.mc_extract.proofs.wiring.wires_of.Goals as goal

pub firsts_of-requires : goal.firsts_of-requires
firsts_of-requires g c =
    c.len-count.ensures.len
    ∙ sym (length_before c.args.g.now (number_at c.args.next.now) c.args.before.now c.requires)

pub length_of-many-requires : goal.length_of-many-requires
length_of-many-requires g c =
    let few = few_firsts c.args.before.now in
    let all = length_before c.args.g.now (number_at c.args.next.now) c.args.before.now c.requires in
    let same = ap length (c.deref.ensures.value ∙ c.in_ok-firsts.ensures) in
    let count = c.len-count.ensures.len in
    omega arith

pub place_of-wire-requires : goal.place_of-wire-requires
place_of-wire-requires g c =
    c.length_of-many.ensures
    ∙ ap length (c.deref.ensures.value ∙ sym c.deref-in-vertices.ensures.value)

pub vertices-preserved : goal.vertices-preserved
vertices-preserved g c =
    let next : ℕ → ℕ = number_at c.args.next.now in
    let firsts : List ℕ = c.deref-in-vertices.result.now in
    c.in-Ok.ensures.items
    ∙ ap₂ (λ (xs : List ℕ) (x : ℕ). xs ++ (x ∷ [])) c.vertices.invariant
    (c.place_of-wire.ensures
    ∙ ap (place firsts) c.chain_back.ensures
    ∙ wire_is c.args.g.now next c.len-count.result c.vertices.v
    c.args.before.now firsts c.len-count.ensures.len c.vertices-test.true
    c.requires
    (c.deref-in-vertices.ensures.value ∙ c.in_ok-firsts.ensures))
    ∙ sym (map_more (wire_of c.args.g.now next) c.vertices.v)
