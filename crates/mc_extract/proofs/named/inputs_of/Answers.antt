use Rattle.std.proofs.Common.{◌∙◌, sym, ap₂, List, [], ◌∷◌, ◌++◌, ℕ, arith}
use Rattle.mc_extract.specs.Written.{name_at}
use Rattle.mc_extract.proofs.FinderLemmas.{map_more}
use Rattle.mc_extract.proofs.named.inputs_of.Goals as goal

pub inputs-preserved : goal.inputs-preserved
inputs-preserved g c =
    c.in_ok-add.ensures
    ∙ ap₂ (λ (xs : List (List ℕ)) (x : List ℕ). xs ++ (x ∷ [])) c.inputs.invariant c.name_of.ensures
    ∙ sym (map_more (name_at c.args.g.now) c.inputs.v)

pub name_of-requires : goal.name_of-requires
name_of-requires g c =
    let few = c.len-count.ensures.valid.open_graph.inputs in
    let below = c.inputs-test.true in
    let end = c.inputs-v-end.ensures in
    (omega arith, omega arith)
