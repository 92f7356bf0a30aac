use Rattle.std.proofs.Common.{◌∙◌, ap, length, refl, arith}
use Rattle.mc_compose.specs.Composed.{chained}
use Rattle.mc_compose.proofs.Sizes.{chain_within}
use Rattle.mc_compose.proofs.chains.names_of.Goals as goal

pub add_free-requires-clause-few : goal.add_free-requires-clause-few
add_free-requires-clause-few g c =
    let few = (chain_within c.args.first.now c.args.second.now c.requires).0 in
    let names = ap length (c.in_ok-names.ensures ∙ c.names.ensures.names) in
    let more = ap length c.names-2.ensures.names in
    let inputs = c.inputs.ensures in
    omega arith

pub returns : goal.returns
unfolding chained
returns g c =
    let names = c.in_ok-names.ensures ∙ c.names.ensures.names in
    rw (c.in_ok-add_free.ensures, names, c.names-2.ensures.names, c.inputs.ensures) refl
