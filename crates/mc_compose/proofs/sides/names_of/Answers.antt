use Rattle.std.proofs.Common.{ap, length, refl, arith}
use Rattle.mc_compose.specs.Composed.{side_by_side}
use Rattle.mc_compose.proofs.Sizes.{side_within}
use Rattle.mc_compose.proofs.sides.names_of.Goals as goal

pub inputs_first-requires-clause-few : goal.inputs_first-requires-clause-few
inputs_first-requires-clause-few g c =
    let few = (side_within c.args.first.now c.args.second.now c.requires).0 in
    let names = ap length c.names.ensures.names in
    let more = ap length c.names-2.ensures.names in
    omega arith

pub returns : goal.returns
unfolding side_by_side
returns g c =
    rw (
      c.in_ok-names.ensures,
      c.names.ensures.names,
      c.names-2.ensures.names,
      c.inputs-left.ensures,
      c.inputs-right.ensures,
    )
    refl
