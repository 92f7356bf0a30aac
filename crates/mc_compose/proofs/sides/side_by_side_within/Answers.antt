use Rattle.std.proofs.Common.{◌∙◌, refl, arith}
use Rattle.mc_model.specs.Pattern.{Pattern}
use Rattle.mc_compose.specs.Composed.{side_by_side}
use Rattle.mc_compose.proofs.Sizes.{side_within}
use Rattle.mc_compose.proofs.sides.side_by_side_within.Goals as goal

pub of-requires : goal.of-requires
unfolding side_by_side
of-requires g c =
    let first : Pattern = c.args.first.now in
    let second : Pattern = c.args.second.now in
    let within = side_within first second c.requires in
    let made =
    c.sides_are_patterns.ensures g.row.H first second c.names-first.ensures.valid
    c.names-second.ensures.valid within.0 within.1 in (
      omega arith,
      (
        omega arith,
        rw (
          c.in_ok-names.ensures,
          c.in_ok-commands.ensures,
          c.in_ok-outputs.ensures,
          c.inputs.ensures,
          c.inputs-2.ensures,
        )
            made,
      ),
    )

pub returns : goal.returns
unfolding side_by_side
returns g c =
    c.of.ensures
    ∙ rw (
      c.in_ok-names.ensures,
      c.in_ok-commands.ensures,
      c.in_ok-outputs.ensures,
      c.inputs.ensures,
      c.inputs-2.ensures,
    )
    refl
