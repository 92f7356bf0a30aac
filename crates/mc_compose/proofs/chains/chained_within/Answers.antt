use Rattle.std.proofs.Common.{◌∙◌, refl, arith}
use Rattle.mc_model.specs.Pattern.{Pattern}
use Rattle.mc_compose.specs.Composed.{chained}
use Rattle.mc_compose.proofs.Sizes.{chain_within}
use Rattle.mc_compose.proofs.chains.chained_within.Goals as goal

pub of-requires : goal.of-requires
unfolding chained
of-requires g c =
    let first : Pattern = c.args.first.now in
    let second : Pattern = c.args.second.now in
    let within = chain_within first second c.requires.within in
    let made =
    c.chains_are_patterns.ensures g.row.H first second c.names-first.ensures.valid
    c.names-second.ensures.valid c.requires.fits within.0 within.1 in (
      omega arith,
      (
        omega arith,
        rw (
          c.in_ok-names.ensures,
          c.in_ok-commands.ensures,
          c.in_ok-outputs.ensures,
          c.inputs.ensures,
        )
            made,
      ),
    )

pub returns : goal.returns
unfolding chained
returns g c =
    c.of.ensures
    ∙ rw (
      c.in_ok-names.ensures,
      c.in_ok-commands.ensures,
      c.in_ok-outputs.ensures,
      c.inputs.ensures,
    )
    refl
