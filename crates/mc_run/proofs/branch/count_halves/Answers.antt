use Rattle.std.proofs.Common.{◌≡◌, ◌+◌, List, [], map, drop, ap, ◌∙◌, arith}
use Rattle.std.proofs.lemmas.List.{drop_all}
use Rattle.mc_model.specs.Pattern.{Command}
use Rattle.mc_model.specs.Amplitude.{halvings}
use Rattle.mc_pattern.specs.Commands.{plain_command}
use Rattle.mc_run.proofs.CountsAlong.{left_from, halves_first, none_halves}
use Rattle.mc_run.proofs.branch.count_halves.Goals as goal

pub commands-preserved : goal.commands-preserved
commands-preserved g c =
    let plain = plain_command {h = g.row.H} in
    let rest : List Command = map plain (drop (c.commands.command-index + 1) c.args.commands.now) in
    let here = ap halvings (left_from plain c.args.commands.now c.commands.command-index
    c.command-item.result c.commands-test.true c.command-item.is)
    ∙ halves_first (plain c.command-item.result) rest in
    let s = c.commands.invariant.sum in
    let b = c.commands.invariant.below in
    let h = c.halves_of-count.ensures.halves in
    let k = c.halves_of-count.ensures.small in
    record { sum = omega arith; below = omega arith }

pub returns : goal.returns
returns g c =
    let plain = plain_command {h = g.row.H} in
    let none : drop c.commands.command-index c.args.commands.now ≡ [] =
    drop_all _ _ c.commands-test.false in
    let e = ap (λ t. halvings (map plain t)) none ∙ none_halves in
    omega (arith, c.commands.invariant.sum, e)
