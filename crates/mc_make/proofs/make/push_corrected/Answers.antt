use Rattle.std.proofs.Common.{◌&&◌, not, map, nat_eq}
use Rattle.std.proofs.lemmas.Result.{on_ok_weaker}
use Rattle.mc_model.specs.Bits.{Bits}
use Rattle.mc_model.specs.Numbers.{is_member, numbers_where}
use Rattle.mc_model.specs.Signals.{signal_of}
use Rattle.mc_model.specs.Pattern.{FixX, FixZ}
use Rattle.mc_model.specs.Graph.{size, odd_neighbourhood, bare_measurement}
use Rattle.mc_model.specs.Made.{corrected_measurement}
use Rattle.mc_pattern.specs.Commands.{plain_command}
use Rattle.mc_make.proofs.MadeCommands.{behind_one}
use Rattle.mc_make.proofs.make.push_corrected.Goals as goal

pub returns : goal.returns
unfolding corrected_measurement
returns g c =
    let graph = c.args.g.now in
    let set : Bits = is_member c.args.set.now in
    let odds : Bits = λ k. odd_neighbourhood graph set k && not (nat_eq k c.args.q) in
    on_ok_weaker c.push_zs.result
    (λ last.
    behind_one (map (plain_command {h = g.row.H}) c.args.commands.now.items)
    (bare_measurement graph c.args.q)
    (map (λ k. FixX k (signal_of c.args.q)) (numbers_where set (size graph)))
    (map (λ k. FixZ k (signal_of c.args.q)) (numbers_where odds (size graph)))
    c.in_ok-push_measurement.ensures c.in_ok-push_xs.ensures last)
    c.push_zs.ensures
