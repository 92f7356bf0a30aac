use Rattle.std.proofs.Common.{◌≡◌, ◌++◌, map}
use Rattle.mc_model.specs.Numbers.{is_member, numbers_where}
use Rattle.mc_model.specs.Signals.{signal_of}
use Rattle.mc_model.specs.Pattern.{FixX}
use Rattle.mc_pattern.specs.Commands.{plain_command}
use Rattle.mc_make.proofs.make.push_xs.Given as goal

abbrev pub invariant-vertices : goal.invariant-vertices
invariant-vertices g l =
    map (plain_command {h = g.row.H}) l.commands.items
    ≡ map (plain_command {h = g.row.H}) l.initial.commands.items
    ++ map (λ k. FixX k (signal_of l.q)) (numbers_where (is_member l.set) l.v)
