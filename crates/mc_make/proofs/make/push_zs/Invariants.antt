use Rattle.std.proofs.Common.{◌≡◌, ◌++◌, ◌&&◌, not, map, nat_eq}
use Rattle.mc_model.specs.Numbers.{is_member, numbers_where}
use Rattle.mc_model.specs.Signals.{signal_of}
use Rattle.mc_model.specs.Pattern.{FixZ}
use Rattle.mc_model.specs.Graph.{odd_neighbourhood}
use Rattle.mc_pattern.specs.Commands.{plain_command}
use Rattle.mc_make.proofs.make.push_zs.Given as goal

abbrev pub invariant-vertices : goal.invariant-vertices
invariant-vertices g l =
    map (plain_command {h = g.row.H}) l.commands.items
    ≡ map (plain_command {h = g.row.H}) l.initial.commands.items
    ++ map (λ k. FixZ k (signal_of l.q))
    (numbers_where (λ k. odd_neighbourhood l.g (is_member l.set) k && not (nat_eq k l.q)) l.v)
