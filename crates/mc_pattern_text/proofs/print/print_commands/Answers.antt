use Rattle.std.proofs.Common.{arith}
use Rattle.mc_pattern.specs.Commands.{plain_command}
use Rattle.mc_pattern_text.proofs.ReadBack.{AreNamed-at}
use Rattle.mc_pattern_text.proofs.print.print_commands.Goals as goal

pub print_command-requires : goal.print_command-requires
print_command-requires g c = (
  omega arith,
  AreNamed-at plain_command _ c.args.commands.now c.commands.command-index
      c.command-item.result c.command-item.is c.commands-test.true c.requires,
)
