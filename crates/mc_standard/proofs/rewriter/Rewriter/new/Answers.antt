use Rattle.mc_standard.proofs.RewriterAdvances.{nothing_done}
use Rattle.mc_standard.proofs.rewriter.Rewriter.new.Goals as goal

pub invariant_of-result : goal.invariant_of-result
invariant_of-result g c =
    let valid = c.names.ensures.valid in
    rw (
      c.in_ok-names.ensures,
      c.names.ensures.names,
      c.inputs.ensures,
      c.in_ok-commands.ensures,
      c.commands.ensures,
      c.in_ok-outs.ensures,
      c.outputs.ensures,
    ) (record { valid = valid.valid; typed = valid.typed; done = nothing_done _ })
