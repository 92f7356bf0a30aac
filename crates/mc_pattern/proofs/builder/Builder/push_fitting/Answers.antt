use Rattle.mc_pattern.proofs.RuleLaws.{by_fits}
use Rattle.mc_pattern.proofs.builder.Builder.push_fitting.Goals as goal

pub want_of_memory-requires : goal.want_of_memory-requires
want_of_memory-requires g c =
    let p = c.args.self.now in
    let size = c.names.ensures.valid.qubits in
    let unbroken = by_fits p.inputs p.commands _ _ size c.requires.no_prep c.requires.fits in
    c.in-Err.ensures.memory_last.1 (unbroken, c.requires.room)
